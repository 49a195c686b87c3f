use Rattle.class_tests.proofs.Marked as laws
use Rattle.class_tests.proofs.markers_tell.Goals as goal

pub returns : goal.returns
returns c = laws.markers_tell
