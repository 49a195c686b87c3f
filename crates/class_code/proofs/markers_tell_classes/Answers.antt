use Rattle.class_code.proofs.Markers as markers
use Rattle.class_code.proofs.markers_tell_classes.Goals as goal

pub returns : goal.returns
returns c = markers.marked
