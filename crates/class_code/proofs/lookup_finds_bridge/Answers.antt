use Rattle.class_code.proofs.Objects as laws
use Rattle.class_code.proofs.lookup_finds_bridge.Goals as goal

pub returns : goal.returns
returns c = laws.lookup_finds_bridge
