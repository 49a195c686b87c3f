use Rattle.class_code.proofs.Bridge as laws
use Rattle.class_code.proofs.bridges_hand_on.Goals as goal

pub returns : goal.returns
returns c = laws.bridges_hand_on
