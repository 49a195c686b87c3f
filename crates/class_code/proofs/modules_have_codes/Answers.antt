use Rattle.class_code.proofs.Loading as laws
use Rattle.class_code.proofs.modules_have_codes.Goals as goal

pub returns : goal.returns
returns c = laws.modules_have_codes
