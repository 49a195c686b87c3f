use Rattle.sjsir.proofs.OneOutput.{has_one_output}
use Rattle.sjsir.proofs.laws.output_is_one.Goals as goal

pub returns : goal.returns
returns c = has_one_output
