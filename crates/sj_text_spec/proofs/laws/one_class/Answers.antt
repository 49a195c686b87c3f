use Rattle.sj_text_spec.proofs.Whole as whole
use Rattle.sj_text_spec.proofs.laws.one_class.Goals as goal

pub returns : goal.returns
returns c = whole.one_class
