use Rattle.sj_text_spec.proofs.Whole as whole
use Rattle.sj_text_spec.proofs.laws.listing_is_read.Goals as goal

pub returns : goal.returns
returns c = whole.listing_read
