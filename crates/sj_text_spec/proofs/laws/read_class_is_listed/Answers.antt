use Rattle.sj_text_spec.proofs.Whole as whole
use Rattle.sj_text_spec.proofs.laws.read_class_is_listed.Goals as goal

pub returns : goal.returns
returns c = record { whole = whole.listing_whole; listed = whole.class_listed }
