use Rattle.sj_text_spec.proofs.Whole as whole
use Rattle.sj_text_spec.proofs.laws.place_is_exact.Goals as goal

pub returns : goal.returns
returns c = record { nothing = whole.no_listing; place = whole.listing_place }
