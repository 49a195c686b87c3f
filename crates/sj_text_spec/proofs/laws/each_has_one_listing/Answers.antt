use Rattle.sj_text_spec.proofs.Kept.{class_kept}
use Rattle.sj_text_spec.proofs.OneText.{one_listing}
use Rattle.sj_text_spec.proofs.laws.each_has_one_listing.Goals as goal

pub returns : goal.returns
returns c = record { listings = one_listing; kept = class_kept }
