use Rattle.std.proofs.Common.{◌≡◌, Result, Err}
use Rattle.sj_text.specs.declared.error.ListingError.TheVariants.{BadListing}
use Rattle.sj_text.proofs.whole.parse_listing.Goals as goal

err_is : {A B : Type 0} (a b : B) → ◌≡◌ {A = Result A B} (Err a) (Err b) → a ≡ b
err_is a b e = cc e

pub returns-in-Err-clause-place : goal.returns-in-Err-clause-place
returns-in-Err-clause-place c = λ p e. c.error_of.ensures.place p (err_is c.error_of.result (BadListing p) e)
