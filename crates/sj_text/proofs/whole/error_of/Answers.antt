use Rattle.std.proofs.Common.{◌≡◌, ℕ, ◌-◌, length, sym}
use Rattle.sj_text.specs.declared.error.ListingError.TheVariants.{BadListing}
use Rattle.sj_text.proofs.WholeSteps.{whole_place}
use Rattle.sj_text.proofs.whole.error_of.Goals as goal

place_is : (a b : ℕ) → BadListing a ≡ BadListing b → b ≡ a
place_is a b e = sym (cc e)

pub returns-in-Bad-clause-place : goal.returns-in-Bad-clause-place
returns-in-Bad-clause-place c = λ p e. whole_place c.args.bytes.now c.in-Bad.left p (rw c.in-Bad.is at c.requires) (place_is (length c.args.bytes.now - c.in-Bad.left) p e)
