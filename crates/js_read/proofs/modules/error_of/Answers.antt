use Rattle.std.proofs.Common.{◌≡◌, ℕ, ◌-◌, length, sym}
use Rattle.js_read.specs.declared.errors.JsError.TheVariants.{BadJs}
use Rattle.js_read.proofs.WholeSteps.{whole_place}
use Rattle.js_read.proofs.modules.error_of.Goals as goal

place_is : (a b : ℕ) → BadJs a ≡ BadJs b → b ≡ a
place_is a b e = sym (cc e)

pub returns-in-Bad-clause-place : goal.returns-in-Bad-clause-place
returns-in-Bad-clause-place c = λ p e. whole_place c.args.bytes.now c.in-Bad.left p (rw c.in-Bad.is at c.requires) (place_is (length c.args.bytes.now - c.in-Bad.left) p e)
