-- The tests of bytes and shorts: ranges of numbers.
use Rattle.std.specs.Prelude.{◌≡◌, ◌↔◌, FitsSigned, ℕ, ℤ, suc, Bool, true, false, [], ◌∷◌, Some}
use Rattle.std.specs.Ordering.{int_eq}
use Rattle.std.specs.Int.{w8, w16}
use Rattle.int_arithmetic.specs.Signed.{wrapped_to_byte, wrapped_to_short}
use Rattle.js_tree.specs.Terms.{Name}
use Rattle.outcomes.specs.Outcome.{done}
use Rattle.js_mean.specs.States.{Value, boolean, number, State, gives, Program}
use Rattle.js_mean.specs.Meaning.{below, code_call}
use Rattle.class_code.specs.KindVariants.{Byte, Short}
use Rattle.class_tests.specs.Kinds.{test_code}

abbrev pub is_small_number : (ℤ → ℤ) → Value → Bool
is_small_number cut (number z) = int_eq (cut z) z
is_small_number cut _ = false

pub record SmallTestsTell : Type 0 where
  pub byte : (p : Program) (n : ℕ) (g : Name) (s : State) (v : Value) → code_call (below p (suc n)) g (Some (test_code Byte)) (v ∷ []) s ≡ done (gives (boolean (is_small_number wrapped_to_byte v)) s)
  pub short : (p : Program) (n : ℕ) (g : Name) (s : State) (v : Value) → code_call (below p (suc n)) g (Some (test_code Short)) (v ∷ []) s ≡ done (gives (boolean (is_small_number wrapped_to_short v)) s)
  pub byte_range : (z : ℤ) → (int_eq (wrapped_to_byte z) z ≡ true) ↔ FitsSigned w8 z
  pub short_range : (z : ℤ) → (int_eq (wrapped_to_short z) z ≡ true) ↔ FitsSigned w16 z
