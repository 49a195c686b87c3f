-- The tests of bytes and shorts.
use Rattle.std.proofs.Common.{◌≡◌, ℕ, zero, ℤ, pos, negsuc, true, [], ◌∷◌, refl, sym, ap, ◌∙◌, subst}
use Rattle.std.specs.Prelude.{FitsSigned}
use Rattle.std.specs.Ordering.{int_eq}
use Rattle.std.specs.Int.{int_wrap, w8, w16}
use Rattle.std.proofs.lemmas.Int.{SFits-int_wrap, int_wrap_fits}
use Rattle.std.proofs.lemmas.Bool.Decides.{Decides-int_eq}
use Rattle.int_arithmetic.specs.Signed.{wrapped_to_byte, wrapped_to_short}
use Rattle.int_arithmetic.proofs.Operators.{to_byte-is, to_short-is}
use Rattle.js_tree.specs.Terms.{Name, no_statements}
use Rattle.outcomes.specs.Outcome.{done}
use Rattle.js_mean.specs.States.{Value, undefined, null, boolean, number, big_int, text, object, function, class, method, State, gives, Program}
use Rattle.js_mean.specs.Meaning.{below, function_scope, evaluate}
use Rattle.class_code.proofs.Bridge.{return_hands_on}
use Rattle.class_code.specs.KindVariants.{Byte, Short}
use Rattle.class_code.specs.Helpers.{kind_condition}
use Rattle.class_tests.specs.Kinds.{test_code}
use Rattle.class_tests.specs.Small.{is_small_number, SmallTestsTell}

module _ (p : Program) (n : ℕ) (g : Name) (s : State) where
  byte_comes : (v : Value) → evaluate p (below p n) (kind_condition Byte) (function_scope g (test_code Byte) (v ∷ [])) s ≡ done (gives (boolean (is_small_number wrapped_to_byte v)) s)
  byte_comes (number z) = ap (λ (y : ℤ). done (gives (boolean (int_eq y z)) s)) (to_byte-is z)
  byte_comes undefined = refl
  byte_comes null = refl
  byte_comes (boolean b) = refl
  byte_comes (big_int z) = refl
  byte_comes (text us) = refl
  byte_comes (object a) = refl
  byte_comes (function f y) = refl
  byte_comes (class ls) = refl
  byte_comes (method ls y) = refl

  short_comes : (v : Value) → evaluate p (below p n) (kind_condition Short) (function_scope g (test_code Short) (v ∷ [])) s ≡ done (gives (boolean (is_small_number wrapped_to_short v)) s)
  short_comes (number z) = ap (λ (y : ℤ). done (gives (boolean (int_eq y z)) s)) (to_short-is z)
  short_comes undefined = refl
  short_comes null = refl
  short_comes (boolean b) = refl
  short_comes (big_int z) = refl
  short_comes (text us) = refl
  short_comes (object a) = refl
  short_comes (function f y) = refl
  short_comes (class ls) = refl
  short_comes (method ls y) = refl

byte-is : (z : ℤ) → int_wrap w8 z ≡ wrapped_to_byte z
unfolding int_wrap
byte-is (pos zero) = refl
byte-is (pos n) = refl
byte-is (negsuc n) = refl

short-is : (z : ℤ) → int_wrap w16 z ≡ wrapped_to_short z
unfolding int_wrap
short-is (pos zero) = refl
short-is (pos n) = refl
short-is (negsuc n) = refl

byte_fits : (z : ℤ) → int_eq (wrapped_to_byte z) z ≡ true → FitsSigned w8 z
byte_fits z h = subst (FitsSigned w8) (byte-is z ∙ (Decides-int_eq (wrapped_to_byte z) z).0 h) (SFits-int_wrap w8 z)

byte_stays : (z : ℤ) → FitsSigned w8 z → int_eq (wrapped_to_byte z) z ≡ true
byte_stays z f = (Decides-int_eq (wrapped_to_byte z) z).1 (sym (byte-is z) ∙ int_wrap_fits w8 z f)

short_fits : (z : ℤ) → int_eq (wrapped_to_short z) z ≡ true → FitsSigned w16 z
short_fits z h = subst (FitsSigned w16) (short-is z ∙ (Decides-int_eq (wrapped_to_short z) z).0 h) (SFits-int_wrap w16 z)

short_stays : (z : ℤ) → FitsSigned w16 z → int_eq (wrapped_to_short z) z ≡ true
short_stays z f = (Decides-int_eq (wrapped_to_short z) z).1 (sym (short-is z) ∙ int_wrap_fits w16 z f)

pub small_tests_tell : SmallTestsTell
small_tests_tell = record {
  byte = λ p n g s v. return_hands_on p (below p n) (kind_condition Byte) no_statements (function_scope g (test_code Byte) (v ∷ [])) s ∙ byte_comes p n g s v;
  short = λ p n g s v. return_hands_on p (below p n) (kind_condition Short) no_statements (function_scope g (test_code Short) (v ∷ [])) s ∙ short_comes p n g s v;
  byte_range = λ z. (λ h. byte_fits z h, λ h. byte_stays z h);
  short_range = λ z. (λ h. short_fits z h, λ h. short_stays z h);
}
