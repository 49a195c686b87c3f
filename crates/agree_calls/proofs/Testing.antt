-- The tests of primitive types, by the helpers of their kinds.
use Rattle.std.proofs.Common.{◌≡◌, ℕ, suc, Bool, true, false, ◌||◌, ◌&&◌, ◌≤◌, [], ◌∷◌, Option, Some, refl, sym, ap, ◌∙◌, subst, arith}
use Rattle.std.specs.Prelude.{ℤ, pos, negsuc, FitsSigned, leb, codes}
use Rattle.std.specs.Ordering.{int_eq}
use Rattle.std.specs.Int.{w8, w16}
use Rattle.std.proofs.lemmas.Bool.{leb-true, le-leb}
use Rattle.int_arithmetic.specs.Signed.{wrapped_to_byte, wrapped_to_short}
use Rattle.outcomes.specs.Outcome.{done}
use Rattle.outcomes.specs.Agreement.{Direction, Sim}
use Rattle.outcomes.proofs.Simulation.{sim_done}
use Rattle.array_code.proofs.Kinded.{test_passes}
use Rattle.array_code.specs.Kinds.{KindTestStands, passes}
use Rattle.array_code.proofs.Smallest.{small_tests_tell}
use Rattle.array_code.specs.ClassTestsKinds.{BoxesStand}
use Rattle.array_code.specs.Helpers.{helper_name}
use Rattle.array_code.specs.HelperVariants.{BoxedChar, TestOf}
use Rattle.array_code.specs.Kind.{Kind}
use Rattle.array_code.specs.KindVariants as kinds
use Rattle.dispatch_laws.specs.Dispatch.{is_small}
use Rattle.dispatch_laws.specs.Meaning as ir_meaning
use Rattle.dispatch_laws.specs.States as ir
use Rattle.js_mean.specs.Meaning as js_meaning
use Rattle.js_mean.specs.States as js
use Rattle.js_tree.specs.Terms.{Name}
use Rattle.dispatch_laws.specs.Tests.{test_name}
use Rattle.sj_names.proofs.Same.{impossible}
use Rattle.sj_trees.specs.declared.types.IrType.{IrType}
use Rattle.sj_trees.specs.declared.types.IrType.TheVariants.{Any, Undefined, Boolean, Char, Byte, Short, Int, Long, String, Array}
use Rattle.agree_bodies.specs.Settings.{Place, SameState, Valued, valued, HasFunction, a_test, a_helper, top_call}
use Rattle.agree_bodies.proofs.Worlds.{World, grows-refl, SameValue, Stands, same_boolean, same_char, same_box, same_number, same_reference}
use Rattle.agree_calls.specs.Helpers.{kind_of, CanTest, ReachesBoxes, ReachesTest}
use Rattle.agree_calls.proofs.Boxed.{boxes, box_below, object_apart}
use Rattle.agree_calls.proofs.Sameness.{both_pass}

-- the range of bytes and that of shorts, by both meanings
pub or_false : (b : Bool) → (b || false) ≡ b
or_false true = refl
or_false false = refl

and_true : (b : Bool) → (b && true) ≡ b
and_true true = refl
and_true false = refl

pub byte_small : (z : ℤ) → is_small z (codes "java.lang.Byte") ≡ int_eq (wrapped_to_byte z) z
byte_small (pos n) = or_false (leb n 127) ∙ both_pass (leb n 127) (int_eq (wrapped_to_byte (pos n)) (pos n)) (λ h. (small_tests_tell.byte_range (pos n)).1 (fits (leb-true n 127 h))) (λ h. le-leb n 127 (below ((small_tests_tell.byte_range (pos n)).0 h)))
  where
    fits : n ≤ 127 → FitsSigned w8 (pos n)
    fits l = record { sfits = omega arith }

    below : FitsSigned w8 (pos n) → n ≤ 127
    below f = let l = f.sfits in omega arith
byte_small (negsuc n) = or_false (leb n 127 && true) ∙ and_true (leb n 127) ∙ both_pass (leb n 127) (int_eq (wrapped_to_byte (negsuc n)) (negsuc n)) (λ h. (small_tests_tell.byte_range (negsuc n)).1 (fits (leb-true n 127 h))) (λ h. le-leb n 127 (below ((small_tests_tell.byte_range (negsuc n)).0 h)))
  where
    fits : n ≤ 127 → FitsSigned w8 (negsuc n)
    fits l = record { sfits = omega arith }

    below : FitsSigned w8 (negsuc n) → n ≤ 127
    below f = let l = f.sfits in omega arith

pub short_small : (z : ℤ) → is_small z (codes "java.lang.Short") ≡ int_eq (wrapped_to_short z) z
short_small (pos n) = both_pass (leb n 32767) (int_eq (wrapped_to_short (pos n)) (pos n)) (λ h. (small_tests_tell.short_range (pos n)).1 (fits (leb-true n 32767 h))) (λ h. le-leb n 32767 (below ((small_tests_tell.short_range (pos n)).0 h)))
  where
    fits : n ≤ 32767 → FitsSigned w16 (pos n)
    fits l = record { sfits = omega arith }

    below : FitsSigned w16 (pos n) → n ≤ 32767
    below f = let l = f.sfits in omega arith
short_small (negsuc n) = and_true (leb n 32767) ∙ both_pass (leb n 32767) (int_eq (wrapped_to_short (negsuc n)) (negsuc n)) (λ h. (small_tests_tell.short_range (negsuc n)).1 (fits (leb-true n 32767 h))) (λ h. le-leb n 32767 (below ((small_tests_tell.short_range (negsuc n)).0 h)))
  where
    fits : n ≤ 32767 → FitsSigned w16 (negsuc n)
    fits l = record { sfits = omega arith }

    below : FitsSigned w16 (negsuc n) → n ≤ 32767
    below f = let l = f.sfits in omega arith

-- what holds of each primitive type and its kind holds where the kind is that of the type
pub each_kind : (P : IrType → Kind → Type 0) → P Undefined kinds.Undefined → P Boolean kinds.Boolean → P Char kinds.Char → P Byte kinds.Byte → P Short kinds.Short → P Int kinds.Int → P Long kinds.Long → P String kinds.Text → (t : IrType) (k : Kind) → kind_of t ≡ Some k → P t k
each_kind P undefined boolean char byte short int long text = by
  where
    at_kind : (t : IrType) (own k : Kind) → ◌≡◌ {A = Option Kind} (Some own) (Some k) → P t own → P t k
    at_kind t own k e h = let is : own ≡ k = cc in subst (P t) is h

    by : (t : IrType) (k : Kind) → kind_of t ≡ Some k → P t k
    by Undefined k e = at_kind Undefined kinds.Undefined k e undefined
    by Boolean k e = at_kind Boolean kinds.Boolean k e boolean
    by Char k e = at_kind Char kinds.Char k e char
    by Byte k e = at_kind Byte kinds.Byte k e byte
    by Short k e = at_kind Short kinds.Short k e short
    by Int k e = at_kind Int kinds.Int k e int
    by Long k e = at_kind Long kinds.Long k e long
    by String k e = at_kind String kinds.Text k e text
    by _ k e = absurd (cc)

-- the test of a primitive type has the name of its helper
pub test_named : (t : IrType) (k : Kind) → kind_of t ≡ Some k → test_name t ≡ helper_name (TestOf k)
test_named = each_kind (λ t k. test_name t ≡ helper_name (TestOf k)) refl refl refl refl refl refl refl refl

-- a primitive type is neither one of arrays nor any
pub primitive : (t : IrType) (k : Kind) → kind_of t ≡ Some k → HasFunction t
primitive Any k e = absurd (cc)
primitive (Array r) k e = absurd (cc)
primitive _ k e = tt

module _ (p : Place) (w : World) (s : ir.State) (u : js.State) (same : SameState p w s u) where
  -- what the IR's test gives of a value, the test of the kind tells of what stands for it
  abbrev TellsKind : IrType → Kind → Type 0
  TellsKind t k = (v : ir.Value) (x : js.Value) → Stands w false v x → ir_meaning.is_instance_value p.classes t s v ≡ ir.boolean (passes u (boxes p) k x)

  undefined_told : TellsKind Undefined kinds.Undefined
  undefined_told _ _ (same_char r c f) = impossible r
  undefined_told _ _ _ = refl

  boolean_told : TellsKind Boolean kinds.Boolean
  boolean_told _ _ (same_char r c f) = impossible r
  boolean_told _ _ _ = refl

  char_told : TellsKind Char kinds.Char
  char_told _ _ (same_char r c f) = impossible r
  char_told _ _ (same_box r c a f b) = ap ir.boolean (sym (box_below p w s u same c a b))
  char_told _ _ (same_reference i a e) = ap ir.boolean (sym (object_apart p w s u same i a e))
  char_told _ _ _ = refl

  byte_told : TellsKind Byte kinds.Byte
  byte_told _ _ (same_char r c f) = impossible r
  byte_told _ _ (same_number z f) = ap ir.boolean (byte_small z)
  byte_told _ _ _ = refl

  short_told : TellsKind Short kinds.Short
  short_told _ _ (same_char r c f) = impossible r
  short_told _ _ (same_number z f) = ap ir.boolean (short_small z)
  short_told _ _ _ = refl

  int_told : TellsKind Int kinds.Int
  int_told _ _ (same_char r c f) = impossible r
  int_told _ _ _ = refl

  long_told : TellsKind Long kinds.Long
  long_told _ _ (same_char r c f) = impossible r
  long_told _ _ _ = refl

  text_told : TellsKind String kinds.Text
  text_told _ _ (same_char r c f) = impossible r
  text_told _ _ _ = refl

  pub kind_told : (t : IrType) (k : Kind) → kind_of t ≡ Some k → TellsKind t k
  kind_told = each_kind TellsKind undefined_told boolean_told char_told byte_told short_told int_told long_told text_told

  -- the test of chars finds their class
  pub boxes_there : (g : Name) → ReachesBoxes p g → BoxesStand p.program g (boxes p) u
  boxes_there g r = record { const = false; cell_is = ap (λ (o : Option Name). js_meaning.top_cell o (helper_name BoxedChar) u) r.reached ∙ same.tops r.user (a_helper BoxedChar) r.usable }

  -- a file that reaches the test of a kind finds it
  pub kind_stands : (f : Name) (k : Kind) → ReachesTest p f k → KindTestStands p.program f (boxes p) u k
  kind_stands f k r = record {
    home = p.home (a_helper (TestOf k));
    test = record { const = false; cell_is = ap (λ (o : Option Name). js_meaning.top_cell o (helper_name (TestOf k)) u) r.owned ∙ same.tops r.user (a_helper (TestOf k)) r.usable };
    test_is = r.test;
    boxes_stand = λ e. boxes_there (p.home (a_helper (TestOf k))) (r.boxes e);
  }

  -- a test of a value, and its function
  pub tests_alike : (t : IrType) → CanTest p t → (d : Direction) (m : ℕ) (env : ir.Env) (v : ir.Value) (x : js.Value) → SameValue w Any v x → Sim d (Valued p w env Boolean) (ir.given (ir_meaning.is_instance_value p.classes t s v) env s) (top_call p (js_meaning.below p.program (suc m)) (a_test t) (x ∷ []) u)
  tests_alike t can d m env v x a = subst (λ o. Sim d (Valued p w env Boolean) (ir.given o env s) (top_call p (js_meaning.below p.program (suc m)) (a_test t) (x ∷ []) u)) (sym (kind_told t can.kind can.its_kind v x a.stands)) (subst (Sim d (Valued p w env Boolean) (done (ir.ends (ir.gives (ir.boolean passed)) env s))) (sym js_is) (sim_done d (Valued p w env Boolean) (ir.ends (ir.gives (ir.boolean passed)) env s) (js.gives (js.boolean passed) u) (valued w (ir.boolean passed) (js.boolean passed) s u (grows-refl w) (record { stands = same_boolean passed; suits = refl; shaped = tt }) same)))
    where
      passed : Bool
      passed = passes u (boxes p) can.kind x

      js_is : top_call p (js_meaning.below p.program (suc m)) (a_test t) (x ∷ []) u ≡ done (js.gives (js.boolean passed) u)
      js_is = ap (λ c. js_meaning.code_call (js_meaning.below p.program (suc m)) (p.home (a_test t)) c (x ∷ []) u) can.test ∙ test_passes p.program m (p.home (a_test t)) (boxes p) u can.kind x (λ e. boxes_there (p.home (a_test t)) (can.boxes e))
