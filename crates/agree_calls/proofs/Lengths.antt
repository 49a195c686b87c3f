-- Arrays of a length: made by the IR, and by the helper.
use Rattle.std.proofs.Common.{◌≡◌, ◌≤◌, arith, ℕ, zero, suc, Bool, true, false, List, [], ◌∷◌, Some, refl, sym, ap, ◌∙◌, subst, length, replicate, if◌then◌else◌}
use Rattle.std.proofs.lemmas.Bool.Decides.{nat_tests}
use Rattle.std.specs.Prelude.{ℤ, pos, negsuc, ◌^◌, ◌-◌, ◌<◌, ◌==◌, nat_lt}
use Rattle.int_arithmetic.specs.Decimals.{decimal_text}
use Rattle.outcomes.specs.Outcome.{Out}
use Rattle.outcomes.specs.Agreement.{Direction, forward, Sim}
use Rattle.outcomes.proofs.Simulation.{sim_wrong, sim_weaken}
use Rattle.array_code.proofs.Arraying.{making_tells}
use Rattle.array_code.specs.Arrays.{ArraysStand}
use Rattle.array_code.specs.Codes.{helper_call, GivesNone, UsesThrower}
use Rattle.array_code.specs.FailureVariants.{Size}
use Rattle.array_code.specs.HelperVariants.{MakeArray, Throws}
use Rattle.dispatch_laws.specs.Meaning as ir_meaning
use Rattle.dispatch_laws.specs.States as ir
use Rattle.dispatch_laws.specs.World.{zero_of}
use Rattle.js_mean.specs.Meaning as js_meaning
use Rattle.js_mean.specs.States as js
use Rattle.js_tree.specs.Terms.{Name}
use Rattle.sj_names.specs.declared.references.ArrayRef.{ArrayRef}
use Rattle.sj_names.specs.declared.references.BaseRef.{BaseRef}
use Rattle.agree_bodies.specs.Settings.{Place, array_links, depth_of, zero_shown, SameItems, no_items, more_items, SameState, StandsForBase, Valued, a_helper, top_call}
use Rattle.agree_bodies.specs.Typing.{HasDimensions}
use Rattle.agree_bodies.specs.Worlds.{World, SameValue}
use Rattle.agree_bodies.proofs.Worlds.{Stands, same_number}
use Rattle.sj_trees.specs.Types.{base_type, element_type}
use Rattle.sj_trees.specs.declared.types.IrType.{IrType}
use Rattle.sj_trees.specs.declared.types.IrType.TheVariants as types
use Rattle.sj_trees.specs.declared.types.IrType.TheVariants.{Array, Int}
use Rattle.agree_calls.specs.Helpers.{HelperStands, Failed, helper_code}
use Rattle.agree_calls.proofs.Failing.{size_exception}
use Rattle.agree_calls.specs.Arrays.{CanGiveArrays}
use Rattle.agree_calls.proofs.Giving.{given}
use Rattle.agree_calls.proofs.Helps.{FailsOn}
use Rattle.agree_calls.proofs.Reading.{failed_any}
use Rattle.agree_calls.proofs.Shapes.{zero_alike}

-- there are values of each type of elements
class_has : (b : Bool) (c : List ℕ) → ◌≡◌ {A = IrType} (if b then types.Any else types.Class c) types.Nothing → ⊥
class_has true c e = cc
class_has false c e = cc

base_has : (b : BaseRef) → base_type b ≡ types.Nothing → ⊥
base_has (BaseRef.Class c) e = class_has _ c e
base_has _ e = cc

nested_has : (t : Bool) (b : BaseRef) (r : ArrayRef) → (if t then base_type b else Array r) ≡ types.Nothing → ⊥
nested_has true b r e = base_has b e
nested_has false b r e = cc

elements_have : (r : ArrayRef) → element_type r ≡ types.Nothing → ⊥
elements_have r e = nested_has (r.dimensions - 1 == 0) r.base (record { dimensions = r.dimensions - 1; base = r.base }) e

filled_alike : (w : World) (t : IrType) (v : ir.Value) (x : js.Value) → SameValue w t v x → (n : ℕ) → SameItems w t (replicate n v) (replicate n x)
filled_alike w t v x a zero = no_items
filled_alike w t v x a (suc n) = more_items v x (replicate n v) (replicate n x) a (filled_alike w t v x a n)

length_is : {A : Type 0} (n : ℕ) (x : A) → length (replicate n x) ≡ n
length_is zero x = refl
length_is (suc n) x = ap suc (length_is n x)

module _ (d : Direction) (p : Place) (low : ir_meaning.Low) (m : ℕ) (enough : d ≡ forward → 2 ≤ m) (can : CanGiveArrays p) (classes : (w : World) (s : ir.State) (u : js.State) → SameState p w s u → ArraysStand p.program (p.home (a_helper MakeArray)) (array_links p) u) (uses : (w : World) (s : ir.State) (u : js.State) → SameState p w s u → (c : UsesThrower p.program (p.home (a_helper MakeArray)) (Throws Size) u) × (c.home ≡ p.home (a_helper (Throws Size)))) (fails : (z : ℤ) → FailsOn d p low m (Throws Size) (js.number z ∷ []) size_exception (decimal_text z)) (none : (z : ℤ) (u : js.State) → GivesNone (top_call p (js_meaning.below p.program m) (a_helper (Throws Size)) (js.number z ∷ []) u)) (code : HelperStands p MakeArray (helper_code MakeArray)) where
  abbrev home : Name
  home = p.home (a_helper MakeArray)

  abbrev upper : js_meaning.Low
  upper = js_meaning.below p.program (suc m)

  module _ (r : ArrayRef) (deep : r.dimensions ≤ 255) (w : World) (base : js.Value) (env : ir.Env) (s : ir.State) (u : js.State) (stands : StandsForBase w.owned r.base base) (same : SameState p w s u) where
    abbrev calls : ℤ → Out js.ExpressionEnd
    calls z = top_call p upper (a_helper MakeArray) (depth_of r ∷ base ∷ js.number z ∷ zero_shown (element_type r) ∷ []) u

    abbrev Gives : Out ir.Ended → Out js.ExpressionEnd → Type 0
    Gives = Sim d (Valued p w env (Array r))

    -- the call of the helper, by its code
    js_is : (z : ℤ) → calls z ≡ js_meaning.code_call upper home (Some (helper_code MakeArray)) (depth_of r ∷ base ∷ js.number z ∷ zero_shown (element_type r) ∷ []) u
    js_is z = ap (λ o. js_meaning.code_call upper home o (depth_of r ∷ base ∷ js.number z ∷ zero_shown (element_type r) ∷ []) u) code

    made : (k : ℕ) → k < 2 ^ 31 → Gives (ir_meaning.made_array r (replicate k (zero_of (element_type r))) env s) (calls (pos k))
    made k few =
        let t = element_type r in
        let item : SameValue w t (zero_of t) (zero_shown t) = zero_alike w t (elements_have r) in
        let short : length (replicate k (zero_of t)) < 2 ^ 31 = subst (λ x. x < 2 ^ 31) (sym (length_is k (zero_of t))) few in
        let small : nat_lt k (2 ^ 32) ≡ true = grind (arith, nat_tests, few) in
        subst (Gives (ir_meaning.made_array r (replicate k (zero_of t)) env s)) (sym (js_is (pos k) ∙ making_tells.of_length p.program m home (array_links p) u k (depth_of r) base (zero_shown t) (classes w s u same) small)) (given p can w s u same r (replicate k (zero_of t)) (replicate k (zero_shown t)) (filled_alike w t (zero_of t) (zero_shown t) item k) short deep base stands d m enough env)

    thrower : (z : ℤ) → top_call p (js_meaning.below p.program m) (a_helper (Throws Size)) (js.number z ∷ []) u ≡ helper_call p.program m (uses w s u same).0.home (Throws Size) (js.number z ∷ []) u
    thrower z = ap (λ (f : Name). helper_call p.program m f (Throws Size) (js.number z ∷ []) u) (sym (uses w s u same).1)

    -- a negative size
    refused : (k : ℕ) → Gives (ir_meaning.raise p.classes low size_exception (decimal_text (negsuc k)) env s) (calls (negsuc k))
    refused k =
        subst (Gives (ir_meaning.raise p.classes low size_exception (decimal_text (negsuc k)) env s)) (thrower (negsuc k) ∙ sym (js_is (negsuc k) ∙ making_tells.of_negative p.program m home u k (depth_of r) base (zero_shown (element_type r)) (uses w s u same).0 (subst (λ (o : Out js.ExpressionEnd). GivesNone o) (thrower (negsuc k)) (none (negsuc k) u))))
        (sim_weaken d (Failed p w env) (Valued p w env (Array r)) _ _ (λ a b. failed_any p w env (Array r) a b) (fails (negsuc k) w env s u same))

  -- an array of a length, and the helper that makes it
  pub makes_alike : (r : ArrayRef) → HasDimensions r → (w : World) (v : ir.Value) (x base : js.Value) (env : ir.Env) (s : ir.State) (u : js.State) → SameValue w Int v x → StandsForBase w.owned r.base base → SameState p w s u → Sim d (Valued p w env (Array r)) (ir_meaning.new_items p.classes low r (v ∷ []) env s) (top_call p upper (a_helper MakeArray) (depth_of r ∷ base ∷ x ∷ zero_shown (element_type r) ∷ []) u)
  makes_alike r dims w v x base env s u a stands same = by v x a.stands
    where
      by : (v : ir.Value) (x : js.Value) → Stands w false v x → Sim d (Valued p w env (Array r)) (ir_meaning.new_items p.classes low r (v ∷ []) env s) (top_call p upper (a_helper MakeArray) (depth_of r ∷ base ∷ x ∷ zero_shown (element_type r) ∷ []) u)
      by _ _ (same_number (pos k) f) = let few : k < 2 ^ 31 = omega (arith, f.sfits) in made r dims.1 w base env s u stands same k few
      by _ _ (same_number (negsuc k) f) = refused r dims.1 w base env s u stands same k
      by _ _ _ = sim_wrong d (Valued p w env (Array r)) _
