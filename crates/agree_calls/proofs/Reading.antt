-- Items of arrays that are read: by the IR, and by the helper.
use Rattle.std.proofs.Common.{◌≡◌, ◌≤◌, arith, ℕ, zero, suc, true, false, [], ◌∷◌, Option, Some, None, refl, sym, ap, ◌∙◌, subst, length, slice_get}
use Rattle.std.specs.Prelude.{ℤ, pos, negsuc}
use Rattle.int_arithmetic.specs.Decimals.{decimal_text}
use Rattle.outcomes.specs.Outcome.{Out, done}
use Rattle.outcomes.specs.Agreement.{Direction, Sim}
use Rattle.outcomes.proofs.Simulation.{sim_done, sim_wrong, sim_weaken}
use Rattle.array_code.proofs.Indexing.{gets_tell}
use Rattle.array_code.specs.Codes.{helper_call, GivesNone}
use Rattle.array_code.specs.FailureVariants.{Index}
use Rattle.array_code.specs.HelperVariants.{Get, Throws}
use Rattle.array_code.specs.Items.{UsesCheck, is_index}
use Rattle.agree_bodies.proofs.Arrays.{elements-fit}
use Rattle.dispatch_laws.specs.Meaning as ir_meaning
use Rattle.dispatch_laws.specs.States as ir
use Rattle.js_mean.specs.Meaning as js_meaning
use Rattle.js_mean.specs.Objects.{item_at}
use Rattle.js_mean.specs.States as js
use Rattle.sj_names.specs.declared.references.ArrayRef.{ArrayRef}
use Rattle.js_tree.specs.Terms.{Name}
use Rattle.sj_names.proofs.Same.{impossible}
use Rattle.agree_bodies.specs.Standing.{Fits, array_fits}
use Rattle.agree_bodies.specs.Settings.{Place, array_links, SameState, Valued, valued, thrown, a_helper, top_call}
use Rattle.agree_bodies.specs.Typing.{HasDimensions}
use Rattle.agree_bodies.specs.Worlds.{World, IsArrayAt, Shaped, SameValue}
use Rattle.agree_bodies.proofs.Worlds.{grows-refl, Stands, same_number, same_reference, value-fits}
use Rattle.sj_trees.specs.Types.{element_type}
use Rattle.sj_trees.specs.declared.types.IrType.{IrType}
use Rattle.sj_trees.specs.declared.types.IrType.TheVariants.{Array, Int}
use Rattle.agree_calls.specs.Helpers.{HelperStands, Failed, failed_so, helper_code}
use Rattle.agree_calls.proofs.ArraysSeen.{ArraySeen, array_seen, item_there, item_absent}
use Rattle.agree_calls.proofs.Failing.{index_exception}
use Rattle.agree_calls.proofs.Helps.{FailsOn}

-- what fails gives no value of any type
pub failed_any : (p : Place) (w : World) (env : ir.Env) (t : IrType) (a : ir.Ended) (b : js.ExpressionEnd) → Failed p w env a b → Valued p w env t a b
failed_any p w env t _ _ (failed_so y v q s u g k same) = thrown y v q s u g k same

-- an array that fits one with dimensions has dimensions
pub has_depth : (r q : ArrayRef) → 1 ≤ r.dimensions → Fits (Array r) (Array q) → 1 ≤ q.dimensions
has_depth r q = by r.dimensions q.dimensions
  where
    by : (n m : ℕ) → 1 ≤ n → array_fits n r.base m q.base ≡ true → 1 ≤ m
    by (suc n) (suc m) i h = omega arith
    by (suc n) zero i h = impossible h
    by zero m i h = absurd (omega (arith, i))

module _ (d : Direction) (p : Place) (low : ir_meaning.Low) (m : ℕ) (uses : (w : World) (s : ir.State) (u : js.State) → SameState p w s u → (c : UsesCheck p.program (p.home (a_helper Get)) u) × (c.index.home ≡ p.home (a_helper (Throws Index)))) (fails : (z : ℤ) → FailsOn d p low m (Throws Index) (js.number z ∷ []) index_exception (decimal_text z)) (none : (z : ℤ) (u : js.State) → GivesNone (top_call p (js_meaning.below p.program m) (a_helper (Throws Index)) (js.number z ∷ []) u)) (code : HelperStands p Get (helper_code Get)) where
  abbrev home : Name
  home = p.home (a_helper Get)

  abbrev upper : js_meaning.Low
  upper = js_meaning.below p.program (suc (suc m))

  module _ (r : ArrayRef) (dims : HasDimensions r) (w : World) (env : ir.Env) (s : ir.State) (u : js.State) (same : SameState p w s u) (i a : ℕ) (at : IsArrayAt w i r) (there : w.place i ≡ Some a) where
    seen : ArraySeen p w s u i a at.at
    seen = array_seen p w s u same i a at.at there at.told

    abbrev Gives : Out ir.Ended → Out js.ExpressionEnd → Type 0
    Gives = Sim d (Valued p w env (element_type r))

    abbrev check : UsesCheck p.program home u
    check = (uses w s u same).0

    -- the call of the helper, by its code
    js_is : (z : ℤ) → top_call p upper (a_helper Get) (js.object a ∷ js.number z ∷ []) u ≡ js_meaning.code_call upper home (Some (helper_code Get)) (js.object a ∷ js.number z ∷ []) u
    js_is z = ap (λ o. js_meaning.code_call upper home o (js.object a ∷ js.number z ∷ []) u) code

    -- the item, as it is read
    inside : (z : ℤ) (v : ir.Value) → is_index (length seen.items) z ≡ true → SameValue w (element_type at.at.kind) v (item_at seen.items z) → Gives (done (ir.ends (ir.gives v) env s)) (top_call p upper (a_helper Get) (js.object a ∷ js.number z ∷ []) u)
    inside z v h one = subst (Gives (done (ir.ends (ir.gives v) env s))) (sym (js_is z ∙ gets_tell.inside p.program m home (array_links p) u a at.at.kind.dimensions seen.base at.at.items seen.items z check seen.shown h)) (sim_done d (Valued p w env (element_type r)) (ir.ends (ir.gives v) env s) (js.gives (item_at seen.items z) u) (valued w v (item_at seen.items z) s u (grows-refl w) (value-fits w (element_type r) (element_type at.at.kind) v (item_at seen.items z) (elements-fit r at.at.kind dims.0 (has_depth r at.at.kind dims.0 at.fits) at.fits) one) same))

    -- no item is there
    thrower : (z : ℤ) → top_call p (js_meaning.below p.program m) (a_helper (Throws Index)) (js.number z ∷ []) u ≡ helper_call p.program m check.index.home (Throws Index) (js.number z ∷ []) u
    thrower z = ap (λ (f : Name). helper_call p.program m f (Throws Index) (js.number z ∷ []) u) (sym (uses w s u same).1)

    outside : (z : ℤ) → is_index (length seen.items) z ≡ false → Gives (ir_meaning.raise p.classes low index_exception (decimal_text z) env s) (top_call p upper (a_helper Get) (js.object a ∷ js.number z ∷ []) u)
    outside z h =
        subst (Gives (ir_meaning.raise p.classes low index_exception (decimal_text z) env s)) (thrower z ∙ sym (js_is z ∙ gets_tell.outside p.program m home (array_links p) u a at.at.kind.dimensions seen.base at.at.items seen.items z check seen.shown h (subst (λ (o : Out js.ExpressionEnd). GivesNone o) (thrower z) (none z u))))
        (sim_weaken d (Failed p w env) (Valued p w env (element_type r)) _ _ (λ a b. failed_any p w env (element_type r) a b) (fails z w env s u same))

    indexed : (z : ℤ) → Gives (ir_meaning.answered p.classes low (ir_meaning.item_at seen.values z) env s) (top_call p upper (a_helper Get) (js.object a ∷ js.number z ∷ []) u)
    indexed (negsuc n) = outside (negsuc n) refl
    indexed (pos n) = go (slice_get seen.values n) refl
      where
        go : (o : Option ir.Value) → slice_get seen.values n ≡ o → Gives (ir_meaning.answered p.classes low (ir_meaning.item_or_raise (pos n) o) env s) (top_call p upper (a_helper Get) (js.object a ∷ js.number (pos n) ∷ []) u)
        go (Some v) e = let its = item_there w (element_type at.at.kind) seen.values seen.items seen.alike n v e in inside (pos n) v its.0 its.1
        go None e = outside (pos n) (item_absent w (element_type at.at.kind) seen.values seen.items seen.alike n e)

    pub read : (z : ℤ) → Gives (ir_meaning.select_item p.classes low (ir.reference i ∷ ir.number z ∷ []) env s) (top_call p upper (a_helper Get) (js.object a ∷ js.number z ∷ []) u)
    read z = subst (λ (o : Option ir.Stored). Gives (ir_meaning.answered p.classes low (ir_meaning.item_of (ir_meaning.items_of o) z) env s) (top_call p upper (a_helper Get) (js.object a ∷ js.number z ∷ []) u)) (sym seen.stored) (indexed z)

  -- an item that is read, and the helper
  pub gets_alike : (r : ArrayRef) → HasDimensions r → (w : World) (v i : ir.Value) (x j : js.Value) (env : ir.Env) (s : ir.State) (u : js.State) → SameValue w (Array r) v x → SameValue w Int i j → SameState p w s u → Sim d (Valued p w env (element_type r)) (ir_meaning.select_item p.classes low (v ∷ i ∷ []) env s) (top_call p upper (a_helper Get) (x ∷ j ∷ []) u)
  gets_alike r dims w v i x j env s u a b same = by v x a.stands a.shaped
    where
      at_index : (k q : ℕ) → IsArrayAt w k r → w.place k ≡ Some q → (i : ir.Value) (j : js.Value) → Stands w false i j → Sim d (Valued p w env (element_type r)) (ir_meaning.select_item p.classes low (ir.reference k ∷ i ∷ []) env s) (top_call p upper (a_helper Get) (js.object q ∷ j ∷ []) u)
      at_index k q at there _ _ (same_number z f) = read r dims w env s u same k q at there z
      at_index k q at there _ _ _ = sim_wrong d (Valued p w env (element_type r)) _

      by : (v : ir.Value) (x : js.Value) → Stands w false v x → Shaped w v (Array r) → Sim d (Valued p w env (element_type r)) (ir_meaning.select_item p.classes low (v ∷ i ∷ []) env s) (top_call p upper (a_helper Get) (x ∷ j ∷ []) u)
      by _ _ (same_reference k q there) at = at_index k q at there i j b.stands
      by _ _ _ at = sim_wrong d (Valued p w env (element_type r)) _
