-- Items of arrays of primitive types that are set: by the IR, and by the helper.
use Rattle.std.proofs.Common.{◌≡◌, arith, ℕ, suc, true, false, [], ◌∷◌, Option, Some, None, refl, sym, ap, ◌∙◌, subst, length, set, slice_get, if◌then◌else◌}
use Rattle.std.proofs.lemmas.Bool.Decides.{nat_tests}
use Rattle.std.specs.Prelude.{ℤ, pos, negsuc, ◌^◌, ◌-◌, ◌<◌, nat_lt}
use Rattle.int_arithmetic.specs.Decimals.{decimal_text}
use Rattle.outcomes.specs.Outcome.{Out, done}
use Rattle.outcomes.specs.Agreement.{Direction, Sim}
use Rattle.outcomes.proofs.Sequence.{then_do-left, then_do-right}
use Rattle.outcomes.proofs.Simulation.{sim_done, sim_then, sim_wrong}
use Rattle.array_code.proofs.Indexing.{sets_tell}
use Rattle.array_code.specs.Codes.{helper_call, GivesNone}
use Rattle.array_code.specs.FailureVariants.{Index}
use Rattle.array_code.specs.HelperVariants.{Set, Throws}
use Rattle.array_code.specs.Items.{UsesCheck, is_index, with_item_set}
use Rattle.dispatch_laws.specs.Meaning as ir_meaning
use Rattle.dispatch_laws.specs.Operators.{Answer}
use Rattle.dispatch_laws.specs.States as ir
use Rattle.js_mean.specs.Meaning as js_meaning
use Rattle.js_mean.specs.States as js
use Rattle.js_tree.specs.Terms.{Name}
use Rattle.sj_names.specs.declared.references.ArrayRef.{ArrayRef}
use Rattle.agree_bodies.specs.Settings.{Place, array_links, SameState, Valued, valued, thrown, a_helper, top_call, setting_helper}
use Rattle.agree_bodies.specs.Typing.{HasDimensions}
use Rattle.agree_bodies.specs.Worlds.{World, ArrayAt, IsArrayAt, Shaped, SameValue}
use Rattle.agree_bodies.proofs.Heaps.{item-written, items-length}
use Rattle.agree_bodies.proofs.Worlds.{grows-refl, Stands, same_undefined, same_number, same_reference}
use Rattle.sj_trees.specs.Types.{element_type}
use Rattle.sj_trees.specs.declared.types.IrType.TheVariants.{Array, Int, NoType}
use Rattle.agree_calls.specs.Helpers.{HelperStands, Failed, failed_so, helper_code}
use Rattle.agree_calls.proofs.ArraysSeen.{ArraySeen, array_seen, item_there, item_absent}
use Rattle.agree_calls.proofs.Failing.{index_exception}
use Rattle.agree_calls.proofs.Helps.{FailsOn}
use Rattle.agree_calls.proofs.Reading.{has_depth}
use Rattle.agree_calls.proofs.SameElements.{same_element, stored_so}

module _ (d : Direction) (p : Place) (low : ir_meaning.Low) (m : ℕ) (uses : (w : World) (s : ir.State) (u : js.State) → SameState p w s u → (c : UsesCheck p.program (p.home (a_helper Set)) u) × (c.index.home ≡ p.home (a_helper (Throws Index)))) (fails : (z : ℤ) → FailsOn d p low m (Throws Index) (js.number z ∷ []) index_exception (decimal_text z)) (none : (z : ℤ) (u : js.State) → GivesNone (top_call p (js_meaning.below p.program m) (a_helper (Throws Index)) (js.number z ∷ []) u)) (code : HelperStands p Set (helper_code Set)) where
  abbrev home : Name
  home = p.home (a_helper Set)

  abbrev upper : js_meaning.Low
  upper = js_meaning.below p.program (suc (suc m))

  module _ (w : World) (env : ir.Env) (s : ir.State) (u : js.State) (same : SameState p w s u) (i a : ℕ) (k : ArrayAt) (told : w.arrays i ≡ Some k) (there : w.place i ≡ Some a) (v : ir.Value) (y : js.Value) (alike : SameValue w (element_type k.kind) v y) (free : ir_meaning.may_be_stored p.classes s (element_type k.kind) v ≡ true) where
    abbrev seen : ArraySeen p w s u i a k
    seen = array_seen p w s u same i a k there told

    abbrev Gives : Out ir.Ended → Out js.ExpressionEnd → Type 0
    Gives = Sim d (Valued p w env NoType)

    abbrev check : UsesCheck p.program home u
    check = (uses w s u same).0

    abbrev calls : ℤ → Out js.ExpressionEnd
    calls z = top_call p upper (a_helper Set) (js.object a ∷ js.number z ∷ y ∷ []) u

    abbrev sets : ℤ → ir.Value → ir.Env → ir.State → Out ir.Ended
    sets z x = ir_meaning.assigned_item i z v

    -- the call of the helper, by its code
    js_is : (z : ℤ) → calls z ≡ js_meaning.code_call upper home (Some (helper_code Set)) (js.object a ∷ js.number z ∷ y ∷ []) u
    js_is z = ap (λ o. js_meaning.code_call upper home o (js.object a ∷ js.number z ∷ y ∷ []) u) code

    -- behind the item
    abbrev after : ℕ → ir.State
    after n = ir.at_address i (ir.array k.kind (set seen.values n v)) s

    abbrev shown_after : ℕ → js.State
    shown_after n = with_item_set k.items seen.items n y u

    states : (n : ℕ) → SameState p w (after n) (shown_after n)
    states n = record { heaps = item-written p w s.heap u.heap same.heaps i n k v y told alike; tops = same.tops; statics = same.statics; cells = same.cells }

    written : (n : ℕ) → nat_lt n (length seen.items) ≡ true → sets (pos n) ir.undefined env s ≡ done (ir.ends (ir.gives ir.undefined) env (after n))
    written n h =
        let inside : nat_lt n (length seen.values) ≡ true = ap (nat_lt n) (items-length w (element_type k.kind) seen.values seen.items seen.alike) ∙ h in
        ap (λ o. ir_meaning.assigned (ir_meaning.set_item i o (pos n) v s) env s) seen.stored ∙ ap (λ b. ir_meaning.assigned (if b then Some (after n) else None) env s) inside

    inside : (n : ℕ) → nat_lt n (length seen.items) ≡ true → Gives (done (ir.ends (ir.gives ir.undefined) env (after n))) (calls (pos n))
    inside n h =
        let few : length seen.items < 2 ^ 31 = subst (λ x. x < 2 ^ 31) (items-length w (element_type k.kind) seen.values seen.items seen.alike) seen.short in
        let small : nat_lt n (2 ^ 32 - 1) ≡ true = grind (arith, nat_tests, h, few) in
        subst (Gives (done (ir.ends (ir.gives ir.undefined) env (after n)))) (sym (js_is (pos n) ∙ sets_tell.inside p.program m home (array_links p) u a k.kind.dimensions seen.base k.items seen.items n y check seen.shown h small)) (sim_done d (Valued p w env NoType) (ir.ends (ir.gives ir.undefined) env (after n)) (js.gives js.undefined (shown_after n)) (valued w ir.undefined js.undefined (after n) (shown_after n) (grows-refl w) (record { stands = same_undefined; suits = refl; shaped = tt }) (states n)))

    -- no item is there
    thrower : (z : ℤ) → top_call p (js_meaning.below p.program m) (a_helper (Throws Index)) (js.number z ∷ []) u ≡ helper_call p.program m check.index.home (Throws Index) (js.number z ∷ []) u
    thrower z = ap (λ (f : Name). helper_call p.program m f (Throws Index) (js.number z ∷ []) u) (sym (uses w s u same).1)

    failed : (z : ℤ) (x : ir.Ended) (b : js.ExpressionEnd) → Failed p w env x b → Gives (ir.onward (sets z) x) (done b)
    failed z _ _ (failed_so y v q s u g k same) = sim_done d (Valued p w env NoType) (ir.ends (ir.throws v) env s) (js.throws q u) (thrown y v q s u g k same)

    outside : (z : ℤ) → is_index (length seen.items) z ≡ false → Gives (ir.go_on (ir_meaning.raise p.classes low index_exception (decimal_text z) env s) (sets z)) (calls z)
    outside z h =
        let raised = ir_meaning.raise p.classes low index_exception (decimal_text z) env s in
        let thrown_by = top_call p (js_meaning.below p.program m) (a_helper (Throws Index)) (js.number z ∷ []) u in
        subst (Gives (ir.go_on raised (sets z))) (thrower z ∙ sym (js_is z ∙ sets_tell.outside p.program m home (array_links p) u a k.kind.dimensions seen.base k.items seen.items z y check seen.shown h (subst (λ (o : Out js.ExpressionEnd). GivesNone o) (thrower z) (none z u))))
        (subst (Gives (ir.go_on raised (sets z))) (then_do-right thrown_by) (sim_then d (Failed p w env) (Valued p w env NoType) raised thrown_by (ir.onward (sets z)) done (fails z w env s u same) (failed z)))

    abbrev stores : Answer → ℤ → Out ir.Ended
    stores answer z = ir.go_on (ir_meaning.answered p.classes low answer env s) (sets z)

    indexed : (z : ℤ) → Gives (stores (ir_meaning.then_answer (ir_meaning.item_at seen.values z) (ir_meaning.element_answer true)) z) (calls z)
    indexed (negsuc n) = outside (negsuc n) refl
    indexed (pos n) = go (slice_get seen.values n) refl
      where
        go : (o : Option ir.Value) → slice_get seen.values n ≡ o → Gives (stores (ir_meaning.then_answer (ir_meaning.item_or_raise (pos n) o) (ir_meaning.element_answer true)) (pos n)) (calls (pos n))
        go (Some x) e =
            let its = item_there w (element_type k.kind) seen.values seen.items seen.alike n x e in
            subst (λ (o : Out ir.Ended). Gives o (calls (pos n))) (sym (then_do-left (ir.ends (ir.gives ir.undefined) env s) (ir.onward (sets (pos n))) ∙ written n its.0)) (inside n its.0)
        go None e = outside (pos n) (item_absent w (element_type k.kind) seen.values seen.items seen.alike n e)

    pub set_there : (z : ℤ) → Gives (ir_meaning.assign_item p.classes low (ir.reference i ∷ ir.number z ∷ v ∷ []) env s) (calls z)
    set_there z =
        subst (λ (o : Option ir.Stored). Gives (stores (ir_meaning.store_answer p.classes s o z v) z) (calls z)) (sym seen.stored)
        (subst (λ b. Gives (stores (ir_meaning.then_answer (ir_meaning.item_at seen.values z) (ir_meaning.element_answer b)) z) (calls z)) (sym free) (indexed z))

  -- an item of a primitive type that is set, and the helper
  pub sets_alike : (r : ArrayRef) → HasDimensions r → setting_helper (element_type r) ≡ Set → (w : World) (v i e : ir.Value) (x j y : js.Value) (env : ir.Env) (s : ir.State) (u : js.State) → SameValue w (Array r) v x → SameValue w Int i j → SameValue w (element_type r) e y → SameState p w s u → Sim d (Valued p w env NoType) (ir_meaning.assign_item p.classes low (v ∷ i ∷ e ∷ []) env s) (top_call p upper (a_helper Set) (x ∷ j ∷ y ∷ []) u)
  sets_alike r dims by_set w v i e x j y env s u a b c same = by v x a.stands a.shaped
    where
      at_index : (k q : ℕ) → IsArrayAt w k r → w.place k ≡ Some q → (i : ir.Value) (j : js.Value) → Stands w false i j → Sim d (Valued p w env NoType) (ir_meaning.assign_item p.classes low (ir.reference k ∷ i ∷ e ∷ []) env s) (top_call p upper (a_helper Set) (js.object q ∷ j ∷ y ∷ []) u)
      at_index k q at there _ _ (same_number z f) =
          let is : element_type r ≡ element_type at.at.kind = same_element r at.at.kind dims.0 (has_depth r at.at.kind dims.0 at.fits) at.fits by_set in
          let its_helper : setting_helper (element_type at.at.kind) ≡ Set = ap setting_helper (sym is) ∙ by_set in
          set_there w env s u same k q at.at at.told there e y (subst (λ t. SameValue w t e y) is c) (stored_so p.classes s (element_type at.at.kind) e its_helper) z
      at_index k q at there _ _ _ = sim_wrong d (Valued p w env NoType) _

      by : (v : ir.Value) (x : js.Value) → Stands w false v x → Shaped w v (Array r) → Sim d (Valued p w env NoType) (ir_meaning.assign_item p.classes low (v ∷ i ∷ e ∷ []) env s) (top_call p upper (a_helper Set) (x ∷ j ∷ y ∷ []) u)
      by _ _ (same_reference k q there) at = at_index k q at there i j b.stands
      by _ _ _ at = sim_wrong d (Valued p w env NoType) _
