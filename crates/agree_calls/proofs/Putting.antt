-- Items of arrays of objects that are set: by the IR, and by the helper, which asks whether the value may be one.
use Rattle.std.proofs.Common.{◌≡◌, ◌≤◌, arith, ℕ, suc, Bool, true, false, List, [], ◌∷◌, Option, Some, None, ◌⊎◌, inl, inr, refl, sym, ap, ◌∙◌, subst, length, set, slice_get, if◌then◌else◌}
use Rattle.std.proofs.lemmas.Bool.Decides.{nat_tests}
use Rattle.std.specs.Prelude.{ℤ, pos, negsuc, ◌^◌, ◌-◌, ◌<◌, nat_lt, codes}
use Rattle.int_arithmetic.specs.Decimals.{decimal_text}
use Rattle.outcomes.specs.Outcome.{Out, done}
use Rattle.outcomes.specs.Agreement.{Direction, forward, backward, Sim}
use Rattle.outcomes.proofs.Sequence.{then_do-left, then_do-right}
use Rattle.outcomes.proofs.Simulation.{sim_done, sim_going, sim_then, sim_wrong}
use Rattle.array_code.proofs.Indexing.{puts_tell}
use Rattle.array_code.specs.Codes.{GivesNone}
use Rattle.array_code.specs.FailureVariants.{Index, Store}
use Rattle.array_code.specs.HelperVariants.{Put, Throws}
use Rattle.array_code.specs.Items.{UsesFits, is_index, with_item_set}
use Rattle.dispatch_laws.specs.Ancestors.{IsAncestor}
use Rattle.dispatch_laws.specs.Meaning as ir_meaning
use Rattle.dispatch_laws.specs.Operators.{Answer}
use Rattle.dispatch_laws.specs.SjWorldLaws.{IsPlain}
use Rattle.dispatch_laws.specs.States as ir
use Rattle.js_mean.specs.Meaning as js_meaning
use Rattle.js_mean.specs.States as js
use Rattle.js_tree.specs.Terms.{Name}
use Rattle.agree_bodies.proofs.Heaps.{item-written, items-length}
use Rattle.agree_bodies.proofs.Worlds.{grows-refl, Stands, same_undefined, same_number, same_reference}
use Rattle.agree_bodies.specs.Coercions.{is_char}
use Rattle.agree_bodies.specs.Settings.{Place, array_links, SameState, IsConstantsOf, Valued, valued, thrown, a_helper, top_call, setting_helper}
use Rattle.agree_bodies.specs.Typing.{HasDimensions}
use Rattle.agree_bodies.specs.Worlds.{World, ArrayAt, IsArrayAt, Shaped, SameValue}
use Rattle.sj_names.specs.declared.references.ArrayRef.{ArrayRef}
use Rattle.sj_trees.specs.Types.{element_type}
use Rattle.sj_trees.specs.declared.types.IrType.{IrType}
use Rattle.sj_trees.specs.declared.types.IrType.TheVariants as types
use Rattle.sj_trees.specs.declared.types.IrType.TheVariants.{Array, Int, NoType}
use Rattle.agree_calls.specs.Arrays.{CanPut}
use Rattle.agree_calls.specs.Helpers.{Failed, failed_so, helper_code}
use Rattle.agree_calls.proofs.ArraysSeen.{ArraySeen, array_seen, item_there, item_absent}
use Rattle.agree_calls.proofs.ArrayTesting.{Told, told_so, still_going}
use Rattle.agree_calls.proofs.ArrayUses.{put_there}
use Rattle.agree_calls.proofs.ClassTesting.{Sorted, both_null, neither_null, sorted}
use Rattle.agree_calls.proofs.Failing.{index_exception, store_exception}
use Rattle.agree_calls.proofs.Fitting.{puts_too, fits_call, fits_comes, item_value}
use Rattle.agree_calls.proofs.Helps.{FailsOn}
use Rattle.agree_calls.proofs.Reading.{has_depth}
use Rattle.agree_calls.proofs.SameElements.{other_helper}

-- chars are set by the other helper
no_char : (t : IrType) → setting_helper t ≡ Put → is_char t ≡ false
no_char types.Char puts = other_helper (sym puts)
no_char _ puts = refl

-- both are null, or neither is
null_or_not : (v : ir.Value) (y : js.Value) → Sorted v y → ((v ≡ ir.null) × (y ≡ js.null)) ⊎ ((v ≡ ir.null → ⊥) × (y ≡ js.null → ⊥))
null_or_not _ _ both_null = inl (refl, refl)
null_or_not _ _ (neither_null v y there jthere) = inr (there, jthere)

-- arrays have the dimensions that a reference may have
abbrev pub AreFew : World → Type 0
AreFew w = (i : ℕ) (k : ArrayAt) → w.arrays i ≡ Some k → k.kind.dimensions ≤ 255

module _ (d : Direction) (p : Place) (plain : IsPlain p.classes) (low : ir_meaning.Low) (m : ℕ) (enough : d ≡ forward → 3 ≤ suc m) (can : CanPut p) (fails : (z : ℤ) → FailsOn d p low m (Throws Index) (js.number z ∷ []) index_exception (decimal_text z)) (none : (z : ℤ) (u : js.State) → GivesNone (top_call p (js_meaning.below p.program m) (a_helper (Throws Index)) (js.number z ∷ []) u)) (store_fails : FailsOn d p low (suc m) (Throws Store) [] store_exception (codes "bad element")) (store_none : (u : js.State) → GivesNone (top_call p (js_meaning.below p.program (suc m)) (a_helper (Throws Store)) [] u)) where
  abbrev home : Name
  home = p.home (a_helper Put)

  abbrev upper : js_meaning.Low
  upper = js_meaning.below p.program (suc (suc m))

  module _ (w : World) (known : (c : List ℕ) (x : js.Value) → IsConstantsOf w.owned c x → IsAncestor p.classes c c) (few : AreFew w) (env : ir.Env) (s : ir.State) (u : js.State) (same : SameState p w s u) (i a : ℕ) (k : ArrayAt) (told : w.arrays i ≡ Some k) (there : w.place i ≡ Some a) (dims : 1 ≤ k.kind.dimensions) (puts : setting_helper (element_type k.kind) ≡ Put) (v : ir.Value) (y : js.Value) (stands : Stands w false v y) where
    abbrev seen : ArraySeen p w s u i a k
    seen = array_seen p w s u same i a k there told

    abbrev Gives : Out ir.Ended → Out js.ExpressionEnd → Type 0
    Gives = Sim d (Valued p w env NoType)

    abbrev uses : UsesFits p.program home u
    uses = put_there p w s u same can

    abbrev may : Bool
    may = ir_meaning.may_be_stored p.classes s (element_type k.kind) v

    abbrev code_calls : ℤ → js.Value → Out js.ExpressionEnd
    code_calls z x = js_meaning.code_call upper home (Some (helper_code Put)) (js.object a ∷ js.number z ∷ x ∷ []) u

    abbrev calls : ℤ → Out js.ExpressionEnd
    calls z = top_call p upper (a_helper Put) (js.object a ∷ js.number z ∷ y ∷ []) u

    abbrev sets : ℤ → ir.Value → ir.Env → ir.State → Out ir.Ended
    sets z x = ir_meaning.assigned_item i z v

    abbrev stores : Answer → ℤ → Out ir.Ended
    stores answer z = ir.go_on (ir_meaning.answered p.classes low answer env s) (sets z)

    -- the call of the helper, by its code
    js_is : (z : ℤ) → calls z ≡ code_calls z y
    js_is z = ap (λ (o : Option js_meaning.Code). js_meaning.code_call upper home o (js.object a ∷ js.number z ∷ y ∷ []) u) can.index.stands

    -- behind the item
    abbrev after : ℕ → ir.State
    after n = ir.at_address i (ir.array k.kind (set seen.values n v)) s

    abbrev shown_after : ℕ → js.State
    shown_after n = with_item_set k.items seen.items n y u

    states : (n : ℕ) → may ≡ true → SameState p w (after n) (shown_after n)
    states n free = record { heaps = item-written p w s.heap u.heap same.heaps i n k v y told (item_value p plain w s u same known k.kind dims puts v y stands free); tops = same.tops; statics = same.statics; cells = same.cells }

    written : (n : ℕ) → nat_lt n (length seen.items) ≡ true → sets (pos n) ir.undefined env s ≡ done (ir.ends (ir.gives ir.undefined) env (after n))
    written n h =
        let inside : nat_lt n (length seen.values) ≡ true = ap (nat_lt n) (items-length w (element_type k.kind) seen.values seen.items seen.alike) ∙ h in
        ap (λ o. ir_meaning.assigned (ir_meaning.set_item i o (pos n) v s) env s) seen.stored ∙ ap (λ b. ir_meaning.assigned (if b then Some (after n) else None) env s) inside

    small : (n : ℕ) → nat_lt n (length seen.items) ≡ true → nat_lt n (2 ^ 32 - 1) ≡ true
    small n h =
        let short : length seen.items < 2 ^ 31 = subst (λ x. x < 2 ^ 31) (items-length w (element_type k.kind) seen.values seen.items seen.alike) seen.short in
        grind (arith, nat_tests, h, short)

    -- the value may be an item
    stored : (n : ℕ) → nat_lt n (length seen.items) ≡ true → may ≡ true → calls (pos n) ≡ done (js.gives js.undefined (shown_after n)) → Gives (stores (ir_meaning.element_answer true) (pos n)) (calls (pos n))
    stored n h free is =
        subst (λ (o : Out ir.Ended). Gives o (calls (pos n))) (sym (then_do-left (ir.ends (ir.gives ir.undefined) env s) (ir.onward (sets (pos n))) ∙ written n h))
        (subst (Gives (done (ir.ends (ir.gives ir.undefined) env (after n)))) (sym is) (sim_done d (Valued p w env NoType) (ir.ends (ir.gives ir.undefined) env (after n)) (js.gives js.undefined (shown_after n)) (valued w ir.undefined js.undefined (after n) (shown_after n) (grows-refl w) (record { stands = same_undefined; suits = refl; shaped = tt }) (states n free))))

    -- an exception is thrown
    failed : (z : ℤ) (x : ir.Ended) (b : js.ExpressionEnd) → Failed p w env x b → Gives (ir.onward (sets z) x) (done b)
    failed z _ _ (failed_so y v q s u g k same) = sim_done d (Valued p w env NoType) (ir.ends (ir.throws v) env s) (js.throws q u) (thrown y v q s u g k same)

    raised : (z : ℤ) (e us : List ℕ) (o : Out js.ExpressionEnd) → Sim d (Failed p w env) (ir_meaning.raise p.classes low e us env s) o → calls z ≡ o → Gives (ir.go_on (ir_meaning.raise p.classes low e us env s) (sets z)) (calls z)
    raised z e us o both is =
        let raised_by = ir_meaning.raise p.classes low e us env s in
        subst (Gives (ir.go_on raised_by (sets z))) (sym is)
        (subst (Gives (ir.go_on raised_by (sets z))) (then_do-right o) (sim_then d (Failed p w env) (Valued p w env NoType) raised_by o (ir.onward (sets z)) done both (failed z)))

    outside : (z : ℤ) → is_index (length seen.items) z ≡ false → Gives (ir.go_on (ir_meaning.raise p.classes low index_exception (decimal_text z) env s) (sets z)) (calls z)
    outside z h = raised z index_exception (decimal_text z) (top_call p (js_meaning.below p.program m) (a_helper (Throws Index)) (js.number z ∷ []) u) (fails z w env s u same) (js_is z ∙ puts_tell.outside p.program m home (array_links p) u a k.kind.dimensions seen.base k.items seen.items z y uses seen.shown h (none z u))

    by_fits : (n : ℕ) → nat_lt n (length seen.items) ≡ true → (y ≡ js.null → ⊥) → (b : Bool) → may ≡ b → Told d (fits_call p plain w s u same known can.items can.fits.stands (suc m) y k.kind.dimensions seen.base) b u → Gives (stores (ir_meaning.element_answer b) (pos n)) (calls (pos n))
    by_fits n h there true free (told_so is) = stored n h free (js_is (pos n) ∙ puts_tell.of_element p.program m home (array_links p) u a k.kind.dimensions seen.base k.items seen.items n y uses seen.shown h (small n h) there is)
    by_fits n h there false free (told_so is) = raised (pos n) store_exception (codes "bad element") (top_call p (js_meaning.below p.program (suc m)) (a_helper (Throws Store)) [] u) (store_fails w env s u same) (js_is (pos n) ∙ puts_tell.of_other p.program m home (array_links p) u a k.kind.dimensions seen.base k.items seen.items (pos n) y uses seen.shown h there is (store_none u))
    by_fits n h there b free (still_going back is) =
        subst (λ (q : Direction). Sim q (Valued p w env NoType) (stores (ir_meaning.element_answer b) (pos n)) (calls (pos n))) (sym back)
        (subst (Sim backward (Valued p w env NoType) (stores (ir_meaning.element_answer b) (pos n))) (sym (js_is (pos n) ∙ puts_tell.fits_going p.program m home (array_links p) u a k.kind.dimensions seen.base k.items seen.items (pos n) y uses seen.shown h there is)) (sim_going (Valued p w env NoType) (stores (ir_meaning.element_answer b) (pos n))))

    null_set : (n : ℕ) → nat_lt n (length seen.items) ≡ true → v ≡ ir.null → y ≡ js.null → Gives (stores (ir_meaning.element_answer may) (pos n)) (calls (pos n))
    null_set n h e f =
        let free : may ≡ true = ap (ir_meaning.may_be_stored p.classes s (element_type k.kind)) e in
        let is : code_calls (pos n) y ≡ done (js.gives js.undefined (shown_after n)) = subst (λ (x : js.Value). code_calls (pos n) x ≡ done (js.gives js.undefined (with_item_set k.items seen.items n x u))) (sym f) (puts_tell.of_null p.program m home (array_links p) u a k.kind.dimensions seen.base k.items seen.items n uses seen.shown h (small n h)) in
        subst (λ (b : Bool). Gives (stores (ir_meaning.element_answer b) (pos n)) (calls (pos n))) (sym free) (stored n h free (js_is (pos n) ∙ is))

    inside : (n : ℕ) → nat_lt n (length seen.items) ≡ true → Gives (stores (ir_meaning.element_answer may) (pos n)) (calls (pos n))
    inside n h = by (null_or_not v y (sorted w v y stands))
      where
        by : ((v ≡ ir.null) × (y ≡ js.null)) ⊎ ((v ≡ ir.null → ⊥) × (y ≡ js.null → ⊥)) → Gives (stores (ir_meaning.element_answer may) (pos n)) (calls (pos n))
        by (inl e) = null_set n h e.0 e.1
        by (inr apart) = by_fits n h apart.1 may refl (fits_comes p plain w s u same known can.items can.fits.stands k.kind seen.base seen.stands dims (few i k told) puts v y stands apart.0 d (suc m) enough)

    indexed : (z : ℤ) → Gives (stores (ir_meaning.then_answer (ir_meaning.item_at seen.values z) (ir_meaning.element_answer may)) z) (calls z)
    indexed (negsuc n) = outside (negsuc n) refl
    indexed (pos n) = go (slice_get seen.values n) refl
      where
        go : (o : Option ir.Value) → slice_get seen.values n ≡ o → Gives (stores (ir_meaning.then_answer (ir_meaning.item_or_raise (pos n) o) (ir_meaning.element_answer may)) (pos n)) (calls (pos n))
        go (Some x) e = inside n (item_there w (element_type k.kind) seen.values seen.items seen.alike n x e).0
        go None e = outside (pos n) (item_absent w (element_type k.kind) seen.values seen.items seen.alike n e)

    pub put_item : (z : ℤ) → Gives (ir_meaning.assign_item p.classes low (ir.reference i ∷ ir.number z ∷ v ∷ []) env s) (calls z)
    put_item z = subst (λ (o : Option ir.Stored). Gives (stores (ir_meaning.store_answer p.classes s o z v) z) (calls z)) (sym seen.stored) (indexed z)

  -- an item that may be an object, and the helper
  pub puts_alike : (r : ArrayRef) → HasDimensions r → setting_helper (element_type r) ≡ Put → (w : World) → ((c : List ℕ) (x : js.Value) → IsConstantsOf w.owned c x → IsAncestor p.classes c c) → AreFew w → (v i e : ir.Value) (x j y : js.Value) (env : ir.Env) (s : ir.State) (u : js.State) → SameValue w (Array r) v x → SameValue w Int i j → SameValue w (element_type r) e y → SameState p w s u → Sim d (Valued p w env NoType) (ir_meaning.assign_item p.classes low (v ∷ i ∷ e ∷ []) env s) (top_call p upper (a_helper Put) (x ∷ j ∷ y ∷ []) u)
  puts_alike r dims by_put w known few v i e x j y env s u a b c same = by v x a.stands a.shaped
    where
      stands : Stands w false e y
      stands = subst (λ (t : Bool). Stands w t e y) (no_char (element_type r) by_put) c.stands

      at_index : (k q : ℕ) → IsArrayAt w k r → w.place k ≡ Some q → (i : ir.Value) (j : js.Value) → Stands w false i j → Sim d (Valued p w env NoType) (ir_meaning.assign_item p.classes low (ir.reference k ∷ i ∷ e ∷ []) env s) (top_call p upper (a_helper Put) (js.object q ∷ j ∷ y ∷ []) u)
      at_index k q at there _ _ (same_number z f) =
          let deep : 1 ≤ at.at.kind.dimensions = has_depth r at.at.kind dims.0 at.fits in
          put_item w known few env s u same k q at.at at.told there deep (puts_too r at.at.kind dims.0 deep at.fits by_put) e y stands z
      at_index k q at there _ _ _ = sim_wrong d (Valued p w env NoType) _

      by : (v : ir.Value) (x : js.Value) → Stands w false v x → Shaped w v (Array r) → Sim d (Valued p w env NoType) (ir_meaning.assign_item p.classes low (v ∷ i ∷ e ∷ []) env s) (top_call p upper (a_helper Put) (x ∷ j ∷ y ∷ []) u)
      by _ _ (same_reference k q there) at = at_index k q at there i j b.stands
      by _ _ _ at = sim_wrong d (Valued p w env NoType) _
