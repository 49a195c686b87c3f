-- The helper that tells whether two values are the same.
use Rattle.std.proofs.Common.{◌≡◌, ℕ, suc, Bool, true, false, ◌&&◌, [], ◌∷◌, Option, Some, refl, sym, ap, ◌∙◌, subst}
use Rattle.std.specs.Prelude.{codes, pos, nat_eq}
use Rattle.std.specs.Ordering.{int_eq}
use Rattle.std.proofs.lemmas.Bool.{eq-eqb, eqb-true}
use Rattle.std.proofs.lemmas.Bool.Decides.{Decides-int_eq}
use Rattle.outcomes.specs.Outcome.{Out, done, then_do}
use Rattle.outcomes.specs.Agreement.{Direction, Sim}
use Rattle.outcomes.proofs.Simulation.{sim_done}
use Rattle.array_code.proofs.Bridge.{return_hands_on}
use Rattle.array_code.specs.Helpers.{helper_name, equality, both_boxed, is_boxed, same_units, same_values}
use Rattle.array_code.specs.HelperVariants.{BoxedChar, Equal}
use Rattle.dispatch_laws.specs.Meaning as ir_meaning
use Rattle.dispatch_laws.specs.Operators.{binary_value, is_same_value}
use Rattle.dispatch_laws.specs.States as ir
use Rattle.js_mean.specs.Files.{owner}
use Rattle.js_mean.specs.Meaning as js_meaning
use Rattle.js_mean.specs.Objects.{is_instance, property}
use Rattle.js_mean.specs.Operators.{is_strictly_equal}
use Rattle.js_mean.specs.States as js
use Rattle.js_tree.specs.Terms.{Name, no_statements}
use Rattle.js_tree.specs.declared.operators.BinaryOperator.TheVariants as Op
use Rattle.sj_names.proofs.Same.{impossible}
use Rattle.sj_trees.specs.declared.operators.BinaryOp.TheVariants.{StrictEqual}
use Rattle.sj_trees.specs.declared.types.IrType.TheVariants.{Any, Boolean}
use Rattle.agree_bodies.specs.Settings.{Place, SameState, Valued, valued, a_helper, top_call}
use Rattle.agree_bodies.proofs.Operators.{same-boolean}
use Rattle.agree_bodies.proofs.Tests.{same_is}
use Rattle.agree_bodies.proofs.Worlds.{World, grows-refl, SameValue, IsBox, Stands, same_boolean, same_char, same_box, same_reference}
use Rattle.agree_calls.specs.Helpers.{helper_code, CanCompare}
use Rattle.agree_calls.proofs.Boxed.{is_unit, boxes, unit_held, told_boxed}

-- two tests of which each passes where the other does
pub both_pass : (t r : Bool) → (t ≡ true → r ≡ true) → (r ≡ true → t ≡ true) → t ≡ r
both_pass true r f g = sym (f refl)
both_pass false true f g = g refl
both_pass false false f g = refl

same_tests : (a b i j : ℕ) → (a ≡ b → i ≡ j) → (i ≡ j → a ≡ b) → nat_eq a b ≡ nat_eq i j
same_tests a b i j f g = both_pass (nat_eq a b) (nat_eq i j) (λ e. eq-eqb i j (f (eqb-true a b e))) (λ e. eq-eqb a b (g (eqb-true i j e)))

same_units_are : (a b : ℕ) → int_eq (pos a) (pos b) ≡ nat_eq a b
same_units_are a b = both_pass (int_eq (pos a) (pos b)) (nat_eq a b) (λ e. eq-eqb a b (unit_is ((Decides-int_eq (pos a) (pos b)).0 e))) (λ e. (Decides-int_eq (pos a) (pos b)).1 (ap pos (eqb-true a b e)))
  where
    unit_is : pos a ≡ pos b → a ≡ b
    unit_is e = cc

apart_numbers : (a b : ℕ) → (a ≡ b → ⊥) → nat_eq a b ≡ false
apart_numbers a b h = go (nat_eq a b) refl
  where
    go : (t : Bool) → nat_eq a b ≡ t → t ≡ false
    go false e = refl
    go true e = absurd (h (eqb-true a b e))

module _ (p : Place) (m : ℕ) (u : js.State) (x x' : js.Value) (stand : js_meaning.top_cell (owner p.program (p.home (a_helper Equal)) (helper_name BoxedChar)) (helper_name BoxedChar) u ≡ js.holds false (js.class (boxes p))) where
  abbrev scope : js.Scope
  scope = js_meaning.function_scope (p.home (a_helper Equal)) (helper_code Equal) (x ∷ x' ∷ [])

  abbrev low : js_meaning.Low
  low = js_meaning.below p.program m

  first_boxed : (b : Bool) → is_instance u x (js.class (boxes p)) ≡ Some b → js_meaning.evaluate p.program low (is_boxed (codes "x")) scope u ≡ done (js.gives (js.boolean b) u)
  first_boxed b e = ap (λ (c : js.Cell). then_do (js_meaning.cell_value c u) (js.with_value (λ k. js_meaning.instance (x ∷ k ∷ []) scope))) stand ∙ ap (λ o. js_meaning.truth_or_wrong o scope u) e

  second_boxed : (b : Bool) → is_instance u x' (js.class (boxes p)) ≡ Some b → js_meaning.evaluate p.program low (is_boxed (codes "y")) scope u ≡ done (js.gives (js.boolean b) u)
  second_boxed b e = ap (λ (c : js.Cell). then_do (js_meaning.cell_value c u) (js.with_value (λ k. js_meaning.instance (x' ∷ k ∷ []) scope))) stand ∙ ap (λ o. js_meaning.truth_or_wrong o scope u) e

  both : (b b' : Bool) → is_instance u x (js.class (boxes p)) ≡ Some b → is_instance u x' (js.class (boxes p)) ≡ Some b' → js_meaning.evaluate p.program low both_boxed scope u ≡ done (js.gives (js.boolean (b && b')) u)
  both true b' e k = ap (λ o. then_do o (js.with_value (λ v. js_meaning.both_of (js_meaning.evaluate p.program low (is_boxed (codes "y"))) v scope))) (first_boxed true e) ∙ second_boxed b' k
  both false b' e k = ap (λ o. then_do o (js.with_value (λ v. js_meaning.both_of (js_meaning.evaluate p.program low (is_boxed (codes "y"))) v scope))) (first_boxed false e)

  abbrev chosen : js.Value → Out js.ExpressionEnd
  chosen v = js_meaning.chosen (js_meaning.evaluate p.program low same_units) (js_meaning.evaluate p.program low same_values) (v ∷ []) scope u

  equality_is : (b b' : Bool) → is_instance u x (js.class (boxes p)) ≡ Some b → is_instance u x' (js.class (boxes p)) ≡ Some b' → js_meaning.evaluate p.program low equality scope u ≡ chosen (js.boolean (b && b'))
  equality_is b b' e k = ap (λ o. then_do o (js.with_value (λ v. js_meaning.chosen (js_meaning.evaluate p.program low same_units) (js_meaning.evaluate p.program low same_values) (v ∷ []) scope))) (both b b' e k)

  units_are : (a b : ℕ) → property p.program u x (codes "c") ≡ Some (js.number (pos a)) → property p.program u x' (codes "c") ≡ Some (js.number (pos b)) → js_meaning.evaluate p.program low same_units scope u ≡ done (js.gives (js.boolean (int_eq (pos a) (pos b))) u)
  units_are a b e k = ap (λ o. then_do (js_meaning.value_or_wrong o scope u) (js.with_value (λ v. js_meaning.in_order (js_meaning.in_order (js_meaning.name_value p.program (codes "y") ∷ []) (js_meaning.read_property p.program (codes "c")) ∷ []) (λ vs. js_meaning.binary Op.StrictEqual (v ∷ vs)) scope))) e ∙ ap (λ o. then_do (js_meaning.value_or_wrong o scope u) (js.with_value (λ v. js_meaning.binary Op.StrictEqual (js.number (pos a) ∷ v ∷ []) scope))) k

module _ (p : Place) (can : CanCompare p) (w : World) (s : ir.State) (u : js.State) (same : SameState p w s u) where
  stand : js_meaning.top_cell (owner p.program (p.home (a_helper Equal)) (helper_name BoxedChar)) (helper_name BoxedChar) u ≡ js.holds false (js.class (boxes p))
  stand = ap (λ (o : Option Name). js_meaning.top_cell o (helper_name BoxedChar) u) can.boxes.reached ∙ same.tops can.boxes.user (a_helper BoxedChar) can.boxes.usable

  -- but for two chars, what the emitted code compares is the same where the values are
  strictly : (v v' : ir.Value) (x x' : js.Value) → Stands w false v x → Stands w false v' x' → (is_unit v && is_unit v') ≡ false → is_strictly_equal x x' ≡ is_same_value v v'
  strictly _ _ _ _ (same_char r c f) b h = impossible r
  strictly _ _ _ _ a (same_char r c f) h = impossible r
  strictly _ _ _ _ (same_boolean a) (same_boolean b) h = same-boolean a b
  strictly _ _ _ _ (same_box r c a f i) (same_box q d b g j) h = impossible (sym h)
  strictly _ _ _ _ (same_box r c a f i) (same_reference j b e) h = apart_numbers a b (λ k. same.heaps.apart j b (js.plain w.boxes i.properties) e (subst (λ n. w.owned n ≡ Some (js.plain w.boxes i.properties)) k i.owned))
  strictly _ _ _ _ (same_reference i a e) (same_box q d b g j) h = apart_numbers a b (λ k. same.heaps.apart i a (js.plain w.boxes j.properties) e (subst (λ n. w.owned n ≡ Some (js.plain w.boxes j.properties)) (sym k) j.owned))
  strictly _ _ _ _ (same_reference i a e) (same_reference j b k) h = same_tests a b i j (λ q. same.heaps.differ i j a e (subst (λ n. w.place j ≡ Some n) (sym q) k)) (λ q. one_address a b (sym e ∙ ap w.place q ∙ k))
    where
      one_address : (a b : ℕ) → ◌≡◌ {A = Option ℕ} (Some a) (Some b) → a ≡ b
      one_address a b e = cc
  strictly _ _ _ _ _ _ h = refl

  module _ (m : ℕ) where
    abbrev Tells : ir.Value → ir.Value → js.Value → js.Value → Type 0
    Tells v v' x x' = js_meaning.evaluate p.program (js_meaning.below p.program m) equality (scope p m u x x' stand) u ≡ done (js.gives (js.boolean (is_same_value v v')) u)

    by_value : (v v' : ir.Value) (x x' : js.Value) → Stands w false v x → Stands w false v' x' → (is_unit v && is_unit v') ≡ false → Tells v v' x x'
    by_value v v' x x' a b h = equality_is p m u x x' stand (is_unit v) (is_unit v') (told_boxed p w s u same v x a) (told_boxed p w s u same v' x' b) ∙ ap (λ t. chosen p m u x x' stand (js.boolean t)) h ∙ ap (λ t. done (js.gives (js.boolean t) u)) (strictly v v' x x' a b h)

    by_unit : (c d a b : ℕ) → IsBox w c a → IsBox w d b → (x : Stands w false (ir.char c) (js.object a)) (y : Stands w false (ir.char d) (js.object b)) → Tells (ir.char c) (ir.char d) (js.object a) (js.object b)
    by_unit c d a b i j x y = equality_is p m u (js.object a) (js.object b) stand true true (told_boxed p w s u same (ir.char c) (js.object a) x) (told_boxed p w s u same (ir.char d) (js.object b) y) ∙ units_are p m u (js.object a) (js.object b) stand c d (unit_held p w s u same c a i) (unit_held p w s u same d b j) ∙ ap (λ t. done (js.gives (js.boolean t) u)) (same_units_are c d)

    tells : (v v' : ir.Value) (x x' : js.Value) → Stands w false v x → Stands w false v' x' → Tells v v' x x'
    tells _ _ _ _ (same_box r c a f i) (same_box q d b g j) = by_unit c d a b i j (same_box r c a f i) (same_box q d b g j)
    tells _ _ _ _ (same_char r c f) b = impossible r
    tells _ _ _ _ a (same_char r c f) = impossible r
    tells _ _ _ _ a b = by_value _ _ _ _ a b refl

    told : (v v' : ir.Value) (x x' : js.Value) → Stands w false v x → Stands w false v' x' → top_call p (js_meaning.below p.program (suc m)) (a_helper Equal) (x ∷ x' ∷ []) u ≡ done (js.gives (js.boolean (is_same_value v v')) u)
    told v v' x x' a b = ap (λ c. js_meaning.code_call (js_meaning.below p.program (suc m)) (p.home (a_helper Equal)) c (x ∷ x' ∷ []) u) can.equality ∙ return_hands_on p.program (js_meaning.below p.program m) equality no_statements (scope p m u x x' stand) u ∙ tells v v' x x' a b

    -- whether two values are the same, and the helper that tells
    pub compares_alike : (d : Direction) (low : ir_meaning.Low) (env : ir.Env) (v v' : ir.Value) (x x' : js.Value) → SameValue w Any v x → SameValue w Any v' x' → Sim d (Valued p w env Boolean) (ir_meaning.answered p.classes low (binary_value StrictEqual v v') env s) (top_call p (js_meaning.below p.program (suc m)) (a_helper Equal) (x ∷ x' ∷ []) u)
    compares_alike d low env v v' x x' a b = subst (λ o. Sim d (Valued p w env Boolean) (ir_meaning.answered p.classes low o env s) (top_call p (js_meaning.below p.program (suc m)) (a_helper Equal) (x ∷ x' ∷ []) u)) (sym (same_is v v')) (subst (Sim d (Valued p w env Boolean) (done (ir.ends (ir.gives (ir.boolean (is_same_value v v'))) env s))) (sym (told v v' x x' a.stands b.stands)) (sim_done d (Valued p w env Boolean) (ir.ends (ir.gives (ir.boolean (is_same_value v v'))) env s) (js.gives (js.boolean (is_same_value v v')) u) (valued w (ir.boolean (is_same_value v v')) (js.boolean (is_same_value v v')) s u (grows-refl w) (record { stands = same_boolean (is_same_value v v'); suits = refl; shaped = tt }) same)))
