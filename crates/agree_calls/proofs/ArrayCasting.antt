-- A cast to a type of arrays: by the IR, and by the helper.
use Rattle.std.proofs.Common.{◌≡◌, ℕ, suc, Bool, true, false, List, [], ◌∷◌, Some, refl, sym, ap, ◌∙◌, subst, if◌then◌else◌}
use Rattle.outcomes.specs.Outcome.{Out, done}
use Rattle.outcomes.specs.Agreement.{Direction, backward, Sim}
use Rattle.outcomes.proofs.Simulation.{sim_done, sim_going, sim_weaken}
use Rattle.array_code.proofs.Tested.{array_casts_tell}
use Rattle.array_code.specs.ArrayTests.{ArrayCastStands}
use Rattle.array_code.specs.Codes.{helper_call}
use Rattle.array_code.specs.FailureVariants.{Cast}
use Rattle.array_code.specs.HelperVariants.{CastToArray, TestOfArray, Throws}
use Rattle.dispatch_laws.specs.Meaning as ir_meaning
use Rattle.dispatch_laws.specs.Operators.{answers}
use Rattle.dispatch_laws.specs.States as ir
use Rattle.dispatch_laws.specs.World as ir_world
use Rattle.js_mean.specs.Meaning as js_meaning
use Rattle.js_mean.specs.States as js
use Rattle.js_tree.specs.Terms.{Name}
use Rattle.sj_names.proofs.Same.{impossible}
use Rattle.sj_names.specs.declared.references.ArrayRef.{ArrayRef}
use Rattle.agree_bodies.specs.Settings.{Place, SameState, depth_of, Valued, valued, a_cast, a_test, a_helper, top_call}
use Rattle.agree_bodies.specs.Worlds.{World, Shaped, SameValue}
use Rattle.agree_bodies.specs.AgreePlainTreesStanding.{suits}
use Rattle.agree_bodies.proofs.Worlds.{grows-refl, Stands, same_undefined, same_null, same_boolean, same_char, same_box, same_number, same_long, same_text, same_reference}
use Rattle.sj_trees.specs.declared.types.IrType.TheVariants.{Any, Array}
use Rattle.agree_calls.specs.Helpers.{Failed, helper_code}
use Rattle.agree_calls.proofs.ArrayTesting.{Told, told_so, still_going}
use Rattle.agree_calls.proofs.Casting.{cast_exception}
use Rattle.agree_calls.proofs.Helps.{FailsOn}
use Rattle.agree_calls.proofs.Reading.{failed_any}

-- a value that is an array of the type is of its kind, and has its shape
abbrev pub ArraysSuit : Place → World → ir.State → ArrayRef → Type 0
ArraysSuit p w s r = (v : ir.Value) (x : js.Value) → Stands w false v x → ir_world.is_array_value p.classes s v r ≡ true → (suits (Array r) v ≡ true) × Shaped w v (Array r)

module _ (d : Direction) (p : Place) (low : ir_meaning.Low) (i : ℕ) (r : ArrayRef) (us : List ℕ) (w : World) (env : ir.Env) (s : ir.State) (u : js.State) (base : js.Value) (same : SameState p w s u) (suit : ArraysSuit p w s r) (uses : ArrayCastStands p.program (p.home (a_cast (Array r))) u) (test_home : uses.test.home ≡ p.home (a_test (Array r))) (cast_home : uses.cast.home ≡ p.home (a_helper (Throws Cast))) (named : ir_world.type_text (Array r) ≡ us) (fails : FailsOn d p low i (Throws Cast) (js.text us ∷ []) cast_exception us) (tells : (v : ir.Value) (x : js.Value) → Stands w false v x → Told d (helper_call p.program i (p.home (a_test (Array r))) TestOfArray (x ∷ depth_of r ∷ base ∷ []) u) (ir_world.is_array_value p.classes s v r) u) (code : (vs : List js.Value) (low : js_meaning.Low) → top_call p low (a_cast (Array r)) vs u ≡ js_meaning.code_call low (p.home (a_cast (Array r))) (Some (helper_code CastToArray)) vs u) where
  abbrev calls : js.Value → Out js.ExpressionEnd
  calls x = top_call p (js_meaning.below p.program (suc i)) (a_cast (Array r)) (x ∷ depth_of r ∷ base ∷ js.text us ∷ []) u

  abbrev Gives : Out ir.Ended → Out js.ExpressionEnd → Type 0
  Gives = Sim d (Valued p w env (Array r))

  null_cast : Gives (ir.given ir.null env s) (calls js.null)
  null_cast = subst (Gives (ir.given ir.null env s)) (sym (code (js.null ∷ depth_of r ∷ base ∷ js.text us ∷ []) (js_meaning.below p.program (suc i)) ∙ array_casts_tell.of_null p.program i (p.home (a_cast (Array r))) u (depth_of r) base (js.text us))) (sim_done d (Valued p w env (Array r)) (ir.ends (ir.gives ir.null) env s) (js.gives js.null u) (valued w ir.null js.null s u (grows-refl w) (record { stands = same_null; suits = refl; shaped = tt }) same))

  -- what is cast, where the test tells this
  decide : (v : ir.Value) (x : js.Value) → Stands w false v x → (b : Bool) → ir_world.is_array_value p.classes s v r ≡ b → calls x ≡ (if b then done (js.gives x u) else helper_call p.program i uses.cast.home (Throws Cast) (js.text us ∷ []) u) → Gives (ir_meaning.answered p.classes low (if b then answers v else ir_meaning.cast_failure (Array r)) env s) (calls x)
  decide v x a true e is = let q = suit v x a e in subst (Gives (ir.given v env s)) (sym is) (sim_done d (Valued p w env (Array r)) (ir.ends (ir.gives v) env s) (js.gives x u) (valued w v x s u (grows-refl w) (record { stands = a; suits = q.0; shaped = q.1 }) same))
  decide v x a false e is =
      let thrown_by : calls x ≡ top_call p (js_meaning.below p.program i) (a_helper (Throws Cast)) (js.text us ∷ []) u = is ∙ ap (λ (f : Name). helper_call p.program i f (Throws Cast) (js.text us ∷ []) u) cast_home in
      subst (λ (t : List ℕ). Gives (ir_meaning.raise p.classes low cast_exception t env s) (calls x)) (sym named)
      (subst (Gives (ir_meaning.raise p.classes low cast_exception us env s)) (sym thrown_by) (sim_weaken d (Failed p w env) (Valued p w env (Array r)) _ _ (λ a b. failed_any p w env (Array r) a b) (fails w env s u same)))

  abbrev asked : js.Value → Out js.ExpressionEnd
  asked x = helper_call p.program i uses.test.home TestOfArray (x ∷ depth_of r ∷ base ∷ []) u

  asked_is : (x : js.Value) → asked x ≡ helper_call p.program i (p.home (a_test (Array r))) TestOfArray (x ∷ depth_of r ∷ base ∷ []) u
  asked_is x = ap (λ (f : Name). helper_call p.program i f TestOfArray (x ∷ depth_of r ∷ base ∷ []) u) test_home

  called : (x : js.Value) → calls x ≡ js_meaning.code_call (js_meaning.below p.program (suc i)) (p.home (a_cast (Array r))) (Some (helper_code CastToArray)) (x ∷ depth_of r ∷ base ∷ js.text us ∷ []) u
  called x = code (x ∷ depth_of r ∷ base ∷ js.text us ∷ []) (js_meaning.below p.program (suc i))

  by_test : (v : ir.Value) (x : js.Value) → Stands w false v x → (x ≡ js.null → ⊥) → Told d (helper_call p.program i (p.home (a_test (Array r))) TestOfArray (x ∷ depth_of r ∷ base ∷ []) u) (ir_world.is_array_value p.classes s v r) u → Gives (ir_meaning.answered p.classes low (if ir_world.is_array_value p.classes s v r then answers v else ir_meaning.cast_failure (Array r)) env s) (calls x)
  by_test v x a apart (told_so is) = decide v x a (ir_world.is_array_value p.classes s v r) refl (called x ∙ array_casts_tell.of_other p.program i (p.home (a_cast (Array r))) u x (depth_of r) base us (ir_world.is_array_value p.classes s v r) uses apart (asked_is x ∙ is))
  by_test v x a apart (still_going back is) =
      subst (λ (q : Direction). Sim q (Valued p w env (Array r)) answered (calls x)) (sym back)
      (subst (Sim backward (Valued p w env (Array r)) answered) (sym (called x ∙ array_casts_tell.test_going p.program i (p.home (a_cast (Array r))) u x (depth_of r) base (js.text us) uses apart (asked_is x ∙ is))) (sim_going (Valued p w env (Array r)) answered))
    where
      answered : Out ir.Ended
      answered = ir_meaning.answered p.classes low (if ir_world.is_array_value p.classes s v r then answers v else ir_meaning.cast_failure (Array r)) env s

  other_cast : (v : ir.Value) (x : js.Value) → Stands w false v x → (x ≡ js.null → ⊥) → Gives (ir_meaning.answered p.classes low (if ir_world.is_array_value p.classes s v r then answers v else ir_meaning.cast_failure (Array r)) env s) (calls x)
  other_cast v x a apart = by_test v x a apart (tells v x a)

  -- the cast to a type of arrays, and the helper
  pub casts_alike : (v : ir.Value) (x : js.Value) → SameValue w Any v x → Gives (ir_meaning.answered p.classes low (ir_meaning.cast_answer p.classes (Array r) s v) env s) (calls x)
  casts_alike v x a = by v x a.stands
    where
      by : (v : ir.Value) (x : js.Value) → Stands w false v x → Gives (ir_meaning.answered p.classes low (ir_meaning.cast_answer p.classes (Array r) s v) env s) (calls x)
      by _ _ same_undefined = other_cast ir.undefined js.undefined same_undefined (λ e. cc)
      by _ _ same_null = null_cast
      by _ _ (same_boolean b) = other_cast (ir.boolean b) (js.boolean b) (same_boolean b) (λ e. cc)
      by _ _ (same_char e c f) = impossible e
      by _ _ (same_box e c a f b) = other_cast (ir.char c) (js.object a) (same_box e c a f b) (λ e. cc)
      by _ _ (same_number z f) = other_cast (ir.number z) (js.number z) (same_number z f) (λ e. cc)
      by _ _ (same_long z f) = other_cast (ir.long z) (js.big_int z) (same_long z f) (λ e. cc)
      by _ _ (same_text us) = other_cast (ir.text us) (js.text us) (same_text us) (λ e. cc)
      by _ _ (same_reference i a there) = other_cast (ir.reference i) (js.object a) (same_reference i a there) (λ e. cc)
