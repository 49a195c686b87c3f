-- The casts to classes: each gives null, and a value of which the test of the class is true as it is.
use Rattle.std.proofs.Common.{◌≡◌, ℕ, suc, ◌≤◌, Bool, true, false, List, [], ◌∷◌, Option, Some, refl, sym, ap, ◌∙◌, subst, if◌then◌else◌}
use Rattle.outcomes.specs.Outcome.{Out, done}
use Rattle.outcomes.specs.Agreement.{Direction, forward, backward, Sim}
use Rattle.outcomes.proofs.Simulation.{sim_done, sim_going, sim_weaken}
use Rattle.array_code.proofs.Classed.{class_casts_tell}
use Rattle.array_code.proofs.Shortly.{short_casts_go}
use Rattle.array_code.specs.Classes.{class_cast_code, ClassCastStands}
use Rattle.array_code.specs.Kinds.{failed}
use Rattle.array_code.specs.Words.{units_of}
use Rattle.array_code.specs.FailureVariants.{Cast}
use Rattle.array_code.specs.HelperVariants.{Throws}
use Rattle.dispatch_laws.specs.Meaning as ir_meaning
use Rattle.dispatch_laws.specs.Operators.{answers}
use Rattle.dispatch_laws.specs.States as ir
use Rattle.dispatch_laws.specs.World as ir_world
use Rattle.js_mean.specs.Meaning as js_meaning
use Rattle.js_mean.specs.States as js
use Rattle.js_tree.specs.Terms.{Name}
use Rattle.dispatch_laws.specs.Tests.{test_name}
use Rattle.agree_bodies.proofs.Worlds.{World, grows-refl, shaped-other, SameValue, Stands, same_null}
use Rattle.agree_bodies.specs.Settings.{Place, SameState, Valued, valued, thrown, a_test, a_cast, a_helper, top_call}
use Rattle.agree_bodies.specs.AgreePlainTreesStanding.{suits}
use Rattle.sj_trees.specs.declared.types.IrType.{IrType}
use Rattle.sj_trees.specs.declared.types.IrType.TheVariants.{Any, Class}
use Rattle.dispatch_laws.specs.SjWorldLaws.{IsPlain}
use Rattle.agree_calls.specs.Helpers.{Failed, failed_so}
use Rattle.agree_calls.specs.Worlds.{CanCastClass}
use Rattle.agree_calls.proofs.Casting.{cast_exception, throwing_there}
use Rattle.agree_calls.proofs.ClassTesting.{Sorted, both_null, neither_null, sorted, test_call, Tells, tells, Comes, tells_it, goes_on, comes}
use Rattle.agree_calls.proofs.Helps.{FailsOn}

-- what a cast of a value other than null answers, by what the test of the type gives
answer_of : (classes : ir_world.World) (t : IrType) (s : ir.State) (v : ir.Value) (b : Bool) → (v ≡ ir.null → ⊥) → ir_meaning.is_instance_value classes t s v ≡ ir.boolean b → ir_meaning.cast_answer classes t s v ≡ (if b then answers v else ir_meaning.cast_failure t)
answer_of classes t s v b there e = by v there e
  where
    one_boolean : (a b : Bool) → ir.boolean a ≡ ir.boolean b → a ≡ b
    one_boolean a b e = cc

    chosen : (v : ir.Value) → ir.boolean (ir_world.is_of_type classes s v t) ≡ ir.boolean b → (if ir_world.is_of_type classes s v t then answers v else ir_meaning.cast_failure t) ≡ (if b then answers v else ir_meaning.cast_failure t)
    chosen v e = ap (λ (q : Bool). if q then answers v else ir_meaning.cast_failure t) (one_boolean (ir_world.is_of_type classes s v t) b e)

    by : (v : ir.Value) → (v ≡ ir.null → ⊥) → ir_meaning.is_instance_value classes t s v ≡ ir.boolean b → ir_meaning.cast_answer classes t s v ≡ (if b then answers v else ir_meaning.cast_failure t)
    by ir.undefined there e = chosen ir.undefined e
    by ir.null there e = absurd (there refl)
    by (ir.boolean c) there e = chosen (ir.boolean c) e
    by (ir.char c) there e = chosen (ir.char c) e
    by (ir.number z) there e = chosen (ir.number z) e
    by (ir.long z) there e = chosen (ir.long z) e
    by (ir.text us) there e = chosen (ir.text us) e
    by (ir.reference i) there e = chosen (ir.reference i) e

module _ (p : Place) (plain : IsPlain p.classes) (w : World) (s : ir.State) (u : js.State) (same : SameState p w s u) (c : List ℕ) (can : CanCastClass p c) where
  abbrev file : Name
  file = p.home (a_cast (Class c))

  abbrev uses_stand : ClassCastStands p.program file u c
  uses_stand = record {
    test_home = p.home (a_test (Class c));
    test = record { const = false; cell_is = ap (λ (o : Option Name). js_meaning.top_cell o (test_name (Class c)) u) can.owned ∙ same.tops can.user (a_test (Class c)) can.usable };
    throwing_home = p.home (a_helper (Throws Cast));
    throwing = record { const = false; cell_is = throwing_there p w s u same file can.throws };
  }

  module _ (d : Direction) (low : ir_meaning.Low) (env : ir.Env) where
    -- what a cast answers, and its function within these units
    abbrev Alike : Out ir.Ended → ℕ → js.Value → Type 0
    Alike o n x = Sim d (Valued p w env (Class c)) o (js_meaning.code_call (js_meaning.below p.program n) file (Some (class_cast_code c)) (x ∷ []) u)

    null_cast : (n : ℕ) → Alike (ir.given ir.null env s) (suc n) js.null
    null_cast n = subst (Sim d (Valued p w env (Class c)) (ir.given ir.null env s)) (sym (class_casts_tell.of_null p.program n file u c)) (sim_done d (Valued p w env (Class c)) (ir.ends (ir.gives ir.null) env s) (js.gives js.null u) (valued w ir.null js.null s u (grows-refl w) (record { stands = same_null; suits = refl; shaped = tt }) same))

    module _ (n : ℕ) (fails : FailsOn d p low n (Throws Cast) (js.text (units_of c) ∷ []) cast_exception (units_of c)) where
      -- by what the test tells
      decided : (v : ir.Value) (x : js.Value) → Stands w false v x → (b : Bool) → (b ≡ true → suits (Class c) v ≡ true) → js_meaning.code_call (js_meaning.below p.program (suc n)) file (Some (class_cast_code c)) (x ∷ []) u ≡ (if b then done (js.gives x u) else failed p.program n (p.home (a_helper (Throws Cast))) (units_of c) u) → Alike (ir_meaning.answered p.classes low (if b then answers v else ir_meaning.cast_failure (Class c)) env s) (suc n) x
      decided v x a true suited is = subst (Sim d (Valued p w env (Class c)) (ir.given v env s)) (sym is) (sim_done d (Valued p w env (Class c)) (ir.ends (ir.gives v) env s) (js.gives x u) (valued w v x s u (grows-refl w) (record { stands = a; suits = suited refl; shaped = shaped-other w (Class c) v refl }) same))
      decided v x a false suited is = subst (λ us. Alike (ir_meaning.raise p.classes low cast_exception us env s) (suc n) x) can.named (subst (Sim d (Valued p w env (Class c)) (ir_meaning.raise p.classes low cast_exception (units_of c) env s)) (sym is) (sim_weaken d (Failed p w env) (Valued p w env (Class c)) (ir_meaning.raise p.classes low cast_exception (units_of c) env s) (top_call p (js_meaning.below p.program n) (a_helper (Throws Cast)) (js.text (units_of c) ∷ []) u) each (fails w env s u same)))
        where
          each : (a : ir.Ended) (b : js.ExpressionEnd) → Failed p w env a b → Valued p w env (Class c) a b
          each _ _ (failed_so y v q s u g k same) = thrown y v q s u g k same

      other_cast : (v : ir.Value) (x : js.Value) → Stands w false v x → (v ≡ ir.null → ⊥) → (x ≡ js.null → ⊥) → (t : Tells p plain w s u same c v x) → Comes p plain w s u same d (test_call p plain w s u same c x n) t.told → Alike (ir_meaning.answered p.classes low (ir_meaning.cast_answer p.classes (Class c) s v) env s) (suc n) x
      other_cast v x a there jthere t (tells_it is) = subst (λ o. Alike (ir_meaning.answered p.classes low o env s) (suc n) x) (sym (answer_of p.classes (Class c) s v t.told there t.by_ir)) (decided v x a t.told t.suits_it (class_casts_tell.of_other p.program n file u c x t.told uses_stand jthere is))
      other_cast v x a there jthere t (goes_on back is) = subst (λ q. Sim q (Valued p w env (Class c)) answered (js_meaning.code_call (js_meaning.below p.program (suc n)) file (Some (class_cast_code c)) (x ∷ []) u)) (sym back) (subst (Sim backward (Valued p w env (Class c)) answered) (sym (short_casts_go.test_going p.program n file u c x uses_stand jthere is)) (sim_going (Valued p w env (Class c)) answered))
        where
          answered : Out ir.Ended
          answered = ir_meaning.answered p.classes low (ir_meaning.cast_answer p.classes (Class c) s v) env s

      whole_cast : (d ≡ forward → 2 ≤ n) → (v : ir.Value) (x : js.Value) → Stands w false v x → Sorted v x → Alike (ir_meaning.answered p.classes low (ir_meaning.cast_answer p.classes (Class c) s v) env s) (suc n) x
      whole_cast enough _ _ a both_null = null_cast n
      whole_cast enough _ _ a (neither_null v x there jthere) = let t = tells p plain w s u same c can.test v x a in other_cast v x a there jthere t (comes p plain w s u same c v x t d n enough)

      -- a cast of a value, and its function
      pub class_casts_alike : (d ≡ forward → 2 ≤ n) → (v : ir.Value) (x : js.Value) → SameValue w Any v x → Sim d (Valued p w env (Class c)) (ir_meaning.answered p.classes low (ir_meaning.cast_answer p.classes (Class c) s v) env s) (top_call p (js_meaning.below p.program (suc n)) (a_cast (Class c)) (x ∷ []) u)
      class_casts_alike enough v x a = subst (λ o. Sim d (Valued p w env (Class c)) (ir_meaning.answered p.classes low (ir_meaning.cast_answer p.classes (Class c) s v) env s) (js_meaning.code_call (js_meaning.below p.program (suc n)) file o (x ∷ []) u)) (sym can.cast) (whole_cast enough v x a.stands (sorted w v x a.stands))
