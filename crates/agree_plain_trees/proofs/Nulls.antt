-- Where null has no meaning the first side of a simulation is wrong, which promises nothing.
use Rattle.std.proofs.Common.{◌≡◌, ◌⊎◌, inl, inr, sym, ap, subst}
use Rattle.outcomes.specs.Outcome.{Out, done, then_do}
use Rattle.outcomes.specs.Agreement.{Direction, Sim}
use Rattle.outcomes.proofs.Sequence.{then_do-right}
use Rattle.outcomes.proofs.Simulation.{sim_done, sim_wrong, sim_then}
use Rattle.ir_mean.specs.Meaning.{never_null}
use Rattle.ir_mean.specs.States as ir
use Rattle.ir_mean.proofs.NeverNull.{null_or_given}

module _ {B : Type 0} (d : Direction) (E : ir.Ended → B → Type 0) where
  given_alike : (v : ir.Value) (env : ir.Env) (s : ir.State) (b : B) → (v ≡ ir.null) ⊎ ((env : ir.Env) (s : ir.State) → never_null v env s ≡ ir.given v env s) → E (ir.ends (ir.gives v) env s) b → Sim d E (never_null v env s) (done b)
  given_alike v env s b (inl is) e = subst (λ (u : ir.Value). Sim d E (never_null u env s) (done b)) (sym is) (sim_wrong d E (done b))
  given_alike v env s b (inr is) e = subst (λ (o : Out ir.Ended). Sim d E o (done b)) (sym (is env s)) (sim_done d E (ir.ends (ir.gives v) env s) b e)

  pub never_null_alike : (o : Out ir.Ended) (p : Out B) → Sim d E o p → Sim d E (ir.go_on o never_null) p
  never_null_alike o p s = subst (λ (q : Out B). Sim d E (ir.go_on o never_null) q) (then_do-right p) (sim_then d E E o p (ir.onward never_null) (λ b. done b) s each)
    where
      each : (a : ir.Ended) (b : B) → E a b → Sim d E (ir.onward never_null a) (done b)
      each (ir.ends (ir.gives v) env s) b e = given_alike v env s b (null_or_given v) e
      each (ir.ends (ir.throws v) env s) b e = sim_done d E (ir.ends (ir.throws v) env s) b e
      each (ir.ends (ir.leaves l v) env s) b e = sim_done d E (ir.ends (ir.leaves l v) env s) b e
      each (ir.ends ir.stops env s) b e = sim_done d E (ir.ends ir.stops env s) b e
