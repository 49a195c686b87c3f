-- Laws of reachable facts.
use Rattle.std.specs.Prelude.{◌≡◌, Bool, true, List}
use Rattle.sj_names.specs.declared.entry_points.EntryPoint.{EntryPoint}
use Rattle.sj_ask.specs.Known.{Classes}
use Rattle.sj_ask.specs.Fact.{Fact}
use Rattle.sj_reach_spec.specs.Rules.{Rule}
use Rattle.sj_reach_spec.specs.Reachable.{Reachable}

-- what follows from reachable facts is reachable
abbrev pub ReachableFactsAreClosed : Type 0
ReachableFactsAreClosed = (w : Classes) (entries : List EntryPoint) (f : Fact) → Rule w entries (Reachable w entries) f → Reachable w entries f

-- what tests true of all that follows from facts of which it tests true, tests true of each reachable fact: no fewer facts are closed
abbrev pub ReachableFactsAreLeast : Type 0
ReachableFactsAreLeast = (w : Classes) (entries : List EntryPoint) (test : Fact → Bool) → ((f : Fact) → Rule w entries (λ g. test g ≡ true) f → test f ≡ true) → (f : Fact) → Reachable w entries f → test f ≡ true
