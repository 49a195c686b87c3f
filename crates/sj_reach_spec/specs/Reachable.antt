-- What is reachable: what stands at the end of a finite list of facts, each of which follows from those before it.
use Rattle.std.specs.Prelude.{List, [], ◌∷◌, Contains}
use Rattle.sj_names.specs.declared.entry_points.EntryPoint.{EntryPoint}
use Rattle.sj_ask.specs.Known.{Classes}
use Rattle.sj_ask.specs.Fact.{Fact}
use Rattle.sj_reach_spec.specs.Rules.{Rule}
use Rattle.sj_reach_spec.specs.Refusals.{Refusal, Asks}

module _ (w : Classes) (entries : List EntryPoint) where
  -- each fact follows from those behind it: the list is read from its end
  abbrev pub IsDerivation : List Fact → Type 0
  IsDerivation [] = Unit {0}
  IsDerivation (f ∷ fs) = Rule w entries (Contains fs) f × IsDerivation fs

  pub record Reachable (f : Fact) : Type 0 where
    pub earlier : List Fact
    pub derived : IsDerivation (f ∷ earlier)

  -- a reachable fact asks for something that isn't there, or that is of another kind
  abbrev pub Unresolved : Refusal → Type 0
  Unresolved r = Asks w entries Reachable r
