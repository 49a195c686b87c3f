-- What is answered: the facts that are reachable, or the least of what doesn't resolve.
use Rattle.std.specs.Prelude.{◌≡◌, ◌↔◌, ℕ, Bool, false, List, Option, Some, None, Contains, if◌then◌else◌, ◌||◌, ◌&&◌, nat_lt, slice_get}
use Rattle.sj_names.specs.declared.entry_points.EntryPoint.{EntryPoint}
use Rattle.sj_world.specs.Known.{Classes, is_same}
use Rattle.sj_world.specs.Refusals.{is_before}
use Rattle.sj_world.specs.declared.facts.Fact.{Fact}
use Rattle.sj_reach_spec.specs.Reachable.{Reachable, Unresolved}
use Rattle.sj_reach_spec.specs.Refusals.{Refusal, code, place}
use Rattle.sj_reach.specs.declared.findings.Report.{Report}
use Rattle.sj_reach.specs.declared.findings.Findings.{Findings}
use Rattle.sj_reach.specs.declared.errors.ReachError.{ReachError}
use Rattle.sj_reach.specs.declared.errors.ReachError.TheVariants.{Refused, NoMemory}
use Rattle.sj_reach.specs.Conclusions.{report}

-- one is told before the other: by the bytes of the place, then by the code
abbrev pub comes_first : Report → Report → Bool
comes_first a b = is_before a.place b.place || (is_same a.place b.place && nat_lt a.code b.code)

-- each fact stands in one place
pub record StandOnce (facts : List Fact) : Type 0 where
  pub once : (i j : ℕ) (f : Fact) → slice_get facts i ≡ Some f → slice_get facts j ≡ Some f → i ≡ j

module _ (w : Classes) (entries : List EntryPoint) where
  -- exactly the facts that are reachable, each once, and all that they ask for resolves
  pub record AreReachable (facts : List Fact) : Type 0 where
    pub exact : (f : Fact) → Contains facts f ↔ Reachable w entries f
    pub once : StandOnce facts
    pub resolved : (r : Refusal) → Unresolved w entries r → ⊥

  -- it is told of something that doesn't resolve, and of nothing that does so is told before
  pub record IsLeastTold (told : Report) : Type 0 where
    pub refusal : Refusal
    pub unresolved : Unresolved w entries refusal
    pub told_is : told ≡ report refusal
    pub least : (other : Refusal) → Unresolved w entries other → comes_first (report other) told ≡ false

  abbrev pub IsRefused : ReachError → Type 0
  IsRefused (Refused code place) = IsLeastTold (record { code = code; place = place })
  IsRefused NoMemory = Unit {0}

  -- it is told of something that doesn't resolve
  pub record IsTold (told : Report) : Type 0 where
    pub refusal : Refusal
    pub unresolved : Unresolved w entries refusal
    pub told_is : report refusal ≡ told

  -- all that is reachable, and all that is told of it
  pub record AllFound (found : Findings) : Type 0 where
    pub facts : (f : Fact) → Contains found.facts.keys f ↔ Reachable w entries f
    pub reports : (r : Report) → Contains found.reports.items r ↔ IsTold r
    pub once : StandOnce found.facts.keys

-- one of them, before which none is told
pub record IsLeastReport (reports : List Report) (r : Report) : Type 0 where
  pub among : Contains reports r
  pub least : (other : Report) → Contains reports other → comes_first other r ≡ false

abbrev pub AreLeast : List Report → ReachError → Type 0
AreLeast reports (Refused code place) = IsLeastReport reports (record { code = code; place = place })
AreLeast reports NoMemory = Unit {0}

-- the one that is told first, the earlier one where both are told alike
abbrev pub first_told : Option Report → Report → Report
first_told None r = r
first_told (Some least) r = if comes_first r least then r else least
