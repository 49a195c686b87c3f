-- What is concluded while facts are gone through, and what a step adds to what was found.
use Rattle.std.specs.Prelude.{◌≡◌, ◌⊎◌, List, ◌++◌, Contains}
use Rattle.sj_world.specs.declared.facts.Fact.{Fact}
use Rattle.sj_reach_spec.specs.Refusals as refusals
use Rattle.sj_reach.specs.declared.findings.Report.{Report}
use Rattle.sj_reach.specs.declared.findings.Findings.{Findings}

-- what is told of a refusal
abbrev pub report : refusals.Refusal → Report
report r = record { code = refusals.code r; place = refusals.place r }

-- a fact that follows, or something that doesn't resolve
pub data Conclusion : Type 0 where
  follows : Fact → Conclusion
  told : Report → Conclusion

abbrev pub tells : refusals.Refusal → Conclusion
tells r = told (report r)

-- it is among what was found
abbrev pub Holds : Findings → Conclusion → Type 0
Holds found (follows f) = Contains found.facts.keys f
Holds found (told r) = Contains found.reports.items r

-- just this is concluded
abbrev pub Just : Conclusion → Conclusion → Type 0
Just x y = x ≡ y

-- what was found stays, and just what is concluded is found besides
pub record Adds (Q : Conclusion → Type 0) (old new : Findings) : Type 0 where
  pub more : List Fact
  pub grows : new.facts.keys ≡ old.facts.keys ++ more
  pub keeps : (x : Conclusion) → Holds old x → Holds new x
  pub sound : (x : Conclusion) → Holds new x → Holds old x ⊎ Q x
  pub complete : (x : Conclusion) → Q x → Holds new x

-- it is concluded of one of the things in a list
pub record Among {X : Type 0} (xs : List X) (Q : X → Conclusion → Type 0) (x : Conclusion) : Type 0 where
  pub thing : X
  pub among : Contains xs thing
  pub concluded : Q thing x
