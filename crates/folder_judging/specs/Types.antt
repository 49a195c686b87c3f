-- What is known while bodies are checked one after the other.
use Rattle.std.specs.Prelude.{◌≡◌, ℕ, ◌≤◌, Bool, false, List, ◌++◌, codes, decimal, Option, Some, None, Result, Ok, Err, Contains}
use Rattle.sj_names.specs.declared.counters.Meter.{Meter}
use Rattle.sj_names.specs.declared.memory.NoMemory.{NoMemory}
use Rattle.sj_names.specs.declared.method_names.Member.{Member}
use Rattle.sj_trees.specs.declared.classes.MethodDef.{MethodDef}
use Rattle.sj_typing_spec.specs.Typed.{IsTyped, IsUntyped}
use Rattle.sj_world.specs.Known.{Classes}
use Rattle.sj_world.specs.Linked.{Linked}
use Rattle.sj_world.specs.Members.{IsMethodOf}
use Rattle.sj_world.specs.Refusals.{is_before}
use Rattle.sj_world.specs.declared.facts.Fact.{Fact}
use Rattle.sj_world.specs.declared.facts.Fact.TheVariants as fact
use Rattle.sj_reach.specs.Answers.{comes_first, first_told}
use Rattle.sj_reach.specs.declared.findings.Report.{Report}
use Rattle.sj_reach_spec.specs.Refusals.{spelled_member}
use Rattle.folder_judging_spec.specs.Stages.{rule_at, IsDefined}
use Rattle.folder_judging_spec.specs.Verdicts.{Verdict, refused}
use Rattle.folder_judging.specs.declared.errors.JudgeError.{JudgeError}
use Rattle.folder_judging.specs.Counts.{with_checks, bodies_among}
use Rattle.folder_judging.specs.declared.bodies.SpelledBody.{SpelledBody}

-- each member whose body is needed is defined, and has a body
pub record AreDefined (l : Linked) : Type 0 where
  pub each : (k : Member) → Contains l.facts (fact.Body k) → IsDefined l.world k

-- the method fails first at a tree with this tag
pub record FailsFirst (w : Classes) (d : MethodDef) (rule : ℕ) : Type 0 where
  pub place : ℕ
  pub untyped : IsUntyped w d rule place

-- the body of the member is typed
pub record IsTypedAt (w : Classes) (k : Member) : Type 0 where
  pub definition : MethodDef
  pub defined : IsMethodOf w k definition
  pub typed : IsTyped w definition

-- the body of the member fails first at a tree with this tag
pub record FailsAt (w : Classes) (k : Member) (rule : ℕ) : Type 0 where
  pub definition : MethodDef
  pub defined : IsMethodOf w k definition
  pub fails : FailsFirst w definition rule

abbrev pub IsChecked : Classes → Member → Option ℕ → Type 0
IsChecked w k None = IsTypedAt w k
IsChecked w k (Some rule) = FailsAt w k rule

-- what was found before, and with this body
pub data IsWithBody (w : Classes) (least : Option Report) (b : SpelledBody) : Option Report → Type 0 where
  kept : IsTypedAt w b.member.now → IsWithBody w least b least
  fails : (rule : ℕ) → FailsAt w b.member.now rule → IsWithBody w least b (Some (first_told least (rule_at rule b.spelled)))

-- one of these members fails so
pub record IsFailing (w : Classes) (Among : Member → Type 0) (r : Report) : Type 0 where
  pub member : Member
  pub among : Among member
  pub spelled : r.place ≡ spelled_member member
  pub fails : FailsAt w member r.code

-- and none of them before it
pub record IsLeastFailing (w : Classes) (Among : Member → Type 0) (r : Report) : Type 0 where
  pub failing : IsFailing w Among r
  pub least : (other : Report) → IsFailing w Among other → comes_first other r ≡ false

-- the least of these members that isn't typed, if one isn't
abbrev pub IsLeastAmong : Classes → (Member → Type 0) → Option Report → Type 0
IsLeastAmong w Among None = (k : Member) → Among k → IsTypedAt w k
IsLeastAmong w Among (Some r) = IsLeastFailing w Among r

abbrev pub IsNeeded : Linked → Member → Type 0
IsNeeded l k = Contains l.facts (fact.Body k)

abbrev pub IsLeastUntypedIn : Linked → Option Report → Type 0
IsLeastUntypedIn l = IsLeastAmong l.world (IsNeeded l)

-- the least that isn't typed is told, with the tag of what fails
pub record IsToldUntyped (l : Linked) (v : Verdict) : Type 0 where
  pub report : Report
  pub least : IsLeastUntypedIn l (Some report)
  pub told : v ≡ refused 20 (report.place ++ codes " " ++ decimal report.code)

-- what was found stands before this spelling
abbrev pub is_told_before : Option Report → List ℕ → Bool
is_told_before None spelled = false
is_told_before (Some r) spelled = is_before r.place spelled

-- a body is checked once, or not at all where no memory was left
pub record ChecksAtMostOne (old new : Meter) : Type 0 where
  pub checks : ℕ
  pub most : checks ≤ 1
  pub counted : new ≡ with_checks checks old

abbrev pub ChecksOne : {A : Type 0} → Result A NoMemory → Meter → Meter → Type 0
ChecksOne (Ok a) old new = new ≡ with_checks 1 old
ChecksOne (Err e) old new = ChecksAtMostOne old new

-- some of the needed bodies are checked
pub record ChecksSome (facts : List Fact) (old new : Meter) : Type 0 where
  pub checks : ℕ
  pub most : checks ≤ bodies_among facts
  pub counted : new ≡ with_checks checks old

-- each needed body is checked where all are typed
abbrev pub ChecksBodies : List Fact → Result (Option Report) NoMemory → Meter → Meter → Type 0
ChecksBodies facts (Ok None) old new = new ≡ with_checks (bodies_among facts) old
ChecksBodies facts (Ok (Some r)) old new = ChecksSome facts old new
ChecksBodies facts (Err e) old new = ChecksSome facts old new

-- each needed body is checked where all are typed
abbrev pub ChecksTypes : List Fact → Result (Unit {0}) JudgeError → Meter → Meter → Type 0
ChecksTypes facts (Ok u) old new = new ≡ with_checks (bodies_among facts) old
ChecksTypes facts (Err e) old new = ChecksSome facts old new
