-- What is counted while a folder is judged.
use Rattle.std.specs.Prelude.{◌≡◌, ℕ, zero, suc, ◌≤◌, List, [], ◌∷◌, length, Result, Ok, Err}
use Rattle.sj_names.specs.Counting.{raised}
use Rattle.sj_names.specs.declared.counters.Meter.{Meter}
use Rattle.sj_names.specs.declared.method_names.Member.{Member}
use Rattle.sj_names.specs.declared.folders.SourceFile.{SourceFile}
use Rattle.sj_world.specs.Linked.{Linked}
use Rattle.sj_world.specs.declared.facts.Fact.{Fact}
use Rattle.sj_world.specs.declared.facts.Fact.TheVariants as fact
use Rattle.folder_judging.specs.declared.errors.JudgeError.{JudgeError}
use Rattle.folder_judging.specs.declared.errors.JudgeError.TheVariants.{Refused, NoMemory}

-- so many more, or the last value of 64 bits
abbrev pub raised_by : ℕ → ℕ → ℕ
raised_by zero n = n
raised_by (suc k) n = raised (raised_by k n)

abbrev pub with_reads : ℕ → Meter → Meter
with_reads k m = record m { read = raised_by k m.read }

abbrev pub with_checks : ℕ → Meter → Meter
with_checks k m = record m { checked = raised_by k m.checked }

-- the members whose bodies are needed
abbrev pub members_of : List Fact → List Member
members_of [] = []
members_of (fact.Body k ∷ facts) = k ∷ members_of facts
members_of (f ∷ facts) = members_of facts

-- how many bodies are needed
abbrev pub bodies_among : List Fact → ℕ
bodies_among facts = length (members_of facts)

-- so many checks are no more than there are bodies that are needed, in a folder of which these are the facts
pub data ChecksAtMost (AreFacts : List Fact → Type 0) : ℕ → Type 0 where
  none : ChecksAtMost AreFacts 0
  bodies : (facts : List Fact) (n : ℕ) → AreFacts facts → n ≤ bodies_among facts → ChecksAtMost AreFacts n

pub record HasChecked (AreFacts : List Fact → Type 0) (old new : Meter) : Type 0 where
  pub checks : ℕ
  pub most : ChecksAtMost AreFacts checks
  pub counted : new ≡ with_checks checks old

-- each needed body of a folder that is accepted is checked once; at most each is where it is refused for its types, and none before
abbrev pub CountsChecks : (List Fact → Type 0) → Result Linked JudgeError → Meter → Meter → Type 0
CountsChecks AreFacts (Ok l) old new = new ≡ with_checks (bodies_among l.facts) old
CountsChecks AreFacts (Err (Refused code place)) old new = HasChecked AreFacts old new × ((code ≡ 20 → ⊥) → new ≡ old)
CountsChecks AreFacts (Err NoMemory) old new = HasChecked AreFacts old new

pub record HasReadSome (files : List SourceFile) (old new : Meter) : Type 0 where
  pub reads : ℕ
  pub most : reads ≤ length files
  pub counted : new ≡ with_reads reads old

abbrev pub IsWhole : Result Linked JudgeError → ℕ → List SourceFile → Type 0
IsWhole (Ok l) reads files = reads ≡ length files
IsWhole (Err e) reads files = reads ≤ length files

-- each file of a folder that is accepted is read once, and at most each of any other; nothing else is counted but checks
pub record Counts (files : List SourceFile) (AreFacts : List Fact → Type 0) (result : Result Linked JudgeError) (old new : Meter) : Type 0 where
  pub reads : ℕ
  pub whole : IsWhole result reads files
  pub checked : CountsChecks AreFacts result (with_reads reads old) new

-- each file is read once, or some are where one is refused
abbrev pub HasRead : {A : Type 0} → List SourceFile → Result A JudgeError → Meter → Meter → Type 0
HasRead files (Ok a) old new = new ≡ with_reads (length files) old
HasRead files (Err e) old new = HasReadSome files old new
