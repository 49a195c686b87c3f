-- What calls answer, as ends of tasks.
use Rattle.std.specs.Prelude.{◌≡◌, ℕ, Bool, true, Result, Ok, Err}
use Rattle.sj_trees.specs.declared.classes.MethodDef.{MethodDef}
use Rattle.sj_ask.specs.Known.{Classes}
use Rattle.sj_ask.specs.declared.errors.TypeError.{TypeError}
use Rattle.sj_ask.specs.declared.errors.TypeError.TheVariants.{Refused, NoMemory}
use Rattle.sj_ask.specs.declared.questions.Question.{Question}
use Rattle.sj_ask.specs.declared.questions.Answer.{Answer}
use Rattle.sj_ask.specs.Tasks.{done, stop}
use Rattle.sj_ask.specs.Told.{Told}
use Rattle.sj_ask.specs.Runs.{Ran}
use Rattle.sj_typing_spec.specs.declared.rows.Checked.{Checked}
use Rattle.sj_typing_spec.specs.Checks.{Checking}
use Rattle.sj_typing_spec.specs.Typed.{IsTyped, IsUntyped}

-- whether what a checked tree names may be assigned to
abbrev pub seen : Result Checked TypeError → Result Bool TypeError
seen (Ok x) = Ok x.settable
seen (Err e) = Err e

abbrev pub agreed : Result (Unit {0}) TypeError → Result Bool TypeError
agreed (Ok _) = Ok true
agreed (Err e) = Err e

-- an end as a task that is at its end
abbrev pub ended : Result Bool TypeError → Checking
ended (Ok r) = done r
ended (Err e) = stop e

-- the number behind the second, and what may be assigned to by the first
abbrev pub behind : Checked → Result Checked TypeError → Result Checked TypeError
behind first (Ok second) = Ok (record { next = second.next; settable = first.settable })
behind first (Err e) = Err e

abbrev pub numbered : Result Bool TypeError → ℕ → Result Checked TypeError
numbered (Ok settable) next = Ok (record { next = next; settable = settable })
numbered (Err e) next = Err e

-- the task was run to this end, unless memory ran out
pub data AsRun (Is : Question → Answer → Type 0) (m : Checking) (r : Result Bool TypeError) (before after : Told) : Type 0 where
  as_ran : Ran Is m r before after → AsRun Is m r before after
  no_memory : r ≡ Err NoMemory → AsRun Is m r before after

-- what the check of a method says, unless memory ran out: that it is typed, or what fails first
abbrev pub IsVerdict : Classes → MethodDef → Result (Unit {0}) TypeError → Type 0
IsVerdict w m (Ok _) = IsTyped w m
IsVerdict w m (Err (Refused rule place)) = IsUntyped w m rule place
IsVerdict w m (Err NoMemory) = Unit {0}
