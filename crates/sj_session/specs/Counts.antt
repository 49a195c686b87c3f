-- What an edit counts.
use Rattle.std.specs.Prelude.{◌≡◌, ◌≤◌, ℕ, List, Result, Ok, Err, length}
use Rattle.sj_names.specs.declared.counters.Meter.{Meter}
use Rattle.sj_names.specs.declared.entry_points.EntryPoint.{EntryPoint}
use Rattle.sj_names.specs.declared.folders.SourceFile.{SourceFile}
use Rattle.sj_world.specs.declared.facts.Fact.{Fact}
use Rattle.folder_linking.specs.Verdicts.{accepted, IsVerdict}
use Rattle.folder_judging.specs.Counts.{raised_by, bodies_among, ChecksAtMost}
use Rattle.folder_judging.specs.Judging.{AreFactsIn}
use Rattle.sj_session.specs.declared.answers.Report.{Report}
use Rattle.sj_session.specs.declared.editing.Edit.{Edit}
use Rattle.folder_judging.specs.declared.errors.JudgeError.{JudgeError}
use Rattle.folder_judging.specs.declared.errors.JudgeError.TheVariants.{Refused, NoMemory}

-- so many reads, checks and emissions more
abbrev pub with_work : ℕ → ℕ → ℕ → Meter → Meter
with_work reads checks emits m = record m { read = raised_by reads m.read; checked = raised_by checks m.checked; emitted = raised_by emits m.emitted }

module _ (entries : List EntryPoint) (files : List SourceFile) where
  -- so many emissions are no more than there are bodies that are needed, in a folder whose edit is accepted
  pub data EmitsAtMost : ℕ → Type 0 where
    none : EmitsAtMost 0
    bodies : (facts : List Fact) (n : ℕ) → IsVerdict entries files accepted → AreFactsIn entries files facts → n ≤ bodies_among facts → EmitsAtMost n

  -- no more files are read than there are, no more bodies checked than are needed, and none emitted
  pub record CountsRefused (old new : Meter) : Type 0 where
    pub reads : ℕ
    pub checks : ℕ
    pub few_reads : reads ≤ length files
    pub few_checks : ChecksAtMost (AreFactsIn entries files) checks
    pub counted : new ≡ with_work reads checks 0 old

  -- and no more emitted than are needed
  pub record CountsSome (old new : Meter) : Type 0 where
    pub reads : ℕ
    pub checks : ℕ
    pub emits : ℕ
    pub few_reads : reads ≤ length files
    pub few_checks : ChecksAtMost (AreFactsIn entries files) checks
    pub few_emits : EmitsAtMost emits
    pub counted : new ≡ with_work reads checks emits old

  -- what the report tells is counted; where the folder is refused, no more than it asks for, and nothing is emitted; where no memory was left, no more
  abbrev pub CountsEdit : Result Report JudgeError → Meter → Meter → Type 0
  CountsEdit (Ok report) old new = new ≡ with_work report.read report.checked report.emitted old
  CountsEdit (Err (Refused code place)) old new = CountsRefused old new
  CountsEdit (Err NoMemory) old new = CountsSome old new

  -- the same of the files and the report
  abbrev pub CountsMade : Result Edit JudgeError → Meter → Meter → Type 0
  CountsMade (Ok edit) old new = CountsEdit (Ok edit.report) old new
  CountsMade (Err e) old new = CountsEdit (Err e) old new
