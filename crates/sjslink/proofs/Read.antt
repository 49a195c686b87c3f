-- An edit of what is read of a folder is one of the folder.
use Rattle.std.proofs.Common.{ℕ, List, subst}
use Rattle.sj_names.specs.declared.entry_points.EntryPoint.{EntryPoint}
use Rattle.sj_names.specs.declared.folders.SourceFile.{SourceFile}
use Rattle.sj_world.specs.Known.{Classes}
use Rattle.folder_files.specs.Files.{IsReadOf}
use Rattle.sj_session.specs.Verdicts.{Verdict, accepted, refused, IsVerdict}
use Rattle.sj_session.specs.Accepted.{IsAccepted}
use Rattle.sj_session.specs.Edits.{IsLinkOf, IsWork}
use Rattle.read_verdicts.proofs.Read.{same_verdict, whole_read}
use Rattle.sj_split.specs.declared.plans.Style.{Style}
use Rattle.sjslink.specs.Editing.{IsShownEdit}
use Rattle.sjslink.specs.Headline.{ShowFolder, Answer, IsAnswer, is_linked, is_refused}
use Rattle.sjslink.specs.Output.{Edited, IsEditOutput, linked, refuses}

module _ (entries : List EntryPoint) (files read : List SourceFile) (is : IsReadOf files read) where
  -- of a folder that is accepted all is read
  accepted_whole : (P : List SourceFile → Type 0) (w : Classes) → IsAccepted entries read w → P read → P files
  accepted_whole P w a p = subst P (whole_read files read is a.small) p

  -- the verdict on an edit
  verdict_of_read : (v : Verdict) → IsVerdict entries read v → IsVerdict entries files v
  verdict_of_read v h = (same_verdict entries files read v is).0 h

  module _ (out : List ℕ) (style : Style) (number : ℕ) where
    output_of_read : (e : Edited) → IsEditOutput out entries style number read e → IsEditOutput out entries style number files e
    output_of_read _ (linked fs work v l k) = linked fs work (verdict_of_read accepted v) (accepted_whole (λ all. IsLinkOf entries all style fs) l.world l.is_accepted l) (accepted_whole (λ all. IsWork entries all work) l.world l.is_accepted k)
    output_of_read _ (refuses code place v) = refuses code place (verdict_of_read (refused code place) v)

    answer_of_read : (a : Answer) → IsAnswer entries style read a → IsAnswer entries style files a
    answer_of_read _ (is_linked fs v show) = is_linked fs (verdict_of_read accepted v) (accepted_whole (λ all. ShowFolder entries style all fs) show.world show.is_accepted show)
    answer_of_read _ (is_refused code place v) = is_refused code place (verdict_of_read (refused code place) v)

    -- what is written for it
    pub edit_of_read : (e : Edited) → IsShownEdit out entries style number read e → IsShownEdit out entries style number files e
    edit_of_read e s = record { is_output = output_of_read e s.is_output; answer = s.answer; is_answer = answer_of_read s.answer s.is_answer; put = s.put }
