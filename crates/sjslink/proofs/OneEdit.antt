-- What is written for an edit that a session takes or refuses.
use Rattle.std.proofs.Common.{◌≡◌, ℕ, true, false, List, [], ◌∷◌, ◌++◌, refl, sym, ap, subst, ◌∙◌, Option, map, length}
use Rattle.std.specs.Prelude.{Err}
use Rattle.std.proofs.lemmas.List.{length-map}
use Rattle.sj_agree.specs.Agrees.{Agrees}
use Rattle.sj_names.specs.declared.entry_points.EntryPoint.{EntryPoint}
use Rattle.sj_names.specs.declared.folders.Folder.{Folder}
use Rattle.sj_names.specs.declared.folders.SourceFile.{SourceFile}
use Rattle.sj_outside.specs.Writing.{Event, line, WritesFront}
use Rattle.sj_outside.specs.declared.answers.PutFile.{PutFile}
use Rattle.sj_session.specs.Verdicts.{accepted, refused, IsVerdict}
use Rattle.sj_session.specs.Edits.{IsLinkOf, IsWork}
use Rattle.sj_session.specs.Modules.{as_file}
use Rattle.sj_session.specs.ModuleFile.{ModuleFile}
use Rattle.sj_session.specs.Sessions.{Standing, IsTaken, ShowTheSame, work_told}
use Rattle.sj_session.specs.declared.answers.Report.{Report}
use Rattle.sj_split.specs.declared.plans.Style.{Style}
use Rattle.sjslink.specs.Editing.{WrittenCut, IsShownEdit, front_of, EditEnds}
use Rattle.sjslink.specs.Headline.{ShowFolder, linked_to, refused_with, is_linked, is_refused}
use Rattle.sjslink.specs.Output.{Edited, IsEditOutput, linked, refuses, accepted_line, refused_line, puts_of}
use Rattle.sjslink.specs.declared.editing.Fault.{Fault}
use Rattle.sjslink.specs.declared.editing.Fault.TheVariants.{Read, Write, NoMemory}
use Rattle.sjslink.proofs.Puts.{puts_before_line}

module _ (out : List ℕ) (number : ℕ) (old new : Standing) (files : List SourceFile) (modules : List ModuleFile) (text : List ℕ) where
  -- what is written for a folder that the session takes
  abbrev pub taken_events : List Event
  taken_events = puts_of out number (map as_file modules) ++ line text ∷ []

  abbrev pub taken_edit : Edited
  taken_edit = record { is_accepted = true; events = taken_events }

  pub taken : (folder : Folder) (report : Report) → folder.files ≡ files → modules ≡ new.files → text ≡ accepted_line number report.modules (work_told report) → IsTaken old folder report new → ShowTheSame old.entries folder new.files → IsShownEdit out old.entries old.options.style number files taken_edit
  taken folder report files_are modules_are text_is is show = record { is_output = output; answer = linked_to (map as_file modules); is_answer = is_linked (map as_file modules) verdict shows; put = puts_before_line out number (map as_file modules) text }
    where
      same : is.links ≡ modules
      same = sym (ap (λ (s : Standing). s.files) is.taken) ∙ sym modules_are

      verdict : IsVerdict old.entries files accepted
      verdict = subst (λ (fs : List SourceFile). IsVerdict old.entries fs accepted) files_are is.verdict

      link : IsLinkOf old.entries files old.options.style (map as_file modules)
      link = subst (λ (fs : List SourceFile). IsLinkOf old.entries fs old.options.style (map as_file modules)) files_are (subst (λ (ms : List ModuleFile). IsLinkOf old.entries folder.files old.options.style (map as_file ms)) same is.linked)

      shows : ShowFolder old.entries old.options.style files (map as_file modules)
      shows = subst (λ (fs : List SourceFile). ShowFolder old.entries old.options.style fs (map as_file modules)) files_are (subst (λ (ms : List ModuleFile). ShowFolder old.entries old.options.style folder.files (map as_file ms)) same (record {
        world = is.linked.world;
        is_accepted = is.linked.is_accepted;
        linked = is.linked;
        agrees = λ id named. subst (λ (ms : List ModuleFile). Agrees is.linked.world old.entries (map as_file ms) id) (ap (λ (s : Standing). s.files) is.taken) (show is.linked.world id is.linked.is_accepted named);
      }))

      work : IsWork old.entries files (work_told report)
      work = subst (λ (fs : List SourceFile). IsWork old.entries fs (work_told report)) files_are is.work

      count : report.modules ≡ length (map as_file modules)
      count = is.modules ∙ ap (λ (ms : List ModuleFile). length ms) same ∙ sym (length-map modules as_file)

      text_of : accepted_line number (length (map as_file modules)) (work_told report) ≡ text
      text_of = ap (λ n. accepted_line number n (work_told report)) (sym count) ∙ sym text_is

      output : IsEditOutput out old.entries old.options.style number files taken_edit
      output = subst (λ (t : List ℕ). IsEditOutput out old.entries old.options.style number files (record { is_accepted = true; events = puts_of out number (map as_file modules) ++ line t ∷ [] })) text_of (linked (map as_file modules) (work_told report) verdict link work)

module _ (out : List ℕ) (entries : List EntryPoint) (style : Style) (number : ℕ) (files : List SourceFile) where
  -- what is written for a folder that the session refuses
  abbrev pub refused_edit : List ℕ → Edited
  refused_edit text = record { is_accepted = false; events = line text ∷ [] }

  pub refuses_edit : (others : List SourceFile) (code : ℕ) (place shown text : List ℕ) → others ≡ files → shown ≡ place → text ≡ refused_line number code shown → IsVerdict entries others (refused code place) → IsShownEdit out entries style number files (refused_edit text)
  refuses_edit others code place shown text files_are place_is text_is verdict =
      let of_files : IsVerdict entries files (refused code place) = subst (λ (fs : List SourceFile). IsVerdict entries fs (refused code place)) files_are verdict in
      let same : refused_line number code place ≡ text = ap (refused_line number code) (sym place_is) ∙ sym text_is in
      record { is_output = subst (λ (t : List ℕ). IsEditOutput out entries style number files (refused_edit t)) same (refuses code place of_files); answer = refused_with code place; is_answer = is_refused code place of_files; put = refl }

  -- an edit of which the writing was cut off
  pub edit_cut : (p0 p1 : Option (List PutFile)) (t0 t1 : Option (List ℕ)) (e : Edited) (cause : Type 0) (fault : Fault) → IsShownEdit out entries style number files e → WrittenCut (WritesFront p0 p1 t0 t1 e.events) cause fault → EditEnds out entries style number files p0 p1 t0 t1 (Err fault)
  edit_cut p0 p1 t0 t1 e cause Read s w = w
  edit_cut p0 p1 t0 t1 e cause Write s w = front_of e s w.0
  edit_cut p0 p1 t0 t1 e cause NoMemory s w = front_of e s w
