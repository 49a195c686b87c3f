-- There is one output.
use Rattle.std.proofs.Common.{◌≡◌, ℕ, ◌+◌, true, false, List, [], ◌∷◌, ◌++◌, refl, sym, ap, subst, ◌∙◌, Option, Some, None, length}
use Rattle.std.specs.Prelude.{Result, Ok, Err}
use Rattle.std.specs.List.{flat_map}
use Rattle.js_mean.specs.Shows.{File}
use Rattle.sj_names.specs.declared.counters.Meter.{Meter}
use Rattle.sj_names.specs.declared.entry_points.EntryPoint.{EntryPoint}
use Rattle.sj_names.specs.declared.folders.SourceFile.{SourceFile}
use Rattle.sj_outside.specs.Contents.{Parts, is_well}
use Rattle.sj_outside.specs.Writing.{line}
use Rattle.sj_words.specs.declared.commands.Command.{Command}
use Rattle.sj_words.specs.declared.commands.Link.{Link}
use Rattle.sj_session.proofs.Firsts.{same_lists, standing}
use Rattle.sj_session.specs.Verdicts.{Verdict, accepted, refused}
use Rattle.sj_session.proofs.LinkedEdits.{one_folder_link, one_work}
use Rattle.sj_session.proofs.Verdict.{one_verdict}
use Rattle.entries_file.specs.EntriesFile.{entries_of}
use Rattle.entries_file.proofs.Steps.{valid_entries}
use Rattle.sj_names.specs.EntryPoints.{AreEntries}
use Rattle.sj_split.specs.declared.plans.Style.{Style}
use Rattle.sjslink.specs.Laws.{HasOneOutput}
use Rattle.sjslink.specs.Input.{IsLinkCommand, HasEntries, planned_style}
use Rattle.sjslink.specs.Output.{Output, no_command, bad_entries, edited, Edited, AreEdited, IsEdited, IsEditOutput, linked, refuses, accepted_line, refused_line, puts_of, events_of, status_of, entries_line}
use Rattle.sjslink.specs.declared.answers.Status.TheVariants.{BadEntries}
use Rattle.sjslink.proofs.OneFolder.{one_folder}

none_or_some : {X : Type 0} {o : Option X} {x : X} → o ≡ None → o ≡ Some x → ⊥
none_or_some e f = cc

ok_or_err : {X Y : Type 0} {r : Result X Y} {x : X} {y : Y} → r ≡ Ok x → r ≡ Err y → ⊥
ok_or_err e f = cc

same_link : (words : List (List ℕ)) (one other : Link) → IsLinkCommand words one → IsLinkCommand words other → one ≡ other
same_link words one other a b = inner one other (sym a ∙ b)
  where
    inner : (x y : Link) → Some (Command.Link x) ≡ Some (Command.Link y) → x ≡ y
    inner x y e = cc

-- an entries file says one thing
one_said : (contents : Parts) (path : List ℕ) (said other : Result (List EntryPoint) ℕ) → HasEntries contents path said → HasEntries contents path other → said ≡ other
one_said contents path said other a b = sym a.says ∙ ap entries_of (inner a.bytes b.bytes (sym a.is_file ∙ b.is_file)) ∙ b.says
  where
    inner : (x y : List ℕ) → Some x ≡ Some y → x ≡ y
    inner x y e = cc

not_both : {code : ℕ} {place : List ℕ} → accepted ≡ refused code place → ⊥
not_both e = cc

module _ (out : List ℕ) (entries : List EntryPoint) (valid : AreEntries entries) (style : Style) (number : ℕ) (files : List SourceFile) where
  abbrev linked_to : List File → Meter → Edited
  linked_to links work = record { is_accepted = true; events = puts_of out number links ++ line (accepted_line number (length links) work) ∷ [] }

  abbrev refused_by : Verdict → Edited
  refused_by accepted = record { is_accepted = true; events = [] }
  refused_by (refused code place) = record { is_accepted = false; events = line (refused_line number code place) ∷ [] }

  -- an edit has one output
  one_edit_output : (e f : Edited) → IsEditOutput out entries style number files e → IsEditOutput out entries style number files f → e ≡ f
  one_edit_output _ _ (linked links work v l w) (linked others more u m x) =
      let same_links : links ≡ others = one_folder_link entries files style links others valid l m in
      let same_work : work ≡ more = one_work entries files work more w x in
      λ i. linked_to (same_links i) (same_work i)
  one_edit_output _ _ (linked links work v l w) (refuses code place u) = absurd (not_both (one_verdict entries files accepted (refused code place) v u))
  one_edit_output _ _ (refuses code place v) (linked links work u l w) = absurd (not_both (one_verdict entries files accepted (refused code place) u v))
  one_edit_output _ _ (refuses code place v) (refuses other at u) = ap refused_by (one_verdict entries files (refused code place) (refused other at) v u)

module _ (contents : Parts) (well : is_well contents ≡ true) (out : List ℕ) (entries : List EntryPoint) (valid : AreEntries entries) (style : Style) where
  one_edited : (number : ℕ) (path : List ℕ) (e f : Edited) → IsEdited contents out entries style number path e → IsEdited contents out entries style number path f → e ≡ f
  one_edited number path e f a b =
      let same : b.files ≡ a.files = one_folder contents path b.files a.files well b.is_folder a.is_folder in
      one_edit_output out entries valid style number a.files e f a.is_output (subst (λ (fs : List SourceFile). IsEditOutput out entries style number fs f) same b.is_output)

  -- and so have the edits of folders
  one_list_of_edits : (paths : List (List ℕ)) (edits others : List Edited) → AreEdited contents out entries style paths edits → AreEdited contents out entries style paths others → edits ≡ others
  one_list_of_edits paths edits others a b = same_lists edits others (a.whole ∙ sym b.whole) (λ i e f at_e at_f. (let path = standing paths edits i e (sym a.whole) at_e in one_edited (i + 1) path.item e f (a.each i path.item e path.at at_e) (b.each i path.item f path.at at_f)))

abbrev edits_output : List Edited → Output
edits_output edits = record { status = status_of edits; events = flat_map events_of edits }

abbrev bad_output : ℕ → Output
bad_output number = record { status = BadEntries number; events = line (entries_line number) ∷ [] }

abbrev number_of : Result (List EntryPoint) ℕ → ℕ
number_of (Ok entries) = 0
number_of (Err number) = number

abbrev entries_in : Result (List EntryPoint) ℕ → List EntryPoint
entries_in (Ok entries) = entries
entries_in (Err number) = []

pub has_one_output : HasOneOutput
has_one_output words c _ _ well (no_command none) (no_command other) = refl
has_one_output words c _ _ well (no_command none) (bad_entries link number is has) = absurd (none_or_some none is)
has_one_output words c _ _ well (no_command none) (edited link entries edits is has are) = absurd (none_or_some none is)
has_one_output words c _ _ well (bad_entries link number is has) (no_command none) = absurd (none_or_some none is)
has_one_output words c _ _ well (bad_entries link number is has) (bad_entries other bad also has_too) =
    let same : other ≡ link = same_link words other link also is in
    let said : Err number ≡ Err bad = one_said c link.entries (Err number) (Err bad) has (subst (λ (l : Link). HasEntries c l.entries (Err bad)) same has_too) in
    ap bad_output (ap number_of said)
has_one_output words c _ _ well (bad_entries link number is has) (edited other entries edits also has_too are) =
    let same : other ≡ link = same_link words other link also is in
    absurd (ok_or_err refl (one_said c link.entries (Ok entries) (Err number) (subst (λ (l : Link). HasEntries c l.entries (Ok entries)) same has_too) has))
has_one_output words c _ _ well (edited link entries edits is has are) (no_command none) = absurd (none_or_some none is)
has_one_output words c _ _ well (edited other entries edits also has_too are) (bad_entries link number is has) =
    let same : other ≡ link = same_link words other link also is in
    absurd (ok_or_err refl (one_said c link.entries (Ok entries) (Err number) (subst (λ (l : Link). HasEntries c l.entries (Ok entries)) same has_too) has))
has_one_output words c _ _ well (edited link entries edits is has are) (edited other more others also has_too are_too) =
    let same : other ≡ link = same_link words other link also is in
    let said : Ok more ≡ Ok entries = one_said c link.entries (Ok more) (Ok entries) (subst (λ (l : Link). HasEntries c l.entries (Ok more)) same has_too) has in
    let of_link : AreEdited c link.out more (planned_style link.style) link.folders others = subst (λ (l : Link). AreEdited c l.out more (planned_style l.style) l.folders others) same are_too in
    let of_entries : AreEdited c link.out entries (planned_style link.style) link.folders others = subst (λ (es : List EntryPoint). AreEdited c link.out es (planned_style link.style) link.folders others) (ap entries_in said) of_link in
    ap edits_output (one_list_of_edits c well link.out entries (valid_entries has.bytes entries has.says) (planned_style link.style) link.folders edits others are of_entries)
