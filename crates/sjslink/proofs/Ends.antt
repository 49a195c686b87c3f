-- How the endings of a run follow from those of its parts.
use Rattle.std.proofs.Common.{◌≡◌, ◌⊎◌, inl, inr, ℕ, Bool, List, [], ◌∷◌, refl, sym, ap, subst, ◌∙◌, append-nil, Option, Some, take, length, arith}
use Rattle.std.specs.Prelude.{Result, Ok, if◌then◌else◌}
use Rattle.std.specs.List.{flat_map}
use Rattle.std.proofs.lemmas.Grind.{flat_map-append}
use Rattle.std.proofs.lemmas.List.{take_all}
use Rattle.sj_names.specs.declared.entry_points.EntryPoint.{EntryPoint}
use Rattle.sj_outside.specs.Contents.{Parts}
use Rattle.sj_outside.specs.Writing.{Appends, line, put_in, Writes}
use Rattle.sj_outside.specs.declared.answers.PutFile.{PutFile}
use Rattle.sj_outside.proofs.Laws.{Appends-none, Writes-line}
use Rattle.sj_session.specs.Sessions.{Standing}
use Rattle.sj_words.specs.declared.commands.Command.{Command}
use Rattle.sj_words.specs.declared.commands.Link.{Link}
use Rattle.sj_split.specs.declared.plans.Style.{Style}
use Rattle.sjslink.specs.Editing.{AreWritten, AreCut, EditsEnd, FirstEdits, RunEnds}
use Rattle.sjslink.specs.Headline.{AreAnswers, puts_from, AllAreLinked, FirstAreLinked, none_put, prefix_put, ShowsPrefix}
use Rattle.sjslink.specs.Input.{IsLinkCommand, HasEntries, planned_style}
use Rattle.sjslink.specs.Output.{IsOutput, edited, AreEdited, events_of, status_of, AtEnd, Ends, all_written, faulted, out_of_memory, EndsWithLine, entries_line, IsWhole, nothing, front_of, of_first}
use Rattle.sjslink.specs.declared.answers.Status.{Status}
use Rattle.sjslink.specs.declared.editing.Fault.{Fault}
use Rattle.sjslink.specs.declared.answers.Status.TheVariants.{Done, SomeRefused, Usage, ReadFault, WriteFault, NoMemory, BadEntries}
use Rattle.sjslink.proofs.Puts.{whole_is_front}

-- the status is none of those that an edit of all folders has
abbrev pub IsNoEdit : Status → Type 0
IsNoEdit s = (s ≡ Done) ⊎ (s ≡ SomeRefused) → ⊥

pub usage_is_no_edit : IsNoEdit Usage
usage_is_no_edit (inl e) = cc
usage_is_no_edit (inr e) = cc

pub read_fault_is_no_edit : IsNoEdit ReadFault
read_fault_is_no_edit (inl e) = cc
read_fault_is_no_edit (inr e) = cc

pub fault_is_no_edit : IsNoEdit WriteFault
fault_is_no_edit (inl e) = cc
fault_is_no_edit (inr e) = cc

pub memory_is_no_edit : IsNoEdit NoMemory
memory_is_no_edit (inl e) = cc
memory_is_no_edit (inr e) = cc

pub bad_is_no_edit : (number : ℕ) → IsNoEdit (BadEntries number)
bad_is_no_edit number (inl e) = cc
bad_is_no_edit number (inr e) = cc

-- the edits of folders in one style are those in another that is the same
pub in_style : (contents : Parts) (out : List ℕ) (entries : List EntryPoint) (style other : Style) (folders : List (List ℕ)) (p0 p1 : Option (List PutFile)) (t0 t1 : Option (List ℕ)) (result : Result Bool Fault) → style ≡ other → EditsEnd contents out entries style folders p0 p1 t0 t1 result → EditsEnd contents out entries other folders p0 p1 t0 t1 result
in_style contents out entries style other folders p0 p1 t0 t1 result same e = subst (λ (y : Style). EditsEnd contents out entries y folders p0 p1 t0 t1 result) same e

-- the style of a session is that of its options
pub session_style : {session new : Standing} {style : Style} → session ≡ new → new.options.style ≡ style → session.options.style ≡ style
session_style same is = ap (λ (s : Standing). s.options.style) same ∙ is

-- the entries of a session are those of the file
pub same_entries : (contents : Parts) (path : List ℕ) (session new : Standing) → session ≡ new → HasEntries contents path (Ok new.entries) → HasEntries contents path (Ok session.entries)
same_entries contents path session new same has = subst (λ (s : Standing). HasEntries contents path (Ok s.entries)) (sym same) has

module _ (words : List (List ℕ)) (contents : Parts) (p0 p1 : Option (List PutFile)) (t0 t1 : Option (List ℕ)) where
  -- a run that ends early before anything is written
  pub nothing_ends : (status : Status) → AtEnd status (IsWhole words contents p0 p1 t0 t1 status) → IsNoEdit status → Writes p0 p1 t0 t1 [] → RunEnds words contents p0 p1 t0 t1 status
  nothing_ends status whole none w = record { whole = whole; front = nothing w; agrees = λ e. absurd (none e); shown = λ link is. none_put w.puts }

  module _ (link : Link) (is_command : IsLinkCommand words link) (entries : List EntryPoint) (has : HasEntries contents link.entries (Ok entries)) where
    -- another link command of the words is this one
    one_link : (other : Link) → IsLinkCommand words other → link ≡ other
    one_link other is = let both : Some (Command.Link link) ≡ Some (Command.Link other) = sym is_command ∙ is in cc

    shows_prefix : FirstAreLinked contents link p0 p1 → ShowsPrefix words contents p0 p1
    shows_prefix first other is = subst (λ (l : Link). FirstAreLinked contents l p0 p1) (one_link other is) first

    cut_shows : (cut : AreCut contents link.out entries (planned_style link.style) link.folders p0 p1 t0 t1) → ShowsPrefix words contents p0 p1
    cut_shows cut =
        let f = cut.front in
        shows_prefix (prefix_put entries has cut.n cut.first.answers cut.first.are_answers (flat_map put_in f.front) (flat_map put_in f.rest) (sym (flat_map-append put_in f.front f.rest) ∙ ap (flat_map put_in) f.parts ∙ cut.first.put) f.written.puts)

    -- a run that is cut off while folders are edited
    pub cut_ends : (status : Status) → AtEnd status (IsWhole words contents p0 p1 t0 t1 status) → IsNoEdit status → AreCut contents link.out entries (planned_style link.style) link.folders p0 p1 t0 t1 → RunEnds words contents p0 p1 t0 t1 status
    cut_ends status whole none cut = record {
      whole = whole;
      front = of_first link entries cut.n cut.first.edits is_command has cut.first.are_edited cut.front;
      agrees = λ e. absurd (none e);
      shown = cut_shows cut;
    }

    all_folders : take (length link.folders) link.folders ≡ link.folders
    all_folders = take_all (length link.folders) link.folders (omega arith)

    whole_output : (all : Bool) (w : AreWritten contents link.out entries (planned_style link.style) link.folders p0 p1 t0 t1 (length link.folders) all) → IsOutput words contents (record { status = status_of w.first.edits; events = flat_map events_of w.first.edits })
    whole_output all w = edited link entries w.first.edits is_command has (subst (λ (ps : List (List ℕ)). AreEdited contents link.out entries (planned_style link.style) ps w.first.edits) all_folders w.first.are_edited)

    -- a run that edits all folders
    pub all_end : (all : Bool) (status : Status) → status ≡ (if all then Done else SomeRefused) → ((P : Type 0) → P → AtEnd status P) → AreWritten contents link.out entries (planned_style link.style) link.folders p0 p1 t0 t1 (length link.folders) all → RunEnds words contents p0 p1 t0 t1 status
    all_end all status is at_end w = record {
      whole = at_end _ (record { output = record { status = status_of w.first.edits; events = flat_map events_of w.first.edits }; is_output = whole_output all w; is_status = is ∙ ap (λ t. if t then Done else SomeRefused) w.all; written = w.written });
      front = of_first link entries (length link.folders) w.first.edits is_command has w.first.are_edited (whole_is_front p0 p1 t0 t1 (flat_map events_of w.first.edits) w.written);
      agrees = λ e other is. subst (λ (l : Link). AllAreLinked contents l p0 p1) (one_link other is) (record { entries = entries; has_entries = has; answers = w.first.answers; are_answers = subst (λ (ps : List (List ℕ)). AreAnswers contents entries (planned_style link.style) ps w.first.answers) all_folders w.first.are_answers; put = put });
      shown = shows_prefix (prefix_put entries has (length link.folders) w.first.answers w.first.are_answers (puts_from link.out 1 w.first.answers) [] (append-nil (puts_from link.out 1 w.first.answers)) put);
    }
      where
        put : Appends p0 p1 (puts_from link.out 1 w.first.answers)
        put = subst (Appends p0 p1) w.first.put w.written.puts

module _ (words : List (List ℕ)) (contents : Parts) (puts : Option (List PutFile)) (t0 t1 : Option (List ℕ)) where
  no_puts : (text : List ℕ) → Appends t0 t1 text → Writes puts puts t0 t1 (line text ∷ [])
  no_puts text w = Writes-line puts t0 t1 text w

  nothing_written : Appends t0 t1 [] → Writes puts puts t0 t1 []
  nothing_written w = record { puts = Appends-none puts; text = w }

  -- a run that writes one line
  pub line_ends_run : (ended : Status) (text : List ℕ) (cause : Type 0) (status : Status) → IsOutput words contents (record { status = ended; events = line text ∷ [] }) → ((P : Type 0) → P → AtEnd ended P) → IsNoEdit ended → Ends ended (Appends t0 t1 text) (Appends t0 t1 []) cause status → RunEnds words contents puts puts t0 t1 status
  line_ends_run ended text cause status is at_end none (all_written w) = record {
    whole = at_end _ (record { output = record { status = ended; events = line text ∷ [] }; is_output = is; is_status = refl; written = no_puts text w });
    front = front_of (record { status = ended; events = line text ∷ [] }) is (whole_is_front puts puts t0 t1 (line text ∷ []) (no_puts text w));
    agrees = λ e. absurd (none e);
    shown = λ link is. none_put (Appends-none puts);
  }
  line_ends_run ended text cause status is at_end none (faulted f x) = nothing_ends words contents puts puts t0 t1 WriteFault tt fault_is_no_edit (nothing_written f)
  line_ends_run ended text cause status is at_end none (out_of_memory f) = nothing_ends words contents puts puts t0 t1 NoMemory tt memory_is_no_edit (nothing_written f)

module _ (puts : Option (List PutFile)) (t0 t1 : Option (List ℕ)) (cause : Type 0) where
  -- a line, and nothing put
  pub line_alone : (ended : Status) (text : List ℕ) (status : Status) → Ends ended (Appends t0 t1 text) (Appends t0 t1 []) cause status → EndsWithLine ended puts puts t0 t1 text cause status
  line_alone ended text status (all_written w) = all_written (Appends-none puts, w)
  line_alone ended text status (faulted f x) = faulted (Appends-none puts, f) x
  line_alone ended text status (out_of_memory f) = out_of_memory (Appends-none puts, f)

  pub bad_line : (number : ℕ) (status : Status) (other : ℕ) → Ends (BadEntries number) (Appends t0 t1 (entries_line number)) (Appends t0 t1 []) cause status → status ≡ BadEntries other → Appends puts puts [] × Appends t0 t1 (entries_line other)
  bad_line number status other (all_written w) e = let same : number ≡ other = cc in (Appends-none puts, subst (λ (n : ℕ). Appends t0 t1 (entries_line n)) same w)
  bad_line number status other (faulted f x) e = cc
  bad_line number status other (out_of_memory f) e = cc

pub usage_is_no_bad_line : (t0 t1 : Option (List ℕ)) (cause : Type 0) (text : List ℕ) (status : Status) (number : ℕ) → Ends Usage (Appends t0 t1 text) (Appends t0 t1 []) cause status → status ≡ BadEntries number → ⊥
usage_is_no_bad_line t0 t1 cause text status number (all_written w) e = cc
usage_is_no_bad_line t0 t1 cause text status number (faulted f x) e = cc
usage_is_no_bad_line t0 t1 cause text status number (out_of_memory f) e = cc
