-- What is made of a folder that is judged.
use Rattle.std.proofs.Common.{◌≡◌, ℕ, List, Ok, Err, refl, sym, ap, subst, ◌∙◌, map, length, arith}
use Rattle.sj_agree.specs.Agrees.{Agrees}
use Rattle.sj_names.specs.declared.counters.Meter.{Meter}
use Rattle.sj_names.specs.declared.entry_points.EntryPoint.{EntryPoint}
use Rattle.sj_names.specs.declared.folders.SourceFile.{SourceFile}
use Rattle.sj_reach.specs.Answers.{AreReachable}
use Rattle.sj_split.specs.declared.plans.Style.{Style}
use Rattle.sj_world.specs.Known.{Classes}
use Rattle.sj_world.specs.Linked.{Linked}
use Rattle.folder_linking.proofs.Worlds.{have_worlds}
use Rattle.folder_linking.specs.Accepted.{IsAccepted}
use Rattle.folder_linking.specs.Verdicts.{accepted, refused, IsVerdict}
use Rattle.folder_judging.specs.Counts.{Counts, bodies_among, with_reads, with_checks, ChecksAtMost}
use Rattle.folder_judging.specs.Counts as judging
use Rattle.folder_judging.specs.Judging.{IsLinkedFolder, AreFactsIn}
use Rattle.folder_judging.specs.declared.errors.JudgeError.{JudgeError}
use Rattle.folder_judging.specs.declared.errors.JudgeError.TheVariants as judged
use Rattle.folder_linking.proofs.Edits.{same_world, world_is}
use Rattle.folder_linking.proofs.LinkedEdits.{linked_folders_agree}
use Rattle.folder_linking.specs.Edits.{IsLinkOf}
use Rattle.folder_linking.proofs.Linked.{bodies_many}
use Rattle.folder_linking.specs.Counts.{with_emits, EmitsAtMost}
use Rattle.folder_linking.specs.Linking.{IsLinkByEntries, IsLinkable}
use Rattle.folder_linking.specs.Modules.{as_file}
use Rattle.folder_linking.specs.declared.files.ModuleFile.{ModuleFile}
use Rattle.sj_session.specs.Counts as counts
use Rattle.sj_session.specs.Editing.{IsEdit}
use Rattle.sj_session.specs.Sessions.{work_told}
use Rattle.sj_session.specs.declared.answers.Report.{Report}
use Rattle.sj_session.specs.declared.editing.Edit.{Edit}

-- what was counted by the judge where it refused
pub counts_refused : (entries : List EntryPoint) (files : List SourceFile) (e : JudgeError) (old new : Meter) → Counts files (AreFactsIn entries files) (Err e) old new → counts.CountsEdit entries files (Err e) old new
counts_refused entries files (judged.Refused code place) old new h = let c = h.checked.0 in record { reads = h.reads; checks = c.checks; few_reads = h.whole; few_checks = c.most; counted = c.counted ∙ ap (with_checks c.checks) refl }
counts_refused entries files judged.NoMemory old new h = let c = h.checked in record { reads = h.reads; checks = c.checks; emits = 0; few_reads = h.whole; few_checks = c.most; few_emits = counts.none; counted = c.counted }

module _ (entries : List EntryPoint) (files : List SourceFile) (l : Linked) (judge : IsVerdict entries files accepted × IsLinkedFolder entries files l) where
  known : IsLinkedFolder entries files l
  known = judge.1

  pub world_accepted : IsAccepted entries files l.world
  world_accepted = let h = (have_worlds entries files).0 judge.0 in subst (IsAccepted entries files) (world_is entries files known.classes h.0 l.world h.1 known.read known.linked.world) h.1

  pub reached : AreReachable l.world entries l.facts
  reached = known.linked.linked.reached

  facts_in : AreFactsIn entries files l.facts
  facts_in = record {
    small = world_accepted.small;
    facts_read = record {
      classes = world_accepted.classes;
      read = world_accepted.read;
      known = record { w = l.world; world = record { world = world_accepted.world; kept = world_accepted.kept }; reached = reached };
    };
  }

  pub linkable : IsLinkable entries l
  linkable = record { files = files; is_accepted = world_accepted; reached = reached; method_entries = known.linked.linked.method_entries }

  all_checked : ChecksAtMost (AreFactsIn entries files) (bodies_among l.facts)
  all_checked = judging.bodies l.facts (bodies_among l.facts) facts_in (omega arith)

  judged_all : (old new : Meter) → Counts files (AreFactsIn entries files) (Ok l) old new → new ≡ with_checks (bodies_among l.facts) (with_reads (length files) old)
  judged_all old new h = h.checked ∙ ap (λ (n : ℕ). with_checks (bodies_among l.facts) (with_reads n old)) h.whole

  -- and where no memory was left while its functions were emitted
  pub counts_unlinked : (old middle new : Meter) → Counts files (AreFactsIn entries files) (Ok l) old middle → EmitsAtMost (bodies_among l.facts) middle new → counts.CountsSome entries files old new
  counts_unlinked old middle new h some = record {
    reads = length files;
    checks = bodies_among l.facts;
    emits = some.emits;
    few_reads = omega arith;
    few_checks = all_checked;
    few_emits = counts.bodies l.facts some.emits judge.0 facts_in some.few;
    counted = some.counted ∙ ap (with_emits some.emits) (judged_all old middle h);
  }

  -- and where it was left after all of them
  pub counts_all : (old middle new : Meter) → Counts files (AreFactsIn entries files) (Ok l) old middle → new ≡ with_emits (bodies_among l.facts) middle → counts.CountsSome entries files old new
  counts_all old middle new h emitted = counts_unlinked old middle new h (record { emits = bodies_among l.facts; few = omega arith; counted = emitted })

  module _ (style : Style) (links : List ModuleFile) (link : IsLinkByEntries l.world entries style (map as_file links)) where
    abbrev linked_to : (fs : List ModuleFile) → IsLinkByEntries l.world entries style (map as_file fs) → IsLinkOf entries files style (map as_file fs)
    linked_to fs its = record { world = l.world; is_accepted = world_accepted; link = its.link }

    pub edited : (edit : Edit) → edit.files.items ≡ links → edit.report ≡ record { modules = length links; read = length files; checked = bodies_among l.facts; optimised = 0; emitted = bodies_among l.facts } → IsEdit entries files style edit
    edited edit made told = record {
      verdict = judge.0;
      linked = linked_to edit.files.items same;
      modules = ap (λ (r : Report). r.modules) told ∙ ap length (sym made);
      work = record {
        world = l.world;
        is_accepted = world_accepted;
        all = link.link.are_pieces.all;
        bodies = link.link.are_pieces.bodies;
        is = ap work_told told ∙ ap (λ (n : ℕ). record { read = length files; checked = n; optimised = 0; emitted = n }) (sym (bodies_many l.world entries l.facts link.link.are_pieces.all reached link.link.are_pieces.bodies));
      };
      agrees = λ w id a among. subst (λ (u : Classes). Agrees u entries (map as_file edit.files.items) id) (same_world entries files l.world w world_accepted a) (linked_folders_agree entries files style id (map as_file edit.files.items) link.valid (linked_to edit.files.items same) among);
    }
      where
        same : IsLinkByEntries l.world entries style (map as_file edit.files.items)
        same = subst (λ (fs : List ModuleFile). IsLinkByEntries l.world entries style (map as_file fs)) (sym made) link

    pub counts_edited : (edit : Edit) (old middle new : Meter) → edit.report ≡ record { modules = length links; read = length files; checked = bodies_among l.facts; optimised = 0; emitted = bodies_among l.facts } → Counts files (AreFactsIn entries files) (Ok l) old middle → new ≡ with_emits (bodies_among l.facts) middle → counts.CountsMade entries files (Ok edit) old new
    counts_edited edit old middle new told h emitted = emitted ∙ ap (with_emits (bodies_among l.facts)) (judged_all old middle h) ∙ ap (λ (r : Report). counts.with_work r.read r.checked r.emitted old) (sym told)
