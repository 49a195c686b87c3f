-- What an accepted folder shows is wrong at no bound: its bodies, the facts that are reachable in it, the classes that live and the helpers can be listed, so what its bodies use can run.
use Rattle.std.proofs.Common.{◌↔◌, ℕ, List, Contains}
use Rattle.agree_soundness.proofs.Modules.{never_wrong}
use Rattle.declared_pieces.proofs.Assembled.{laws_of}
use Rattle.declared_pieces.proofs.Entered.{initializers_among}
use Rattle.declared_pieces.proofs.Judged.{judged_plain}
use Rattle.declared_pieces.proofs.Live.{classes_kept, live_there}
use Rattle.declared_pieces.proofs.ObjectFoldersWorlds.{carry, link_right}
use Rattle.declared_pieces.proofs.Worlds.{judged}
use Rattle.accepted_folders.proofs.Listed.{have_bodies}
use Rattle.declared_pieces.specs.Accepted.{IsAccepted}
use Rattle.declared_pieces.specs.Bodies.{AreBodies}
use Rattle.declared_pieces.specs.EmittedMethods.{EmittedMethod}
use Rattle.declared_pieces.specs.Entries.{IsLive}
use Rattle.declared_pieces.specs.Reachable.{Reachable}
use Rattle.folder_judging_spec.proofs.Undenied.{Undenied, granted, and_so}
use Rattle.sj_emit_help_spec.specs.declared.kinds.Helper.{Helper}
use Rattle.ir_mean.specs.Shows.{ir_shows}
use Rattle.outcomes.specs.Agreement.{IsNotWrong}
use Rattle.outcomes.specs.Outcome.{End, Done, Going, Wrong}
use Rattle.sj_names.specs.declared.entry_points.EntryPoint.{EntryPoint}
use Rattle.sj_names.specs.declared.folders.SourceFile.{SourceFile}
use Rattle.sj_world.specs.Known.{Name, Classes}
use Rattle.sj_world.specs.declared.facts.Fact.{Fact}
use Rattle.world_pieces.proofs.HelperTable.{stands_in_table}
use Rattle.world_pieces.specs.Helpers.{every_helper}
use Rattle.folder_soundness.proofs.Facts.{chosen, all_chosen, Chosen, names_of, name_stands, facts_listed}
use Rattle.folder_soundness.proofs.Running as running
use Rattle.folder_soundness.specs.Laws.{AcceptedFoldersAreNeverWrong}

-- what can't be denied to be not wrong isn't
not_wrong : {A : Type 0} (e : End A) → Undenied (IsNotWrong e) → IsNotWrong e
not_wrong (Done a) u = tt
not_wrong Going u = tt
not_wrong Wrong u = u (λ x. x)

module _ (entries : List EntryPoint) (files : List SourceFile) (w : Classes) (id : List ℕ) (n : ℕ) (a : IsAccepted entries files w) where
  abbrev Shown : Type 0
  Shown = IsNotWrong (ir_shows w entries id n).end

  module _ (all : List EmittedMethod) (bodies : AreBodies w entries all) (facts : List Fact) (exact : (f : Fact) → Contains facts f ↔ Reachable w entries f) where
    abbrev IsFine : Helper → Type 0
    IsFine = running.IsFine entries files w all facts a bodies exact

    abbrev written : List Name
    written = running.written entries files w all facts a bodies exact

    lives_there : (c : Name) → IsLive w facts c → Contains (names_of w) c
    lives_there c h = name_stands w c (live_there entries files w a facts (λ f. (exact f).0) c h)

    shown_by : Chosen (IsLive w facts) (names_of w) → Chosen IsFine every_helper → Shown
    shown_by live helpers =
        let are_live = all_chosen (IsLive w facts) (names_of w) lives_there live in
        let are_helpers = all_chosen IsFine every_helper (λ h fine. stands_in_table h) helpers in
        let run = running.run entries files w all facts a bodies exact live.those are_live helpers.those are_helpers in
        never_wrong w w (judged_plain w (judged entries files w a)) (running.has entries files w all facts a bodies exact live.those are_live helpers.those are_helpers)
        (laws_of w (running.has entries files w all facts a bodies exact live.those are_live helpers.those are_helpers) (carry entries files w facts all live.those helpers.those written a bodies run))
        (link_right entries files w facts all live.those helpers.those written a bodies run)
        entries id (λ e i. running.starts entries files w all facts a bodies exact live.those are_live helpers.those are_helpers e (initializers_among id entries e i)) n

    shown : Undenied Shown
    shown = and_so (chosen (IsLive w facts) (names_of w)) (λ live. and_so (chosen IsFine every_helper) (λ helpers. granted (shown_by live helpers)))

  listed : (all : List EmittedMethod) → AreBodies w entries all → Undenied Shown
  listed all bodies = and_so (facts_listed w entries (λ c i. (judged entries files w a c i).unbroken) a.resolved (classes_kept entries files w a)) (λ its. shown all bodies its.facts its.exact)

pub never_wrong_folders : AcceptedFoldersAreNeverWrong
never_wrong_folders entries files w id n a = not_wrong (ir_shows w entries id n).end (λ deny. have_bodies entries files w a (λ all bodies. listed entries files w id n a all bodies deny))
