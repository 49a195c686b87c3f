-- What an accepted folder has, and its classes as they are judged.
use Rattle.std.proofs.Common.{◌≡◌, ℕ, ◌≤◌, Bool, true, false, List, Some, length, refl, sym, ap, ◌∙◌, inl, Contains, slice_get}
use Rattle.std.proofs.lemmas.List.Sorted.{Contains-permutation, IsPermutation-sym}
use Rattle.std.proofs.Math.Dec.{ltb}
use Rattle.std.proofs.lemmas.Bool.{ltb-true, ltb-false}
use Rattle.std.proofs.lemmas.Option.{slice_get-get_or, slice_get-map}
use Rattle.std.specs.Prelude.{option_map}
use Rattle.sj_names.specs.declared.entry_points.EntryPoint.{EntryPoint}
use Rattle.sj_names.specs.declared.folders.SourceFile.{SourceFile}
use Rattle.sj_trees.specs.declared.classes.ClassDef.{ClassDef}
use Rattle.agree_classes.specs.Judged.{IsJudgedClass}
use Rattle.sj_world.specs.Known.{Classes}
use Rattle.sj_world.specs.Refusals.{IsWorldOf}
use Rattle.folder_judging_spec.specs.Reachable.{Unresolved}
use Rattle.folder_judging_spec.specs.Refusals.{Refusal}
use Rattle.folder_judging_spec.specs.Stages.{AreTyped}
use Rattle.folder_judging_spec.specs.Verdicts as verdicts
use Rattle.folder_judging_spec.specs.Verdicts.{Verdict, accepted, refused, ByTypes, ByReferences, ByCycles, IsVerdict}
use Rattle.folder_sizes.specs.Files.{size_of}
use Rattle.folder_sizes.specs.Sizes.{largest_file}
use Rattle.sj_read_spec.specs.Files.{FileIs}
use Rattle.folder_judging_spec.proofs.Firsts.{standing}
use Rattle.accepted_folders.specs.Accepted.{IsAccepted}
use Rattle.accepted_folders.specs.Laws.{AcceptedFoldersHaveAWorld}

not_refused : {A : Type 0} (code : ℕ) (place : List ℕ) → refused code place ≡ accepted → A
not_refused code place e = absurd (cc)

module _ (entries : List EntryPoint) (files : List SourceFile) where
  -- the way back from the verdict, stage by stage: what is left to be known of the world
  abbrev Rest : Classes → Type 0
  Rest w = ((r : Refusal) → Unresolved w entries r → ⊥) × AreTyped w entries

  types : (w : Classes) (v : Verdict) → v ≡ accepted → ByTypes entries w v → AreTyped w entries
  types w _ e (verdicts.untyped spelled rule h) = not_refused _ _ e
  types w _ e (verdicts.typed all) = all

  references : (w : Classes) (v : Verdict) → v ≡ accepted → ByReferences entries w v → Rest w
  references w _ e (verdicts.unresolved told h) = not_refused _ _ e
  references w _ e (verdicts.resolved v none rest) = (none, types w v e rest)

  cycles : (classes : Classes) (v : Verdict) → v ≡ accepted → ByCycles entries classes v → (w : Classes) × (IsWorldOf classes w × Rest w)
  cycles classes _ e (verdicts.cyclic name h) = not_refused _ _ e
  cycles classes _ e (verdicts.acyclic w v is rest) = (w, (is, references w v e rest))

  by_verdict : (v : Verdict) → v ≡ accepted → IsVerdict entries files v → (w : Classes) × IsAccepted entries files w
  by_verdict _ e (verdicts.too_large place file h at) = not_refused _ _ e
  by_verdict _ e (verdicts.small _ none (verdicts.faulty file fault h)) = not_refused _ _ e
  by_verdict _ e (verdicts.small _ none (verdicts.read classes _ are (verdicts.twice name h))) = not_refused _ _ e
  by_verdict _ e (verdicts.small _ none (verdicts.read classes _ are (verdicts.apart _ apart (verdicts.broken name rule h)))) = not_refused _ _ e
  by_verdict _ e (verdicts.small _ none (verdicts.read classes _ are (verdicts.apart _ apart (verdicts.kept v kept rest)))) =
      let c = cycles classes v e rest in
      (c.0, record { small = none; classes = classes; read = are; apart = apart; kept = kept; world = c.1.0; resolved = c.1.1.0; typed = c.1.1.1 })

  from_world : (w : Classes) → IsAccepted entries files w → IsVerdict entries files accepted
  from_world w a = verdicts.small accepted a.small (verdicts.read a.classes accepted a.read (verdicts.apart accepted a.apart (verdicts.kept accepted a.kept (verdicts.acyclic w accepted a.world (verdicts.resolved accepted a.resolved (verdicts.typed a.typed))))))

pub have_worlds : AcceptedFoldersHaveAWorld
have_worlds entries files = (by_verdict entries files accepted refl, λ h. from_world entries files h.0 h.1)

-- each class of an accepted folder was read from a file, and breaks none of the local rules
pub judged : (entries : List EntryPoint) (files : List SourceFile) (w : Classes) → IsAccepted entries files w → (c : ClassDef) → Contains w c → IsJudgedClass c
judged entries files w a c h =
    let among : Contains a.classes c = Contains-permutation w a.classes c (IsPermutation-sym a.classes w a.world.sorted.same) h in
    let at : slice_get a.classes among.0 ≡ Some c = slice_get-get_or a.classes among.0 c among.1 ∙ ap Some among.2 in
    let s = standing files a.classes among.0 c (sym a.read.whole) at in
    record { bytes = s.item.bytes; read = a.read.each among.0 s.item c s.at at; unbroken = a.kept c among }

-- and its file has at most 16 MiB
pub record IsSmall (c : ClassDef) : Type 0 where
  pub bytes : List ℕ
  pub read : FileIs bytes c
  pub small : length bytes ≤ largest_file

pub read_small : (entries : List EntryPoint) (files : List SourceFile) (w : Classes) → IsAccepted entries files w → (c : ClassDef) → Contains w c → IsSmall c
read_small entries files w a c h =
    let among : Contains a.classes c = Contains-permutation w a.classes c (IsPermutation-sym a.classes w a.world.sorted.same) h in
    let at : slice_get a.classes among.0 ≡ Some c = slice_get-get_or a.classes among.0 c among.1 ∙ ap Some among.2 in
    let s = standing files a.classes among.0 c (sym a.read.whole) at in
    record { bytes = s.item.bytes; read = a.read.each among.0 s.item c s.at at; small = small among.0 s.item s.at (ltb largest_file (size_of s.item)) refl }
  where
    small : (place : ℕ) (file : SourceFile) → slice_get files place ≡ Some file → (b : Bool) → ltb largest_file (size_of file) ≡ b → size_of file ≤ largest_file
    small place file at false within = ltb-false largest_file (size_of file) within
    small place file at true over = absurd (a.small place (record { size = size_of file; at = slice_get-map size_of files place ∙ ap (option_map size_of) at; over = inl (ltb-true largest_file (size_of file) over) }))
