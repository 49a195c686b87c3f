-- The steps of the walk over a folder.
use Rattle.std.proofs.Common.{◌≡◌, ℕ, zero, suc, ◌+◌, ◌-◌, ◌<◌, ◌≤◌, Bool, true, false, List, ◌∷◌, refl, sym, subst, length, get_or, drop, arith, add-one}
use Rattle.std.proofs.Math.Seq.{drop-cons}
use Rattle.std.proofs.lemmas.List.{drop_all}
use Rattle.std.specs.Prelude.{map, not, Option, Some, Result, Ok, OnOk, IsTrue, is_some}
use Rattle.std.proofs.lemmas.Result.{on_ok_weaker}
use Rattle.sj_outside.specs.declared.answers.Entry.{Entry}
use Rattle.sj_outside.specs.declared.answers.OutsideError.{OutsideError}
use Rattle.sj_outside.specs.Contents.{Parts, folder_at, entry_name, are_names}
use Rattle.sj_outside.specs.Faults.{IsMissing}
use Rattle.sj_outside.specs.Reading.{Lists}
use Rattle.sj_outside.proofs.Listed.{lacks_folder-listed}
use Rattle.folder_files.specs.Walking.{path_in, prefix_in, Gathers, GathersFolder, GathersEntry, of_folder}
use Rattle.folder_files.proofs.Gathered.{GathersAll, gathers}

-- a call that gave its answer lacks nothing
pub none_missing : {T : Type 0} (lacks : Bool) (old new : ℕ) (value : T) → IsMissing lacks old new (Ok value) → new ≡ old
none_missing true old new value missing = missing
none_missing false old new value missing = missing

is_there : (b : Bool) → not b ≡ false → b ≡ true
is_there true e = refl
is_there false e = cc

-- a folder that is listed is there
pub folder_is_there : (h : Option Parts) (contents : Parts) (folder : List ℕ) (entries : List Entry) (k : ℕ) (entry : Entry) → h ≡ Some contents → Lists h folder entries → are_names (map entry_name entries) ≡ true → k < length entries → entry ≡ get_or entries k entry → entry.is_folder ≡ true → IsTrue (is_some (folder_at contents (path_in folder entry.name)))
folder_is_there h contents folder entries k entry tells lists names below is kind =
    let listed : Lists (Some contents) folder entries = subst (λ (o : Option Parts). Lists o folder entries) tells lists in
    let there : get_or entries k entry ≡ entry = sym is in
    let held : not (is_some (folder_at contents (path_in folder (get_or entries k entry).name))) ≡ false = lacks_folder-listed contents folder entries listed names k entry below (subst (λ (e : Entry). e.is_folder ≡ true) is kind) in
    is_there _ (subst (λ (e : Entry). not (is_some (folder_at contents (path_in folder e.name))) ≡ false) there held)

pub one_more : (contents : Parts) (folder prefix : List ℕ) (left : ℕ) (entries : List Entry) (k : ℕ) (entry : Entry) (old between new : List (List ℕ)) → k < length entries → entry ≡ get_or entries k entry → GathersEntry contents folder prefix left entry old between → GathersAll contents folder prefix left (drop (k + 1) entries) between new → GathersAll contents folder prefix left (drop k entries) old new
one_more contents folder prefix left entries k entry old between new below is first rest =
    let front : drop k entries ≡ get_or entries k entry ∷ drop (k + 1) entries = rw (add-one, drop-cons entries k entry) in
    subst (λ (es : List Entry). GathersAll contents folder prefix left es old new) (sym front) (between, subst (λ (e : Entry). GathersEntry contents folder prefix left e old between) is first, rest)

pub all_gathered : (h : Option Parts) (contents : Parts) (folder prefix : List ℕ) (left : ℕ) (entries : List Entry) (k : ℕ) (old new : List (List ℕ)) → h ≡ Some contents → Lists h folder entries → are_names (map entry_name entries) ≡ true → length entries ≤ k → (GathersAll contents folder prefix left (drop k entries) new new → GathersAll contents folder prefix left entries old new) → Gathers contents folder prefix left old new
all_gathered h contents folder prefix left entries k old new tells lists names ended all =
    gathers h contents folder prefix left entries old new tells lists names (all (subst (λ (es : List Entry). GathersAll contents folder prefix left es new new) (sym (drop_all k entries ended)) refl))

pub folder_gathered : (contents : Parts) (folder prefix name : List ℕ) (left : ℕ) (entry : Entry) (old new : List (List ℕ)) (result : Result (Unit {0}) OutsideError) → entry.is_folder ≡ true → name ≡ entry.name → OnOk result (GathersFolder contents folder prefix left name old new) → OnOk result (GathersEntry contents folder prefix left entry old new)
folder_gathered contents folder prefix name left entry old new result kind same told =
    on_ok_weaker result (λ g. of_folder kind (subst (λ (n : List ℕ). GathersFolder contents folder prefix left n old new) same g)) told

below_folder : (contents : Parts) (folder prefix name : List ℕ) (left : ℕ) (old new : List (List ℕ)) → (left ≡ 0 → ⊥) → Gathers contents (path_in folder name) (prefix_in prefix name) (left - 1) old new → GathersFolder contents folder prefix left name old new
below_folder contents folder prefix name zero old new some g = absurd (some refl)
below_folder contents folder prefix name (suc left) old new some g =
    let same : suc left - 1 ≡ left = omega arith in
    subst (λ (n : ℕ). Gathers contents (path_in folder name) (prefix_in prefix name) n old new) same g

pub inner_gathered : (contents : Parts) (folder prefix name inner inner_prefix : List ℕ) (left : ℕ) (old new : List (List ℕ)) (result : Result (Unit {0}) OutsideError) → (left ≡ 0 → ⊥) → inner ≡ path_in folder name → inner_prefix ≡ prefix_in prefix name → OnOk result (Gathers contents inner inner_prefix (left - 1) old new) → OnOk result (GathersFolder contents folder prefix left name old new)
inner_gathered contents folder prefix name inner inner_prefix left old new result some path prefix_is told =
    on_ok_weaker result (λ g. below_folder contents folder prefix name left old new some (subst (λ (p : List ℕ). Gathers contents p (prefix_in prefix name) (left - 1) old new) path (subst (λ (p : List ℕ). Gathers contents inner p (left - 1) old new) prefix_is g))) told
