-- What is listed in a folder is held under the folder's path and its name.
use Rattle.std.proofs.Common.{◌≡◌, ℕ, Bool, true, false, List, length, refl, ap, ◌∙◌, cond, arith}
use Rattle.std.specs.Prelude.{◌&&◌, ◌||◌, ◌==◌, not, map, Option, Some, None, option_and_then, nat_lt}
use Rattle.std.specs.List.{list_any, list_all}
use Rattle.std.specs.Cmp.Lexicographic.{nat_list_eq_equiv}
use Rattle.std.proofs.lemmas.Bool.{and_parts}
use Rattle.std.proofs.lemmas.Bool.Decides.{nat_tests}
use Rattle.sj_outside.specs.Contents.{Parts, no_parts, file_part, folder_part, Held, file_held, folder_held, part_named, held_at, folder_of, folder_at, entries_of, entry_name, are_names, is_name, is_same_text}
use Rattle.sj_outside.proofs.Listed.{held_at-joined}
use Rattle.folder_files.specs.Walking.{path_in}

-- each part is what is found by its name
abbrev pub AreFound : (List ℕ → Option Held) → Parts → Type 0
AreFound find no_parts = Unit {0}
AreFound find (file_part name bytes others) = (find name ≡ Some (file_held bytes)) × AreFound find others
AreFound find (folder_part name inner others) = (find name ≡ Some (folder_held inner)) × AreFound find others

abbrev names_of : Parts → List (List ℕ)
names_of parts = map entry_name (entries_of parts)

is_no : (b : Bool) → not b ≡ true → b ≡ false
is_no true e = cc
is_no false e = refl

no_one : (a b : Bool) → a || b ≡ false → (a ≡ false) × (b ≡ false)
no_one true b e = absurd (let h : true ≡ false = e in cc)
no_one false b e = (refl, e)

first_is_name : (name : List ℕ) (parts : Parts) → is_name name && not (list_any (is_same_text name) (names_of parts)) && are_names (names_of parts) ≡ true → is_name name ≡ true
first_is_name name parts names = (and_parts (is_name name) (not (list_any (is_same_text name) (names_of parts))) (and_parts (is_name name && not (list_any (is_same_text name) (names_of parts))) (are_names (names_of parts)) names).0).0

first_is_new : (name : List ℕ) (parts : Parts) → is_name name && not (list_any (is_same_text name) (names_of parts)) && are_names (names_of parts) ≡ true → list_any (is_same_text name) (names_of parts) ≡ false
first_is_new name parts names = is_no _ (and_parts (is_name name) (not (list_any (is_same_text name) (names_of parts))) (and_parts (is_name name && not (list_any (is_same_text name) (names_of parts))) (are_names (names_of parts)) names).0).1

others_are_names : (name : List ℕ) (parts : Parts) → is_name name && not (list_any (is_same_text name) (names_of parts)) && are_names (names_of parts) ≡ true → are_names (names_of parts) ≡ true
others_are_names name parts names = (and_parts (is_name name && not (list_any (is_same_text name) (names_of parts))) (are_names (names_of parts)) names).1

-- a search that finds the same of each other name
found_still : (name : List ℕ) (find other : List ℕ → Option Held) → ((n : List ℕ) → is_same_text name n ≡ false → other n ≡ find n) → (parts : Parts) → list_any (is_same_text name) (names_of parts) ≡ false → AreFound find parts → AreFound other parts
found_still name find other same no_parts none found = tt
found_still name find other same (file_part n bytes others) none found =
    let both = no_one (is_same_text name n) (list_any (is_same_text name) (names_of others)) none in
    (same n both.0 ∙ found.0, found_still name find other same others both.1 found.1)
found_still name find other same (folder_part n inner others) none found =
    let both = no_one (is_same_text name n) (list_any (is_same_text name) (names_of others)) none in
    (same n both.0 ∙ found.0, found_still name find other same others both.1 found.1)

parts_named : (parts : Parts) → are_names (names_of parts) ≡ true → AreFound (λ n. part_named n parts) parts
parts_named no_parts names = tt
parts_named (file_part n bytes others) names = (
  ap (λ (b : Bool). cond b (Some (file_held bytes)) (part_named n others)) (nat_list_eq_equiv.refl n),
  found_still n (λ m. part_named m others) (λ m. part_named m (file_part n bytes others)) (λ m differs. ap (λ (b : Bool). cond b (Some (file_held bytes)) (part_named m others)) differs) others (first_is_new n others names) (parts_named others (others_are_names n others names)),
)
parts_named (folder_part n inner others) names = (
  ap (λ (b : Bool). cond b (Some (folder_held inner)) (part_named n others)) (nat_list_eq_equiv.refl n),
  found_still n (λ m. part_named m others) (λ m. part_named m (folder_part n inner others)) (λ m differs. ap (λ (b : Bool). cond b (Some (folder_held inner)) (part_named m others)) differs) others (first_is_new n others names) (parts_named others (others_are_names n others names)),
)

not_empty : (name : List ℕ) → is_name name ≡ true → length name == 0 ≡ false
not_empty name good = let some = (and_parts (nat_lt 0 (length name)) (list_all (λ b. not (b == 47)) name) good).0 in grind (arith, nat_tests)

-- what a name leads to from the path of a folder is the folder's part of the name
held_in : (contents : Parts) (folder name : List ℕ) (parts : Parts) → held_at contents folder ≡ Some (folder_held parts) → is_name name ≡ true → held_at contents (path_in folder name) ≡ part_named name parts
held_in contents folder name parts held good = held_at-joined contents folder name parts good held ∙ ap (λ (empty : Bool). cond empty (Some (folder_held parts)) (part_named name parts)) (not_empty name good)

found_in : (contents : Parts) (folder : List ℕ) (whole : Parts) → held_at contents folder ≡ Some (folder_held whole) → (parts : Parts) → are_names (names_of parts) ≡ true → AreFound (λ n. part_named n whole) parts → AreFound (λ n. held_at contents (path_in folder n)) parts
found_in contents folder whole held no_parts names found = tt
found_in contents folder whole held (file_part n bytes others) names found = (held_in contents folder n whole held (first_is_name n others names) ∙ found.0, found_in contents folder whole held others (others_are_names n others names) found.1)
found_in contents folder whole held (folder_part n inner others) names found = (held_in contents folder n whole held (first_is_name n others names) ∙ found.0, found_in contents folder whole held others (others_are_names n others names) found.1)

folder_held_there : (o : Option Held) (parts : Parts) → option_and_then folder_of o ≡ Some parts → o ≡ Some (folder_held parts)
folder_held_there None parts e = cc
folder_held_there (Some (file_held bytes)) parts e = cc
folder_held_there (Some (folder_held ps)) parts e = let same : ps ≡ parts = cc in ap (λ (p : Parts). Some (folder_held p)) same

-- each part of a folder is held there
pub parts_held : (contents : Parts) (folder : List ℕ) (parts : Parts) → folder_at contents folder ≡ Some parts → are_names (map entry_name (entries_of parts)) ≡ true → AreFound (λ n. held_at contents (path_in folder n)) parts
parts_held contents folder parts is names = found_in contents folder parts (folder_held_there (held_at contents folder) parts is) parts names (parts_named parts names)
