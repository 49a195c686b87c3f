-- The paths of a folder's files are those of what is listed there, one after the other.
use Rattle.std.proofs.Common.{◌≡◌, ℕ, zero, suc, Bool, true, false, List, [], ◌∷◌, ◌++◌, refl, sym, ap, ◌∙◌, subst, cond, append_assoc}
use Rattle.std.specs.Prelude.{map, codes, Option, Some, None, option_map, option_and_then}
use Rattle.std.specs.List.{All}
use Rattle.std.proofs.lemmas.List.{map-append, append-nil}
use Rattle.std.proofs.lemmas.List.Elements.{All-nil, All-cons, All-append, All-map, All-weaker}
use Rattle.sj_names.specs.declared.folders.SourceFile.{SourceFile}
use Rattle.sj_outside.specs.declared.answers.Entry.{Entry}
use Rattle.sj_outside.specs.Contents.{Parts, no_parts, file_part, folder_part, file_held, folder_held, file_of, folder_of, held_at, file_at, folder_at, entries_of, entry_name, entry_of, are_names}
use Rattle.sj_outside.specs.Reading.{Lists}
use Rattle.folder_files.specs.Files.{files_below, is_class_file, inside, source_file}
use Rattle.folder_files.specs.Walking.{path_in, prefix_in, prefixed, IsHeld, Gathers, GathersFolder, GathersEntry, of_folder, of_file, gathered_file}
use Rattle.folder_files.proofs.Named.{AreFound, parts_held}

-- the paths of what is listed in the folder are gathered, one after the other
abbrev pub GathersAll : Parts → List ℕ → List ℕ → ℕ → List Entry → List (List ℕ) → List (List ℕ) → Type 0
GathersAll contents folder prefix left [] old new = new ≡ old
GathersAll contents folder prefix left (entry ∷ entries) old new = (between : List (List ℕ)) × GathersEntry contents folder prefix left entry old between × GathersAll contents folder prefix left entries between new

-- the paths of these files come behind others, each with the prefix, and they lead to them
record Adds (contents : Parts) (folder prefix : List ℕ) (files : List SourceFile) (old new : List (List ℕ)) : Type 0 where
  gathered : new ≡ old ++ map (prefixed prefix) files
  held : All (IsHeld contents folder) files

module _ (contents : Parts) (folder prefix : List ℕ) where
  adds_none : (old new : List (List ℕ)) → new ≡ old → Adds contents folder prefix [] old new
  adds_none old new e = record { gathered = e ∙ sym (append-nil old); held = All-nil (IsHeld contents folder) }

  adds_both : (files others : List SourceFile) (old between new : List (List ℕ)) → Adds contents folder prefix files old between → Adds contents folder prefix others between new → Adds contents folder prefix (files ++ others) old new
  adds_both files others old between new first second = record {
    gathered = second.gathered ∙ ap (λ (ps : List (List ℕ)). ps ++ map (prefixed prefix) others) first.gathered ∙ append_assoc old (map (prefixed prefix) files) (map (prefixed prefix) others) ∙ ap (λ (ps : List (List ℕ)). old ++ ps) (sym (map-append (prefixed prefix) files others));
    held = All-append (IsHeld contents folder) files others first.held second.held;
  }

  -- a file, if it is a class file
  adds_own : (b : Bool) (name bytes : List ℕ) (old new : List (List ℕ)) → held_at contents (path_in folder name) ≡ Some (file_held bytes) → new ≡ old ++ cond b ((prefix ++ name) ∷ []) [] → Adds contents folder prefix (cond b (source_file name bytes ∷ []) []) old new
  adds_own true name bytes old new held e = record { gathered = e; held = All-cons (IsHeld contents folder) (source_file name bytes) [] (ap (option_and_then file_of) held) (All-nil (IsHeld contents folder)) }
  adds_own false name bytes old new held e = record { gathered = e; held = All-nil (IsHeld contents folder) }

  own_first : (b : Bool) (file : SourceFile) (files : List SourceFile) → cond b (file ∷ []) [] ++ files ≡ cond b (file ∷ files) files
  own_first true file files = refl
  own_first false file files = refl

  -- the files of a folder in the folder
  paths_inside : (name : List ℕ) (files : List SourceFile) → map (prefixed (prefix_in prefix name)) files ≡ map (prefixed prefix) (map (inside name) files)
  paths_inside name [] = refl
  paths_inside name (file ∷ files) =
      let first : prefix_in prefix name ++ file.path ≡ prefix ++ (name ++ (codes "/" ++ file.path)) = append_assoc prefix (name ++ codes "/") file.path ∙ ap (λ (p : List ℕ). prefix ++ p) (append_assoc name (codes "/") file.path) in
      let rest = paths_inside name files in
      (λ i. first i ∷ rest i)

  held_inside : (name : List ℕ) (file : SourceFile) → IsHeld contents (path_in folder name) file → IsHeld contents folder (inside name file)
  held_inside name file held = ap (file_at contents) (sym (append_assoc folder (codes "/" ++ name) (codes "/" ++ file.path))) ∙ held

  adds_inside : (name : List ℕ) (left : ℕ) (inner : Parts) (old new : List (List ℕ)) → held_at contents (path_in folder name) ≡ Some (folder_held inner) → Gathers contents (path_in folder name) (prefix_in prefix name) left old new → Adds contents folder prefix (map (inside name) (files_below left inner)) old new
  adds_inside name left inner old new held g = record {
    gathered = subst (λ (ps : Parts). new ≡ old ++ map (prefixed (prefix_in prefix name)) (files_below left ps)) same g.gathered ∙ ap (λ (ps : List (List ℕ)). old ++ ps) (paths_inside name (files_below left inner));
    held = All-map (IsHeld contents folder) (inside name) (files_below left inner) (All-weaker (IsHeld contents (path_in folder name)) (λ f. IsHeld contents folder (inside name f)) (held_inside name) (files_below left inner) (subst (λ (ps : Parts). All (IsHeld contents (path_in folder name)) (files_below left ps)) same g.held));
  }
    where
      both : Some g.parts ≡ Some inner
      both = sym g.is_folder ∙ ap (option_and_then folder_of) held

      same : g.parts ≡ inner
      same = cc both

  file_listed : (left : ℕ) (entry : Entry) (old new : List (List ℕ)) → entry.is_folder ≡ false → GathersEntry contents folder prefix left entry old new → new ≡ old ++ gathered_file prefix entry.name
  file_listed left entry old new is (of_folder other g) = absurd (let e : true ≡ false = sym other ∙ is in cc)
  file_listed left entry old new is (of_file same g) = g

  folder_listed : (left : ℕ) (entry : Entry) (old new : List (List ℕ)) → entry.is_folder ≡ true → GathersEntry contents folder prefix left entry old new → GathersFolder contents folder prefix left entry.name old new
  folder_listed left entry old new is (of_folder same g) = g
  folder_listed left entry old new is (of_file other g) = absurd (let e : false ≡ true = sym other ∙ is in cc)

  adds_all : (left : ℕ) (parts : Parts) (old new : List (List ℕ)) → AreFound (λ n. held_at contents (path_in folder n)) parts → GathersAll contents folder prefix left (entries_of parts) old new → Adds contents folder prefix (files_below left parts) old new
  adds_all left no_parts old new found g = adds_none old new g
  adds_all left (file_part n bytes others) old new found g =
      let first = adds_own (is_class_file n) n bytes old g.0 found.0 (file_listed left (entry_of n (file_held bytes)) old g.0 refl g.1) in
      let rest = adds_all left others g.0 new found.1 g.2 in
      let files : cond (is_class_file n) (source_file n bytes ∷ []) [] ++ files_below left others ≡ files_below left (file_part n bytes others) = own_first (is_class_file n) (source_file n bytes) (files_below left others) in
      subst (λ (fs : List SourceFile). Adds contents folder prefix fs old new) files (adds_both _ (files_below left others) old g.0 new first rest)
  adds_all zero (folder_part n inner others) old new found g =
      let stays : g.0 ≡ old = folder_listed 0 (entry_of n (folder_held inner)) old g.0 refl g.1 in
      adds_all zero others old new found.1 (subst (λ (ps : List (List ℕ)). GathersAll contents folder prefix 0 (entries_of others) ps new) stays g.2)
  adds_all (suc left) (folder_part n inner others) old new found g =
      adds_both (map (inside n) (files_below left inner)) (files_below (suc left) others) old g.0 new
      (adds_inside n left inner old g.0 found.0 (folder_listed (suc left) (entry_of n (folder_held inner)) old g.0 refl g.1))
      (adds_all (suc left) others g.0 new found.1 g.2)

record IsListed (contents : Parts) (folder : List ℕ) (entries : List Entry) : Type 0 where
  parts : Parts
  is_folder : folder_at contents folder ≡ Some parts
  lists : entries_of parts ≡ entries

listed : (contents : Parts) (folder : List ℕ) (entries : List Entry) (o : Option Parts) → folder_at contents folder ≡ o → option_map entries_of o ≡ Some entries → IsListed contents folder entries
listed contents folder entries None is lists = absurd cc
listed contents folder entries (Some parts) is lists = record { parts = parts; is_folder = is; lists = cc }

-- the paths of all that is listed in a folder are those of its files
pub gathers : (h : Option Parts) (contents : Parts) (folder prefix : List ℕ) (left : ℕ) (entries : List Entry) (old new : List (List ℕ)) → h ≡ Some contents → Lists h folder entries → are_names (map entry_name entries) ≡ true → GathersAll contents folder prefix left entries old new → Gathers contents folder prefix left old new
gathers h contents folder prefix left entries old new tells lists names all = record { parts = l.parts; is_folder = l.is_folder; gathered = adds.gathered; held = adds.held }
  where
    l : IsListed contents folder entries
    l = listed contents folder entries (folder_at contents folder) refl (subst (λ (o : Option Parts). Lists o folder entries) tells lists)

    found : AreFound (λ n. held_at contents (path_in folder n)) l.parts
    found = parts_held contents folder l.parts l.is_folder (subst (λ (es : List Entry). are_names (map entry_name es) ≡ true) (sym l.lists) names)

    adds : Adds contents folder prefix (files_below left l.parts) old new
    adds = adds_all contents folder prefix left l.parts old new found (subst (λ (es : List Entry). GathersAll contents folder prefix left es old new) (sym l.lists) all)
