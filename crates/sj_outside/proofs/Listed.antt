-- What is listed in a folder is held under the folder's path and its name.
use Rattle.std.proofs.Common.{◌≡◌, ℕ, zero, suc, ◌<◌, Bool, true, false, List, [], ◌∷◌, ◌++◌, length, refl, subst, sym, ap, ◌∙◌, cond, arith}
use Rattle.std.specs.Prelude.{◌&&◌, ◌||◌, ◌==◌, not, map, Option, Some, None, option_and_then, option_map, is_some, nat_lt, IsSomeAnd}
use Rattle.std.specs.List.{All, list_any, list_all, slice_index_or, slice_split, onto_first}
use Rattle.std.specs.Cmp.Lexicographic.{nat_list_eq_equiv}
use Rattle.std.proofs.lemmas.Bool.{and_parts}
use Rattle.std.proofs.lemmas.Bool.Decides.{nat_tests}
use Rattle.std.proofs.lemmas.List.Splits.{slice_split-cons_yes, slice_split-cons_no, length-slice_split}
use Rattle.sj_outside.specs.declared.answers.Entry.{Entry}
use Rattle.sj_outside.specs.Reading.{Lists, lacks_folder}
use Rattle.sj_outside.specs.Contents.{Parts, no_parts, file_part, folder_part, Held, file_held, folder_held, part_named, held_under, held_below, held_at, folder_of, path_texts, entries_of, entry_name, are_names, is_name, is_same_text, is_folder_held}

-- A path and a name

split_front : (b : Bool) (x : ℕ) (parts more : List (List ℕ)) → 0 < length parts → cond b ([] ∷ (parts ++ more)) (onto_first x (parts ++ more)) ≡ cond b ([] ∷ parts) (onto_first x parts) ++ more
split_front b x [] more some = absurd (omega arith)
split_front true x (part ∷ parts) more some = refl
split_front false x (part ∷ parts) more some = refl

slice_split-joined : (p : ℕ → Bool) (xs : List ℕ) (y : ℕ) (ys : List ℕ) → p y ≡ true → slice_split p (xs ++ y ∷ ys) ≡ slice_split p xs ++ slice_split p ys
slice_split-joined p [] y ys cut = slice_split-cons_yes p y ys cut
slice_split-joined p (x ∷ xs) y ys cut =
    let some : 0 < length (slice_split p xs) = omega (arith, length-slice_split p xs) in
    ap (λ (parts : List (List ℕ)). cond (p x) ([] ∷ parts) (onto_first x parts)) (slice_split-joined p xs y ys cut) ∙ split_front (p x) x (slice_split p xs) (slice_split p ys) some

is_no : (b : Bool) → not b ≡ true → b ≡ false
is_no true e = cc
is_no false e = refl

slice_split-name : (name : List ℕ) → list_all (λ b. not (b == 47)) name ≡ true → slice_split (λ b. b == 47) name ≡ name ∷ []
slice_split-name [] plain = refl
slice_split-name (b ∷ bs) plain =
    let both = and_parts (not (b == 47)) (list_all (λ b. not (b == 47)) bs) plain in
    slice_split-cons_no (λ b. b == 47) b bs (is_no (b == 47) both.0) ∙ ap (onto_first b) (slice_split-name bs both.1)

below_both : (o : Option Held) (names more : List (List ℕ)) → ((held : Held) → held_below (names ++ more) held ≡ option_and_then (held_below more) (held_below names held)) → option_and_then (held_below (names ++ more)) o ≡ option_and_then (held_below more) (option_and_then (held_below names) o)
below_both None names more each = refl
below_both (Some held) names more each = each held

held_below-append : (names more : List (List ℕ)) (held : Held) → held_below (names ++ more) held ≡ option_and_then (held_below more) (held_below names held)
held_below-append [] more held = refl
held_below-append (name ∷ names) more held = below_both (held_under name held) names more (held_below-append names more)

below_one : (name : List ℕ) (held : Held) → held_below (name ∷ []) held ≡ held_under name held
below_one name held = keeps (held_under name held)
  where
    keeps : (o : Option Held) → option_and_then (held_below []) o ≡ o
    keeps None = refl
    keeps (Some h) = refl

-- what is held at a path and a name is what the name leads to from the path
pub held_at-joined : (contents : Parts) (path name : List ℕ) (parts : Parts) → is_name name ≡ true → held_at contents path ≡ Some (folder_held parts) → held_at contents (path ++ 47 ∷ name) ≡ held_under name (folder_held parts)
held_at-joined contents path name parts good held =
    let plain = (and_parts _ (list_all (λ b. not (b == 47)) name) good).1 in
    let texts : path_texts (path ++ 47 ∷ name) ≡ path_texts path ++ name ∷ [] = slice_split-joined (λ b. b == 47) path 47 name refl ∙ ap (λ (more : List (List ℕ)). path_texts path ++ more) (slice_split-name name plain) in
    ap (λ (names : List (List ℕ)). held_below names (folder_held contents)) texts
    ∙ held_below-append (path_texts path) (name ∷ []) (folder_held contents)
    ∙ ap (option_and_then (held_below (name ∷ []))) held
    ∙ below_one name (folder_held parts)

-- The entries of a folder

abbrev IsPart : Parts → Entry → Type 0
IsPart parts e = IsSomeAnd (part_named e.name parts) (λ held. is_folder_held held ≡ e.is_folder)

first_part : (b : Bool) (held : Held) (other : Option Held) (is_folder : Bool) → b ≡ true → is_folder_held held ≡ is_folder → IsSomeAnd (cond b (Some held) other) (λ h. is_folder_held h ≡ is_folder)
first_part true held other is_folder same kind = kind
first_part false held other is_folder same kind = absurd (let e : false ≡ true = same in cc)

later_part : (b : Bool) (held : Held) (other : Option Held) (is_folder : Bool) → b ≡ false → IsSomeAnd other (λ h. is_folder_held h ≡ is_folder) → IsSomeAnd (cond b (Some held) other) (λ h. is_folder_held h ≡ is_folder)
later_part true held other is_folder differs there = absurd (let e : true ≡ false = differs in cc)
later_part false held other is_folder differs there = there

no_one : (a b : Bool) → a || b ≡ false → (a ≡ false) × (b ≡ false)
no_one true b e = absurd (let h : true ≡ false = e in cc)
no_one false b e = (refl, e)

none_at : (p : List ℕ → Bool) (es : List Entry) → list_any p (map entry_name es) ≡ false → (k : ℕ) (d : Entry) → k < length es → p (slice_index_or es k d).name ≡ false
none_at p [] none k d below = absurd (omega arith)
none_at p (e ∷ es) none zero d below = (no_one (p e.name) (list_any p (map entry_name es)) none).0
none_at p (e ∷ es) none (suc k) d below = none_at p es (no_one (p e.name) (list_any p (map entry_name es)) none).1 k d (omega arith)

pub is_part : (parts : Parts) → are_names (map entry_name (entries_of parts)) ≡ true → (k : ℕ) (d : Entry) → k < length (entries_of parts) → IsPart parts (slice_index_or (entries_of parts) k d)
is_part no_parts names k d below = absurd (omega arith)
is_part (file_part n bytes others) names zero d below = first_part (is_same_text n n) (file_held bytes) (part_named n others) false (nat_list_eq_equiv.refl n) refl
is_part (folder_part n inner others) names zero d below = first_part (is_same_text n n) (folder_held inner) (part_named n others) true (nat_list_eq_equiv.refl n) refl
is_part (file_part n bytes others) names (suc k) d below =
    let both = and_parts (is_name n && not (list_any (is_same_text n) (map entry_name (entries_of others)))) (are_names (map entry_name (entries_of others))) names in
    let new = (and_parts (is_name n) (not (list_any (is_same_text n) (map entry_name (entries_of others)))) both.0).1 in
    let differs = none_at (is_same_text n) (entries_of others) (is_no _ new) k d (omega arith) in
    later_part _ (file_held bytes) _ _ differs (is_part others both.1 k d (omega arith))
is_part (folder_part n inner others) names (suc k) d below =
    let both = and_parts (is_name n && not (list_any (is_same_text n) (map entry_name (entries_of others)))) (are_names (map entry_name (entries_of others))) names in
    let new = (and_parts (is_name n) (not (list_any (is_same_text n) (map entry_name (entries_of others)))) both.0).1 in
    let differs = none_at (is_same_text n) (entries_of others) (is_no _ new) k d (omega arith) in
    later_part _ (folder_held inner) _ _ differs (is_part others both.1 k d (omega arith))

named_at : (es : List Entry) → are_names (map entry_name es) ≡ true → (k : ℕ) (d : Entry) → k < length es → is_name (slice_index_or es k d).name ≡ true
named_at [] names k d below = absurd (omega arith)
named_at (e ∷ es) names zero d below =
    let both = and_parts (is_name e.name && not (list_any (is_same_text e.name) (map entry_name es))) (are_names (map entry_name es)) names in
    (and_parts (is_name e.name) (not (list_any (is_same_text e.name) (map entry_name es))) both.0).0
named_at (e ∷ es) names (suc k) d below =
    let both = and_parts (is_name e.name && not (list_any (is_same_text e.name) (map entry_name es))) (are_names (map entry_name es)) names in
    named_at es both.1 k d (omega arith)

not_empty : (n : ℕ) → nat_lt 0 n ≡ true → n == 0 ≡ false
not_empty n some = grind (arith, nat_tests)

under_name : (name : List ℕ) (parts : Parts) → nat_lt 0 (length name) ≡ true → held_under name (folder_held parts) ≡ part_named name parts
under_name name parts some = ap (λ (empty : Bool). cond empty (Some (folder_held parts)) (part_named name parts)) (not_empty (length name) some)

abbrev IsHeldAs : Bool → Option Held → Type 0
IsHeldAs is_folder o = IsSomeAnd o (λ held. is_folder_held held ≡ is_folder)

held_at-listed : (contents : Parts) (path : List ℕ) (parts : Parts) → held_at contents path ≡ Some (folder_held parts) → are_names (map entry_name (entries_of parts)) ≡ true → All (λ e. IsHeldAs e.is_folder (held_at contents (path ++ 47 ∷ e.name))) (entries_of parts)
held_at-listed contents path parts held names k d below =
    let e : Entry = slice_index_or (entries_of parts) k d in
    let good = named_at (entries_of parts) names k d below in
    let there = held_at-joined contents path e.name parts good held ∙ under_name e.name parts (and_parts (nat_lt 0 (length e.name)) (list_all (λ b. not (b == 47)) e.name) good).0 in
    subst (IsHeldAs e.is_folder) (sym there) (is_part parts names k d below)

all_held : (contents : Parts) (path : List ℕ) (entries : List Entry) (o : Option Held) → held_at contents path ≡ o → option_map entries_of (option_and_then folder_of o) ≡ Some entries → are_names (map entry_name entries) ≡ true → All (λ e. IsHeldAs e.is_folder (held_at contents (path ++ 47 ∷ e.name))) entries
all_held contents path entries None held lists names = absurd (let e : None ≡ Some entries = lists in cc)
all_held contents path entries (Some (file_held bytes)) held lists names = absurd (let e : None ≡ Some entries = lists in cc)
all_held contents path entries (Some (folder_held parts)) held lists names =
    let same : entries_of parts ≡ entries = (let e : Some (entries_of parts) ≡ Some entries = lists in cc) in
    let P : List Entry → Type 0 = λ es. are_names (map entry_name es) ≡ true → All (λ e. IsHeldAs e.is_folder (held_at contents (path ++ 47 ∷ e.name))) es in
    subst P same (held_at-listed contents path parts held) names

folder_held_as : (o : Option Held) (is_folder : Bool) → is_folder ≡ true → IsHeldAs is_folder o → not (is_some (option_and_then folder_of o)) ≡ false
folder_held_as None is_folder kind there = absurd there
folder_held_as (Some (file_held bytes)) is_folder kind there = absurd (let e : false ≡ true = there ∙ kind in cc)
folder_held_as (Some (folder_held parts)) is_folder kind there = refl

-- a folder that is listed is held under the folder's path, `/` and its name
pub lacks_folder-listed : (contents : Parts) (path : List ℕ) (entries : List Entry) → Lists (Some contents) path entries → are_names (map entry_name entries) ≡ true → All (λ e. e.is_folder ≡ true → lacks_folder (Some contents) (path ++ 47 ∷ e.name) ≡ false) entries
lacks_folder-listed contents path entries lists names k d below kind =
    folder_held_as (held_at contents (path ++ 47 ∷ (slice_index_or entries k d).name)) _ kind (all_held contents path entries (held_at contents path) refl lists names k d below)
