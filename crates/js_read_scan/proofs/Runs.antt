-- The longest runs of characters.
use Rattle.std.proofs.Common.{◌≡◌, ℕ, Bool, true, false, not, ◌&&◌, List, [], ◌∷◌, ◌++◌, take, drop, refl, sym, take-append-drop, eqb}
use Rattle.std.proofs.lemmas.Bool.{eqb-true}
use Rattle.std.specs.List.{list_all}
use Rattle.exact_place.specs.Reading.{passes}
use Rattle.exact_place.proofs.Words.{both}
use Rattle.js_tree.specs.Names.{is_name_character, is_digit, is_dunder, is_file_character}
use Rattle.js_read_spec.specs.Words.{begins_name, begins_property, is_word_start}
use Rattle.js_read_spec.specs.Modules.{begins_file}
use Rattle.text_scan.specs.Runs.{IsSplit}
use Rattle.js_read_scan.specs.Runs.{IsLongest}
use Rattle.js_read_spec.proofs.WordLaws.{all_over}

ends_name : (word : List ℕ) (c : ℕ) → is_name_character c ≡ false → begins_name (word ++ c ∷ []) ≡ false
ends_name word c n = by word (all_over is_name_character word c n)
  where
    by : (word : List ℕ) → list_all is_name_character (word ++ c ∷ []) ≡ false → begins_name (word ++ c ∷ []) ≡ false
    by [] h = rw h refl
    by (b ∷ word) h = rw h refl

word_all : (word rest : List ℕ) → passes is_word_start (word ++ rest) ≡ true → list_all is_name_character word ≡ true → begins_name word ≡ true
word_all [] rest s a = refl
word_all (b ∷ word) rest s a = let k = both (is_name_character b) (not (is_digit b)) s in rw (a, k.1) refl

pub name_split : (bytes : List ℕ) (n : ℕ) → passes is_word_start bytes ≡ true → IsLongest is_name_character bytes n → IsSplit begins_name bytes (take n bytes) (drop n bytes)
name_split bytes n s l = record {
  parts = sym (take-append-drop n bytes);
  whole = word_all (take n bytes) (drop n bytes) (rw take-append-drop s) l.all;
  over = λ c back e. ends_name (take n bytes) c (l.over c back e);
}

pub no_name_split : (bytes : List ℕ) → passes is_word_start bytes ≡ false → IsSplit begins_name bytes (take 0 bytes) (drop 0 bytes)
no_name_split bytes s = record { parts = refl; whole = refl; over = over bytes s }
  where
    over : (bytes : List ℕ) → passes is_word_start bytes ≡ false → (c : ℕ) (back : List ℕ) → bytes ≡ c ∷ back → begins_name (c ∷ []) ≡ false
    over [] s c back e = absurd (cc e)
    over (b ∷ bytes) s c back e = let head : b ≡ c = cc e in rw (← head) (by (is_name_character b) (is_digit b) s)
      where
        by : (a d : Bool) → (a && not d) ≡ false → ((a && true) && not d) ≡ false
        by true d h = h
        by false d h = refl

pub dunder_split : (bytes : List ℕ) → is_dunder bytes ≡ true → IsSplit begins_property bytes (take 1 bytes) (drop 1 bytes)
dunder_split [] d = absurd cc
dunder_split (b ∷ []) d = absurd cc
dunder_split (b ∷ c ∷ bytes) d = by (both _ _ d)
  where
    by : (eqb b 95 ≡ true) × (eqb c 95 ≡ true) → IsSplit begins_property (b ∷ c ∷ bytes) (b ∷ []) (c ∷ bytes)
    by k = let same : b ≡ 95 = eqb-true b 95 k.0 in record { parts = refl; whole = rw same refl; over = λ e back f. let head : c ≡ e = cc f in let two : c ≡ 95 = eqb-true c 95 k.1 in rw (← head, same, two) refl }

pub property_split : (bytes word rest : List ℕ) → is_dunder bytes ≡ false → IsSplit begins_name bytes word rest → IsSplit begins_property bytes word rest
property_split bytes word rest d s = record {
  parts = s.parts;
  whole = rw (s.whole, front word rest (rw (← s.parts) d)) refl;
  over = λ c back e. rw (s.over c back e) refl;
}
  where
    front : (word rest : List ℕ) → is_dunder (word ++ rest) ≡ false → is_dunder word ≡ false
    front [] rest d = refl
    front (b ∷ []) rest d = refl
    front (b ∷ c ∷ word) rest d = d

pub file_split : (bytes : List ℕ) (n : ℕ) → IsLongest is_file_character bytes n → IsSplit begins_file bytes (take n bytes) (drop n bytes)
file_split bytes n l = record { parts = sym (take-append-drop n bytes); whole = l.all; over = λ c back e. all_over is_file_character (take n bytes) c (l.over c back e) }

pub ruleset name_runs = (name_split, no_name_split, dunder_split, property_split, file_split)

-- ---- one character more

pub longest_more : (test : ℕ → Bool) (front : List ℕ) (c : ℕ) → list_all test front ≡ true → test c ≡ true → list_all test (front ++ c ∷ []) ≡ true
longest_more test [] c a t = rw t refl
longest_more test (b ∷ front) c a t = let k = both (test b) (list_all test front) a in rw (k.0, longest_more test front c k.1 t) refl
