-- Names are ASCII.
use Rattle.std.proofs.Common.{◌≡◌, ℕ, zero, suc, ◌<◌, ◌≤◌, Bool, true, false, not, ◌&&◌, ◌||◌, eqb, ltb, leb, List, [], ◌∷◌, refl, arith, inl, inr, ◌⊎◌}
use Rattle.std.proofs.lemmas.Bool.{ltb-true, lt-ltb, eqb-true, leb-true}
use Rattle.std.specs.List.{list_all}
use Rattle.std.specs.Str.{IsAscii}
use Rattle.js_tree.specs.Names.{is_letter, is_digit, is_mark, is_name_character, is_name, is_property, is_file_character}
use Rattle.exact_place.proofs.Words.{both}
use Rattle.js_read_spec.specs.Words.{begins_name}
use Rattle.js_read_spec.proofs.WordLaws.{property_begins}

abbrev pub all_ascii : List ℕ → Bool
all_ascii = list_all (λ c. ltb c 128)

pub ascii_of : (ws : List ℕ) → all_ascii ws ≡ true → IsAscii ws
ascii_of [] h i = omega arith
ascii_of (c ∷ ws) h zero = ltb-true c 128 (both (ltb c 128) (all_ascii ws) h).0
ascii_of (c ∷ ws) h (suc i) = ascii_of ws (both (ltb c 128) (all_ascii ws) h).1 i

or_either : (a b : Bool) → (a || b) ≡ true → (a ≡ true) ⊎ (b ≡ true)
or_either true b e = inl refl
or_either false b e = inr e

range_ascii : (low high c : ℕ) → high < 128 → (leb low c && leb c high) ≡ true → ltb c 128 ≡ true
range_ascii low high c h e = let k = both (leb low c) (leb c high) e in let le : c ≤ high = leb-true c high k.1 in lt-ltb c 128 (omega arith)

this_ascii : (c d : ℕ) → d < 128 → eqb c d ≡ true → ltb c 128 ≡ true
this_ascii c d h e = let same : c ≡ d = eqb-true c d e in lt-ltb c 128 (omega arith)

character_ascii : (c : ℕ) → is_name_character c ≡ true → ltb c 128 ≡ true
character_ascii c e = elim (or_either (is_letter c) (is_mark c) e) [
  | inl k ↦ elim (or_either (leb 65 c && leb c 90) (leb 97 c && leb c 122) k) [ inl l ↦ range_ascii 65 90 c (omega arith) l | inr l ↦ range_ascii 97 122 c (omega arith) l ]
  | inr k ↦ elim (or_either (eqb c 95 || eqb c 36) (is_digit c) k) [
    | inl l ↦ elim (or_either (eqb c 95) (eqb c 36) l) [ inl m ↦ this_ascii c 95 (omega arith) m | inr m ↦ this_ascii c 36 (omega arith) m ]
    | inr l ↦ range_ascii 48 57 c (omega arith) l
  ]
]

characters_ascii : (ws : List ℕ) → list_all is_name_character ws ≡ true → all_ascii ws ≡ true
characters_ascii [] h = refl
characters_ascii (c ∷ ws) h = let k = both (is_name_character c) (list_all is_name_character ws) h in rw (character_ascii c k.0, characters_ascii ws k.1) refl

begins_ascii : (ws : List ℕ) → begins_name ws ≡ true → all_ascii ws ≡ true
begins_ascii [] h = refl
begins_ascii (c ∷ ws) h = characters_ascii (c ∷ ws) (both (list_all is_name_character (c ∷ ws)) (not (is_digit c)) h).0

pub name_ascii : (ws : List ℕ) → is_name ws ≡ true → all_ascii ws ≡ true
name_ascii [] h = refl
name_ascii (c ∷ ws) h = characters_ascii (c ∷ ws) (both (list_all is_name_character (c ∷ ws)) (not (is_digit c)) (both (list_all is_name_character (c ∷ ws) && not (is_digit c)) _ h).0).0

pub property_ascii : (ws : List ℕ) → is_property ws ≡ true → all_ascii ws ≡ true
property_ascii ws h = begins_ascii ws (both (begins_name ws) _ (property_begins ws h)).0

file_ascii : (c : ℕ) → is_file_character c ≡ true → ltb c 128 ≡ true
file_ascii c e = elim (or_either ((leb 97 c && leb c 122) || is_digit c) (eqb c 45) e) [
  | inl k ↦ elim (or_either (leb 97 c && leb c 122) (is_digit c) k) [ inl l ↦ range_ascii 97 122 c (omega arith) l | inr l ↦ range_ascii 48 57 c (omega arith) l ]
  | inr k ↦ this_ascii c 45 (omega arith) k
]

pub files_ascii : (ws : List ℕ) → list_all is_file_character ws ≡ true → all_ascii ws ≡ true
files_ascii [] h = refl
files_ascii (c ∷ ws) h = let k = both (is_file_character c) (list_all is_file_character ws) h in rw (file_ascii c k.0, files_ascii ws k.1) refl
