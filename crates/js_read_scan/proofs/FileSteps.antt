-- The characters of a file's name that are split off are what the reader on lists reads.
use Rattle.std.proofs.Common.{◌≡◌, ℕ, true, false, List, [], ◌∷◌, ◌++◌, length, Ok, Err, refl, ◌∙◌}
use Rattle.exact_place.specs.Reading.{found_at}
use Rattle.exact_place.specs.Tokens.{word_of}
use Rattle.exact_place.proofs.Words.{both}
use Rattle.js_tree.specs.Names.{is_file_character, is_empty}
use Rattle.js_read_spec.specs.Words.{no_keyword}
use Rattle.js_read_spec.specs.Modules.{begins_file, is_file_front, file_front_at}
use Rattle.text_scan.specs.Runs.{IsSplit}
use Rattle.text_scan.proofs.Runs.{run_split}

closed : (front : List ℕ) (c : ℕ) (more : List ℕ) → begins_file (front ++ c ∷ more) ≡ true → begins_file (front ++ c ∷ []) ≡ true
closed [] c more h = rw (both (is_file_character c) (begins_file more) h).0 refl
closed (b ∷ front) c more h = let k = both (is_file_character b) (begins_file (front ++ c ∷ more)) h in rw (k.0, closed front c more k.1) refl

file_split_read : (bytes word rest : List ℕ) → IsSplit begins_file bytes word rest → file_front_at bytes ≡ found_at (word_of is_file_front (λ x. x) no_keyword word) rest rest
unfolding file_front_at
file_split_read bytes word rest s = run_split begins_file (word_of is_file_front (λ x. x) no_keyword) closed bytes word rest s

pub file_missed : (bytes word rest : List ℕ) → IsSplit begins_file bytes word rest → is_empty word ≡ true → file_front_at bytes ≡ Err (length rest)
file_missed bytes word rest s e = file_split_read bytes word rest s ∙ rw (s.whole, e) refl

pub file_read : (bytes word rest : List ℕ) → IsSplit begins_file bytes word rest → is_empty word ≡ false → file_front_at bytes ≡ Ok (word, rest)
file_read bytes word rest s e = file_split_read bytes word rest s ∙ rw (s.whole, e) refl

pub ruleset file_steps = (file_missed, file_read)
