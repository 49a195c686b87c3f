-- A word that is split off is what the reader on lists reads.
use Rattle.std.proofs.Common.{◌≡◌, ℕ, Bool, true, false, cond, List, [], length, Option, Some, None, Ok, Err, refl, sym, ap, ◌∙◌}
use Rattle.exact_place.specs.Reading.{found_at, run_at}
use Rattle.js_tree.specs.Names.{is_name, is_property}
use Rattle.js_read_spec.specs.declared.words.Head.{Head}
use Rattle.js_read_spec.specs.Words.{begins_name, begins_property, head_of, name_of, property_name_of}
use Rattle.js_read_spec.specs.Tokens.{name_at, property_at, head_at}
use Rattle.text_scan.specs.Runs.{IsSplit}
use Rattle.text_scan.proofs.Runs.{run_split}
use Rattle.js_read_spec.proofs.WordLaws.{names, properties}

pub name_read : (bytes word rest : List ℕ) → IsSplit begins_name bytes word rest → is_name word ≡ true → name_at bytes ≡ Ok (word, rest)
unfolding name_at
name_read bytes word rest s e = run_split begins_name name_of names.closed bytes word rest s ∙ (rw e refl)

pub name_missed : (bytes word rest : List ℕ) → IsSplit begins_name bytes word rest → is_name word ≡ false → name_at bytes ≡ Err (length rest)
unfolding name_at
name_missed bytes word rest s e = run_split begins_name name_of names.closed bytes word rest s ∙ (rw e refl)

pub property_read : (bytes word rest : List ℕ) → IsSplit begins_property bytes word rest → is_property word ≡ true → property_at bytes ≡ Ok (word, rest)
unfolding property_at
property_read bytes word rest s e = run_split begins_property property_name_of properties.closed bytes word rest s ∙ (ap (λ (b : Bool). found_at (cond b (Some word) None) rest rest) e)

pub property_missed : (bytes word rest : List ℕ) → IsSplit begins_property bytes word rest → is_property word ≡ false → property_at bytes ≡ Err (length rest)
unfolding property_at
property_missed bytes word rest s e = run_split begins_property property_name_of properties.closed bytes word rest s ∙ (ap (λ (b : Bool). found_at (cond b (Some word) None) rest rest) e)

pub head_read : (bytes word rest : List ℕ) (h : Head) → IsSplit begins_name bytes word rest → Some h ≡ head_of word → head_at bytes ≡ Ok (h, rest)
unfolding head_at
head_read bytes word rest h s e = run_split begins_name head_of names.closed bytes word rest s ∙ ap (λ (o : Option Head). found_at o rest rest) (sym e)

pub head_missed : (bytes word rest : List ℕ) → IsSplit begins_name bytes word rest → ◌≡◌ {A = Option Head} None (head_of word) → head_at bytes ≡ Err (length rest)
unfolding head_at
head_missed bytes word rest s e = run_split begins_name head_of names.closed bytes word rest s ∙ ap (λ (o : Option Head). found_at o rest rest) (sym e)

-- a word of any kind that begins as a name does
pub word_head_read : {A : Type 0} (accept : List ℕ → Option A) (bytes word rest : List ℕ) (h : A) → IsSplit begins_name bytes word rest → Some h ≡ accept word → run_at begins_name accept [] bytes ≡ Ok (h, rest)
word_head_read {A} accept bytes word rest h s e = run_split begins_name accept names.closed bytes word rest s ∙ ap (λ (o : Option A). found_at o rest rest) (sym e)

pub word_head_missed : {A : Type 0} (accept : List ℕ → Option A) (bytes word rest : List ℕ) → IsSplit begins_name bytes word rest → ◌≡◌ {A = Option A} None (accept word) → run_at begins_name accept [] bytes ≡ Err (length rest)
word_head_missed {A} accept bytes word rest s e = run_split begins_name accept names.closed bytes word rest s ∙ ap (λ (o : Option A). found_at o rest rest) (sym e)

-- the same as the name of a property does
pub property_head_read : {A : Type 0} (accept : List ℕ → Option A) (bytes word rest : List ℕ) (h : A) → IsSplit begins_property bytes word rest → Some h ≡ accept word → run_at begins_property accept [] bytes ≡ Ok (h, rest)
property_head_read {A} accept bytes word rest h s e = run_split begins_property accept properties.closed bytes word rest s ∙ ap (λ (o : Option A). found_at o rest rest) (sym e)

pub property_head_missed : {A : Type 0} (accept : List ℕ → Option A) (bytes word rest : List ℕ) → IsSplit begins_property bytes word rest → ◌≡◌ {A = Option A} None (accept word) → run_at begins_property accept [] bytes ≡ Err (length rest)
property_head_missed {A} accept bytes word rest s e = run_split begins_property accept properties.closed bytes word rest s ∙ ap (λ (o : Option A). found_at o rest rest) (sym e)

pub ruleset head_steps = (name_read, name_missed, property_read, property_missed, head_read, head_missed)
