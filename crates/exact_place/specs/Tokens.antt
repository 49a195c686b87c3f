-- Tokens: how a run of bytes may go on, and which runs are words.
use Rattle.std.specs.Prelude.{◌≡◌, ℕ, ◌+◌, ◌-◌, ◌*◌, Bool, true, false, cond, not, ◌&&◌, ◌||◌, nat_lt, nat_le, List, [], ◌∷◌, ◌++◌, Option, Some, None, nat_eq, ◌==◌}
use Rattle.std.specs.Cmp.Lexicographic.{pointwise}
use Rattle.exact_place.specs.Grammar.{IsRun}
use Rattle.exact_place.specs.Place.{Begins}

-- A run that is alive begins a word. A word ends where a byte that passes stop follows.
pub record IsToken {A : Type 0} (alive : List ℕ → Bool) (accept : List ℕ → Option A) (stop : ℕ → Bool) : Type 0 where
  pub nothing : alive [] ≡ true
  pub closed : (front : List ℕ) (c : ℕ) (more : List ℕ) → alive (front ++ c ∷ more) ≡ true → alive (front ++ c ∷ []) ≡ true
  pub accepts : (text : List ℕ) (x : A) → accept text ≡ Some x → alive text ≡ true
  pub live : (front : List ℕ) → alive front ≡ true → Begins (IsRun accept) front
  pub ends : (text : List ℕ) (x : A) (c : ℕ) → accept text ≡ Some x → stop c ≡ true → alive (text ++ c ∷ []) ≡ false

-- ---- names, and the keywords that may stand in their place

-- Names of some kind: each run that is alive is the front of a name, and a byte that passes stop ends it.
pub record AreNames (alive name : List ℕ → Bool) (stop : ℕ → Bool) : Type 0 where
  pub nothing : alive [] ≡ true
  pub closed : (front : List ℕ) (c : ℕ) (more : List ℕ) → alive (front ++ c ∷ more) ≡ true → alive (front ++ c ∷ []) ≡ true
  pub names : (text : List ℕ) → name text ≡ true → alive text ≡ true
  pub grows : (front : List ℕ) → alive front ≡ true → (more : List ℕ) × (name (front ++ more) ≡ true)
  pub ends : (text : List ℕ) (c : ℕ) → stop c ≡ true → alive (text ++ c ∷ []) ≡ false

-- a name by its text, or a keyword
abbrev pub word_of : {A : Type 0} → (List ℕ → Bool) → (List ℕ → A) → (List ℕ → Option A) → List ℕ → Option A
word_of name of keyword text = cond (name text) (Some (of text)) (keyword text)

-- ---- words of a table

-- the first text begins the second
abbrev pub is_front : List ℕ → List ℕ → Bool
is_front [] e = true
is_front (c ∷ u) [] = false
is_front (c ∷ u) (d ∷ e) = (c == d) && is_front u e

abbrev pub is_text : List ℕ → List ℕ → Bool
is_text = pointwise nat_eq

pub record Entry (A : Type 0) : Type 0 where
  pub word : List ℕ
  pub value : A

abbrev pub begins_entry : {A : Type 0} → List (Entry A) → List ℕ → Bool
begins_entry [] u = false
begins_entry (e ∷ es) u = is_front u e.word || begins_entry es u

abbrev pub entry_of : {A : Type 0} → List (Entry A) → List ℕ → Option A
entry_of [] u = None
entry_of (e ∷ es) u = cond (is_text u e.word) (Some e.value) (entry_of es u)

-- no word of the table goes on, by a byte that passes stop, where another one ends
abbrev pub ends_before : (ℕ → Bool) → List ℕ → List ℕ → Bool
ends_before stop [] [] = true
ends_before stop [] (d ∷ e) = not (stop d)
ends_before stop (c ∷ u) [] = true
ends_before stop (c ∷ u) (d ∷ e) = cond (c == d) (ends_before stop u e) true

abbrev pub word_ends : {A : Type 0} → (ℕ → Bool) → List ℕ → List (Entry A) → Bool
word_ends stop u [] = true
word_ends stop u (e ∷ es) = ends_before stop u e.word && word_ends stop u es

abbrev pub each_ends : {A : Type 0} → (ℕ → Bool) → List (Entry A) → List (Entry A) → Bool
each_ends stop [] es = true
each_ends stop (d ∷ ds) es = word_ends stop d.word es && each_ends stop ds es

-- ---- decimal numbers below a limit, without zeros in front

abbrev pub is_digit : ℕ → Bool
is_digit c = nat_le 48 c && nat_le c 57

-- the number that is read where the digits before were v
abbrev pub one_more : ℕ → ℕ → ℕ
one_more v c = v * 10 + (c - 48)

abbrev pub digits_value : ℕ → List ℕ → ℕ
digits_value v [] = v
digits_value v (c ∷ cs) = digits_value (one_more v c) cs

abbrev pub digits_below : ℕ → ℕ → List ℕ → Bool
digits_below limit v [] = true
digits_below limit v (c ∷ cs) = is_digit c && (nat_lt (one_more v c) limit && digits_below limit (one_more v c) cs)

abbrev pub is_nil : List ℕ → Bool
is_nil [] = true
is_nil (c ∷ cs) = false

-- a front of a number below the limit; nought says whether 0 is one
abbrev pub begins_number : Bool → ℕ → List ℕ → Bool
begins_number nought limit [] = true
begins_number nought limit (c ∷ cs) = cond (c == 48) (nought && is_nil cs) (digits_below limit 0 (c ∷ cs))

abbrev pub number_of : Bool → ℕ → List ℕ → Option ℕ
number_of nought limit [] = None
number_of nought limit (c ∷ cs) = cond (begins_number nought limit (c ∷ cs)) (Some (digits_value 0 (c ∷ cs))) None

-- each word of the table passes the test
abbrev pub each_word : {A : Type 0} → (List ℕ → Bool) → List (Entry A) → Bool
each_word test [] = true
each_word test (e ∷ es) = test e.word && each_word test es
