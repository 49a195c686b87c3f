-- The place of a text that spells nothing, and the law by which readers are proved to give it.
use Rattle.std.specs.Prelude.{◌≡◌, ℕ, ◌+◌, ◌<◌, ◌≤◌, Bool, true, List, [], ◌∷◌, ◌++◌, length, take, Ok, Err}
use Rattle.exact_place.specs.Reading.{Reading}
use Rattle.exact_place.specs.Grammar.{Spelling}

-- some text of P begins with these bytes
pub record Begins {A : Type 0} (P : Spelling A) (front : List ℕ) : Type 0 where
  pub value : A
  pub more : List ℕ
  pub spelled : P value (front ++ more)

-- the longest front of the bytes that begins a text of P has this length
pub record Place {A : Type 0} (P : Spelling A) (bytes : List ℕ) (place : ℕ) : Type 0 where
  pub within : place ≤ length bytes
  pub begins : Begins P (take place bytes)
  pub longest : place < length bytes → Begins P (take (place + 1) bytes) → ⊥

-- the bytes end, or the next one passes
abbrev pub Stops : (ℕ → Bool) → List ℕ → Type 0
Stops stop [] = Unit {0}
Stops stop (c ∷ rest) = stop c ≡ true

-- what was read is read again, whatever follows the next byte
abbrev pub Steady : {A : Type 0} → (List ℕ → Reading A) → List ℕ → A → List ℕ → Type 0
Steady again text x [] = Unit {0}
Steady again text x (c ∷ rest) = (more : List ℕ) → again (text ++ c ∷ more) ≡ Ok (x, c ∷ more)

-- reading stops at the next byte, whatever follows it
abbrev pub Dead : {A : Type 0} → (List ℕ → Reading A) → List ℕ → List ℕ → Type 0
Dead again front [] = Unit {0}
Dead again front (c ∷ back) = (more : List ℕ) → again (front ++ c ∷ more) ≡ Err (length (c ∷ more))

pub record Takes {A : Type 0} (again : List ℕ → Reading A) (P : Spelling A) (bytes : List ℕ) (x : A) (rest : List ℕ) : Type 0 where
  pub text : List ℕ
  pub spelled : P x text
  pub parts : bytes ≡ text ++ rest
  pub steady : Steady again text x rest

pub record Halts {A : Type 0} (n : ℕ) (again : List ℕ → Reading A) (P : Spelling A) (bytes : List ℕ) (left : ℕ) : Type 0 where
  pub front : List ℕ
  pub back : List ℕ
  pub parts : bytes ≡ front ++ back
  pub left_is : left ≡ length back
  pub begins : length front < n → Begins P front
  pub dead : length front < n → Dead again front back

-- A reader with fuel n, the same reader with the same fuel or more, and the grammar that it is a reader of.
-- A text of the grammar is read where a byte that passes stop, or nothing, follows it.
pub record Law {A : Type 0} (n : ℕ) (stop : ℕ → Bool) (read again : List ℕ → Reading A) (P : Spelling A) : Type 0 where
  -- what is read is spelled
  pub takes : (bytes : List ℕ) (x : A) (rest : List ℕ) → read bytes ≡ Ok (x, rest) → Takes again P bytes x rest
  -- what is spelled, and shorter than the fuel, is read
  pub reads : (x : A) (text rest : List ℕ) → length text < n → P x text → Stops stop rest → again (text ++ rest) ≡ Ok (x, rest)
  -- where reading stops, the bytes so far begin a text, and the next byte ends every hope of one
  pub halts : (bytes : List ℕ) (left : ℕ) → read bytes ≡ Err left → Halts n again P bytes left
  -- the grammar has a text
  pub some : Begins P []
