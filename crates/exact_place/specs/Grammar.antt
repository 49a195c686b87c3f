-- Grammars: which texts spell a value. They know nothing of readers, of fuel or of what follows a text.
use Rattle.std.specs.Prelude.{◌≡◌, ℕ, Bool, true, false, List, [], ◌∷◌, ◌++◌, Option, Some}

abbrev pub Spelling : Type 0 → Type 1
Spelling A = A → List ℕ → Type 0

-- a text of P, then a text of Q, which may depend on the first value
infixl 10 ◌then◌
pub record ◌then◌ {A B : Type 0} (P : Spelling A) (Q : A → Spelling B) (y : B) (text : List ℕ) : Type 0 where
  pub value : A
  pub front : List ℕ
  pub back : List ℕ
  pub first : P value front
  pub second : Q value y back
  pub parts : text ≡ front ++ back

-- this value, of no bytes
pub record IsValue {A : Type 0} (x : A) (y : A) (text : List ℕ) : Type 0 where
  pub same : y ≡ x
  pub empty : text ≡ []

-- these bytes
pub record IsLiteral (want : List ℕ) (u : Unit {0}) (text : List ℕ) : Type 0 where
  pub is : text ≡ want

-- these bytes, then a text of P
pub record Leads {A : Type 0} (want : List ℕ) (P : Spelling A) (x : A) (text : List ℕ) : Type 0 where
  pub back : List ℕ
  pub second : P x back
  pub parts : text ≡ want ++ back

-- one byte of a class
pub record IsOne {A : Type 0} (accept : ℕ → Option A) (x : A) (text : List ℕ) : Type 0 where
  pub byte : ℕ
  pub is : accept byte ≡ Some x
  pub parts : text ≡ byte ∷ []

-- a run that the class accepts
pub record IsRun {A : Type 0} (accept : List ℕ → Option A) (x : A) (text : List ℕ) : Type 0 where
  pub is : accept text ≡ Some x

-- f of a value of P
pub record IsMapped {A B : Type 0} (f : A → B) (P : Spelling A) (y : B) (text : List ℕ) : Type 0 where
  pub value : A
  pub first : P value text
  pub is : y ≡ f value

pub data Either {A : Type 0} (P Q : Spelling A) (x : A) (text : List ℕ) : Type 0 where
  first : P x text → Either P Q x text
  second : Q x text → Either P Q x text

-- by a test of what was read before
abbrev pub chosen : {A : Type 0} → Bool → Spelling A → Spelling A → Spelling A
chosen true P Q = P
chosen false P Q = Q

-- texts of P, one behind the other
pub data IsList {A : Type 0} (P : Spelling A) : List A → List ℕ → Type 0 where
  no_items : IsList P [] []
  an_item : {x : A} {xs : List A} {front back : List ℕ} → P x front → IsList P xs back → IsList P (x ∷ xs) (front ++ back)

-- the same, where what may come depends on what came
pub data IsWalk {S A : Type 0} (P : S → Spelling A) (next : S → A → S) : S → List A → List ℕ → Type 0 where
  walk_ends : {s : S} → IsWalk P next s [] []
  walk_on : {s : S} {x : A} {xs : List A} {front back : List ℕ} → P s x front → IsWalk P next (next s x) xs back → IsWalk P next s (x ∷ xs) (front ++ back)
