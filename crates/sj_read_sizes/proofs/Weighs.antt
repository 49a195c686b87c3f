-- What a spelling weighs is at most the bytes that it takes, and those that are given beside it.
use Rattle.std.proofs.Common.{◌≡◌, ◌≤◌, ◌+◌, ℕ, zero, suc, List, [], ◌∷◌, length, Option, Some, None, ap, ◌∙◌, arith}
use Rattle.std.proofs.lemmas.List.{length-append}
use Rattle.exact_place.specs.Grammar.{Spelling, ◌then◌, IsValue}
use Rattle.sj_read_spec.specs.Spelling.{Never, Found, IsByte, IsNumber, IsEach, IsCounted}
use Rattle.sj_read_spec.specs.Types.{IsCode}

pub record Weighs {A : Type 0} (weight : A → ℕ) (beside : ℕ) (P : Spelling A) : Type 0 where
  pub most : (x : A) (text : List ℕ) → P x text → weight x ≤ beside + length text

-- the sum of what each weighs
abbrev pub sum_of : {A : Type 0} → (A → ℕ) → List A → ℕ
sum_of weight [] = 0
sum_of weight (x ∷ xs) = weight x + sum_of weight xs

pub behind : {A B : Type 0} {f : A → ℕ} {g : B → ℕ} {n : ℕ} {P : Spelling A} {next : A → Spelling B} → Weighs f 0 P → ((x : A) → Weighs g (n + f x) (next x)) → Weighs g n (P then next)
behind {A} {B} {f} {g} {n} {P} {next} first second = record {
  most = λ y text s.
      let here = first.most s.value s.front s.first in
      let there = (second s.value).most y s.back s.second in
      let whole : length text ≡ length s.front + length s.back = ap length s.parts ∙ length-append s.front s.back in
      omega (arith, here, there, whole);
}

pub skipping : {A B : Type 0} {g : B → ℕ} {n : ℕ} (P : Spelling A) {next : A → Spelling B} → ((x : A) → Weighs g n (next x)) → Weighs g n (P then next)
skipping {A} {B} {g} {n} P {next} second = record {
  most = λ y text s.
      let there = (second s.value).most y s.back s.second in
      let whole : length text ≡ length s.front + length s.back = ap length s.parts ∙ length-append s.front s.back in
      omega (arith, there, whole);
}

pub gives : {A : Type 0} {f : A → ℕ} {n : ℕ} {v : A} → f v ≤ n → Weighs f n (IsValue v)
gives {A} {f} {n} {v} few = record { most = λ x text s. let same : f x ≡ f v = ap f s.same in omega (arith, same, few) }

pub never : {A : Type 0} {f : A → ℕ} {n : ℕ} → Weighs {A = A} f n Never
never = record { most = λ x text s. absurd s.never }

found : {A : Type 0} (o : Option A) → Weighs (λ x. 1) 1 (Found o)
found (Some x) = gives (omega arith)
found None = never

a_byte : Weighs (λ b. 1) 0 IsByte
a_byte = record { most = λ b text s. let one : length text ≡ 1 = ap length s.byte in omega (arith, one) }

-- a code is a byte
pub a_code : {A : Type 0} (meaning : ℕ → Option A) → Weighs (λ x. 1) 0 (IsCode meaning)
a_code meaning = behind a_byte (λ code. found (meaning code))

each : {A : Type 0} {f : A → ℕ} {P : Spelling A} → Weighs f 0 P → (n : ℕ) → Weighs (sum_of f) 0 (IsEach P n)
unfolding IsEach
each p zero = gives (omega arith)
each p (suc n) = behind p (λ x. behind (each p n) (λ xs. gives (omega arith)))

pub listed : {A : Type 0} {f : A → ℕ} {P : Spelling A} → Weighs f 0 P → Weighs (sum_of f) 0 (IsCounted P)
listed p = skipping (IsNumber 4) (λ n. each p n)
