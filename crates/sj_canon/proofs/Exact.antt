-- What is written tells where it ends.
use Rattle.std.proofs.Common.{◌≡◌, ℕ, ◌/◌, ◌%◌, List, [], ◌∷◌, ◌++◌, length, refl, sym, ap, ◌∙◌, arith, append_assoc, Option, Some, None, Bool, true, false, nat_lt, if◌then◌else◌, option_map}
use borrow.Author.Tests.{ltb-true}
use Rattle.std.specs.Prelude.{ℤ, pos, negsuc}
use Rattle.std.specs.Int.RustNames.{unsigned_abs}
use Rattle.sj_canon.specs.Numbers.{long_bytes, number_bytes, signed_bytes, text_bytes, each_bytes, list_bytes, option_bytes, is_negative, mark_byte}

-- whatever follows, two things that are written alike are seen alike, and what follows is the same
pub record Shows {C V : Type 0} (view : C → V) (bytes : C → List ℕ) : Type 0 where
  pub same : (x y : C) (r s : List ℕ) → bytes x ++ r ≡ bytes y ++ s → (view x ≡ view y) × (r ≡ s)

abbrev pub IsExact : {C : Type 0} → (C → List ℕ) → Type 0
IsExact {C} bytes = Shows {C = C} {V = C} (λ x. x) bytes

abbrev pub two : {V W : Type 0} → V → W → V × W
two a b = (a, b)

-- one behind the other
pub both : {C V W : Type 0} (view : C → V) (other : C → W) (f g : C → List ℕ) → Shows view f → Shows other g → Shows (λ x. two (view x) (other x)) (λ x. f x ++ g x)
both view other f g p q = record {
  same = λ x y r s e.
      let one = p.same x y (g x ++ r) (g y ++ s) (sym (append_assoc (f x) (g x) r) ∙ e ∙ append_assoc (f y) (g y) s) in
      let two = q.same x y r s one.1 in
      (λ i. (one.0 i, two.0 i), two.1);
}

-- of a part
pub of_part : {C A V : Type 0} (part : C → A) (view : A → V) (f : A → List ℕ) → Shows view f → Shows (λ x. view (part x)) (λ x. f (part x))
of_part part view f p = record { same = λ x y r s e. p.same (part x) (part y) r s e }

-- what is seen more coarsely
pub seen_as : {C V W : Type 0} (view : C → V) (other : C → W) (back : V → W) (f : C → List ℕ) → ((x : C) → back (view x) ≡ other x) → Shows view f → Shows other f
seen_as view other back f is p = record { same = λ x y r s e. let one = p.same x y r s e in (sym (is x) ∙ ap back one.0 ∙ is y, one.1) }

-- a byte in front
pub first_same : {A : Type 0} {x y : A} {xs ys : List A} → x ∷ xs ≡ y ∷ ys → x ≡ y
first_same e = cc

pub rest_same : {A : Type 0} {x y : A} {xs ys : List A} → x ∷ xs ≡ y ∷ ys → xs ≡ ys
rest_same e = cc

pub byte_shows : {C : Type 0} (byte : C → ℕ) → Shows byte (λ x. byte x ∷ [])
byte_shows byte = record { same = λ x y r s e. (first_same e, rest_same e) }

-- a number is told by its lowest byte and the rest
by_0 : (m n : ℕ) → m / 0x100 ≡ n / 0x100 → m % 256 ≡ n % 256 → m ≡ n
by_0 m n q d = omega arith

by_1 : (m n : ℕ) → m / 0x1_0000 ≡ n / 0x1_0000 → m / 0x100 % 256 ≡ n / 0x100 % 256 → m / 0x100 ≡ n / 0x100
by_1 m n q d = omega arith

by_2 : (m n : ℕ) → m / 0x100_0000 ≡ n / 0x100_0000 → m / 0x1_0000 % 256 ≡ n / 0x1_0000 % 256 → m / 0x1_0000 ≡ n / 0x1_0000
by_2 m n q d = omega arith

by_3 : (m n : ℕ) → m / 0x1_0000_0000 ≡ n / 0x1_0000_0000 → m / 0x100_0000 % 256 ≡ n / 0x100_0000 % 256 → m / 0x100_0000 ≡ n / 0x100_0000
by_3 m n q d = omega arith

by_4 : (m n : ℕ) → m / 0x100_0000_0000 ≡ n / 0x100_0000_0000 → m / 0x1_0000_0000 % 256 ≡ n / 0x1_0000_0000 % 256 → m / 0x1_0000_0000 ≡ n / 0x1_0000_0000
by_4 m n q d = omega arith

by_5 : (m n : ℕ) → m / 0x1_0000_0000_0000 ≡ n / 0x1_0000_0000_0000 → m / 0x100_0000_0000 % 256 ≡ n / 0x100_0000_0000 % 256 → m / 0x100_0000_0000 ≡ n / 0x100_0000_0000
by_5 m n q d = omega arith

by_6 : (m n : ℕ) → m / 0x100_0000_0000_0000 ≡ n / 0x100_0000_0000_0000 → m / 0x1_0000_0000_0000 % 256 ≡ n / 0x1_0000_0000_0000 % 256 → m / 0x1_0000_0000_0000 ≡ n / 0x1_0000_0000_0000
by_6 m n q d = omega arith

long_same : (m n : ℕ) (r s : List ℕ) → long_bytes m ++ r ≡ long_bytes n ++ s → (m ≡ n) × (r ≡ s)
unfolding long_bytes
long_same m n r s e =
    let h0 = first_same e in
    let e1 = rest_same e in
    let h1 = first_same e1 in
    let e2 = rest_same e1 in
    let h2 = first_same e2 in
    let e3 = rest_same e2 in
    let h3 = first_same e3 in
    let e4 = rest_same e3 in
    let h4 = first_same e4 in
    let e5 = rest_same e4 in
    let h5 = first_same e5 in
    let e6 = rest_same e5 in
    let h6 = first_same e6 in
    let e7 = rest_same e6 in
    let h7 = first_same e7 in
    (by_0 m n (by_1 m n (by_2 m n (by_3 m n (by_4 m n (by_5 m n (by_6 m n h7 h6) h5) h4) h3) h2) h1) h0, rest_same e7)

number_cases : (m n : ℕ) (r s : List ℕ) (p q : Bool) → nat_lt m 255 ≡ p → nat_lt n 255 ≡ q → (if p then m ∷ [] else 255 ∷ long_bytes m) ++ r ≡ (if q then n ∷ [] else 255 ∷ long_bytes n) ++ s → (m ≡ n) × (r ≡ s)
number_cases m n r s true true a b e = (first_same e, rest_same e)
number_cases m n r s true false a b e = let h : m ≡ 255 = first_same e in absurd (omega (arith, ltb-true m 255 a))
number_cases m n r s false true a b e = let h : 255 ≡ n = first_same e in absurd (omega (arith, ltb-true n 255 b))
number_cases m n r s false false a b e = long_same m n r s (rest_same e)

pub number_exact : IsExact number_bytes
unfolding number_bytes
number_exact = record { same = λ m n r s e. number_cases m n r s (nat_lt m 255) (nat_lt n 255) refl refl e }

-- numbers that may be negative
signed_same : (y z : ℤ) → mark_byte (is_negative y) ≡ mark_byte (is_negative z) → unsigned_abs y ≡ unsigned_abs z → y ≡ z
signed_same (pos m) (pos n) a b = ap pos b
signed_same (pos m) (negsuc n) a b = absurd (omega (arith, a))
signed_same (negsuc m) (pos n) a b = absurd (omega (arith, a))
signed_same (negsuc m) (negsuc n) a b = let h : m ≡ n = omega (arith, b) in ap negsuc h

pub signed_exact : IsExact signed_bytes
unfolding signed_bytes
signed_exact = record {
  same = λ y z r s e.
      let one = number_exact.same (unsigned_abs y) (unsigned_abs z) r s (rest_same e) in
      (signed_same y z (first_same e) one.0, one.1);
}

-- texts and lists
cut : {A : Type 0} (xs ys r s : List A) → length xs ≡ length ys → xs ++ r ≡ ys ++ s → (xs ≡ ys) × (r ≡ s)
cut [] [] r s l e = (refl, e)
cut [] (y ∷ ys) r s l e = absurd (omega (arith, l))
cut (x ∷ xs) [] r s l e = absurd (omega (arith, l))
cut (x ∷ xs) (y ∷ ys) r s l e =
    let k : length xs ≡ length ys = omega (arith, l) in
    let one = cut xs ys r s k (rest_same e) in
    (λ i. first_same e i ∷ one.0 i, one.1)

pub text_exact : IsExact text_bytes
unfolding text_bytes
text_exact = record {
  same = λ t u r s e.
      let one = number_exact.same (length t) (length u) (t ++ r) (u ++ s) (sym (append_assoc (number_bytes (length t)) t r) ∙ e ∙ append_assoc (number_bytes (length u)) u s) in
      cut t u r s one.0 one.1;
}

each_same : {A : Type 0} (bytes : A → List ℕ) → IsExact bytes → (xs ys : List A) (r s : List ℕ) → length xs ≡ length ys → each_bytes bytes xs ++ r ≡ each_bytes bytes ys ++ s → (xs ≡ ys) × (r ≡ s)
each_same bytes p [] [] r s l e = (refl, e)
each_same bytes p [] (y ∷ ys) r s l e = absurd (omega (arith, l))
each_same bytes p (x ∷ xs) [] r s l e = absurd (omega (arith, l))
each_same bytes p (x ∷ xs) (y ∷ ys) r s l e =
    let k : length xs ≡ length ys = omega (arith, l) in
    let one = p.same x y (each_bytes bytes xs ++ r) (each_bytes bytes ys ++ s) (sym (append_assoc (bytes x) (each_bytes bytes xs) r) ∙ e ∙ append_assoc (bytes y) (each_bytes bytes ys) s) in
    let two = each_same bytes p xs ys r s k one.1 in
    (λ i. one.0 i ∷ two.0 i, two.1)

pub list_exact : {A : Type 0} (bytes : A → List ℕ) → IsExact bytes → IsExact (list_bytes bytes)
list_exact bytes p = record {
  same = λ xs ys r s e.
      let one = number_exact.same (length xs) (length ys) (each_bytes bytes xs ++ r) (each_bytes bytes ys ++ s) (sym (append_assoc (number_bytes (length xs)) (each_bytes bytes xs) r) ∙ e ∙ append_assoc (number_bytes (length ys)) (each_bytes bytes ys) s) in
      each_same bytes p xs ys r s one.0 one.1;
}

-- what may be missing
zero_one : ◌≡◌ {A = ℕ} 0 1 → ⊥
zero_one e = omega (arith, e)

option_same : {A V : Type 0} (view : A → V) (bytes : A → List ℕ) → Shows view bytes → (x y : Option A) (r s : List ℕ) → option_bytes bytes x ++ r ≡ option_bytes bytes y ++ s → (option_map view x ≡ option_map view y) × (r ≡ s)
option_same view bytes p None None r s e = (refl, rest_same e)
option_same view bytes p None (Some y) r s e = absurd (zero_one (first_same e))
option_same view bytes p (Some x) None r s e = absurd (zero_one (sym (first_same e)))
option_same view bytes p (Some x) (Some y) r s e = let one = p.same x y r s (rest_same e) in (ap (λ v. Some v) one.0, one.1)

pub option_shows : {A V : Type 0} (view : A → V) (bytes : A → List ℕ) → Shows view bytes → Shows (option_map view) (option_bytes bytes)
option_shows view bytes p = record { same = option_same view bytes p }

same_option : {A : Type 0} (x : Option A) → option_map (λ a. a) x ≡ x
same_option None = refl
same_option (Some a) = refl

pub option_exact : {A : Type 0} (bytes : A → List ℕ) → IsExact bytes → IsExact (option_bytes bytes)
option_exact {A} bytes p = record { same = λ x y r s e. let one = option_same (λ (a : A). a) bytes p x y r s e in (sym (same_option x) ∙ one.0 ∙ same_option y, one.1) }
