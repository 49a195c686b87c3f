-- What a unit's bytes are read as, and what bytes the unit read has.
use Rattle.std.proofs.Common.{◌≡◌, ◌<◌, ◌≤◌, ◌+◌, ◌/◌, ◌%◌, ◌^◌, ℕ, List, [], ◌∷◌, ◌++◌, Some, None, arith, refl, ap, subst, ◌∙◌, Bool, true, false, if◌then◌else◌}
use Rattle.std.specs.Prelude.{nat_lt, ◌&&◌}
use Rattle.sj_units.specs.Modified.{first_unit, unit_bytes, is_one_byte, is_two_bytes, is_three_bytes, unit_of_two, unit_of_three}

first_one : (a : ℕ) (rest : List ℕ) → is_one_byte a ≡ true → first_unit (a ∷ rest) ≡ Some (a, rest)
first_one a [] e = grind arith
first_one a (b ∷ []) e = grind arith
first_one a (b ∷ c ∷ rest) e = grind arith

first_two : (a b : ℕ) (rest : List ℕ) → is_one_byte a ≡ false → is_two_bytes a b ≡ true → first_unit (a ∷ b ∷ rest) ≡ Some (unit_of_two a b, rest)
first_two a b [] long e = rw (long, e)
first_two a b (c ∷ rest) long e = rw (long, e)

first_three : (a b c : ℕ) (rest : List ℕ) → is_one_byte a ≡ false → is_two_bytes a b ≡ false → is_three_bytes a b c ≡ true → first_unit (a ∷ b ∷ c ∷ rest) ≡ Some (unit_of_three a b c, rest)
first_three a b c rest long longer e = rw (long, longer, e)

two_back : (a b : ℕ) → is_two_bytes a b ≡ true → unit_bytes (unit_of_two a b) ≡ a ∷ b ∷ []
two_back a b e = grind arith

-- three bytes, with what is known of them
record Three (a b c : ℕ) : Type 0 where
  from : 0xe0 ≤ a
  to : a < 0xf0
  second_from : 0x80 ≤ b
  second_to : b < 0xc0
  third_from : 0x80 ≤ c
  third_to : c < 0xc0
  long : 0x800 ≤ unit_of_three a b c

three : (a b c : ℕ) → is_three_bytes a b c ≡ true → Three a b c
three a b c e = record {
  from = grind arith;
  to = grind arith;
  second_from = grind arith;
  second_to = grind arith;
  third_from = grind arith;
  third_to = grind arith;
  long = grind arith;
}

unit_bytes-three : (unit a b c : ℕ) → 0x800 ≤ unit → a ≡ 0xe0 + unit / 0x1000 → b ≡ 0x80 + unit / 0x40 % 0x40 → c ≡ 0x80 + unit % 0x40 → unit_bytes unit ≡ a ∷ b ∷ c ∷ []
unit_bytes-three unit a b c long is_a is_b is_c =
    let one : (nat_lt 0 unit && nat_lt unit 0x80) ≡ false = grind arith in
    let two : nat_lt unit 0x800 ≡ false = grind arith in
    rw (one, two, is_a, is_b, is_c)

three_back : (a b c : ℕ) → is_three_bytes a b c ≡ true → unit_bytes (unit_of_three a b c) ≡ a ∷ b ∷ c ∷ []
three_back a b c e =
    let known = three a b c e in
    unit_bytes-three (unit_of_three a b c) a b c known.long (omega arith) (omega arith) (omega arith)

two_small : (a b : ℕ) → is_two_bytes a b ≡ true → unit_of_two a b < 2 ^ 16
two_small a b e = grind arith

three_small : (a b c : ℕ) → is_three_bytes a b c ≡ true → unit_of_three a b c < 2 ^ 16
three_small a b c e = grind arith

split_two : (unit : ℕ) → unit < 0x800 → (nat_lt 0 unit && nat_lt unit 0x80) ≡ false → (is_one_byte (0xc0 + unit / 0x40) ≡ false) × (is_two_bytes (0xc0 + unit / 0x40) (0x80 + unit % 0x40) ≡ true) × (unit_of_two (0xc0 + unit / 0x40) (0x80 + unit % 0x40) ≡ unit)
split_two unit short long = (grind arith, grind arith, omega arith)

split_three : (unit : ℕ) → unit < 2 ^ 16 → 0x800 ≤ unit → (is_one_byte (0xe0 + unit / 0x1000) ≡ false) × (is_two_bytes (0xe0 + unit / 0x1000) (0x80 + unit / 0x40 % 0x40) ≡ false) × (is_three_bytes (0xe0 + unit / 0x1000) (0x80 + unit / 0x40 % 0x40) (0x80 + unit % 0x40) ≡ true) × (unit_of_three (0xe0 + unit / 0x1000) (0x80 + unit / 0x40 % 0x40) (0x80 + unit % 0x40) ≡ unit)
split_three unit short long = (grind arith, grind arith, grind arith, omega arith)

-- a unit's bytes are read as that unit, whatever follows
pub first_unit-unit_bytes : (unit : ℕ) (rest : List ℕ) → unit < 2 ^ 16 → first_unit (unit_bytes unit ++ rest) ≡ Some (unit, rest)
first_unit-unit_bytes unit rest fits = by_test (nat_lt 0 unit && nat_lt unit 0x80) refl
  where
    longer : (short : Bool) → nat_lt unit 0x800 ≡ short → (nat_lt 0 unit && nat_lt unit 0x80) ≡ false → first_unit (unit_bytes unit ++ rest) ≡ Some (unit, rest)
    longer true short long =
        let below : unit < 0x800 = grind arith in
        let known = split_two unit below long in
        rw (long, short) (first_two _ _ rest known.0 known.1 ∙ ap (λ u. Some (u, rest)) known.2)
    longer false short long =
        let above : 0x800 ≤ unit = grind arith in
        let known = split_three unit fits above in
        rw (long, short) (first_three _ _ _ rest known.0 known.1 known.2 ∙ ap (λ u. Some (u, rest)) known.3)

    by_test : (one : Bool) → (nat_lt 0 unit && nat_lt unit 0x80) ≡ one → first_unit (unit_bytes unit ++ rest) ≡ Some (unit, rest)
    by_test true one = rw one (first_one unit rest one)
    by_test false long = longer (nat_lt unit 0x800) refl long

-- what holds of each of three choices holds of the one that is chosen
told : (p q r : Bool) (P : ℕ × List ℕ → Type 0) (one two three unit : ℕ × List ℕ) → (p ≡ true → P one) → (q ≡ true → P two) → (r ≡ true → P three) →
    (if p then Some one else if q then Some two else if r then Some three else None) ≡ Some unit → P unit
told true q r P one two three unit in_one in_two in_three e = let same : one ≡ unit = cc in subst P same (in_one refl)
told false true r P one two three unit in_one in_two in_three e = let same : two ≡ unit = cc in subst P same (in_two refl)
told false false true P one two three unit in_one in_two in_three e = let same : three ≡ unit = cc in subst P same (in_three refl)
told false false false P one two three unit in_one in_two in_three e = cc

-- the bytes of a unit in front of a rest
abbrev IsFront : List ℕ → ℕ × List ℕ → Type 0
IsFront bytes x = (x.0 < 2 ^ 16) × (unit_bytes x.0 ++ x.1 ≡ bytes)

front_one : (a : ℕ) (rest : List ℕ) → is_one_byte a ≡ true → IsFront (a ∷ rest) (a, rest)
front_one a rest e = (grind arith, rw e)

front_two : (a b : ℕ) (rest : List ℕ) → is_two_bytes a b ≡ true → IsFront (a ∷ b ∷ rest) (unit_of_two a b, rest)
front_two a b rest e = (two_small a b e, rw (two_back a b e))

front_three : (a b c : ℕ) (rest : List ℕ) → is_three_bytes a b c ≡ true → IsFront (a ∷ b ∷ c ∷ rest) (unit_of_three a b c, rest)
front_three a b c rest e = (three_small a b c e, rw (three_back a b c e))

-- the unit that is read has the bytes that it was read from
pub unit_bytes-first : (bytes rest : List ℕ) (unit : ℕ) → first_unit bytes ≡ Some (unit, rest) → (unit < 2 ^ 16) × (unit_bytes unit ++ rest ≡ bytes)
unit_bytes-first [] rest unit e = cc
unit_bytes-first (a ∷ []) rest unit e =
    told (is_one_byte a) false false (IsFront (a ∷ [])) (a, []) (a, []) (a, []) (unit, rest) (front_one a []) (λ no. cc) (λ no. cc) e
unit_bytes-first (a ∷ b ∷ []) rest unit e =
    told (is_one_byte a) (is_two_bytes a b) false (IsFront (a ∷ b ∷ [])) (a, b ∷ []) (unit_of_two a b, []) (a, []) (unit, rest)
    (front_one a (b ∷ [])) (front_two a b []) (λ no. cc) e
unit_bytes-first (a ∷ b ∷ c ∷ others) rest unit e =
    told (is_one_byte a) (is_two_bytes a b) (is_three_bytes a b c) (IsFront (a ∷ b ∷ c ∷ others))
    (a, b ∷ c ∷ others) (unit_of_two a b, c ∷ others) (unit_of_three a b c, others) (unit, rest)
    (front_one a (b ∷ c ∷ others)) (front_two a b (c ∷ others)) (front_three a b c others) e
