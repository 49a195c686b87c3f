-- Two variables have two names in the emitted code, and two labels, whatever numbers a name is made of.
use Rattle.std.proofs.Common.{◌≡◌, ◌≤◌, ℕ, zero, suc, List, [], ◌∷◌, map, refl, sym, ap, arith}
use Rattle.std.specs.Prelude.{codes, ◌+◌}
use Rattle.std.specs.Int.Digits.{digits_of, AllBelowBase}
use Rattle.std.proofs.lemmas.Int.Digits.{all_below_base_digits_of}
use Rattle.agree_body_rules.specs.Terms.{Variable, named, numbered, receiver}
use Rattle.agree_body_rules.specs.Names.{variable_name, label_name}
use Rattle.sj_mangling.specs.Mangling.{mangled}
use Rattle.sj_mangling.specs.Numerals.{number_text}
use Rattle.sj_mangling.proofs.Injective.{mangled_texts_differ}
use Rattle.sj_mangling.proofs.Numerals.{numerals_differ}

abbrev pub first : List ℕ → ℕ
first [] = 0
first (a ∷ rest) = a

abbrev behind : List ℕ → List ℕ
behind [] = []
behind (a ∷ rest) = rest

pub heads : (a b : ℕ) (xs ys : List ℕ) → a ∷ xs ≡ b ∷ ys → a ≡ b
heads a b xs ys e = ap first e

pub tails : (a b : ℕ) (xs ys : List ℕ) → a ∷ xs ≡ b ∷ ys → xs ≡ ys
tails a b xs ys e = ap behind e

apart : (x : List ℕ) (n : ℕ) → variable_name (named x) ≡ variable_name (numbered n) → ⊥
apart x n e = let h : ◌≡◌ {A = ℕ} 118 36 = heads 118 36 (95 ∷ mangled x) (number_text n) e in absurd (omega arith)

this-named : (x : List ℕ) → variable_name receiver ≡ variable_name (named x) → ⊥
this-named x e = let h : ◌≡◌ {A = ℕ} 36 118 = heads 36 118 (codes "this") (95 ∷ mangled x) e in absurd (omega arith)

-- a numeral begins with a digit
low-digit : (ds : List ℕ) (a : ℕ) (rest : List ℕ) → AllBelowBase 10 ds → a ∷ rest ≡ map (λ d. 48 + d) ds → 58 ≤ a → ⊥
low-digit [] a rest all e h = absurd (cc)
low-digit (d ∷ ds) a rest all e h = let k : a ≡ 48 + d = heads a (48 + d) rest (map (λ d. 48 + d) ds) e in omega (arith, k, all.0, h)

pub low-numeral : (n : ℕ) (a : ℕ) (rest : List ℕ) → a ∷ rest ≡ number_text n → 58 ≤ a → ⊥
low-numeral zero a rest e h = let k : a ≡ 48 = heads a 48 rest [] e in omega (arith, k, h)
low-numeral (suc n) a rest e h = low-digit (digits_of 10 (suc n)) a rest (all_below_base_digits_of 10 (suc n) (omega arith)) e h

this-numbered : (n : ℕ) → variable_name receiver ≡ variable_name (numbered n) → ⊥
this-numbered n e = low-numeral n 116 (codes "his") (tails 36 36 (codes "this") (number_text n) e) (omega arith)

pub variables-differ : (x y : Variable) → variable_name x ≡ variable_name y → x ≡ y
variables-differ (named x) (named y) e = ap named (mangled_texts_differ x y (tails 95 95 (mangled x) (mangled y) (tails 118 118 (95 ∷ mangled x) (95 ∷ mangled y) e)))
variables-differ (named x) (numbered n) e = absurd (apart x n e)
variables-differ receiver receiver e = refl
variables-differ receiver (named x) e = absurd (this-named x e)
variables-differ (named x) receiver e = absurd (this-named x (sym e))
variables-differ receiver (numbered n) e = absurd (this-numbered n e)
variables-differ (numbered n) receiver e = absurd (this-numbered n (sym e))
variables-differ (numbered n) (named x) e = absurd (apart x n (sym e))
variables-differ (numbered n) (numbered k) e = ap numbered (numerals_differ n k (tails 36 36 (number_text n) (number_text k) e))

pub labels-differ : (l m : List ℕ) → label_name l ≡ label_name m → l ≡ m
labels-differ l m e = mangled_texts_differ l m (tails 95 95 (mangled l) (mangled m) (tails 108 108 (95 ∷ mangled l) (95 ∷ mangled m) e))
