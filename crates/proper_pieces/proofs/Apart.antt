-- Names of which no two are one, and the parameters of entries among them.
use Rattle.std.proofs.Common.{◌≡◌, ◌<◌, ◌⊎◌, ◌++◌, ◌||◌, ◌&&◌, not, ℕ, zero, suc, Bool, true, false, List, [], ◌∷◌, inl, inr, refl, sym, ◌∙◌, ap, codes, Contains, get_or, arith}
use Rattle.sj_mangling.proofs.Numerals.{numerals_differ}
use Rattle.sj_mangling.specs.Numerals.{number_text}
use Rattle.std.proofs.lemmas.List.Elements.{Contains-append_cases}
use Rattle.linked_pieces.proofs.Equal.{differs}
use Rattle.sj_emit_help_spec.specs.Words.{parameter, first_parameters}
use Rattle.js_mean.specs.Proper.{is_among, are_distinct}
use Rattle.js_tree.specs.Names.{is_same_text}
use Rattle.js_tree.specs.Terms.{Name}
use Rattle.linked_pieces.specs.Order.{AreInOrder}
use Rattle.sj_names.proofs.Same.{impossible}
use Rattle.linked_pieces.proofs.ProperNames.{tails}
use Rattle.sj_split.proofs.Members.{at_first, further, cons_cases}
use Rattle.worklist.proofs.Inserted.{nothing_in}

-- two lists in an order, each of one before each of the other
pub order_joined : {A : Type 0} (R : A → A → Type 0) (xs ys : List A) → AreInOrder R xs → AreInOrder R ys → ((x y : A) → Contains xs x → Contains ys y → R x y) → AreInOrder R (xs ++ ys)
order_joined R [] ys h k d = k
order_joined {A} R (x ∷ xs) ys h k d = ((λ y i. go y (Contains-append_cases xs ys y i)), order_joined R xs ys h.1 k (λ a b i j. d a b (further x a xs i) j))
  where
    go : (y : A) → Contains xs y ⊎ Contains ys y → R x y
    go y (inl i) = h.0 y i
    go y (inr i) = d x y (at_first x xs) i

abbrev pub Differ : Name → Name → Type 0
Differ a b = a ≡ b → ⊥

abbrev pub AreApart : List Name → Type 0
AreApart = AreInOrder Differ

neither : (a b : Bool) → a ≡ false → b ≡ false → (a || b) ≡ false
neither true b h k = h
neither false b h k = k

pub both : (a b : Bool) → a ≡ true → b ≡ true → (a && b) ≡ true
both true b h k = k
both false b h k = h

pub not_is : (b : Bool) → b ≡ false → not b ≡ true
not_is true h = impossible (sym h)
not_is false h = refl

not_among : (x : Name) (xs : List Name) → ((y : Name) → Contains xs y → Differ x y) → is_among xs x ≡ false
not_among x [] h = refl
not_among x (y ∷ ys) h = neither (is_same_text x y) (is_among ys x) (differs x y (h y (at_first y ys))) (not_among x ys (λ z i. h z (further y z ys i)))

pub told_apart : (xs : List Name) → AreApart xs → are_distinct xs ≡ true
told_apart [] h = refl
told_apart (x ∷ xs) h = both (not (is_among xs x)) (are_distinct xs) (not_is (is_among xs x) (not_among x xs h.0)) (told_apart xs h.1)

-- the number of a parameter
record Numbered (n : ℕ) (x : Name) : Type 0 where
  pub number : ℕ
  pub below : number < n
  pub name : x ≡ parameter number

numbered : (n : ℕ) (x : Name) → Contains (first_parameters n) x → Numbered n x
numbered zero x i = nothing_in x i
numbered (suc n) x i = go (numbered n x) (Contains-append_cases (first_parameters n) (parameter n ∷ []) x i)
  where
    go : (Contains (first_parameters n) x → Numbered n x) → Contains (first_parameters n) x ⊎ Contains (parameter n ∷ []) x → Numbered (suc n) x
    go before (inl k) = let q = before k in record { number = q.number; below = let h = q.below in omega (arith, h); name = q.name }
    go before (inr k) = record { number = n; below = omega arith; name = last (cons_cases (parameter n) x [] k) }
      where
        last : (parameter n ≡ x) ⊎ Contains [] x → x ≡ parameter n
        last (inl e) = sym e
        last (inr j) = nothing_in x j

parameters_differ : (m n : ℕ) → parameter m ≡ parameter n → m ≡ n
parameters_differ m n e = numerals_differ m n (tails 97 97 (number_text m) (number_text n) e)

parameters_apart : (n : ℕ) → AreApart (first_parameters n)
parameters_apart zero = tt
parameters_apart (suc n) = order_joined Differ (first_parameters n) (parameter n ∷ []) (parameters_apart n) ((λ y i. nothing_in y i), tt) (λ x y i k e. go x y (numbered n x i) (cons_cases (parameter n) y [] k) e)
  where
    go : (x y : Name) → Numbered n x → (parameter n ≡ y) ⊎ Contains [] y → x ≡ y → ⊥
    go x y q (inl s) e =
        let l = q.below in
        let same : q.number ≡ n = parameters_differ q.number n (sym q.name ∙ e ∙ sym s) in
        omega (arith, l, same)
    go x y q (inr j) e = nothing_in y j

pub parameters_distinct : (n : ℕ) → are_distinct (first_parameters n) ≡ true
parameters_distinct n = told_apart (first_parameters n) (parameters_apart n)

-- a receiver in front of them
pub behind_receiver : (n : ℕ) → are_distinct (codes "x" ∷ first_parameters n) ≡ true
behind_receiver n = told_apart (codes "x" ∷ first_parameters n) ((λ y i. first_differs y (numbered n y i)), parameters_apart n)
  where
    first_differs : (y : Name) → Numbered n y → codes "x" ≡ y → ⊥
    first_differs y q e = let same : ◌≡◌ {A = ℕ} 120 97 = ap (λ (l : Name). get_or l 0 0) (e ∙ q.name) in omega (arith, same)
