-- Two lists in order with the same texts are one.
use Rattle.std.proofs.Common.{◌≡◌, List, [], ◌∷◌, Contains, refl, sym, ap, ◌∙◌, subst, inl, inr}
use Rattle.std.specs.Prelude.{◌⊎◌, ◌↔◌}
use Rattle.std.specs.List.Sorted.{IsStrictlySortedBy}
use Rattle.std.specs.Cmp.Lexicographic.{nat_list_cmp_total}
use Rattle.worklist.proofs.Inserted.{nothing_in}
use Rattle.sj_split.specs.Orders.{Bytes, IsBefore, AreIncreasing}
use Rattle.sj_split.proofs.Members.{at_first, further, cons_cases}
use Rattle.sj_split.proofs.Tagged.{Below}
use Rattle.sj_split.proofs.Least.{not_before_itself}

pub below_each : (first : Bytes) (texts : List Bytes) (text : Bytes) → Below first texts → Contains texts text → IsBefore first text
below_each first [] text b h = nothing_in text h
below_each first (t ∷ ts) text b h = elim (cons_cases t text ts h) [ inl e ↦ subst (λ (u : Bytes). IsBefore first u) e b.0 | inr later ↦ below_each first ts text b.1 later ]

pub never_both : (a b : Bytes) → IsBefore a b → IsBefore b a → ⊥
never_both a b h k = not_before_itself a (nat_list_cmp_total.trans a b a h k)

pub first_of_increasing : (text : Bytes) (texts : List Bytes) → AreIncreasing (text ∷ texts) → Below text texts
unfolding IsStrictlySortedBy
first_of_increasing text texts h = h.0

pub rest_of_increasing : (text : Bytes) (texts : List Bytes) → AreIncreasing (text ∷ texts) → AreIncreasing texts
unfolding IsStrictlySortedBy
rest_of_increasing text texts h = h.1

one_head : (x y : Bytes) (xs ys : List Bytes) → Below x xs → Below y ys → (y ≡ x) ⊎ Contains ys x → (x ≡ y) ⊎ Contains xs y → x ≡ y
one_head x y xs ys p q (inl e) other = sym e
one_head x y xs ys p q (inr later) (inl e) = e
one_head x y xs ys p q (inr later) (inr back) = absurd (never_both y x (below_each y ys x q later) (below_each x xs y p back))

in_rest : (x y t : Bytes) (xs ys : List Bytes) → x ≡ y → Below x xs → Contains xs t → (y ≡ t) ⊎ Contains ys t → Contains ys t
in_rest x y t xs ys e p h (inr later) = later
in_rest x y t xs ys e p h (inl is) = absurd (not_before_itself t (subst (λ (u : Bytes). IsBefore u t) (e ∙ is) (below_each x xs t p h)))

pub one_list : (xs ys : List Bytes) → AreIncreasing xs → AreIncreasing ys → ((t : Bytes) → Contains xs t ↔ Contains ys t) → xs ≡ ys
one_list [] [] p q same = refl
one_list [] (y ∷ ys) p q same = nothing_in y ((same y).1 (at_first y ys))
one_list (x ∷ xs) [] p q same = nothing_in x ((same x).0 (at_first x xs))
one_list (x ∷ xs) (y ∷ ys) p q same =
    let below_x : Below x xs = first_of_increasing x xs p in
    let below_y : Below y ys = first_of_increasing y ys q in
    let head : x ≡ y = one_head x y xs ys below_x below_y (cons_cases y x ys ((same x).0 (at_first x xs))) (cons_cases x y xs ((same y).1 (at_first y ys))) in
    let rest : xs ≡ ys = one_list xs ys (rest_of_increasing x xs p) (rest_of_increasing y ys q) (λ t. (
      λ h. in_rest x y t xs ys head below_x h (cons_cases y t ys ((same t).0 (further x t xs h))),
      λ h. in_rest y x t ys xs (sym head) below_y h (cons_cases x t xs ((same t).1 (further y t ys h))),
    )) in
    ap (λ (u : Bytes). u ∷ xs) head ∙ ap (λ (l : List Bytes). y ∷ l) rest
