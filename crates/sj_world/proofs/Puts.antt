-- Items put one after the other, as a loop over a vector does.
use Rattle.std.proofs.Common.{◌≡◌, List, [], ◌∷◌, ◌++◌, map, length, refl, sym, ap, ◌∙◌, append_assoc, append-nil, arith}

pub put_more : {A B : Type 0} (f : A → B) (now new total : List B) (x : A) (items rest : List A) → items ≡ x ∷ rest → new ≡ now ++ f x ∷ [] → now ++ map f items ≡ total → new ++ map f rest ≡ total
put_more f now new total x items rest steps pushed so_far =
    ap (λ bs. bs ++ map f rest) pushed ∙ append_assoc now (f x ∷ []) (map f rest) ∙ sym (ap (λ xs. now ++ map f xs) steps) ∙ so_far

pub nothing_left : {A : Type 0} (xs : List A) → length xs ≡ 0 → xs ≡ []
nothing_left [] h = refl
nothing_left (x ∷ xs) h = absurd (omega arith)

pub put_all : {A B : Type 0} (f : A → B) (now total : List B) (items : List A) → items ≡ [] → now ++ map f items ≡ total → now ≡ total
put_all f now total items none so_far = sym (append-nil now) ∙ ap (λ xs. now ++ map f xs) (sym none) ∙ so_far
