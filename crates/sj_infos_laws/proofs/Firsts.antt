-- The things of a list once each, in the order in which they first stand in it, are one list.
use Rattle.std.proofs.Common.{◌≡◌, List, [], ◌∷◌, ◌++◌, length, refl, sym, ap, subst, ◌∙◌, Contains, arith}
use Rattle.std.proofs.lemmas.List.{same_from_push, length-append}
use Rattle.sj_infos.specs.Once.{FirstsOf, nothing, new, again}
use Rattle.sj_infos_laws.specs.Laws.{InfosAreOne}

-- a list with something at its end isn't empty
not_empty : {A : Type 0} (xs : List A) (x : A) → [] ≡ xs ++ x ∷ [] → ⊥
not_empty [] x e = cc
not_empty (y ∷ ys) x e = cc

firsts_are_one : {A : Type 0} (xs ys : List A) (one other : List A) → xs ≡ ys → FirstsOf xs one → FirstsOf ys other → one ≡ other
firsts_are_one _ _ _ _ e nothing nothing = refl
firsts_are_one _ _ _ _ e nothing (new ys other y g n) = absurd (not_empty ys y e)
firsts_are_one _ _ _ _ e nothing (again ys other y g n) = absurd (not_empty ys y e)
firsts_are_one _ _ _ _ e (new xs one x f n) nothing = absurd (not_empty xs x (sym e))
firsts_are_one _ _ _ _ e (again xs one x f n) nothing = absurd (not_empty xs x (sym e))
firsts_are_one _ _ _ _ e (new xs one x f n) (new ys other y g m) = let s = same_from_push xs ys x y e in let h = firsts_are_one xs ys one other s.0 f g in cc
firsts_are_one _ _ _ _ e (new xs one x f n) (again ys other y g m) = let s = same_from_push xs ys x y e in absurd (n (subst (λ zs. Contains zs x) (sym s.0) (subst (λ z. Contains ys z) (sym s.1) m)))
firsts_are_one _ _ _ _ e (again xs one x f n) (new ys other y g m) = let s = same_from_push xs ys x y e in absurd (m (subst (λ zs. Contains zs y) s.0 (subst (λ z. Contains xs z) s.1 n)))
firsts_are_one _ _ _ _ e (again xs one x f n) (again ys other y g m) = let s = same_from_push xs ys x y e in firsts_are_one xs ys one other s.0 f g

pub one : InfosAreOne
one m is js f g = firsts_are_one _ _ is js refl f g
