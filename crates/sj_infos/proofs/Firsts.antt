-- Things are put behind those that are there, as far as they aren't there yet.
use Rattle.std.proofs.Common.{◌≡◌, Bool, true, false, List, [], ◌∷◌, ◌++◌, Contains, refl, sym, ap, ◌∙◌, subst, inl, inr, append_assoc, append-nil, length, arith, get_or, if◌then◌else◌}
use Rattle.std.specs.Prelude.{◌⊎◌}
use Rattle.std.specs.Bool.{Decides}
use Rattle.std.specs.List.{list_any}
use Rattle.std.proofs.lemmas.List.Elements.{Contains-append_left, Contains-push, Contains-push_cases}
use Rattle.std.proofs.lemmas.List.Folds.{list_any_at}
use Rattle.indexmap.specs.IndexSet.{insert_key}
use Rattle.indexmap.proofs.CallerLemmas.{Contains-list_any}
use Rattle.sj_infos.specs.Once.{FirstsOf, nothing, new, again}

-- the things in front of the rest are gone through
pub record IsDone {A : Type 0} (all rest once : List A) : Type 0 where
  pub front : List A
  pub parts : front ++ rest ≡ all
  pub firsts : FirstsOf front once

pub begins : {A : Type 0} (all : List A) → IsDone all all []
begins all = record { front = []; parts = refl; firsts = nothing }

pub ends : {A : Type 0} (all rest once : List A) → rest ≡ [] → IsDone all rest once → FirstsOf all once
ends {A} all rest once none done = subst (λ (xs : List A). FirstsOf xs once) (sym (append-nil done.front) ∙ ap (λ (xs : List A). done.front ++ xs) (sym none) ∙ done.parts) done.firsts

same_last : {A : Type 0} (xs : List A) (y x : A) → y ≡ x → Contains (xs ++ y ∷ []) x
same_last {A} xs y x e = subst (λ (z : A). Contains (xs ++ y ∷ []) z) e (Contains-push xs y)

pub none_left : {A : Type 0} (xs : List A) → length xs ≡ 0 → xs ≡ []
none_left [] e = refl
none_left (x ∷ xs) e = absurd (omega arith)

one_more : {A : Type 0} (xs ys : List A) (y x : A) → (Contains ys x → Contains xs x) → Contains ys x ⊎ (y ≡ x) → Contains (xs ++ y ∷ []) x
one_more xs ys y x f (inl h) = Contains-append_left xs (y ∷ []) x (f h)
one_more xs ys y x f (inr e) = same_last xs y x e

one_again : {A : Type 0} (xs once : List A) (y x : A) → (Contains xs x → Contains once x) → Contains once y → Contains xs x ⊎ (y ≡ x) → Contains once x
one_again xs once y x f there (inl h) = f h
one_again {A} xs once y x f there (inr e) = subst (λ (z : A). Contains once z) e there

-- the same things stand in both lists
stands_in_all : {A : Type 0} (xs once : List A) (x : A) → FirstsOf xs once → Contains once x → Contains xs x
stands_in_all _ _ x nothing h = h
stands_in_all _ _ x (new xs once y f apart) h = one_more xs once y x (stands_in_all xs once x f) (Contains-push_cases once y x h)
stands_in_all _ _ x (again xs once y f there) h = Contains-append_left xs (y ∷ []) x (stands_in_all xs once x f h)

stands_once : {A : Type 0} (xs once : List A) (x : A) → FirstsOf xs once → Contains xs x → Contains once x
stands_once _ _ x nothing h = h
stands_once _ _ x (new xs once y f apart) h = one_more once xs y x (stands_once xs once x f) (Contains-push_cases xs y x h)
stands_once _ _ x (again xs once y f there) h = one_again xs once y x (stands_once xs once x f) (stands_once xs once y f there) (Contains-push_cases xs y x h)

module _ {A : Type 0} (eq : A → A → Bool) (decides : (a b : A) → Decides (eq a b) (a ≡ b)) where
  isnt_there : (ks : List A) (k : A) → list_any (eq k) ks ≡ false → Contains ks k → ⊥
  isnt_there ks k apart has =
      let yes : list_any (eq k) ks ≡ true = list_any_at (eq k) ks has.0 k has.1 ((decides k (get_or ks has.0 k)).1 (sym has.2)) in
      cc

  with_next : (front once : List A) (x : A) → FirstsOf front once → FirstsOf (front ++ x ∷ []) (insert_key eq once x)
  with_next front once x f = go (list_any (eq x) once) refl
    where
      go : (b : Bool) → list_any (eq x) once ≡ b → FirstsOf (front ++ x ∷ []) (insert_key eq once x)
      go true e = subst (λ (ks : List A). FirstsOf (front ++ x ∷ []) ks) (ap (λ b. if b then once else once ++ x ∷ []) (sym e)) (again front once x f (stands_in_all front once x f (Contains-list_any eq (λ a b h. (decides a b).0 h) once x e)))
      go false e = subst (λ (ks : List A). FirstsOf (front ++ x ∷ []) ks) (ap (λ b. if b then once else once ++ x ∷ []) (sym e)) (new front once x f (λ h. isnt_there once x e (stands_once front once x f h)))

  pub goes_on : (all rest left once more : List A) (x : A) → rest ≡ x ∷ left → more ≡ insert_key eq once x → IsDone all rest once → IsDone all left more
  goes_on all rest left once more x steps added done =
      record {
        front = done.front ++ x ∷ [];
        parts = append_assoc done.front (x ∷ []) left ∙ ap (λ (xs : List A). done.front ++ xs) (sym steps) ∙ done.parts;
        firsts = subst (λ (ks : List A). FirstsOf (done.front ++ x ∷ []) ks) (sym added) (with_next done.front once x done.firsts);
      }
