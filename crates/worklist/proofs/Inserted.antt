-- Keys that are put behind others, those that aren't there yet.
use Rattle.std.proofs.Common.{◌≡◌, ℕ, ◌<◌, Bool, true, false, List, [], ◌∷◌, ◌++◌, Contains, refl, sym, ap, ◌∙◌, subst, arith, inl, inr, append_assoc, append-nil, if◌then◌else◌}
use Rattle.std.specs.Prelude.{◌⊎◌}
use Rattle.std.specs.List.{list_any}
use Rattle.std.proofs.lemmas.List.Elements.{Contains-append_left, Contains-append_right, Contains-push, Contains-push_cases, Contains-append_cases}
use Rattle.indexmap.specs.IndexSet.{insert_key, insert_all}
use Rattle.indexmap.proofs.CallerLemmas.{Contains-insert_key}

pub nothing_in : {K A : Type 0} (x : K) → Contains [] x → A
nothing_in x h = let p : h.0 < 0 = h.1 in absurd (omega arith)

pub only_one : {K : Type 0} (k x : K) → Contains (k ∷ []) x → k ≡ x
only_one k x h = go (Contains-push_cases [] k x h)
  where
    go : Contains [] x ⊎ (k ≡ x) → k ≡ x
    go (inl none) = nothing_in x none
    go (inr e) = e

-- what is put behind keys
pub record Grows {K : Type 0} (old new : List K) : Type 0 where
  pub more : List K
  pub parts : new ≡ old ++ more

in_front : {K : Type 0} (k x : K) (ks : List K) → k ≡ x → Contains (k ∷ ks) x
in_front {K} k x ks e = subst (λ (y : K). Contains (k ∷ ks) y) e (Contains-append_left (k ∷ []) ks k (Contains-push [] k))

module _ {K : Type 0} (eq : K → K → Bool) where
  insert-grows : (keys : List K) (k : K) → Grows keys (insert_key eq keys k)
  insert-grows keys k = go (list_any (eq k) keys) refl
    where
      go : (b : Bool) → list_any (eq k) keys ≡ b → Grows keys (insert_key eq keys k)
      go true e = record { more = []; parts = ap (λ c. if c then keys else keys ++ k ∷ []) e ∙ sym (append-nil keys) }
      go false e = record { more = k ∷ []; parts = ap (λ c. if c then keys else keys ++ k ∷ []) e }

  grows-then : (a b c : List K) → Grows a b → Grows b c → Grows a c
  grows-then a b c f g = record { more = f.more ++ g.more; parts = g.parts ∙ ap (λ x. x ++ g.more) f.parts ∙ append_assoc a f.more g.more }

  pub insert_all-grows : (keys ks : List K) → Grows keys (insert_all eq keys ks)
  insert_all-grows keys [] = record { more = []; parts = sym (append-nil keys) }
  insert_all-grows keys (k ∷ ks) = grows-then _ _ _ (insert-grows keys k) (insert_all-grows (insert_key eq keys k) ks)

  pub insert_all-append : (keys xs ys : List K) → insert_all eq keys (xs ++ ys) ≡ insert_all eq (insert_all eq keys xs) ys
  insert_all-append keys [] ys = refl
  insert_all-append keys (x ∷ xs) ys = insert_all-append (insert_key eq keys x) xs ys

  from-insert : (keys : List K) (k x : K) → Contains (insert_key eq keys k) x → Contains keys x ⊎ (k ≡ x)
  from-insert keys k x h = go (list_any (eq k) keys) refl
    where
      go : (b : Bool) → list_any (eq k) keys ≡ b → Contains keys x ⊎ (k ≡ x)
      go true e = inl (subst (λ (l : List K). Contains l x) (ap (λ c. if c then keys else keys ++ k ∷ []) e) h)
      go false e = Contains-push_cases keys k x (subst (λ (l : List K). Contains l x) (ap (λ c. if c then keys else keys ++ k ∷ []) e) h)

  pub from-insert_all : (keys ks : List K) (x : K) → Contains (insert_all eq keys ks) x → Contains keys x ⊎ Contains ks x
  from-insert_all keys [] x h = inl h
  from-insert_all keys (k ∷ ks) x h = elim (from-insert_all (insert_key eq keys k) ks x h) [ inl old ↦ older (from-insert keys k x old) | inr new ↦ inr (Contains-append_right (k ∷ []) ks x new) ]
    where
      older : Contains keys x ⊎ (k ≡ x) → Contains keys x ⊎ Contains (k ∷ ks) x
      older (inl there) = inl there
      older (inr e) = inr (in_front k x ks e)

  pub into-insert_all : (keys ks : List K) (x : K) → Contains keys x → Contains (insert_all eq keys ks) x
  into-insert_all keys ks x h = let g = insert_all-grows keys ks in subst (λ (l : List K). Contains l x) (sym g.parts) (Contains-append_left keys g.more x h)

  pub each-insert_all : ((a b : K) → eq a b ≡ true → a ≡ b) → (keys ks : List K) (x : K) → Contains ks x → Contains (insert_all eq keys ks) x
  each-insert_all same keys [] x h = nothing_in x h
  each-insert_all same keys (k ∷ ks) x h = elim (Contains-append_cases (k ∷ []) ks x h) [ inl first ↦ at_first (Contains-push_cases [] k x first) | inr later ↦ each-insert_all same (insert_key eq keys k) ks x later ]
    where
      at_first : Contains [] x ⊎ (k ≡ x) → Contains (insert_all eq (insert_key eq keys k) ks) x
      at_first (inl none) = nothing_in x none
      at_first (inr e) = into-insert_all (insert_key eq keys k) ks x (subst (λ (y : K). Contains (insert_key eq keys k) y) e (Contains-insert_key eq same keys k))

pub ruleset insert_all_steps = (insert_all-append)
