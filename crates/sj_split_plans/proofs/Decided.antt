-- What can be told of each text can be listed in order.
use Rattle.std.proofs.Common.{◌≡◌, Bool, true, false, List, [], ◌∷◌, Contains, inl, inr, refl, sym, ap, ◌∙◌, subst}
use Rattle.std.specs.Prelude.{◌⊎◌, ◌↔◌, filter}
use Rattle.sj_emit_module_spec.proofs.InOrder.{are_these}
use Rattle.sj_emit_module_spec.specs.Laws.{AreThese}
use Rattle.sj_emit_module_spec.specs.Order.{each_once_in_order}
use Rattle.sj_split.proofs.Members.{at_first, further, cons_cases, into_filter, from_filter}
use Rattle.sj_split.proofs.Walked.{same_name, is_same_itself}
use Rattle.sj_split.specs.Orders.{Bytes, is_same}
use Rattle.worklist.proofs.Inserted.{nothing_in}

-- it holds, or it doesn't
abbrev pub Decided : Type 0 → Type 0
Decided P = P ⊎ (P → ⊥)

pub same_or_not : (a b : Bytes) → Decided (a ≡ b)
same_or_not a b = go (is_same a b) refl
  where
    go : (v : Bool) → is_same a b ≡ v → Decided (a ≡ b)
    go true e = inl (same_name a b e)
    go false e = inr (λ is. let w : true ≡ false = sym (ap (λ t. is_same a t) (sym is) ∙ is_same_itself a) ∙ e in cc)

-- one of these, of which it holds
pub record Found {X : Type 0} (P : X → Type 0) (xs : List X) : Type 0 where
  pub item : X
  pub among : Contains xs item
  pub holds : P item

module _ {X : Type 0} (P : X → Type 0) (tell : (x : X) → Decided (P x)) where
  pub found_or_not : (xs : List X) → Decided (Found P xs)
  found_or_not [] = inr (λ f. nothing_in f.item f.among)
  found_or_not (x ∷ xs) = go (tell x) (found_or_not xs)
    where
      go : Decided (P x) → Decided (Found P xs) → Decided (Found P (x ∷ xs))
      go (inl holds) rest = inl (record { item = x; among = at_first x xs; holds = holds })
      go (inr denied) (inl f) = inl (record { item = f.item; among = further x f.item xs f.among; holds = f.holds })
      go (inr denied) (inr none) = inr (λ f. elim (cons_cases x f.item xs f.among) [ inl is ↦ denied (subst P (sym is) f.holds) | inr later ↦ none (record { item = f.item; among = later; holds = f.holds }) ])

abbrev is_told : (P : Type 0) → Decided P → Bool
is_told P (inl p) = true
is_told P (inr denied) = false

told : (P : Type 0) (d : Decided P) → is_told P d ≡ true → P
told P (inl p) e = p
told P (inr denied) e = cc

tells : (P : Type 0) (d : Decided P) → P → is_told P d ≡ true
tells P (inl q) p = refl
tells P (inr denied) p = absurd (denied p)

-- the texts of which it holds, in order
pub record Listed (P : Bytes → Type 0) : Type 0 where
  pub texts : List Bytes
  pub are : AreThese P texts

pub listed : (P : Bytes → Type 0) → ((t : Bytes) → Decided (P t)) → (candidates : List Bytes) → ((t : Bytes) → P t → Contains candidates t) → Listed P
listed P tell candidates inside = record { texts = each_once_in_order (filter test candidates); are = are_these P (filter test candidates) (λ t. (out t, back t)) }
  where
    test : Bytes → Bool
    test t = is_told (P t) (tell t)

    out : (t : Bytes) → Contains (filter test candidates) t → P t
    out t h = told (P t) (tell t) (from_filter test candidates t h).passes

    back : (t : Bytes) → P t → Contains (filter test candidates) t
    back t p = into_filter test candidates t (inside t p) (tells (P t) (tell t) p)
