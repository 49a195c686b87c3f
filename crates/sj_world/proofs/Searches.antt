-- Searches along a list.
use Rattle.std.proofs.Common.{◌≡◌, ℕ, ◌+◌, ◌≤◌, ◌<◌, List, Contains, slice_get, Some, sym, ap, ◌∙◌, subst, length, arith, inl, inr}
use Rattle.std.specs.Prelude.{◌⊎◌}
use Rattle.std.proofs.lemmas.Option.{slice_get_within, get_or_from_slice_get, slice_get-get_or}
use Rattle.sj_names.specs.declared.method_names.MethodName.{MethodName}
use Rattle.sj_trees.specs.declared.classes.MethodDef.{MethodDef}
use Rattle.sj_world.specs.Known.{Name, Classes}
use Rattle.sj_world.specs.Paths.{IsFirst, HasNone}
use Rattle.sj_world.specs.Resolution.{IsBodyAt, IsCandidate}

-- none of the first items has the property
pub record NoneYet {X : Type 0} (Has : X → Type 0) (xs : List X) (n : ℕ) : Type 0 where
  pub none : (i : ℕ) (x : X) → i < n → slice_get xs i ≡ Some x → Has x → ⊥

pub record Some_body (w : Classes) (m : MethodName) (name : Name) : Type 0 where
  pub method : MethodDef
  pub is_body : IsBodyAt w m name method

pub record Some_candidate (w : Classes) (Above : Name → Type 0) (m : MethodName) (name : Name) : Type 0 where
  pub method : MethodDef
  pub is_candidate : IsCandidate w Above m name method

-- an item that stands in the list
pub stands_at : {X : Type 0} (xs : List X) (x : X) (c : Contains xs x) → slice_get xs c.0 ≡ Some x
stands_at xs x c = slice_get-get_or xs c.0 x c.1 ∙ ap Some c.2

module _ {X : Type 0} (Has : X → Type 0) (xs : List X) where
  pub none_begins : NoneYet Has xs 0
  none_begins = record { none = λ i x lt at h. absurd (omega arith) }

  pub none_more : (n : ℕ) (x : X) → NoneYet Has xs n → slice_get xs n ≡ Some x → (Has x → ⊥) → NoneYet Has xs (n + 1)
  none_more n x before at has_not = record { none = λ i y lt there h. split i y there h (places i lt) }
    where
      places : (i : ℕ) → i < n + 1 → (i < n) ⊎ (i ≡ n)
      places i lt = grind arith

      split : (i : ℕ) (y : X) → slice_get xs i ≡ Some y → Has y → (i < n) ⊎ (i ≡ n) → ⊥
      split i y there h (inl lt) = before.none i y lt there h
      split i y there h (inr e) = let s : Some y ≡ Some x = sym there ∙ ap (slice_get xs) e ∙ at in let k : y ≡ x = cc in has_not (subst Has k h)

  pub none_whole : (n : ℕ) → NoneYet Has xs n → length xs ≤ n → HasNone Has xs
  none_whole n before all = record { none = λ i x at h. before.none i x (omega (arith, slice_get_within xs i x at)) at h }

  pub first_found : (n : ℕ) (x : X) → NoneYet Has xs n → slice_get xs n ≡ Some x → Has x → IsFirst Has xs x
  first_found n x before at h = record { place = n; stands = at; has = h; none_before = before.none }

  pub none_among : (x : X) → HasNone Has xs → Contains xs x → Has x → ⊥
  none_among x all c h = all.none c.0 x (stands_at xs x c) h

-- all of the first items have the property
pub record AllYet {X : Type 0} (Has : X → Type 0) (xs : List X) (n : ℕ) : Type 0 where
  pub all : (i : ℕ) (x : X) → i < n → slice_get xs i ≡ Some x → Has x

module _ {X : Type 0} (Has : X → Type 0) (xs : List X) where
  pub all_begins : AllYet Has xs 0
  all_begins = record { all = λ i x lt at. absurd (omega arith) }

  pub all_more : (n : ℕ) (x : X) → AllYet Has xs n → slice_get xs n ≡ Some x → Has x → AllYet Has xs (n + 1)
  all_more n x before at has = record { all = λ i y lt there. split i y there (places i lt) }
    where
      places : (i : ℕ) → i < n + 1 → (i < n) ⊎ (i ≡ n)
      places i lt = grind arith

      split : (i : ℕ) (y : X) → slice_get xs i ≡ Some y → (i < n) ⊎ (i ≡ n) → Has y
      split i y there (inl lt) = before.all i y lt there
      split i y there (inr e) = let s : Some x ≡ Some y = sym at ∙ ap (slice_get xs) (sym e) ∙ there in let k : x ≡ y = cc in subst Has k has

  pub all_whole : (n : ℕ) (x : X) → AllYet Has xs n → length xs ≤ n → Contains xs x → Has x
  all_whole n x before over c = before.all c.0 x (omega (arith, c.1)) (stands_at xs x c)

pub contains_at : {X : Type 0} (xs : List X) (i : ℕ) (x : X) → slice_get xs i ≡ Some x → Contains xs x
contains_at xs i x at = (i, slice_get_within xs i x at, get_or_from_slice_get xs i x x at)
