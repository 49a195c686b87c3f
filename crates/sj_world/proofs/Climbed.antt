-- The chain of superclasses of a class, found step by step.
use Rattle.std.proofs.Common.{◌≡◌, ℕ, zero, suc, ◌+◌, ◌≤◌, Bool, true, false, [], ◌∷◌, ◌++◌, Contains, slice_get, Option, Some, None, refl, sym, ap, ◌∙◌, subst, length, arith, inl, inr, cond}
use Rattle.std.specs.Prelude.{◌⊎◌, ◌↔◌}
use Rattle.std.specs.List.{list_any, IsDistinct}
use Rattle.std.proofs.lemmas.List.{length-append}
use Rattle.std.proofs.lemmas.List.Elements.{Contains-push}
use Rattle.std.proofs.lemmas.Option.{slice_get_within}
use Rattle.indexmap.specs.IndexSet.{insert_key, insert_all}
use Rattle.worklist.specs.Paths.{Path, on, Leads}
use Rattle.worklist.specs.Search.{Found, begins, goes_on, IsSearched}
use Rattle.sj_world.specs.Known.{Name, Classes, is_same}
use Rattle.sj_world.specs.Ancestors.{IsNext, next_on_chain, listed}
use Rattle.sj_world.specs.Tables.{AreChain}
use Rattle.sj_world.proofs.Names.{Names}

abbrev pub step : Classes → Name → Names
step w name = listed (next_on_chain w name)

pub got-push : (xs : Names) (y : Name) (i : ℕ) (x : Name) → slice_get (xs ++ y ∷ []) i ≡ Some x → (slice_get xs i ≡ Some x) ⊎ ((i ≡ length xs) × (y ≡ x))
got-push [] y zero x at = inr (refl, cc)
got-push [] y (suc i) x at = cc
got-push (z ∷ xs) y zero x at = inl at
got-push (z ∷ xs) y (suc i) x at = elim (got-push xs y i x at) [ inl old ↦ inl old | inr new ↦ inr (ap suc new.0, new.1) ]

pub got-front : (xs ys : Names) (i : ℕ) (x : Name) → slice_get xs i ≡ Some x → slice_get (xs ++ ys) i ≡ Some x
got-front [] ys i x at = cc
got-front (z ∷ xs) ys zero x at = at
got-front (z ∷ xs) ys (suc i) x at = got-front xs ys i x at

-- each name of the list is followed by the next on the chain
pub record Linked (w : Classes) (keys : Names) : Type 0 where
  pub linked : (i : ℕ) (a b : Name) → slice_get keys i ≡ Some a → slice_get keys (i + 1) ≡ Some b → IsNext w a b

linked_push : (w : Classes) (keys : Names) (n : ℕ) (at y : Name) → Linked w keys → slice_get keys n ≡ Some at → length keys ≤ n + 1 → IsNext w at y → Linked w (keys ++ y ∷ [])
linked_push w keys n at y l here short up = record { linked = λ i a b first second. pair i a b (got-push keys y i a first) (got-push keys y (i + 1) b second) }
  where
    pair : (i : ℕ) (a b : Name) → (slice_get keys i ≡ Some a) ⊎ ((i ≡ length keys) × (y ≡ a)) → (slice_get keys (i + 1) ≡ Some b) ⊎ ((i + 1 ≡ length keys) × (y ≡ b)) → IsNext w a b
    pair i a b (inl old) (inl older) = l.linked i a b old older
    pair i a b (inl old) (inr new) = let e : n ≡ i = omega (arith, slice_get_within keys n at here, new.0, slice_get_within keys i a old) in let s : Some at ≡ Some a = sym here ∙ ap (slice_get keys) e ∙ old in let k : at ≡ a = cc in subst (λ (x : Name). IsNext w x b) k (subst (λ (x : Name). IsNext w at x) new.1 up)
    pair i a b (inr new) (inl older) = absurd (omega (arith, new.0, slice_get_within keys (i + 1) b older))
    pair i a b (inr new) (inr newer) = absurd (omega (arith, new.0, newer.0))

linked_insert : (w : Classes) (keys : Names) (n : ℕ) (at y : Name) → Linked w keys → slice_get keys n ≡ Some at → length keys ≤ n + 1 → IsNext w at y → Linked w (insert_key is_same keys y) × (length (insert_key is_same keys y) ≤ n + 2)
linked_insert w keys n at y l here short up = go (list_any (is_same y) keys) refl
  where
    go : (b : Bool) → list_any (is_same y) keys ≡ b → Linked w (insert_key is_same keys y) × (length (insert_key is_same keys y) ≤ n + 2)
    go true e = let s : keys ≡ insert_key is_same keys y = sym (ap (λ (c : Bool). cond c keys (keys ++ y ∷ [])) e) in (subst (Linked w) s l, subst (λ (k : Names). length k ≤ n + 2) s (omega arith))
    go false e = let s : keys ++ y ∷ [] ≡ insert_key is_same keys y = sym (ap (λ (c : Bool). cond c keys (keys ++ y ∷ [])) e) in (subst (Linked w) s (linked_push w keys n at y l here short up), subst (λ (k : Names). length k ≤ n + 2) s (omega (arith, length-append keys (y ∷ []))))

linked_step : (w : Classes) (keys : Names) (n : ℕ) (at : Name) (o : Option Name) → next_on_chain w at ≡ o → Linked w keys → slice_get keys n ≡ Some at → length keys ≤ n + 1 → Linked w (insert_all is_same keys (listed o)) × (length (insert_all is_same keys (listed o)) ≤ n + 2)
linked_step w keys n at None e l here short = (l, omega arith)
linked_step w keys n at (Some y) e l here short = linked_insert w keys n at y l here short e

first_stays : (keys : Names) (x : Name) (o : Option Name) → slice_get keys 0 ≡ Some x → slice_get (insert_all is_same keys (listed o)) 0 ≡ Some x
first_stays keys x None at = at
first_stays keys x (Some y) at = go (list_any (is_same y) keys) refl
  where
    go : (b : Bool) → list_any (is_same y) keys ≡ b → slice_get (insert_key is_same keys y) 0 ≡ Some x
    go true e = subst (λ (k : Names). slice_get k 0 ≡ Some x) (sym (ap (λ (c : Bool). cond c keys (keys ++ y ∷ [])) e)) at
    go false e = subst (λ (k : Names). slice_get k 0 ≡ Some x) (sym (ap (λ (c : Bool). cond c keys (keys ++ y ∷ [])) e)) (got-front keys (y ∷ []) 0 x at)

-- the chain as far as it is found: its last class is the next to be gone through, or the end
pub record Climbing (w : Classes) (name : Name) (next : ℕ) (keys : Names) : Type 0 where
  pub begins : slice_get keys 0 ≡ Some name
  pub links : Linked w keys
  pub short : length keys ≤ next + 1

pub climbing_begins : (w : Classes) (name : Name) → Climbing w name 0 (name ∷ [])
climbing_begins w name = record {
  begins = refl;
  links = record { linked = λ i a b first second. absurd (omega (arith, slice_get_within (name ∷ []) (i + 1) b second)) };
  short = omega arith;
}

pub climbing_goes_on : (w : Classes) (name at : Name) (next : ℕ) (keys : Names) → Climbing w name next keys → slice_get keys next ≡ Some at → Climbing w name (next + 1) (insert_all is_same keys (step w at))
climbing_goes_on w name at next keys c here =
    let l = linked_step w keys next at (next_on_chain w at) refl c.links here c.short in
    record { begins = first_stays keys name (next_on_chain w at) c.begins; links = l.0; short = omega (arith, l.1) }

climbing : (w : Classes) (name : Name) (done : ℕ) (keys : Names) → Found is_same (step w) (name ∷ []) done keys → Climbing w name done keys
climbing w name _ _ begins = climbing_begins w name
climbing w name _ _ (goes_on done keys at before here) = climbing_goes_on w name at done keys (climbing w name done keys before) here

climbed_from : (w : Classes) (name : Name) (keys list : Names) → ((x : Name) → Contains keys x ↔ Path (Leads (step w)) name x) → IsSearched is_same (step w) (name ∷ []) keys → IsDistinct is_same keys → list ≡ keys → AreChain w name list
climbed_from w name keys list both searched once e = subst (AreChain w name) (sym e) (record { once = once; begins = c.begins; linked = c.links.linked; closed = λ a b h up. (both b).1 (on a b ((both a).0 h) (leads a b up)) })
  where
    c : Climbing w name (length keys) keys
    c = climbing w name (length keys) keys searched.all

    leads : (a b : Name) → IsNext w a b → Contains (step w a) b
    leads a b up = subst (λ (o : Option Name). Contains (listed o) b) (sym up) (Contains-push [] b)

pub climbed : (w : Classes) (name start : Name) (keys list : Names) → start ≡ name → ((x : Name) → Contains keys x ↔ Path (Leads (step w)) start x) → IsSearched is_same (step w) (start ∷ []) keys → IsDistinct is_same keys → list ≡ keys → AreChain w name list
climbed w name start keys list same both searched once e = subst (λ (n : Name). AreChain w n list) same (climbed_from w start keys list both searched once e)
