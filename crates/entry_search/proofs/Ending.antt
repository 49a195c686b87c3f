-- A chain goes to its end.
use Rattle.std.proofs.Common.{◌≡◌, ℕ, zero, suc, ◌+◌, ◌≤◌, List, [], ◌∷◌, Contains, slice_get, Option, Some, None, refl, ap, ◌∙◌, subst, arith}
use Rattle.sj_world.specs.Known.{Name, Classes}
use Rattle.sj_world.specs.Ancestors.{IsNext, next_on_chain}
use Rattle.sj_world.specs.Tables.{AreChain}
use Rattle.sj_world.proofs.Searches.{stands_at, contains_at}
use Rattle.entry_search.specs.Search.{IsChainTo, ends, goes}
use Rattle.entry_search.specs.Chains.{Falls, ChainsEnd}

-- each of these is followed by its superclass
data Linked (w : Classes) : List Name → Type 0 where
  linked_none : Linked w []
  linked_one : (a : Name) → Linked w (a ∷ [])
  linked_more : (a b : Name) (ns : List Name) → IsNext w a b → Linked w (b ∷ ns) → Linked w (a ∷ b ∷ ns)

module _ (w : Classes) (height : Name → ℕ) (fall : Falls w height) where
  are_linked : (names : List Name) → ((i : ℕ) (a b : Name) → slice_get names i ≡ Some a → slice_get names (i + 1) ≡ Some b → IsNext w a b) → Linked w names
  are_linked [] h = linked_none
  are_linked (a ∷ []) h = linked_one a
  are_linked (a ∷ b ∷ ns) h = linked_more a b ns (h 0 a b refl refl) (are_linked (b ∷ ns) (λ i x y e f. h (suc i) x y e (shift i y f)))
    where
      shift : (i : ℕ) (y : Name) → slice_get (b ∷ ns) (i + 1) ≡ Some y → slice_get (a ∷ b ∷ ns) (suc i + 1) ≡ Some y
      shift i y f = ap (slice_get (a ∷ b ∷ ns)) (index i) ∙ f
        where
          index : (i : ℕ) → suc i + 1 ≡ suc (i + 1)
          index i = omega arith

  -- the last of them
  last : Name → List Name → Name
  last a [] = a
  last a (b ∷ ns) = last b ns

  -- the last has the least height
  least : (a : Name) (ns : List Name) → Linked w (a ∷ ns) → (i : ℕ) (x : Name) → slice_get (a ∷ ns) i ≡ Some x → height (last a ns) ≤ height x
  unfolding last
  least a [] h zero x e = let s : a ≡ x = cc in ap≤ a x s
    where
      ap≤ : (a x : Name) → a ≡ x → height a ≤ height x
      ap≤ a x s = subst (λ (z : Name). height a ≤ height z) s (omega arith)
  least a [] h (suc i) x e = cc
  least a (b ∷ ns) (linked_more _ _ _ next rest) zero x e =
      let s : a ≡ x = cc in
      let k : height (last b ns) ≤ height b = least b ns rest 0 b refl in
      subst (λ (z : Name). height (last b ns) ≤ height z) s (omega (arith, k, fall.falls a b next))
  least a (b ∷ ns) (linked_more _ _ _ next rest) (suc i) x e = least b ns rest i x e

  to_end : (a : Name) (ns : List Name) → Linked w (a ∷ ns) → next_on_chain w (last a ns) ≡ None → IsChainTo w a (a ∷ ns)
  unfolding last
  to_end a [] h e = ends a e
  to_end a (b ∷ ns) (linked_more _ _ _ next rest) e = goes a b (b ∷ ns) next (to_end b ns rest e)

  last_among : (a : Name) (ns : List Name) → (i : ℕ) × (slice_get (a ∷ ns) i ≡ Some (last a ns))
  unfolding last
  last_among a [] = (0, refl)
  last_among a (b ∷ ns) = let k = last_among b ns in (suc k.0, k.1)

  last_ends : (a : Name) (ns : List Name) → Linked w (a ∷ ns) → ((x y : Name) → Contains (a ∷ ns) x → IsNext w x y → Contains (a ∷ ns) y) → (o : Option Name) → next_on_chain w (last a ns) ≡ o → next_on_chain w (last a ns) ≡ None
  last_ends a ns h closed None e = e
  last_ends a ns h closed (Some b) e =
      let k = last_among a ns in
      let there = closed (last a ns) b (contains_at (a ∷ ns) k.0 (last a ns) k.1) e in
      absurd (omega (arith, least a ns h there.0 b (stands_at (a ∷ ns) b there), fall.falls (last a ns) b e))

  whole : (c : Name) (names : List Name) → AreChain w c names → IsChainTo w c names
  whole c [] chain = let s : None ≡ Some c = chain.begins in cc
  whole c (a ∷ ns) chain =
      let s : Some a ≡ Some c = chain.begins in
      let e : a ≡ c = cc in
      let h = are_linked (a ∷ ns) chain.linked in
      subst (λ (z : Name). IsChainTo w z (a ∷ ns)) e (to_end a ns h (last_ends a ns h chain.closed (next_on_chain w (last a ns)) refl))

pub chains_end : ChainsEnd
chains_end w c names height fall chain = whole w height fall c names chain
