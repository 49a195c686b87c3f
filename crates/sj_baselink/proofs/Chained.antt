-- Chains of superclasses.
use Rattle.std.proofs.Common.{◌≡◌, ℕ, zero, suc, Bool, true, false, List, Contains, slice_get, get_or, Option, Some, None, is_some, refl, sym, ap, ◌∙◌, subst, arith, cond, ◌||◌}
use Rattle.std.proofs.lemmas.Option.{slice_get_within, slice_get-get_or}
use Rattle.sj_trees.specs.declared.classes.ClassDef.{ClassDef}
use Rattle.sj_world.specs.Ancestors.{IsOnChain, next_on_chain, superclass_in, superclass_of_absent}
use Rattle.sj_world.specs.Known.{Name, Classes, class_of, is_known, is_hijacked, stands_as, object}
use Rattle.sj_world.specs.Paths.{stay, on}
use Rattle.sj_world.specs.Tables.{AreChain}
use Rattle.sj_world.proofs.Bodies.{stands_itself}
use Rattle.sj_world.proofs.Searches.{stands_at, contains_at}
use Rattle.sj_reach_spec.proofs.Lacking.{same_some}
use Rattle.sj_baselink.specs.Steps.{Puts}
use Rattle.sj_baselink.proofs.Putting.{adds_as}

-- the names of a chain stand on it
module _ (w : Classes) (c : Name) (names : List Name) (chain : AreChain w c names) where
  stands_on : (i : ℕ) (n : Name) → slice_get names i ≡ Some n → IsOnChain w c n
  stands_on zero n at = subst (IsOnChain w c) (same_some c n (sym chain.begins ∙ at)) stay
  stands_on (suc i) n at = on (get_or names i n) n (stands_on i (get_or names i n) here) (chain.linked i (get_or names i n) n here (subst (λ (k : ℕ). slice_get names k ≡ Some n) (omega arith) at))
    where
      here : slice_get names i ≡ Some (get_or names i n)
      here = slice_get-get_or names i n (omega (arith, slice_get_within names (suc i) n at))

  contained : (d : Name) → IsOnChain w c d → Contains names d
  contained d stay = contains_at names 0 c chain.begins
  contained d (on b e path next) = chain.closed b e (contained b path) next

  pub puts_chain : (a b : List Name) → Puts (Contains names) a b → Puts (IsOnChain w c) a b
  puts_chain a b f = adds_as Contains (Contains names) (IsOnChain w c) a b (λ d h. stands_on h.0 d (stands_at names d h)) contained f

  -- a second name of the list is the next one, and where there is none nothing but the class itself is next
  pub next_second : (n : Name) → slice_get names 1 ≡ Some n → next_on_chain w c ≡ Some n
  next_second n at = chain.linked 0 c n chain.begins at

  only_first : (b : Name) → slice_get names 1 ≡ None → Contains names b → b ≡ c
  only_first b short h = at_first h.0 (stands_at names b h)
    where
      at_first : (i : ℕ) → slice_get names i ≡ Some b → b ≡ c
      at_first zero at = same_some b c (sym at ∙ chain.begins)
      at_first (suc i) at = absurd (let l = slice_get_within names (suc i) b at in let there = slice_get-get_or names 1 b (omega (arith, l)) in let e : None ≡ Some (get_or names 1 b) = sym short ∙ there in let z : ⊥ = cc in z)

  pub next_itself : (b : Name) → slice_get names 1 ≡ None → next_on_chain w c ≡ Some b → b ≡ c
  next_itself b short next = only_first b short (chain.closed c b (contains_at names 0 c chain.begins) next)

-- where the class is absent
module _ (w : Classes) (c : Name) (absent : class_of w (stands_as c) ≡ None) where
  next_absent : next_on_chain w c ≡ superclass_of_absent (stands_as c)
  next_absent = ap (λ (o : Option ClassDef). superclass_in o (stands_as c)) absent

  not_itself : next_on_chain w c ≡ Some c → ⊥
  not_itself next = go (is_hijacked (stands_as c)) refl
    where
      go : (b : Bool) → is_hijacked (stands_as c) ≡ b → ⊥
      go true e =
          let s : Some object ≡ Some c = ap (λ (b : Bool). cond b (Some object) None) (sym e) ∙ sym next_absent ∙ next in
          let f : is_hijacked (stands_as object) ≡ true = subst (λ (n : Name). is_hijacked (stands_as n) ≡ true) (sym (same_some object c s)) e in
          let z : ⊥ = cc in z
      go false e =
          let s : None ≡ Some c = ap (λ (b : Bool). cond b (Some object) None) (sym e) ∙ sym next_absent ∙ next in
          let z : ⊥ = cc in z

  pub second_is_next : (names : List Name) (found : Option Name) → AreChain w c names → found ≡ slice_get names 1 → found ≡ next_on_chain w c
  second_is_next names found chain is = is ∙ go (slice_get names 1) refl (next_on_chain w c) refl
    where
      go : (o : Option Name) → slice_get names 1 ≡ o → (p : Option Name) → next_on_chain w c ≡ p → slice_get names 1 ≡ next_on_chain w c
      go (Some n) at p next = at ∙ sym (next_second w c names chain n at)
      go None at None next = at ∙ sym next
      go None at (Some b) next = absurd (not_itself (next ∙ ap Some (next_itself w c names chain b at next)))

-- a class that isn't known has no superclass, and stands alone on its chain
module _ (w : Classes) (c : Name) (unknown : is_known w c ≡ false) where
  no_class : (o : Option ClassDef) → class_of w c ≡ o → class_of w c ≡ None
  no_class None e = e
  no_class (Some x) e = let k : is_known w c ≡ true = ap (λ (o : Option ClassDef). is_some o || is_hijacked c) e in cc

  not_hijacked : is_hijacked c ≡ false
  not_hijacked = sym (ap (λ (o : Option ClassDef). is_some o || is_hijacked c) (no_class (class_of w c) refl)) ∙ unknown

  pub none_next : next_on_chain w c ≡ None
  none_next = ap (λ (n : Name). superclass_in (class_of w n) n) (stands_itself c not_hijacked) ∙ ap (λ (o : Option ClassDef). superclass_in o c) (no_class (class_of w c) refl) ∙ ap (λ (b : Bool). cond b (Some object) None) not_hijacked

  itself : (d : Name) → IsOnChain w c d → c ≡ d
  itself d stay = refl
  itself d (on b e path next) = let n : None ≡ Some e = sym none_next ∙ subst (λ (x : Name). next_on_chain w x ≡ Some e) (sym (itself b path)) next in absurd (let z : ⊥ = cc in z)

  pub puts_alone : (a b : List Name) → Puts (λ d. c ≡ d) a b → Puts (IsOnChain w c) a b
  puts_alone a b f = adds_as Contains (λ d. c ≡ d) (IsOnChain w c) a b (λ d e. subst (IsOnChain w c) e stay) itself f
