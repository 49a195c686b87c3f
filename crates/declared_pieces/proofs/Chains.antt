-- What holds of the chain of a class, where each class that is good extends a good one.
use Rattle.std.proofs.Common.{◌≡◌, ◌<◌, ◌||◌, ℕ, zero, suc, Bool, false, List, [], ◌∷◌, Option, Some, None, refl, sym, ap, subst, ◌∙◌, arith, if◌then◌else◌}
use Rattle.std.specs.List.{list_any}
use Rattle.object_helpers.proofs.Lengths.{unseen, less, all_unseen, not_behind}
use Rattle.object_helpers.specs.Worlds.{AreClassesKept}
use Rattle.declared_pieces.proofs.Live.{next_is}
use Rattle.ir_mean.specs.Dispatch.{chain_of, chain_from, longest}
use Rattle.sj_trees.specs.declared.classes.ClassDef.{ClassDef}
use Rattle.sj_world.proofs.LawsHold.{joined}
use Rattle.sj_world.specs.Ancestors.{next_on_chain, IsNext}
use Rattle.sj_world.specs.Known.{Name, Classes, is_same, class_of, is_hijacked}
use Rattle.sj_world.specs.Paths.{Path, stay, on}
use Rattle.sj_world.specs.Refusals.{HasNoCycle}

-- a class that isn't hijacked, and what it extends is good
pub record Stands (w : Classes) (Good : Name → Type 0) (c : Name) : Type 0 where
  pub class : ClassDef
  pub found : class_of w c ≡ Some class
  pub free : is_hijacked c ≡ false
  pub up : (d : Name) → class.superclass ≡ Some d → Good d

-- these classes are the class and those above it, and are so
pub record Chained (Chain : List Name → Type 0) (xs : List Name) (c : Name) : Type 0 where
  pub above : List Name
  pub is_chain : xs ≡ c ∷ above
  pub classes : Chain (c ∷ above)

-- whatever holds of a chain where it holds of a good class that extends none, and of a good class in front of the chain of the one that it extends
module _ (w : Classes) (kept : AreClassesKept w) (acyclic : HasNoCycle w) (Good : Name → Type 0) (stands : (c : Name) → Good c → Stands w Good c) (Chain : List Name → Type 0) (ends : (c : Name) (good : Good c) → (stands c good).class.superclass ≡ None → Chain (c ∷ [])) (goes_on : (c d : Name) (ds : List Name) (good : Good c) → (stands c good).class.superclass ≡ Some d → Chain (d ∷ ds) → Chain (c ∷ d ∷ ds)) where
  abbrev IsNew : List Name → Name → Type 0
  IsNew seen c = (x : Name) → Path (IsNext w) c x → list_any (is_same x) seen ≡ false

  abbrev rest : ℕ → List Name → Name → Option Name → List Name
  rest n seen c o = elim o as (λ o. List Name) [ None ↦ [] | Some d ↦ chain_from w n (c ∷ seen) d ]

  chained : (n : ℕ) (seen : List Name) (c : Name) → Good c → IsNew seen c → unseen seen w < n → Chained Chain (chain_from w n seen c) c
  chained zero seen c good new room = absurd (omega (arith, room))
  chained (suc n) seen c good new room = subst (λ (b : Bool). Chained Chain (if b then [] else (c ∷ rest n seen c (next_on_chain w c))) c) (sym (new c stay)) (subst (λ (o : Option Name). Chained Chain (c ∷ rest n seen c o) c) (sym next) (go (stands c good).class.superclass refl (λ d. chained n (c ∷ seen) d)))
    where
      its : Stands w Good c
      its = stands c good

      next : next_on_chain w c ≡ (stands c good).class.superclass
      next = next_is w c its.class its.found its.free

      still_new : (d : Name) → IsNext w c d → IsNew (c ∷ seen) d
      still_new d s x path = subst (λ (q : Bool). (q || list_any (is_same x) seen) ≡ false) (sym (not_behind w kept acyclic c d x its.free s path)) (new x (joined (IsNext w) c d x (on c d stay s) path))

      go : (o : Option Name) → (stands c good).class.superclass ≡ o → ((d : Name) → Good d → IsNew (c ∷ seen) d → unseen (c ∷ seen) w < n → Chained Chain (chain_from w n (c ∷ seen) d) d) → Chained Chain (c ∷ rest n seen c o) c
      go None e further = record { above = []; is_chain = refl; classes = ends c good e }
      go (Some d) e further =
          let fall = less c seen w its.class its.found (new c stay) in
          let later = further d ((stands c good).up d e) (still_new d (next ∙ e)) (omega (arith, fall, room)) in
          record { above = d ∷ later.above; is_chain = ap (λ (xs : List Name). c ∷ xs) later.is_chain; classes = goes_on c d later.above good e later.classes }

  pub whole_chain : (c : Name) → Good c → Chained Chain (chain_of w c) c
  whole_chain c good = chained (longest w) [] c good (λ x path. refl) (let all = all_unseen w in omega (arith, all))
