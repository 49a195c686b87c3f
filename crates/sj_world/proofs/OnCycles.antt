-- The least class on a cycle among classes in order.
use Rattle.std.proofs.Common.{◌≡◌, ℕ, ◌+◌, ◌≤◌, ◌<◌, Bool, true, false, [], Contains, slice_get, Option, Some, None, refl, sym, ap, ◌∙◌, subst, length, arith, inl, inr, Decides, IsTrue}
use Rattle.std.specs.Prelude.{◌⊎◌, ◌↔◌}
use Rattle.std.specs.List.{list_any}
use Rattle.std.proofs.lemmas.Map.Made.{is_member-Decides}
use Rattle.std.proofs.lemmas.Slice.Eq.{bytes_eq-Decides}
use Rattle.std.proofs.lemmas.Option.{slice_get_within}
use Rattle.sj_trees.specs.declared.classes.ClassDef.{ClassDef}
use Rattle.sj_world.specs.Known.{Name, Classes, is_same, class_of}
use Rattle.sj_world.specs.Ancestors.{IsOnCycle, written_above, written_in}
use Rattle.sj_world.specs.Refusals.{IsInOrder, HasNoCycle, IsLeastOnCycle, is_before}
use Rattle.sj_world.proofs.Orders.{same_name, before_not_after, not_before_itself}
use Rattle.sj_world.proofs.ByName.{StandsIn, class_of-stands}
use Rattle.sj_world.proofs.Names.{Names}
use Rattle.indexmap.specs.IndexSet.{insert_all}
use Rattle.worklist.specs.Paths.{IsReached}
use Rattle.worklist.proofs.Inserted.{nothing_in, from-insert_all, each-insert_all}

-- whether a name is among names
pub among : (names : Names) (x : Name) → Decides (list_any (is_same x) names) (Contains names x)
among names x = is_member-Decides bytes_eq-Decides names x

pub cycle_found : (w : Classes) (name : Name) (starts keys : Names) (found : Bool) → starts ≡ insert_all is_same [] (written_above w name) → ((x : Name) → Contains keys x ↔ IsReached (written_above w) starts x) → found ≡ list_any (is_same name) keys → IsTrue found ↔ IsOnCycle w name
cycle_found w name starts keys found begun both e =
    let test = among keys name in
    (λ h. round ((both name).0 (test.0 (sym e ∙ h))), λ c. e ∙ test.1 ((both name).1 (record { from = c.parent; begins = first c.parent c.up; path = c.back })))
  where
    first : (x : Name) → Contains (written_above w name) x → Contains starts x
    first x h = subst (λ (l : Names). Contains l x) (sym begun) (each-insert_all is_same same_name [] (written_above w name) x h)

    above : (x : Name) → Contains [] x ⊎ Contains (written_above w name) x → Contains (written_above w name) x
    above x (inl none) = nothing_in x none
    above x (inr h) = h

    round : IsReached (written_above w) starts name → IsOnCycle w name
    round r = record { parent = r.from; up = above r.from (from-insert_all is_same [] (written_above w name) r.from (subst (λ (l : Names). Contains l r.from) begun r.begins)); back = r.path }

pub off_cycle : (w : Classes) (name : Name) (found : Bool) → IsTrue found ↔ IsOnCycle w name → found ≡ false → IsOnCycle w name → ⊥
off_cycle w name found both e c = let t : found ≡ true = both.1 c in cc

-- none of the first classes stands on a cycle
pub record NoneBelow (w : Classes) (n : ℕ) : Type 0 where
  pub none : (i : ℕ) (c : ClassDef) → i < n → slice_get w i ≡ Some c → IsOnCycle w c.name → ⊥

pub none_begins : (w : Classes) → NoneBelow w 0
none_begins w = record { none = λ i c lt at on. absurd (omega arith) }

pub none_more : (w : Classes) (n : ℕ) (c : ClassDef) → NoneBelow w n → slice_get w n ≡ Some c → (IsOnCycle w c.name → ⊥) → NoneBelow w (n + 1)
none_more w n c before at off = record { none = λ i d lt there on. split i d there on (places i lt) }
  where
    places : (i : ℕ) → i < n + 1 → (i < n) ⊎ (i ≡ n)
    places i lt = grind arith

    split : (i : ℕ) (d : ClassDef) → slice_get w i ≡ Some d → IsOnCycle w d.name → (i < n) ⊎ (i ≡ n) → ⊥
    split i d there on (inl lt) = before.none i d lt there on
    split i d there on (inr e) = let s : Some d ≡ Some c = sym there ∙ ap (slice_get w) e ∙ at in let k : d ≡ c = cc in off (subst (λ (x : ClassDef). IsOnCycle w x.name) k on)

cycle_stands : (w : Classes) (name : Name) → IsOnCycle w name → (x : ClassDef) × StandsIn w name x
cycle_stands w name c = go (class_of w name) refl
  where
    go : (o : Option ClassDef) → class_of w name ≡ o → (x : ClassDef) × StandsIn w name x
    go None e = nothing_in c.parent (subst (λ (o : Option ClassDef). Contains (written_in o) c.parent) e c.up)
    go (Some x) e = (x, class_of-stands w name x e)

pub none_whole : (w : Classes) (n : ℕ) → NoneBelow w n → length w ≤ n → HasNoCycle w
none_whole w n before all = record { none = λ name c. off name c (cycle_stands w name c) }
  where
    off : (name : Name) → IsOnCycle w name → (x : ClassDef) × StandsIn w name x → ⊥
    off name c (x, s) = before.none s.place x (omega (arith, slice_get_within w s.place x s.at)) s.at (subst (IsOnCycle w) (sym (same_name x.name name s.same)) c)

pub least_on_cycle : (w : Classes) → IsInOrder w → (n : ℕ) (c : ClassDef) → NoneBelow w n → slice_get w n ≡ Some c → IsOnCycle w c.name → IsLeastOnCycle w c.name
least_on_cycle w sorted n c before at cycle = record { on_cycle = cycle; least = λ other o. least other o (cycle_stands w other o) }
  where
    places : (i : ℕ) → (i < n) ⊎ ((i ≡ n) ⊎ (n < i))
    places i = grind arith

    by_place : (other : Name) (x : ClassDef) (i : ℕ) → IsOnCycle w other → slice_get w i ≡ Some x → x.name ≡ other → (i < n) ⊎ ((i ≡ n) ⊎ (n < i)) → is_before other c.name ≡ false
    by_place other x i o there same (inl lt) = absurd (before.none i x lt there (subst (IsOnCycle w) (sym same) o))
    by_place other x i o there same (inr (inl e)) = let s : Some x ≡ Some c = sym there ∙ ap (slice_get w) e ∙ at in let k : x ≡ c = cc in subst (λ (y : Name). is_before y c.name ≡ false) (ap (λ (d : ClassDef). d.name) (sym k) ∙ same) (not_before_itself c.name)
    by_place other x i o there same (inr (inr lt)) = subst (λ (y : Name). is_before y c.name ≡ false) same (before_not_after c.name x.name (sorted.rises n i c x lt at there))

    least : (other : Name) → IsOnCycle w other → (x : ClassDef) × StandsIn w other x → is_before other c.name ≡ false
    least other o (x, s) = by_place other x s.place o s.at (same_name x.name other s.same) (places s.place)
