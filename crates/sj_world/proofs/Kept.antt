-- The made classes below each class, and the bodies that are needed, of facts that are gone through.
use Rattle.std.proofs.Common.{◌≡◌, ℕ, ◌+◌, ◌≤◌, ◌<◌, Bool, true, false, List, [], ◌∷◌, ◌++◌, Some, Contains, slice_get, refl, sym, ap, ◌∙◌, subst, length, arith, inl, inr, if◌then◌else◌, IsTrue}
use Rattle.std.specs.Prelude.{◌⊎◌, ◌↔◌}
use Rattle.std.proofs.lemmas.List.Elements.{Contains-append_left, Contains-push, Contains-push_cases}
use Rattle.std.proofs.lemmas.Map.Made.{is_member-Decides}
use Rattle.std.specs.List.{list_any}
use Rattle.indexmap.specs.IndexSet.{insert_key}
use Rattle.worklist.proofs.Inserted.{nothing_in, only_one, from-insert_all, into-insert_all, each-insert_all}
use Rattle.class_lists.specs.Lists.{items_at}
use Rattle.class_lists.specs.declared.lists.Lists.{Lists}
use Rattle.sj_names.specs.declared.method_names.Member.{Member}
use Rattle.sj_names.specs.contracts.method_names.MemberPartialEq.TheImpl as member_eq
use Rattle.sj_world.specs.Ancestors.{IsAncestor}
use Rattle.sj_world.specs.Facts.{Makes, IsMadeBelow, PutsBelow, PutsMade, AreBelow, PutsBody, AreBodies}
use Rattle.sj_world.specs.Known.{Name, Classes, is_same}
use Rattle.sj_world.specs.Tables.{AreAncestors}
use Rattle.sj_world.specs.declared.facts.Fact.{Fact}
use Rattle.sj_world.specs.declared.facts.Fact.TheVariants as fact
use Rattle.sj_world.proofs.Orders.{same_name, is_same_itself}
use Rattle.sj_names.proofs.Equal.{member_decides}
use Rattle.sj_world.proofs.Searches.{stands_at, contains_at}

-- an item is put under a name
module _ {T : Type 0} (old new : Lists T) (c : Name) (item : T) (puts : (other : Name) → items_at new other ≡ (if is_same c other then items_at old other ++ item ∷ [] else items_at old other)) where
  put_at : (d : Name) (x : T) (b : Bool) → is_same c d ≡ b → Contains (items_at new d) x ↔ (Contains (items_at old d) x ⊎ ((c ≡ d) × (item ≡ x)))
  put_at d x true e =
      let at : items_at new d ≡ items_at old d ++ item ∷ [] = puts d ∙ ap (λ (b : Bool). if b then items_at old d ++ item ∷ [] else items_at old d) e in
      (λ h. into (Contains-push_cases (items_at old d) item x (subst (λ (l : List T). Contains l x) at h)), λ q. subst (λ (l : List T). Contains l x) (sym at) (from q))
    where
      into : Contains (items_at old d) x ⊎ (item ≡ x) → Contains (items_at old d) x ⊎ ((c ≡ d) × (item ≡ x))
      into (inl h) = inl h
      into (inr k) = inr (same_name c d e, k)

      from : Contains (items_at old d) x ⊎ ((c ≡ d) × (item ≡ x)) → Contains (items_at old d ++ item ∷ []) x
      from (inl h) = Contains-append_left (items_at old d) (item ∷ []) x h
      from (inr q) = subst (λ (z : T). Contains (items_at old d ++ item ∷ []) z) q.1 (Contains-push (items_at old d) item)
  put_at d x false e =
      let at : items_at new d ≡ items_at old d = puts d ∙ ap (λ (b : Bool). if b then items_at old d ++ item ∷ [] else items_at old d) e in
      (λ h. inl (subst (λ (l : List T). Contains l x) at h), λ q. subst (λ (l : List T). Contains l x) (sym at) (from q))
    where
      off : {A : Type 0} → true ≡ false → A
      off k = cc

      from : Contains (items_at old d) x ⊎ ((c ≡ d) × (item ≡ x)) → Contains (items_at old d) x
      from (inl h) = h
      from (inr q) = off (sym (is_same_itself c) ∙ ap (is_same c) q.0 ∙ e)

  pub put_exact : (d : Name) (x : T) → Contains (items_at new d) x ↔ (Contains (items_at old d) x ⊎ ((c ≡ d) × (item ≡ x)))
  put_exact d x = put_at d x (is_same c d) refl

-- one of the first of a list
pub record IsOneOfFirst {X : Type 0} (xs : List X) (n : ℕ) (x : X) : Type 0 where
  pub place : ℕ
  pub early : place < n
  pub stands : slice_get xs place ≡ Some x

same_some : {X : Type 0} (x y : X) → Some x ≡ Some y → x ≡ y
same_some x y e = cc

module _ {X : Type 0} (xs : List X) where
  pub first_split : (n : ℕ) (y x : X) → slice_get xs n ≡ Some y → IsOneOfFirst xs (n + 1) x → IsOneOfFirst xs n x ⊎ (y ≡ x)
  first_split n y x at q = go (split q.place q.early)
    where
      split : (i : ℕ) → i < n + 1 → (i < n) ⊎ (i ≡ n)
      split i l = grind arith

      go : (q.place < n) ⊎ (q.place ≡ n) → IsOneOfFirst xs n x ⊎ (y ≡ x)
      go (inl l) = inl (record { place = q.place; early = l; stands = q.stands })
      go (inr e) = inr (same_some y x (sym at ∙ ap (slice_get xs) (sym e) ∙ q.stands))

  pub first_join : (n : ℕ) (y x : X) → slice_get xs n ≡ Some y → IsOneOfFirst xs n x ⊎ (y ≡ x) → IsOneOfFirst xs (n + 1) x
  first_join n y x at (inl q) = record { place = q.place; early = (let l : q.place < n = q.early in omega arith); stands = q.stands }
  first_join n y x at (inr e) = record { place = n; early = omega arith; stands = at ∙ ap Some e }

  pub no_first : (x : X) → IsOneOfFirst xs 0 x → ⊥
  no_first x q = let l : q.place < 0 = q.early in omega arith

  pub all_first : (n : ℕ) (x : X) → length xs ≤ n → Contains xs x → IsOneOfFirst xs n x
  all_first n x over h = record { place = h.0; early = (let l : h.0 < length xs = h.1 in omega arith); stands = stands_at xs x h }

  pub first_in : (n : ℕ) (x : X) → IsOneOfFirst xs n x → Contains xs x
  first_in n x q = contains_at xs q.place x q.stands

-- a class is put under names, one after the other
pub below_begins : (names : List Name) (c : Name) (below : Lists Name) → PutsBelow (IsOneOfFirst names 0) c below below
below_begins names c below = record { exact = λ d x. (λ h. inl h, λ q. from d x q) }
  where
    from : (d x : Name) → Contains (items_at below d) x ⊎ (IsOneOfFirst names 0 d × (c ≡ x)) → Contains (items_at below d) x
    from d x (inl h) = h
    from d x (inr q) = absurd (no_first names d q.0)

pub below_goes_on : (names : List Name) (n : ℕ) (name c item : Name) (a b e : Lists Name) → slice_get names n ≡ Some name → item ≡ c → PutsBelow (IsOneOfFirst names n) c a b → ((other : Name) → items_at e other ≡ (if is_same name other then items_at b other ++ item ∷ [] else items_at b other)) → PutsBelow (IsOneOfFirst names (n + 1)) c a e
below_goes_on names n name c item a b e at same before puts = record { exact = λ d x. (λ h. into d x ((put_exact b e name item puts d x).0 h), λ q. (put_exact b e name item puts d x).1 (from d x q)) }
  where
    older : (d x : Name) → Contains (items_at a d) x ⊎ (IsOneOfFirst names n d × (c ≡ x)) → Contains (items_at a d) x ⊎ (IsOneOfFirst names (n + 1) d × (c ≡ x))
    older d x (inl h) = inl h
    older d x (inr q) = inr (first_join names n name d at (inl q.0), q.1)

    into : (d x : Name) → Contains (items_at b d) x ⊎ ((name ≡ d) × (item ≡ x)) → Contains (items_at a d) x ⊎ (IsOneOfFirst names (n + 1) d × (c ≡ x))
    into d x (inl h) = older d x ((before.exact d x).0 h)
    into d x (inr q) = inr (first_join names n name d at (inr q.0), sym same ∙ q.1)

    newer : (d x : Name) → c ≡ x → IsOneOfFirst names n d ⊎ (name ≡ d) → Contains (items_at b d) x ⊎ ((name ≡ d) × (item ≡ x))
    newer d x k (inl q) = inl ((before.exact d x).1 (inr (q, k)))
    newer d x k (inr s) = inr (s, same ∙ k)

    from : (d x : Name) → Contains (items_at a d) x ⊎ (IsOneOfFirst names (n + 1) d × (c ≡ x)) → Contains (items_at b d) x ⊎ ((name ≡ d) × (item ≡ x))
    from d x (inl h) = inl ((before.exact d x).1 (inl h))
    from d x (inr q) = newer d x q.1 (first_split names n name d at q.0)

below_as : (P Q : Name → Type 0) (c : Name) (a b : Lists Name) → ((d : Name) → P d → Q d) → ((d : Name) → Q d → P d) → PutsBelow P c a b → PutsBelow Q c a b
below_as P Q c a b f g puts = record { exact = λ d x. (λ h. into d x ((puts.exact d x).0 h), λ q. (puts.exact d x).1 (from d x q)) }
  where
    into : (d x : Name) → Contains (items_at a d) x ⊎ (P d × (c ≡ x)) → Contains (items_at a d) x ⊎ (Q d × (c ≡ x))
    into d x (inl h) = inl h
    into d x (inr q) = inr (f d q.0, q.1)

    from : (d x : Name) → Contains (items_at a d) x ⊎ (Q d × (c ≡ x)) → Contains (items_at a d) x ⊎ (P d × (c ≡ x))
    from d x (inl h) = inl h
    from d x (inr q) = inr (g d q.0, q.1)

pub below_ends : (names : List Name) (n : ℕ) (c : Name) (a b : Lists Name) → length names ≤ n → PutsBelow (IsOneOfFirst names n) c a b → PutsBelow (Contains names) c a b
below_ends names n c a b over f = below_as _ (Contains names) c a b (λ d q. first_in names n d q) (λ d h. all_first names n d over h) f

pub below_ancestors : (w : Classes) (c : Name) (names : List Name) (a b : Lists Name) → AreAncestors w c names → PutsBelow (Contains names) c a b → PutsBelow (IsAncestor w c) c a b
below_ancestors w c names a b are f = below_as (Contains names) (IsAncestor w c) c a b (λ d h. (are.exact d).0 h) (λ d h. (are.exact d).1 h) f

-- under each name stand the classes below it that the first facts make
pub record BelowYet (w : Classes) (facts : List Fact) (n : ℕ) (below : Lists Name) : Type 0 where
  pub exact : (c d : Name) → Contains (items_at below c) d ↔ (IsOneOfFirst facts n (fact.Made d) × IsAncestor w d c)

module _ (w : Classes) (facts : List Fact) where
  pub made_begin : (below : Lists Name) → ((name : Name) → items_at below name ≡ []) → BelowYet w facts 0 below
  made_begin below empty = record { exact = λ c d. (λ h. nothing_in d (subst (λ (l : List Name). Contains l d) (empty c) h), λ q. absurd (no_first facts (fact.Made d) q.0)) }

  pub made_go_on : (n : ℕ) (f : Fact) (a b : Lists Name) → slice_get facts n ≡ Some f → BelowYet w facts n a → PutsMade w f a b → BelowYet w facts (n + 1) b
  made_go_on n f a b at before puts = record { exact = λ c d. (λ h. into c d ((puts.exact c d).0 h), λ q. (puts.exact c d).1 (from c d q.1 (first_split facts n f (fact.Made d) at q.0))) }
    where
      into : (c d : Name) → Contains (items_at a c) d ⊎ Makes w c d f → IsOneOfFirst facts (n + 1) (fact.Made d) × IsAncestor w d c
      into c d (inl h) = let q = (before.exact c d).0 h in (first_join facts n f (fact.Made d) at (inl q.0), q.1)
      into c d (inr m) = (first_join facts n f (fact.Made d) at (inr m.made), m.below)

      from : (c d : Name) → IsAncestor w d c → IsOneOfFirst facts n (fact.Made d) ⊎ (f ≡ fact.Made d) → Contains (items_at a c) d ⊎ Makes w c d f
      from c d way (inl q) = inl ((before.exact c d).1 (q, way))
      from c d way (inr e) = inr (record { made = e; below = way })

  pub made_end : (n : ℕ) (below : Lists Name) → length facts ≤ n → BelowYet w facts n below → AreBelow w facts below
  made_end n below over all = record { exact = λ c d. (λ h. let q = (all.exact c d).0 h in record { made = first_in facts n (fact.Made d) q.0; below = q.1 }, λ m. (all.exact c d).1 (all_first facts n (fact.Made d) over m.made, m.below)) }

same_made : (c d : Name) → fact.Made c ≡ fact.Made d → c ≡ d
same_made c d e = cc

pub puts_made : (w : Classes) (f : Fact) (c : Name) (a b : Lists Name) → f ≡ fact.Made c → PutsBelow (IsAncestor w c) c a b → PutsMade w f a b
puts_made w f c a b is puts = record { exact = λ d x. (λ h. into d x ((puts.exact d x).0 h), λ q. (puts.exact d x).1 (from d x q)) }
  where
    into : (d x : Name) → Contains (items_at a d) x ⊎ (IsAncestor w c d × (c ≡ x)) → Contains (items_at a d) x ⊎ Makes w d x f
    into d x (inl h) = inl h
    into d x (inr q) = inr (record { made = is ∙ ap fact.Made q.1; below = subst (λ (y : Name). IsAncestor w y d) q.1 q.0 })

    from : (d x : Name) → Contains (items_at a d) x ⊎ Makes w d x f → Contains (items_at a d) x ⊎ (IsAncestor w c d × (c ≡ x))
    from d x (inl h) = inl h
    from d x (inr m) = let e : c ≡ x = same_made c x (sym is ∙ m.made) in inr (subst (λ (y : Name). IsAncestor w y d) (sym e) m.below, e)

-- the bodies that the first facts need
pub record BodiesYet (facts : List Fact) (n : ℕ) (bodies : List Member) : Type 0 where
  pub exact : (k : Member) → Contains bodies k ↔ IsOneOfFirst facts n (fact.Body k)

module _ (facts : List Fact) where
  pub bodies_begin : (bodies : List Member) → bodies ≡ [] → BodiesYet facts 0 bodies
  bodies_begin bodies empty = record { exact = λ k. (λ h. nothing_in k (subst (λ (l : List Member). Contains l k) empty h), λ q. absurd (no_first facts (fact.Body k) q)) }

  pub bodies_go_on : (n : ℕ) (f : Fact) (a b : List Member) → slice_get facts n ≡ Some f → BodiesYet facts n a → PutsBody f a b → BodiesYet facts (n + 1) b
  bodies_go_on n f a b at before puts = record { exact = λ k. (λ h. into k ((puts.exact k).0 h), λ q. (puts.exact k).1 (from k (first_split facts n f (fact.Body k) at q))) }
    where
      into : (k : Member) → Contains a k ⊎ (f ≡ fact.Body k) → IsOneOfFirst facts (n + 1) (fact.Body k)
      into k (inl h) = first_join facts n f (fact.Body k) at (inl ((before.exact k).0 h))
      into k (inr e) = first_join facts n f (fact.Body k) at (inr e)

      from : (k : Member) → IsOneOfFirst facts n (fact.Body k) ⊎ (f ≡ fact.Body k) → Contains a k ⊎ (f ≡ fact.Body k)
      from k (inl q) = inl ((before.exact k).1 q)
      from k (inr e) = inr e

  pub bodies_end : (n : ℕ) (bodies : List Member) → length facts ≤ n → BodiesYet facts n bodies → AreBodies facts bodies
  bodies_end n bodies over all = record { exact = λ k. (λ h. first_in facts n (fact.Body k) ((all.exact k).0 h), λ h. (all.exact k).1 (all_first facts n (fact.Body k) over h)) }

same_body : (k l : Member) → fact.Body k ≡ fact.Body l → k ≡ l
same_body k l e = cc

pub puts_body : (f : Fact) (k item : Member) (a b : List Member) → f ≡ fact.Body k → item ≡ k → b ≡ insert_key member_eq.ghosts.eq a item → PutsBody f a b
puts_body f k item a b is same put = record { exact = λ l. (λ h. into l (from-insert_all member_eq.ghosts.eq a (item ∷ []) l (subst (λ (ks : List Member). Contains ks l) put h)), λ q. subst (λ (ks : List Member). Contains ks l) (sym put) (from l q)) }
  where
    into : (l : Member) → Contains a l ⊎ Contains (item ∷ []) l → Contains a l ⊎ (f ≡ fact.Body l)
    into l (inl h) = inl h
    into l (inr h) = inr (is ∙ ap fact.Body (sym same ∙ only_one item l h))

    from : (l : Member) → Contains a l ⊎ (f ≡ fact.Body l) → Contains (insert_key member_eq.ghosts.eq a item) l
    from l (inl h) = into-insert_all member_eq.ghosts.eq a (item ∷ []) l h
    from l (inr e) = subst (λ (z : Member). Contains (insert_key member_eq.ghosts.eq a item) z) (same ∙ same_body k l (sym is ∙ e)) (each-insert_all member_eq.ghosts.eq (λ x y h. (member_decides x y).0 h) a (item ∷ []) item (Contains-push [] item))

-- whether a member is among members
pub member_among : (members : List Member) (k : Member) (r : Bool) → r ≡ list_any (member_eq.ghosts.eq k) members → IsTrue r ↔ Contains members k
member_among members k r is = let test = is_member-Decides member_decides members k in (λ t. test.0 (sym is ∙ t), λ h. is ∙ test.1 h)

-- what is kept answers
pub needed_there : (kept facts : List Fact) (bodies : List Member) (k : Member) (r : Bool) → kept ≡ facts → AreBodies kept bodies → IsTrue r ↔ Contains bodies k → IsTrue r ↔ Contains facts (fact.Body k)
needed_there kept facts bodies k r same are both = (λ t. subst (λ (l : List Fact). Contains l (fact.Body k)) same ((are.exact k).0 (both.0 t)), λ h. both.1 ((are.exact k).1 (subst (λ (l : List Fact). Contains l (fact.Body k)) (sym same) h)))

pub below_there : (world w : Classes) (kept facts : List Fact) (below : Lists Name) (names : List Name) (c : Name) → world ≡ w → kept ≡ facts → AreBelow world kept below → names ≡ items_at below c → (d : Name) → Contains names d ↔ IsMadeBelow w facts c d
below_there world w kept facts below names c same_world same are at d =
    subst (λ (x : Classes). Contains names d ↔ IsMadeBelow x facts c d) same_world (subst (λ (l : List Fact). Contains names d ↔ IsMadeBelow world l c d) same (subst (λ (l : List Name). Contains l d ↔ IsMadeBelow world kept c d) (sym at) (are.exact c d)))
