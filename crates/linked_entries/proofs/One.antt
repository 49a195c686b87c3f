-- The method entries of an accepted folder are one list.
use Rattle.std.proofs.Common.{◌≡◌, ◌↔◌, ◌<◌, ℕ, suc, true, false, List, [], ◌∷◌, Option, Some, None, refl, sym, subst, Contains, slice_get, arith}
use Rattle.std.specs.Prelude.{is_some}
use Rattle.std.specs.Cmp.Lexicographic.{nat_list_cmp_total}
use Rattle.std.specs.Ordering.{is_lt, ordering_reverse, ordering_then}
use Rattle.std.specs.declared.cmp.Ordering.{Ordering}
use Rattle.std.specs.declared.cmp.Ordering.TheVariants.{Less, Equal, Greater}
use Rattle.std.proofs.lemmas.List.Sorted.{Contains-permutation, IsPermutation-sym}
use Rattle.accepted_folders.specs.Accepted.{IsAccepted}
use Rattle.accepted_folders.proofs.Plain.{plain_world}
use Rattle.accepted_folders.specs.Entries.{IsTarget, IsLive, IsWanted, IsInherited, IsDirect, IsReflective, IsProxy, IsMethodEntry, direct, proxy, entry_cmp, AreEntries}
use Rattle.accepted_folders.proofs.Owners.{one_owner}
use Rattle.linked_pieces.proofs.Reflective.{without_result}
use Rattle.accepted_folders.proofs.Firsts.{standing}
use Rattle.linked_pieces.specs.Order.{AreInOrder}
use Rattle.linked_pieces.specs.Reflected.{HasOneTarget}
use Rattle.linked_pieces.proofs.Names.{tied_name}
use Rattle.linked_pieces.proofs.Order.{one_order}
use Rattle.proxy_targets.specs.Proxies.{IsTargetName}
use Rattle.accepted_folders.specs.Rules.{public_member}
use Rattle.accepted_folders.proofs.Classes.{keeps-superclass, keeps-hijacked, result-keeps}
use Rattle.sj_local.specs.Broken.{FirstBroken}
use Rattle.sj_text_files.proofs.ListedClasses.{file_is_listed}
use Rattle.sj_names.proofs.Same.{impossible}
use Rattle.sj_names.specs.MethodNames.{IsMethodName, spelled_method}
use Rattle.sj_names.specs.declared.entry_points.EntryPoint.{EntryPoint}
use Rattle.sj_names.specs.declared.folders.SourceFile.{SourceFile}
use Rattle.sj_names.specs.declared.method_names.MethodName.{MethodName}
use Rattle.sj_names.specs.declared.references.TypeRef.{TypeRef}
use Rattle.sj_trees.specs.declared.classes.ClassDef.{ClassDef}
use Rattle.sj_trees.specs.declared.classes.MethodDef.{MethodDef}
use Rattle.sj_world.proofs.Orders.{compared, same_name, same_compared}
use Rattle.sj_world.proofs.Searches.{contains_at, stands_at}
use Rattle.sj_world.specs.Known.{Name, Classes}
use Rattle.sj_world.specs.Laws.{IsPlain}
use Rattle.sj_world.specs.declared.facts.Fact.{Fact}
use Rattle.sj_world.specs.declared.facts.Fact.TheVariants as fact
use Rattle.sj_world.specs.declared.linked.MethodEntry.{MethodEntry}
use Rattle.linked_entries.specs.Laws.{EntriesAreOne}
use Rattle.linked_entries.proofs.Targets.{names_differ, IsMethodsName, target_named, IsReached, proxy_reached, one_target_name}

-- ---- the same facts give the same entries

module _ (w : Classes) (one other : List Fact) (to : (f : Fact) → Contains one f → Contains other f) where
  lives : (c : Name) → IsLive w one c → IsLive w other c
  lives c h = record { made = h.made; is_made = to (fact.Made h.made) h.is_made; on_chain = h.on_chain }

  wants : (c : Name) (m : MethodName) → IsWanted w one c m → IsWanted w other c m
  wants c m h = record { receiver = h.receiver; called = to (fact.Called h.receiver m) h.called; below = h.below }

  inherits : (c : Name) (m : MethodName) (owner : Name) → IsInherited w one c m owner → IsInherited w other c m owner
  inherits c m owner h = record { superclass = h.superclass; is_next = h.is_next; wanted = wants h.superclass m h.wanted; is_target = h.is_target }

  reflects : (p : MethodName) → IsReflective w one p → IsReflective w other p
  reflects p h = record { member = h.member; needed = to (fact.Body h.member) h.needed; definition = h.definition; defined = h.defined; calls = h.calls }

  enters : ((c : Name) (m : MethodName) (owner : Name) → IsInherited w other c m owner → IsInherited w one c m owner) → (e : MethodEntry) → IsMethodEntry w one e → IsMethodEntry w other e
  enters back _ (direct c owner m h) = direct c owner m (record { live = lives c h.live; wanted = wants c m h.wanted; is_target = h.is_target; reached = to (fact.Body (public_member owner m)) h.reached; not_inherited = λ k. h.not_inherited (back c m owner k) })
  enters back _ (proxy c p t h) = proxy c p t (record { is_made = to (fact.Made c) h.is_made; reflective = reflects p h.reflective; is_target = h.is_target })

-- ---- no two entries stand at one place of the order

tied : (o p q r : Ordering) → p ≡ ordering_reverse o → is_lt (ordering_then o q) ≡ false → is_lt (ordering_then p r) ≡ false → (o ≡ Equal) × ((is_lt q ≡ false) × (is_lt r ≡ false))
tied Less p q r e h k = impossible (sym h)
tied Equal p q r e h k = (refl, (h, subst (λ (x : Ordering). is_lt (ordering_then x r) ≡ false) e k))
tied Greater p q r e h k = let l : is_lt Less ≡ false = subst (λ (x : Ordering). is_lt (ordering_then x r) ≡ false) e k in impossible (sym l)

record AreTied (a b : MethodEntry) : Type 0 where
  classes : a.class ≡ b.class
  spellings : spelled_method a.name ≡ spelled_method b.name

neither_before : (a b : MethodEntry) → is_lt (entry_cmp a b) ≡ false → is_lt (entry_cmp b a) ≡ false → AreTied a b
neither_before a b h k =
    let t = tied (compared a.class b.class) (compared b.class a.class) (compared (spelled_method a.name) (spelled_method b.name)) (compared (spelled_method b.name) (spelled_method a.name)) (nat_list_cmp_total.antisymm b.class a.class) h k in
    record { classes = same_name a.class b.class (same_compared a.class b.class t.0); spellings = tied_name (spelled_method a.name) (spelled_method b.name) t.1.0 t.1.1 }

some_none : {A : Type 0} (o : Option TypeRef) → is_some o ≡ true → o ≡ None → A
some_none o h e = impossible (subst (λ (x : Option TypeRef). is_some x ≡ true) e h)

module _ (w : Classes) (one_proxy : (c : Name) (p t u : MethodName) → IsTargetName w c p t → IsTargetName w c p u → t ≡ u) (kept : (c : ClassDef) → Contains w c → FirstBroken c None) (named : (c : ClassDef) → Contains w c → (m : MethodDef) → Contains c.methods m → IsMethodName m.name) (facts : List Fact) where
  named_method : (m : MethodName) → IsMethodsName w m → IsMethodName m
  named_method m h = subst IsMethodName h.name_is (named h.is_defined.class h.is_defined.in_world h.definition h.is_defined.among)

  with_result : (m : MethodName) → IsMethodsName w m → is_some m.result ≡ true
  with_result m h = subst (λ (n : MethodName). is_some n.result ≡ true) h.name_is (result-keeps h.is_defined.class (kept h.is_defined.class h.is_defined.in_world) h.definition h.is_defined.among)

  -- a reflective name has the parts of the method's that it reaches, and no result
  named_proxy : (p t : MethodName) → p.result ≡ None → IsReached w p t → IsMethodName p
  named_proxy p t none h = subst IsMethodName same (record { simple = of_method.simple; params = of_method.params; result = tt })
    where
      of_method : IsMethodName h.definition.name
      of_method = named h.is_defined.class h.is_defined.in_world h.definition h.is_defined.among

      without : MethodName
      without = record { simple = h.definition.name.simple; params = h.definition.name.params; result = None }

      same : without ≡ p
      same = (λ i. record { simple = h.named.simple_is i; params = h.named.params_are i; result = sym none i })

  of_direct : (c owner : Name) (m : MethodName) → IsDirect w facts c m owner → IsMethodsName w m
  of_direct c owner m h = target_named w c m owner h.is_target

  name_of_proxy : (c : Name) (p t : MethodName) → IsProxy w facts c p t → IsMethodName p
  name_of_proxy c p t h = named_proxy p t (without_result w facts p h.reflective) (proxy_reached w c p t h.is_target)

  -- a name with a method's spelling isn't reflective
  apart : {A : Type 0} (c owner d : Name) (m p t : MethodName) → IsDirect w facts c m owner → IsProxy w facts d p t → spelled_method m ≡ spelled_method p → A
  apart c owner d m p t h k e =
      let same : m ≡ p = names_differ m p (named_method m (of_direct c owner m h)) (name_of_proxy d p t k) e in
      some_none p.result (subst (λ (n : MethodName). is_some n.result ≡ true) same (with_result m (of_direct c owner m h))) (without_result w facts p k.reflective)

  one_entry : (a b : MethodEntry) → IsMethodEntry w facts a → IsMethodEntry w facts b → AreTied a b → a ≡ b
  one_entry _ _ (direct c owner m h) (direct d other n k) t =
      let names : m ≡ n = names_differ m n (named_method m (of_direct c owner m h)) (named_method n (of_direct d other n k)) t.spellings in
      let owners : owner ≡ other = one_owner w d n owner other (subst (λ (x : MethodName). IsTarget w d x owner) names (subst (λ (x : Name). IsTarget w x m owner) t.classes h.is_target)) k.is_target in
      (λ i. record { class = t.classes i; name = names i; target = public_member (owners i) (names i) })
  one_entry _ _ (direct c owner m h) (proxy d p u k) t = apart c owner d m p u h k t.spellings
  one_entry _ _ (proxy d p u k) (direct c owner m h) t = apart c owner d m p u h k (sym t.spellings)
  one_entry _ _ (proxy c p u h) (proxy d q v k) t =
      let names : p ≡ q = names_differ p q (name_of_proxy c p u h) (name_of_proxy d q v k) t.spellings in
      let targets : u ≡ v = one_proxy d q u v (subst (λ (x : MethodName). IsTargetName w d x u) names (subst (λ (x : Name). IsTargetName w x p u) t.classes h.is_target)) k.is_target in
      (λ i. record { class = t.classes i; name = names i; target = public_member (t.classes i) (targets i) })

-- ---- so two lists of them in order are one

-- of two entries the second doesn't stand before the first, and they differ
record StandsFirst (w : Classes) (facts : List Fact) (a b : MethodEntry) : Type 0 where
  one : IsMethodEntry w facts a
  other : IsMethodEntry w facts b
  low : is_lt (entry_cmp b a) ≡ false
  differ : a ≡ b → ⊥

from_places : {A : Type 0} (Before : A → A → Type 0) (xs : List A) → ((i j : ℕ) (a b : A) → i < j → slice_get xs i ≡ Some a → slice_get xs j ≡ Some b → Before a b) → AreInOrder Before xs
from_places Before [] h = tt
from_places Before (x ∷ xs) h = (λ y k. h 0 (suc k.0) x y (omega arith) refl (stands_at xs y k), from_places Before xs (λ i j a b l p q. h (suc i) (suc j) a b (omega (arith, l)) p q))

module _ (w : Classes) (facts : List Fact) (unique : (a b : MethodEntry) → IsMethodEntry w facts a → IsMethodEntry w facts b → AreTied a b → a ≡ b) where
  never : (a b : MethodEntry) → StandsFirst w facts a b → StandsFirst w facts b a → ⊥
  never a b h k = h.differ (unique a b h.one h.other (neither_before a b k.low h.low))

  in_order : (es : List MethodEntry) → AreEntries w facts es → AreInOrder (StandsFirst w facts) es
  in_order es are = from_places (StandsFirst w facts) es (λ i j a b l p q. record {
    one = (are.exact a).0 (contains_at es i a p);
    other = (are.exact b).0 (contains_at es j b q);
    low = are.in_order i j a b l p q;
    differ = λ e. let same : i ≡ j = are.once i j b (subst (λ (x : MethodEntry). slice_get es i ≡ Some x) e p) q in absurd (omega (arith, l, same));
  })

  one_list : (one other : List MethodEntry) → AreEntries w facts one → AreEntries w facts other → one ≡ other
  one_list one other h k = one_order (StandsFirst w facts) never one other (in_order one h) (in_order other k) (λ e. (λ i. (k.exact e).1 ((h.exact e).0 i), λ i. (h.exact e).1 ((k.exact e).0 i)))

-- ---- in an accepted folder

module _ (entries : List EntryPoint) (files : List SourceFile) (w : Classes) (a : IsAccepted entries files w) where
  given : (c : ClassDef) → Contains w c → Contains a.classes c
  given c h = Contains-permutation w a.classes c (IsPermutation-sym a.classes w a.world.sorted.same) h

  kept : (c : ClassDef) → Contains w c → FirstBroken c None
  kept c h = a.kept c (given c h)

  named : (c : ClassDef) → Contains w c → (m : MethodDef) → Contains c.methods m → IsMethodName m.name
  named c h m i =
      let at = stands_at a.classes c (given c h) in
      let s = standing files a.classes (given c h).0 c (sym a.read.whole) at in
      let listing = file_is_listed s.item.bytes c (a.read.each (given c h).0 s.item c s.at at) in
      subst (λ (d : MethodDef). IsMethodName d.name) i.2 (listing.methods i.0 m i.1).0.0

  plain : IsPlain w
  plain = plain_world w (λ c h. keeps-superclass c (kept c h)) (λ c h. keeps-hijacked c (kept c h))

  -- a reflective call on a class reaches methods of one name
  pub one_method : HasOneTarget w
  one_method c p d e owner other h k = one_target_name w a.world.no_cycle plain kept named c p d.name e.name (record { definition = d; owner = owner; is_target = h; name_is = refl }) (record { definition = e; owner = other; is_target = k; name_is = refl })

  unique : (facts : List Fact) (x y : MethodEntry) → IsMethodEntry w facts x → IsMethodEntry w facts y → AreTied x y → x ≡ y
  unique facts = one_entry w (one_target_name w a.world.no_cycle plain kept named) kept named facts

moved : (w : Classes) (facts more : List Fact) → ((f : Fact) → Contains facts f ↔ Contains more f) → (es : List MethodEntry) → AreEntries w more es → AreEntries w facts es
moved w facts more same es are = record {
  exact = λ e. (λ h. enters w more facts (λ f. (same f).1) (inherits w facts more (λ f. (same f).0)) e ((are.exact e).0 h), λ h. (are.exact e).1 (enters w facts more (λ f. (same f).0) (inherits w more facts (λ f. (same f).1)) e h));
  once = are.once;
  in_order = are.in_order;
}

pub entries_one : EntriesAreOne
entries_one entries files w a facts more reachable same one other h k = one_list w facts (unique entries files w a facts) one other h (moved w facts more same other k)
