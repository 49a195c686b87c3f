-- A search along a chain finds the target of a call.
use Rattle.std.proofs.Common.{◌≡◌, ℕ, zero, suc, Bool, true, false, List, [], ◌∷◌, Contains, slice_get, Option, Some, None, refl, sym, ap, ◌∙◌, subst, cond, ◌&&◌}
use Rattle.std.specs.Prelude.{◌≢◌}
use Rattle.sj_names.specs.declared.method_names.MethodName.{MethodName}
use Rattle.sj_names.specs.declared.method_names.Member.{Member}
use Rattle.sj_names.specs.MethodNames.{spelled_method, method_name_of, IsMethodName}
use Rattle.sj_names.proofs.ReadMethodNames.{reads_method_names}
use Rattle.sj_world.specs.declared.facts.Fact.{Fact}
use Rattle.sj_world.specs.declared.linked.MethodEntry.{MethodEntry}
use Rattle.sj_world.specs.Known.{Name, Classes, is_same}
use Rattle.sj_world.specs.Paths.{on}
use Rattle.sj_world.specs.Resolution.{target}
use Rattle.sj_world.proofs.Once.{resolves_once}
use Rattle.sj_world.proofs.Orders.{same_name, is_same_itself}
use Rattle.sj_world.proofs.Searches.{stands_at, contains_at}
use Rattle.sj_emit_class_spec.specs.Rules.{public_member}
use Rattle.sj_emit_class_spec.specs.Entries.{IsLive, IsWanted, IsTarget, IsInherited, IsDirect, IsMethodEntry, direct, proxy, AreEntries}
use Rattle.sj_emit_class_spec.specs.Dispatch.{IsReachedTarget}
use Rattle.entry_search.proofs.Reflective.{without_result}
use Rattle.entry_search.specs.Search.{is_for, or_member, entry_for, found, IsChainTo, ends, goes}
use Rattle.entry_search.specs.Laws.{AreSpelled, SearchFindsTarget}

both : (a b : Bool) → (a && b) ≡ true → (a ≡ true) × (b ≡ true)
both true b e = (refl, e)
both false b e = cc

some_method : (a b : MethodName) → ◌≡◌ {A = Option MethodName} (Some a) (Some b) → a ≡ b
some_method a b e = cc

pub same_method : (a b : MethodName) → IsMethodName a → IsMethodName b → is_same (spelled_method a) (spelled_method b) ≡ true → a ≡ b
same_method a b h k e = some_method a b (sym ((reads_method_names (spelled_method a) a).1 (h, refl)) ∙ ap method_name_of (same_name (spelled_method a) (spelled_method b) e) ∙ (reads_method_names (spelled_method b) b).1 (k, refl))

pub record Found (es : List MethodEntry) (c : Name) (m : MethodName) (k : Member) : Type 0 where
  pub entry : MethodEntry
  pub among : Contains es entry
  pub class_is : entry.class ≡ c
  pub name_is : entry.name ≡ m
  pub target_is : entry.target ≡ k

module _ (c : Name) (m : MethodName) (m_is : IsMethodName m) where
  pub entry_found : (es : List MethodEntry) → ((e : MethodEntry) → Contains es e → IsMethodName e.name) → (k : Member) → entry_for es c m ≡ Some k → Found es c m k
  entry_found [] spelled k h = cc
  entry_found (x ∷ es) spelled k h = go (entry_found es (λ y a. spelled y (contains_at (x ∷ es) (suc a.0) y (stands_at es y a))) k) (is_for c m x) refl
    where
      here : Contains (x ∷ es) x
      here = contains_at (x ∷ es) 0 x refl

      later : Found es c m k → Found (x ∷ es) c m k
      later f = record { entry = f.entry; among = contains_at (x ∷ es) (suc f.among.0) f.entry (stands_at es f.entry f.among); class_is = f.class_is; name_is = f.name_is; target_is = f.target_is }

      go : (entry_for es c m ≡ Some k → Found es c m k) → (b : Bool) → is_for c m x ≡ b → Found (x ∷ es) c m k
      go below true e =
          let parts = both (is_same x.class c) (is_same (spelled_method x.name) (spelled_method m)) e in
          let s : Some x.target ≡ Some k = sym (ap (λ (b : Bool). cond b (Some x.target) (entry_for es c m)) e) ∙ h in
          let t : x.target ≡ k = cc in
          record { entry = x; among = here; class_is = same_name x.class c parts.0; name_is = same_method x.name m (spelled x here) m_is parts.1; target_is = t }
      go below false e = later (below (sym (ap (λ (b : Bool). cond b (Some x.target) (entry_for es c m)) e) ∙ h))

pub is_for_itself : (c : Name) (m : MethodName) (k : Member) → is_for c m (record { class = c; name = m; target = k }) ≡ true
is_for_itself c m k = ap (λ (b : Bool). b && is_same (spelled_method m) (spelled_method m)) (is_same_itself c) ∙ is_same_itself (spelled_method m)

pub entry_none : (c : Name) (m : MethodName) (es : List MethodEntry) → entry_for es c m ≡ None → (i : ℕ) (e : MethodEntry) → slice_get es i ≡ Some e → is_for c m e ≡ true → ⊥
entry_none c m [] h i e at t = cc
entry_none c m (x ∷ es) h zero e at t =
    let s : x ≡ e = cc in
    let f : is_for c m x ≡ true = ap (is_for c m) s ∙ t in
    let n : Some x.target ≡ None = sym (ap (λ (b : Bool). cond b (Some x.target) (entry_for es c m)) f) ∙ h in
    cc
entry_none c m (x ∷ es) h (suc i) e at t = go (λ k. entry_none c m es k i e at t) (is_for c m x) refl
  where
    go : (entry_for es c m ≡ None → ⊥) → (b : Bool) → is_for c m x ≡ b → ⊥
    go below true f = let n : Some x.target ≡ None = sym (ap (λ (b : Bool). cond b (Some x.target) (entry_for es c m)) f) ∙ h in cc
    go below false f = below (sym (ap (λ (b : Bool). cond b (Some x.target) (entry_for es c m)) f) ∙ h)

module _ (w : Classes) (facts : List Fact) (es : List MethodEntry) (are : AreEntries w facts es) (spelled : AreSpelled es) (m : MethodName) (m_is : IsMethodName m) (m_direct : m.result ≢ None) where
  -- a found entry is that of a call
  pub record Direct (c : Name) (k : Member) : Type 0 where
    pub owner : Name
    pub member_is : k ≡ public_member owner m
    pub is_entry : IsDirect w facts c m owner

  pub is_direct : (c : Name) (k : Member) → Found es c m k → Direct c k
  is_direct c k f = go f.entry f.class_is f.name_is f.target_is ((are.exact f.entry).0 f.among)
    where
      go : (e : MethodEntry) → e.class ≡ c → e.name ≡ m → e.target ≡ k → IsMethodEntry w facts e → Direct c k
      go _ class_is name_is target_is (direct d owner n h) = record {
        owner = owner;
        member_is = sym target_is ∙ ap (public_member owner) name_is;
        is_entry = subst (λ (x : Name). IsDirect w facts x m owner) class_is (subst (λ (x : MethodName). IsDirect w facts d x owner) name_is h);
      }
      go _ class_is name_is target_is (proxy d p t h) = absurd (m_direct (ap (λ (x : MethodName). x.result) (sym name_is) ∙ without_result w facts p h.reflective))

  pub direct_at : (c : Name) (k : Member) → entry_for es c m ≡ Some k → Direct c k
  direct_at c k e = is_direct c k (entry_found c m m_is es spelled.spelled k e)

  shape : (cs : List Name) (k : Member) → found es cs m ≡ Some k → k ≡ public_member k.class m
  shape [] k h = cc
  shape (c ∷ cs) k h = go (shape cs k) (entry_for es c m) refl
    where
      own : Direct c k → k ≡ public_member k.class m
      own d = d.member_is ∙ ap (λ (o : Name). public_member o m) (sym (ap (λ (x : Member). x.class) d.member_is))

      go : (found es cs m ≡ Some k → k ≡ public_member k.class m) → (o : Option Member) → entry_for es c m ≡ o → k ≡ public_member k.class m
      go below None e = below (sym (ap (λ (o : Option Member). or_member o (found es cs m)) e) ∙ h)
      go below (Some j) e = let s : Some j ≡ Some k = sym (ap (λ (o : Option Member). or_member o (found es cs m)) e) ∙ h in own (direct_at c k (e ∙ s))

  module _ (owner : Name) where
    pub same_target : (c o : Name) → IsTarget w c m owner → IsTarget w c m o → o ≡ owner
    same_target c o h k = let e : target k.body o ≡ target h.body owner = resolves_once w c m (target k.body o) (target h.body owner) k.resolves h.resolves in cc

    pub right : (c : Name) (k : Member) → IsReachedTarget w facts c m owner → Direct c k → k ≡ public_member owner m
    right c k t d = d.member_is ∙ ap (λ (o : Name). public_member o m) (same_target c d.owner t.is_target d.is_entry.is_target)

    step : (c : Name) (ds : List Name) → IsLive w facts c → IsWanted w facts c m → IsReachedTarget w facts c m owner → (IsInherited w facts c m owner → found es ds m ≡ Some (public_member owner m)) → found es (c ∷ ds) m ≡ Some (public_member owner m)
    step c ds live wanted t below = go (entry_for es c m) refl
      where
        -- a class without an entry inherits one
        entry : entry_for es c m ≡ None → (IsInherited w facts c m owner → ⊥) → ⊥
        entry e not =
            let here = (are.exact (record { class = c; name = m; target = public_member owner m })).1 (direct c owner m (record { live = live; wanted = wanted; is_target = t.is_target; reached = t.reached; not_inherited = not })) in
            entry_none c m es e here.0 (record { class = c; name = m; target = public_member owner m }) (stands_at es (record { class = c; name = m; target = public_member owner m }) here) (is_for_itself c m (public_member owner m))

        named : (k : Member) → entry_for es c m ≡ None → found es ds m ≡ Some k → (b : Bool) → is_same k.class owner ≡ b → Some k ≡ Some (public_member owner m)
        named k e f true same = ap Some (shape ds k f ∙ ap (λ (o : Name). public_member o m) (same_name k.class owner same))
        named k e f false differs = absurd (entry e (λ h.
            let s : Some k ≡ Some (public_member owner m) = sym f ∙ below h in
            let c : k ≡ public_member owner m = cc in
            let d : is_same k.class owner ≡ true = ap (λ (x : Member). is_same x.class owner) c ∙ is_same_itself owner in
            cc))

        decide : entry_for es c m ≡ None → (v : Option Member) → found es ds m ≡ v → v ≡ Some (public_member owner m)
        decide e None f = absurd (entry e (λ h. let s : None ≡ Some (public_member owner m) = sym f ∙ below h in cc))
        decide e (Some k) f = named k e f (is_same k.class owner) refl

        go : (o : Option Member) → entry_for es c m ≡ o → found es (c ∷ ds) m ≡ Some (public_member owner m)
        go (Some k) e = ap (λ (o : Option Member). or_member o (found es ds m)) e ∙ ap Some (right c k t (direct_at c k e))
        go None e = ap (λ (o : Option Member). or_member o (found es ds m)) e ∙ decide e (found es ds m) refl ∙ refl

    search : (c : Name) (chain : List Name) → IsChainTo w c chain → IsLive w facts c → IsWanted w facts c m → IsReachedTarget w facts c m owner → found es chain m ≡ Some (public_member owner m)
    search c chain (ends _ none) live wanted t = step c [] live wanted t (λ h. let s : None ≡ Some h.superclass = sym none ∙ h.is_next in cc)
    search c chain (goes _ d ds next rest) live wanted t = step c ds live wanted t (λ h.
        let s : Some h.superclass ≡ Some d = sym h.is_next ∙ next in
        let e : h.superclass ≡ d = cc in
        search d ds rest (record { made = live.made; is_made = live.is_made; on_chain = on c d live.on_chain next }) (subst (λ (x : Name). IsWanted w facts x m) e h.wanted) (record { is_target = subst (λ (x : Name). IsTarget w x m owner) e h.is_target; reached = t.reached }))

pub search_finds_target : SearchFindsTarget
search_finds_target w facts es are spelled c chain is_chain m owner m_is m_direct live wanted t = search w facts es are spelled m m_is m_direct owner c chain is_chain live wanted t
