-- Which entries a class has.
use Rattle.std.proofs.Common.{◌≡◌, Bool, true, false, List, [], Contains, Some, None, refl, sym, ap, ◌∙◌, subst, inl, inr, IsTrue}
use Rattle.std.specs.Prelude.{◌⊎◌, ◌↔◌}
use Rattle.std.specs.List.{list_any}
use Rattle.std.proofs.lemmas.Map.Made.{is_member-Decides}
use Rattle.class_lists.specs.declared.lists.Lists.{Lists}
use Rattle.sj_names.specs.declared.method_names.Member.{Member}
use Rattle.sj_names.specs.declared.method_names.MethodName.{MethodName}
use Rattle.sj_names.specs.contracts.method_names.MethodNamePartialEq.TheImpl as method_eq
use Rattle.sj_names.proofs.Equal.{method_decides}
use Rattle.sj_trees.specs.declared.classes.MethodDef.{MethodDef}
use Rattle.sj_world.specs.Ancestors.{IsOnChain, next_on_chain}
use Rattle.sj_world.specs.Known.{Name, Classes}
use Rattle.sj_world.specs.Resolution.{Resolves, target, abstract, missing}
use Rattle.sj_world.specs.declared.facts.Fact.{Fact}
use Rattle.sj_world.specs.declared.facts.Fact.TheVariants.{Body}
use Rattle.sj_world.specs.declared.linked.MethodEntry.{MethodEntry}
use Rattle.sj_world.proofs.Once.{resolves_once}
use Rattle.proxy_targets.specs.Proxies.{IsTargetName}
use Rattle.sj_reach_spec.specs.Rules.{public_member}
use Rattle.sj_baselink_spec.specs.Entries.{IsTarget, IsInherited, IsMethodEntry, AreEntries, direct, proxy}
use Rattle.sj_baselink_spec.proofs.Owners.{one_owner}
use Rattle.sj_baselink.specs.Steps.{Puts, OfOne, AreCalled, AreMade, AreReflective, IsWantedFrom, IsWantedAbove, IsTargetAbove, entry_for, IsReachedEntry, IsOwn, IsOwnEntry, IsDirectOf, IsDirectEntry, IsProxyOf, IsProxyEntry, AreOnceInOrder}
use Rattle.sj_baselink.proofs.Gathered.{same_next, wanted_here, wanted_there}
use Rattle.sj_baselink.proofs.Putting.{adds_none, adds_then, adds_as, all_put}

-- a class has one target for a name

not_abstract : (d : MethodDef) (a : Name) → target d a ≡ abstract → ⊥
not_abstract d a h = cc

not_missing : (d : MethodDef) (a : Name) → target d a ≡ missing → ⊥
not_missing d a h = cc

pub no_target_abstract : (w : Classes) (c : Name) (m : MethodName) (owner : Name) → Resolves w c m abstract → IsTarget w c m owner → ⊥
no_target_abstract w c m owner r h = not_abstract h.body owner (resolves_once w c m (target h.body owner) abstract h.resolves r)

pub no_target_missing : (w : Classes) (c : Name) (m : MethodName) (owner : Name) → Resolves w c m missing → IsTarget w c m owner → ⊥
no_target_missing w c m owner r h = not_missing h.body owner (resolves_once w c m (target h.body owner) missing h.resolves r)

-- the tests of a target
pub target_tested : (w : Classes) (c : Name) (m : MethodName) (d : MethodDef) (found owner : Name) (r : Bool) → Resolves w c m (target d found) → IsTrue r ↔ (found ≡ owner) → IsTrue r ↔ IsTarget w c m owner
target_tested w c m d found owner r res both = (λ t. subst (IsTarget w c m) (both.0 t) here, λ h. both.1 (one_owner w c m found owner here h))
  where
    here : IsTarget w c m found
    here = record { body = d; resolves = res }

off : {A : Type 0} (r : Bool) → r ≡ false → IsTrue r → A
off r e t = let f : false ≡ true = sym e ∙ t in absurd (let z : ⊥ = cc in z)

pub none_tested : {P : Type 0} (r : Bool) → r ≡ false → (P → ⊥) → IsTrue r ↔ P
none_tested r e none = (λ t. off r e t, λ p. absurd (none p))

pub above_tested : (w : Classes) (c above : Name) (m : MethodName) (owner : Name) (r : Bool) → Some above ≡ next_on_chain w c → IsTrue r ↔ IsTarget w above m owner → IsTrue r ↔ IsTargetAbove w c m owner
above_tested w c above m owner r is both = (λ t. record { superclass = above; is_next = sym is; is_target = both.0 t }, λ h. both.1 (subst (λ (d : Name). IsTarget w d m owner) (same_next (next_on_chain w c) h.superclass above h.is_next (sym is)) h.is_target))

pub no_superclass : (w : Classes) (c : Name) (m : MethodName) (owner : Name) → None ≡ next_on_chain w c → IsTargetAbove w c m owner → ⊥
no_superclass w c m owner is h = let e : None ≡ Some h.superclass = is ∙ h.is_next in let z : ⊥ = cc in z

pub name_among : (names : List MethodName) (m : MethodName) (r : Bool) → r ≡ list_any (method_eq.ghosts.eq m) names → IsTrue r ↔ Contains names m
name_among names m r is = let test = is_member-Decides method_decides names m in (λ t. test.0 (sym is ∙ t), λ h. is ∙ test.1 h)

pub puts_reached : (facts : List Fact) (c : Name) (m : MethodName) (owner : Name) (k : Member) (a b : List MethodEntry) → k ≡ public_member owner m → Contains facts (Body k) → Puts (λ e. entry_for c m k ≡ e) a b → Puts (IsReachedEntry facts c m owner) a b
puts_reached facts c m owner k a b is has f = adds_as Contains _ (IsReachedEntry facts c m owner) a b (λ e h. record { entry_is = sym (ap (entry_for c m) is) ∙ h; reached = subst (λ (l : Member). Contains facts (Body l)) is has }) (λ e h. ap (entry_for c m) is ∙ h.entry_is) f

-- the entries for the targets of a reflective name
pub puts_for : (c : Name) (p t : MethodName) (k : Member) (a b : List MethodEntry) → k ≡ public_member c t → Puts (λ e. entry_for c p k ≡ e) a b → Puts (λ e. entry_for c p (public_member c t) ≡ e) a b
puts_for c p t k a b is f = subst (λ (l : Member). Puts (λ e. entry_for c p l ≡ e) a b) is f

pub puts_of_proxy : (w : Classes) (c : Name) (p : MethodName) (names listed : List MethodName) (a b : List MethodEntry) → ((m : MethodName) → Contains names m ↔ IsTargetName w c p m) → listed ≡ names → Puts (OfOne listed (λ t e. entry_for c p (public_member c t) ≡ e)) a b → Puts (IsProxyOf w c p) a b
puts_of_proxy w c p names listed a b exact same f = adds_as Contains _ (IsProxyOf w c p) a b (λ e q. record { name = q.thing; is_target = (exact q.thing).0 (subst (λ (l : List MethodName). Contains l q.thing) same q.among); entry_is = q.holds }) (λ e q. record { thing = q.name; among = subst (λ (l : List MethodName). Contains l q.name) (sym same) ((exact q.name).1 q.is_target); holds = q.entry_is }) f

module _ (w : Classes) (facts : List Fact) where
  module _ (c : Name) (m : MethodName) (owner : Name) where
    -- what is wanted at the superclass and has the same target there is inherited
    pub inherits : IsWantedAbove w facts c m → IsTargetAbove w c m owner → IsInherited w facts c m owner
    inherits h k = record { superclass = h.superclass; is_next = h.is_next; wanted = h.wanted; is_target = subst (λ (d : Name). IsTarget w d m owner) (same_next (next_on_chain w c) k.superclass h.superclass k.is_next h.is_next) k.is_target }

    module _ (above : List MethodName) (r : Bool) (both : IsTrue r ↔ (Contains above m × IsTargetAbove w c m owner)) (exact : (n : MethodName) → Contains above n ↔ IsWantedAbove w facts c n) where
      pub is_inherited : IsTrue r → IsInherited w facts c m owner
      is_inherited t = let p = both.0 t in inherits ((exact m).0 p.0) p.1

      pub is_not_inherited : r ≡ false → IsInherited w facts c m owner → ⊥
      is_not_inherited e h = off r e (both.1 ((exact m).1 (record { superclass = h.superclass; is_next = h.is_next; wanted = h.wanted }), record { superclass = h.superclass; is_next = h.is_next; is_target = h.is_target }))

    pub puts_inherited : (a : List MethodEntry) → IsInherited w facts c m owner → Puts (IsOwn w facts c m owner) a a
    puts_inherited a h = adds_none Contains (IsOwn w facts c m owner) a (λ e own. own.not_inherited h)

    pub puts_own : (a b : List MethodEntry) → (IsInherited w facts c m owner → ⊥) → Puts (IsReachedEntry facts c m owner) a b → Puts (IsOwn w facts c m owner) a b
    puts_own a b none f = adds_as Contains _ (IsOwn w facts c m owner) a b (λ e h. record { reached_entry = h; not_inherited = none }) (λ e h. h.reached_entry) f

    pub puts_target : (d : MethodDef) (a b : List MethodEntry) → Resolves w c m (target d owner) → Puts (IsOwn w facts c m owner) a b → Puts (IsOwnEntry w facts c m) a b
    puts_target d a b res f = adds_as Contains (IsOwn w facts c m owner) (IsOwnEntry w facts c m) a b (λ e own. record { owner = owner; is_target = record { body = d; resolves = res }; own = own }) (λ e h. subst (λ (o : Name). IsOwn w facts c m o e) (one_owner w c m h.owner owner h.is_target (record { body = d; resolves = res })) h.own) f

  pub puts_no_target : (c : Name) (m : MethodName) (a : List MethodEntry) → ((owner : Name) → IsTarget w c m owner → ⊥) → Puts (IsOwnEntry w facts c m) a a
  puts_no_target c m a none = adds_none Contains (IsOwnEntry w facts c m) a (λ e h. none h.owner h.is_target)

  pub puts_of_class : (called : Lists MethodName) (c : Name) (names listed : List MethodName) (a b : List MethodEntry) → AreCalled facts called → ((m : MethodName) → Contains names m ↔ IsWantedFrom w called c m) → listed ≡ names → Puts (OfOne listed (IsOwnEntry w facts c)) a b → Puts (IsDirectOf w facts c) a b
  puts_of_class called c names listed a b are exact same f = adds_as Contains _ (IsDirectOf w facts c) a b (λ e q. record { name = q.thing; wanted = wanted_here w facts called are c q.thing ((exact q.thing).0 (subst (λ (l : List MethodName). Contains l q.thing) same q.among)); own_entry = q.holds }) (λ e q. record { thing = q.name; among = subst (λ (l : List MethodName). Contains l q.name) (sym same) ((exact q.name).1 (wanted_there w facts called are c q.name q.wanted)); holds = q.own_entry }) f

  pub puts_direct : (made live listed : List Name) (a b : List MethodEntry) → AreMade facts made → ((c : Name) → Contains live c ↔ OfOne made (IsOnChain w) c) → listed ≡ live → Puts (OfOne listed (IsDirectOf w facts)) a b → Puts (IsDirectEntry w facts) a b
  puts_direct made live listed a b are exact same f = adds_as Contains _ (IsDirectEntry w facts) a b into from (subst (λ (l : List Name). Puts (OfOne l (IsDirectOf w facts)) a b) same f)
    where
      into : (e : MethodEntry) → OfOne live (IsDirectOf w facts) e → IsDirectEntry w facts e
      into e q =
          let on_one = (exact q.thing).0 q.among in
          let own = q.holds.own_entry.own in
          record {
            class = q.thing;
            owner = q.holds.own_entry.owner;
            name = q.holds.name;
            is_direct = record { live = record { made = on_one.thing; is_made = (are.exact on_one.thing).0 on_one.among; on_chain = on_one.holds }; wanted = q.holds.wanted; is_target = q.holds.own_entry.is_target; reached = own.reached_entry.reached; not_inherited = own.not_inherited };
            entry_is = own.reached_entry.entry_is;
          }

      from : (e : MethodEntry) → IsDirectEntry w facts e → OfOne live (IsDirectOf w facts) e
      from e q =
          let d = q.is_direct in
          record {
            thing = q.class;
            among = (exact q.class).1 (record { thing = d.live.made; among = (are.exact d.live.made).1 d.live.is_made; holds = d.live.on_chain });
            holds = record { name = q.name; wanted = d.wanted; own_entry = record { owner = q.owner; is_target = d.is_target; own = record { reached_entry = record { entry_is = q.entry_is; reached = d.reached }; not_inherited = d.not_inherited } } };
          }

  pub puts_proxies : (made : List Name) (names listed : List MethodName) (a b : List MethodEntry) → AreMade facts made → AreReflective w facts names → listed ≡ names → Puts (OfOne made (λ c. OfOne listed (IsProxyOf w c))) a b → Puts (IsProxyEntry w facts) a b
  puts_proxies made names listed a b are exact same f = adds_as Contains _ (IsProxyEntry w facts) a b into from (subst (λ (l : List MethodName). Puts (OfOne made (λ c. OfOne l (IsProxyOf w c))) a b) same f)
    where
      into : (e : MethodEntry) → OfOne made (λ c. OfOne names (IsProxyOf w c)) e → IsProxyEntry w facts e
      into e q = record { class = q.thing; reflective_name = q.holds.thing; name = q.holds.holds.name; is_proxy = record { is_made = (are.exact q.thing).0 q.among; reflective = (exact.exact q.holds.thing).0 q.holds.among; is_target = q.holds.holds.is_target }; entry_is = q.holds.holds.entry_is }

      from : (e : MethodEntry) → IsProxyEntry w facts e → OfOne made (λ c. OfOne names (IsProxyOf w c)) e
      from e q = record { thing = q.class; among = (are.exact q.class).1 q.is_proxy.is_made; holds = record { thing = q.reflective_name; among = (exact.exact q.reflective_name).1 q.is_proxy.reflective; holds = record { name = q.name; is_target = q.is_proxy.is_target; entry_is = q.entry_is } } }

  -- both
  pub puts_both : (a b c : List MethodEntry) → Puts (IsDirectEntry w facts) a b → Puts (IsProxyEntry w facts) b c → Puts (IsMethodEntry w facts) a c
  puts_both a b c f g = adds_as Contains _ (IsMethodEntry w facts) a c into from (adds_then Contains (IsDirectEntry w facts) (IsProxyEntry w facts) a b c f g)
    where
      into : (e : MethodEntry) → IsDirectEntry w facts e ⊎ IsProxyEntry w facts e → IsMethodEntry w facts e
      into e (inl q) = subst (IsMethodEntry w facts) q.entry_is (direct q.class q.owner q.name q.is_direct)
      into e (inr q) = subst (IsMethodEntry w facts) q.entry_is (proxy q.class q.reflective_name q.name q.is_proxy)

      from : (e : MethodEntry) → IsMethodEntry w facts e → IsDirectEntry w facts e ⊎ IsProxyEntry w facts e
      from _ (direct d owner m q) = inl (record { class = d; owner = owner; name = m; is_direct = q; entry_is = refl })
      from _ (proxy d p t q) = inr (record { class = d; reflective_name = p; name = t; is_proxy = q; entry_is = refl })

  pub puts_entries : (listed : List Fact) (a b c : List MethodEntry) → listed ≡ facts → Puts (IsDirectEntry w facts) a b → Puts (IsProxyEntry w listed) b c → Puts (IsMethodEntry w facts) a c
  puts_entries listed a b c same f g = puts_both a b c f (subst (λ (l : List Fact). Puts (IsProxyEntry w l) b c) same g)

  pub are_entries : (none keys list : List MethodEntry) → none ≡ [] → Puts (IsMethodEntry w facts) none keys → AreOnceInOrder keys list → AreEntries w facts list
  are_entries none keys list empty f o = record { exact = λ e. let both = all_put (IsMethodEntry w facts) none keys empty f e in (λ h. both.0 ((o.same e).0 h), λ q. (o.same e).1 (both.1 q)); once = o.once; in_order = o.in_order }
