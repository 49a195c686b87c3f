-- Each body that is reachable where everything resolves is defined and has a body.
use Rattle.std.proofs.Common.{◌≡◌, ℕ, zero, suc, ◌<◌, Bool, true, false, List, [], ◌∷◌, ◌++◌, map, length, Option, Some, None, Contains, slice_get, refl, sym, ap, ◌∙◌, subst, inl, inr, arith}
use Rattle.std.specs.Prelude.{◌⊎◌, option_map, is_some}
use Rattle.std.proofs.lemmas.Option.{slice_get-map}
use Rattle.std.proofs.lemmas.List.Elements.{Contains-append_left, Contains-push}
use Rattle.sj_names.specs.declared.entry_points.EntryPoint.{EntryPoint}
use Rattle.sj_names.specs.declared.method_names.Member.{Member}
use Rattle.sj_names.specs.declared.method_names.MethodName.{MethodName}
use Rattle.sj_names.specs.contracts.method_names.MemberPartialEq.TheImpl as member_eq
use Rattle.sj_names.proofs.Equal.{member_decides}
use Rattle.sj_trees.specs.Term.{Term}
use Rattle.sj_trees.specs.declared.classes.ClassDef.{ClassDef}
use Rattle.sj_trees.specs.declared.classes.MethodDef.{MethodDef}
use Rattle.sj_local.specs.declared.rules.Rule.{Rule as LocalRule}
use Rattle.sj_local.specs.declared.rules.Rule.TheVariants as local
use Rattle.sj_local.specs.declared.rules.Where.{Where}
use Rattle.sj_local.specs.Firsts.{FirstRepeat, nothing_left, here, later, FirstAnswer, none_left, this_one, a_later_one}
use Rattle.sj_local.specs.declared.members.MethodKey.{MethodKey}
use Rattle.sj_local.specs.MemberRules.{method_key}
use Rattle.sj_local.specs.Broken.{Breaks, MemberRepeats, repeat_place, all_rules, FirstBroken}
use Rattle.sj_world.specs.Known.{Name, Classes, class_of}
use Rattle.sj_world.specs.Members.{IsMethod, IsMethodOf}
use Rattle.sj_world.specs.Paths.{IsFirst, HasNone}
use Rattle.sj_world.specs.Resolution.{IsBody, Resolves, by_chain, by_ancestors, by_default, target}
use Rattle.sj_world.proofs.ByName.{class_of-stands}
use Rattle.sj_world.proofs.Searches.{contains_at}
use Rattle.sj_reach.proofs.One.{one_method}
use Rattle.sj_world.specs.declared.facts.Fact.{Fact}
use Rattle.sj_world.specs.declared.facts.Fact.TheVariants as fact
use Rattle.sj_reach.specs.Rules.{IsAsked, of_entry, of_new, of_load, of_call, of_throw, Rule, entry_class, asked_body, new_needed, load_needed, static_class, resolved_body, call_hijacked, dispatched, reflective_hijacked, throw_needed, public_member}
use Rattle.sj_reach.specs.Reachable.{Reachable, Unresolved}
use Rattle.sj_reach.specs.Refusals.{Refusal, missing_class, missing_method, abstract_target, no_class, no_member, no_body}
use Rattle.sj_reach.proofs.Derivations.{derived-all, closed}
use Rattle.sj_reach.proofs.Grows.{rule-grow}
use Rattle.folder_judging_spec.specs.Laws.{NeededBodiesAreThere}
use Rattle.folder_judging_spec.specs.Stages.{IsDefined, KeepRules}

same_some : {X : Type 0} (x y : X) → Some x ≡ Some y → x ≡ y
same_some x y e = cc

-- what a reachable fact follows from is reachable
pub last : (w : Classes) (entries : List EntryPoint) (f : Fact) → Reachable w entries f → Rule w entries (Reachable w entries) f
last w entries f r = rule-grow w entries (Contains r.earlier) (Reachable w entries) (derived-all w entries (Reachable w entries) (closed w entries) r.earlier r.derived.1) f r.derived.0

-- no two methods of a class that keeps the local rules have one namespace and name
keeps_fourth : (c : ClassDef) → FirstBroken c None → MemberRepeats c None
keeps_fourth c h = go 1 all_rules None h refl local.MemberTwice (3, omega arith, refl)
  where
    go : (n : ℕ) (rules : List LocalRule) (r : Option (ℕ × Where)) → FirstAnswer (Breaks c) n rules r → r ≡ None → (x : LocalRule) → Contains rules x → Breaks c x None
    go _ _ _ (none_left n) e x h = let l : h.0 < 0 = h.1 in absurd (omega arith)
    go _ _ _ (this_one n y ys r a) e x h = cc
    go _ _ _ (a_later_one n y ys found a rest) e x (zero, l, at) = subst (λ (z : LocalRule). Breaks c z None) at a
    go _ _ _ (a_later_one n y ys found a rest) e x (suc i, l, at) = go (suc n) ys found rest e x (i, (let q : suc i < suc (length ys) = l in omega arith), at)

no_repeat : (c : ClassDef) (field method : Option ℕ) → None ≡ repeat_place c field method → method ≡ None
no_repeat c (Some n) method e = cc
no_repeat c None (Some n) e = cc
no_repeat c None None e = refl

none_inside : (o : Option ℕ) → option_map suc o ≡ None → o ≡ None
none_inside None e = refl
none_inside (Some n) e = cc

-- what stands in a list without a repeat isn't among those before it
fresh : (earlier keys : List MethodKey) (r : Option ℕ) → FirstRepeat earlier keys r → r ≡ None → (i : ℕ) (k : MethodKey) → slice_get keys i ≡ Some k → Contains earlier k → ⊥
fresh _ _ _ (nothing_left earlier) e i k at there = cc
fresh _ _ _ (here earlier key keys repeats) e i k at there = cc
fresh _ _ _ (later earlier key keys index new rest) e zero k at there = new (subst (Contains earlier) (sym (same_some key k at)) there)
fresh _ _ _ (later earlier key keys index new rest) e (suc i) k at there = fresh (earlier ++ key ∷ []) keys index rest (none_inside index e) i k at (Contains-append_left earlier (key ∷ []) k there)

once : (earlier keys : List MethodKey) (r : Option ℕ) → FirstRepeat earlier keys r → r ≡ None → (i j : ℕ) (k : MethodKey) → i < j → slice_get keys i ≡ Some k → slice_get keys j ≡ Some k → ⊥
once _ _ _ (nothing_left earlier) e i j k lt at too = cc
once _ _ _ (here earlier key keys repeats) e i j k lt at too = cc
once _ _ _ (later earlier key keys index new rest) e i zero k lt at too = absurd (omega arith)
once _ _ _ (later earlier key keys index new rest) e zero (suc j) k lt at too = fresh (earlier ++ key ∷ []) keys index rest (none_inside index e) j k too (subst (Contains (earlier ++ key ∷ [])) (same_some key k at) (Contains-push earlier key))
once _ _ _ (later earlier key keys index new rest) e (suc i) (suc j) k lt at too = once (earlier ++ key ∷ []) keys index rest (none_inside index e) i j k (omega arith) at too

-- the keys of two methods of one member are one
same_key : (k : Member) (d e : MethodDef) → IsMethod k d → IsMethod k e → method_key d ≡ method_key e
same_key k d e p q = λ i. record { namespace = (p.namespace_is ∙ sym q.namespace_is) i; name = (p.name_is ∙ sym q.name_is) i }

method_once : (c : ClassDef) → FirstBroken c None → (k : Member) (i j : ℕ) (d e : MethodDef) → i < j → slice_get c.methods i ≡ Some d → slice_get c.methods j ≡ Some e → IsMethod k d → IsMethod k e → ⊥
method_once c keeps k i j d e lt at too p q =
    let m = keeps_fourth c keeps in
    once [] (map method_key c.methods) m.method m.first_method (no_repeat c m.field m.method m.is_place) i j (method_key d) lt (slice_get-map method_key c.methods i ∙ ap (option_map method_key) at) (slice_get-map method_key c.methods j ∙ ap (option_map method_key) too ∙ ap Some (same_key k e d q p))

-- the first of a list that is decided at each place
pub data Found {X : Type 0} (Has : X → Type 0) (xs : List X) : Type 0 where
  found : (x : X) → IsFirst Has xs x → Found Has xs
  nowhere : HasNone Has xs → Found Has xs

module _ {X : Type 0} (Has : X → Type 0) (decided : (x : X) → Has x ⊎ (Has x → ⊥)) where
  at_front : (x : X) (xs : List X) → Has x → Found Has (x ∷ xs)
  at_front x xs h = found x (record { place = 0; stands = refl; has = h; none_before = λ i y lt at k. absurd (omega arith) })

  not_at : (x : X) (xs : List X) → (Has x → ⊥) → (i : ℕ) (y : X) → slice_get (x ∷ xs) i ≡ Some y → Has y → ((j : ℕ) → i ≡ suc j → slice_get xs j ≡ Some y → ⊥) → ⊥
  not_at x xs lacks zero y at h rest = lacks (subst Has (sym (same_some x y at)) h)
  not_at x xs lacks (suc i) y at h rest = rest i refl at

  further : (x : X) (xs : List X) → (Has x → ⊥) → Found Has xs → Found Has (x ∷ xs)
  further x xs lacks (found y f) = found y (record { place = suc f.place; stands = f.stands; has = f.has; none_before = λ i z lt at h. not_at x xs lacks i z at h (λ j e there. f.none_before j z (omega (arith, e)) there h) })
  further x xs lacks (nowhere n) = nowhere (record { none = λ i z at h. not_at x xs lacks i z at h (λ j e there. n.none j z there h) })

  pub find : (xs : List X) → Found Has xs
  find [] = nowhere (record { none = λ i y at h. (let wrong : None ≡ Some y = at in cc) })
  find (x ∷ xs) = elim (decided x) [ inl h ↦ at_front x xs h | inr lacks ↦ further x xs lacks (find xs) ]

is_method : (k : Member) (d : MethodDef) → IsMethod k d ⊎ (IsMethod k d → ⊥)
is_method k d = go (member_eq.ghosts.eq other k) refl
  where
    other : Member
    other = record { class = k.class; namespace = d.namespace; method = d.name }

    go : (b : Bool) → member_eq.ghosts.eq other k ≡ b → IsMethod k d ⊎ (IsMethod k d → ⊥)
    go true e = let s : other ≡ k = (member_decides other k).0 e in inl (record { namespace_is = ap (λ (m : Member). m.namespace) s; name_is = ap (λ (m : Member). m.method) s })
    go false e = inr (λ h. let s : other ≡ k = (λ i. record { class = k.class; namespace = h.namespace_is i; method = h.name_is i }) in let t : member_eq.ghosts.eq other k ≡ true = (member_decides other k).1 s in cc)

-- a class that is found stands in the world
pub found_in : (w : Classes) (name : Name) (c : ClassDef) → class_of w name ≡ Some c → Contains w c
found_in w name c e = let s = class_of-stands w name c e in contains_at w s.place c s.at

module _ (w : Classes) (entries : List EntryPoint) (keep : KeepRules w) (resolved : (r : Refusal) → Unresolved w entries r → ⊥) where
  -- what a call resolves to stands in its class as the definition of its member
  at_body : (owner : Name) (m : MethodName) (c : ClassDef) (d : MethodDef) → class_of w owner ≡ Some c → IsFirst (IsBody m) c.methods d → IsDefined w (public_member owner m)
  at_body owner m c d is first = record {
    definition = d;
    defined = record { class = c; is_class = is; first = record { place = first.place; stands = first.stands; has = of_member; none_before = λ i e lt at h. method_once c (keep c (found_in w owner c is)) (public_member owner m) i first.place e d lt at first.stands h of_member } };
    has_body = first.has.has_body;
  }
    where
      of_member : IsMethod (public_member owner m) d
      of_member = record { namespace_is = first.has.is_public.namespace_is; name_is = first.has.is_public.name_is }

  at_target : (c owner : Name) (m : MethodName) (d : MethodDef) → Resolves w c m (target d owner) → IsDefined w (public_member owner m)
  at_target c _ m _ (by_chain d owner n) = at_body owner m n.body.class d n.body.is_class n.body.first
  at_target c _ m _ (by_ancestors _ none (by_default d owner l)) = let f = l.candidate.default in at_body owner m f.class d f.is_class f.first

  -- a member that is asked for, of a class that is needed
  at_asked : (k : Member) → IsAsked w entries (Reachable w entries) k → Reachable w entries (fact.Needed k.class) → IsDefined w k
  at_asked k asked needed = go (class_of w k.class) refl
    where
      in_class : (c : ClassDef) → class_of w k.class ≡ Some c → Found (IsMethod k) c.methods → IsDefined w k
      in_class c is (nowhere n) = absurd (resolved (missing_method k) (no_member k asked (record { class = c; is_class = is; none = n })))
      in_class c is (found d f) = with_body (is_some d.body) refl
        where
          its : IsMethodOf w k d
          its = record { class = c; is_class = is; first = f }

          none_there : (b : Option Term) → is_some b ≡ false → b ≡ None
          none_there None e = refl
          none_there (Some t) e = cc

          with_body : (b : Bool) → is_some d.body ≡ b → IsDefined w k
          with_body true e = record { definition = d; defined = its; has_body = e }
          with_body false e = absurd (resolved (abstract_target k) (no_body k asked (record { definition = d; defined = its; has_none = none_there d.body e })))

      go : (o : Option ClassDef) → class_of w k.class ≡ o → IsDefined w k
      go None e = absurd (resolved (missing_class k.class) (no_class k.class needed e))
      go (Some c) e = in_class c e (find (IsMethod k) (is_method k) c.methods)

  needed_for : (k : Member) → IsAsked w entries (Reachable w entries) k → Reachable w entries (fact.Needed k.class)
  needed_for _ (of_entry e h) = closed w entries _ (entry_class e h)
  needed_for _ (of_new c m h) = closed w entries _ (new_needed c m h)
  needed_for _ (of_load c h) = closed w entries _ (load_needed c h)
  needed_for _ (of_call k h) = closed w entries _ (static_class k h)
  needed_for _ (of_throw c h) = closed w entries _ (throw_needed c h)

  by_rule : (f : Fact) → Rule w entries (Reachable w entries) f → (k : Member) → f ≡ fact.Body k → IsDefined w k
  by_rule _ (asked_body j h) k e = let s : j ≡ k = cc in subst (IsDefined w) s (at_asked j h (needed_for j h))
  by_rule _ (resolved_body c m d owner h r) k e = let s : public_member owner m ≡ k = cc in subst (IsDefined w) s (at_target c owner m d r)
  by_rule _ (call_hijacked c m d owner h i r) k e = let s : public_member owner m ≡ k = cc in subst (IsDefined w) s (at_target c owner m d r)
  by_rule _ (dispatched c m d owner h r) k e = let s : public_member owner m ≡ k = cc in subst (IsDefined w) s (at_target c owner m d r)
  by_rule _ (reflective_hijacked c p d x owner there h i t r) k e = let s : public_member there d.name ≡ k = cc in subst (IsDefined w) s (at_target c there d.name x r)
  by_rule _ _ k e = cc

  pub reached_is_defined : (k : Member) → Reachable w entries (fact.Body k) → IsDefined w k
  reached_is_defined k r = by_rule (fact.Body k) (last w entries (fact.Body k) r) k refl

  -- so none that is defined is without a body
  pub has_body : (k : Member) → Reachable w entries (fact.Body k) → (e : MethodDef) → IsMethodOf w k e → e.body ≡ None → ⊥
  has_body k r e defined none =
      let d = reached_is_defined k r in
      let same : d.definition ≡ e = one_method w k d.definition e d.defined defined in
      let wrong : false ≡ true = sym (ap is_some (ap (λ (x : MethodDef). x.body) same ∙ none)) ∙ d.has_body in
      cc

pub needed_bodies : NeededBodiesAreThere
needed_bodies w entries keep resolved k r = reached_is_defined w entries keep resolved k r
