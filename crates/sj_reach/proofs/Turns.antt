-- What follows with one more fact: it followed before, or it is concluded of that fact.
use Rattle.std.proofs.Common.{◌≡◌, Bool, true, false, List, [], ◌∷◌, ◌++◌, Contains, refl, sym, ◌∙◌, subst, inl, inr}
use Rattle.std.specs.Prelude.{◌⊎◌}
use Rattle.std.specs.List.{list_any}
use Rattle.std.proofs.lemmas.List.Elements.{Contains-push_cases}
use Rattle.sj_names.specs.declared.entry_points.EntryPoint.{EntryPoint}
use Rattle.sj_names.specs.declared.method_names.MethodName.{MethodName}
use Rattle.sj_names.specs.contracts.method_names.MethodNamePartialEq.TheImpl as method_eq
use Rattle.sj_names.specs.WellKnown.{hijacked}
use Rattle.sj_infos.specs.declared.infos.Info.{Info}
use Rattle.sj_infos.specs.declared.infos.Info.TheVariants as info
use Rattle.sj_world.specs.Ancestors.{IsAncestor}
use Rattle.sj_world.specs.Known.{Name, Classes}
use Rattle.sj_world.specs.declared.facts.Fact.{Fact}
use Rattle.sj_world.specs.declared.facts.Fact.TheVariants as fact
use Rattle.sj_reach_spec.specs.Rules.{Reads}
use Rattle.sj_reach_spec.proofs.Grows.{reads-grow}
use Rattle.sj_reach.specs.Conclusions.{Conclusion, Among}
use Rattle.sj_reach.specs.Steps.{OfDispatch, OfProxy, OfInfo, OfSeenInfo, OfFact}
use Rattle.sj_reach.specs.Seen.{IsSeen}
use Rattle.sj_reach.specs.declared.seen.Seen.{Seen}
use Rattle.sj_reach.proofs.Arms.{there, not_there}
use Rattle.sj_reach.proofs.Drawn.{Draws, of_start, of_needed, of_info, of_made, of_hijacked, of_proxy}
use Rattle.sj_reach.proofs.Sight.{grown, latest, reads_old}

pub draws-grow : (w : Classes) (entries : List EntryPoint) (P Q : Fact → Type 0) → ((f : Fact) → P f → Q f) → (x : Conclusion) → Draws w entries P x → Draws w entries Q x
draws-grow w entries P Q sub x (of_start q) = of_start q
draws-grow w entries P Q sub x (of_needed c h q) = of_needed c (sub _ h) q
draws-grow w entries P Q sub x (of_info i r q) = of_info i (reads-grow w entries P Q sub i r) q
draws-grow w entries P Q sub x (of_made c d m h i a q) = of_made c d m (sub _ h) (sub _ i) a q
draws-grow w entries P Q sub x (of_hijacked c d m h i a q) = of_hijacked c d m (sub _ h) i a q
draws-grow w entries P Q sub x (of_proxy c p r h q) = of_proxy c p (reads-grow w entries P Q sub (info.Reflective p) r) (sub _ h) q

decided : (ps : List MethodName) (p : MethodName) → Contains ps p ⊎ (Contains ps p → ⊥)
decided ps p = go (list_any (method_eq.ghosts.eq p) ps) refl
  where
    go : (b : Bool) → list_any (method_eq.ghosts.eq p) ps ≡ b → Contains ps p ⊎ (Contains ps p → ⊥)
    go true e = inl (there ps p e)
    go false e = inr (not_there ps p e)

module _ (w : Classes) (entries : List EntryPoint) (front : List Fact) (f : Fact) (seen : Seen) (right : IsSeen w entries (Contains front) seen) (x : Conclusion) where
  abbrev Before : Type 0
  Before = Draws w entries (Contains front) x

  abbrev Now : Type 0
  Now = Draws w entries (Contains (front ++ f ∷ [])) x

  abbrev Either : Type 0
  Either = Before ⊎ OfFact w seen f x

  -- the body that is new asks for it
  of_new_body : (i : Info) (r : Reads w entries (Contains (front ++ f ∷ [])) i) → f ≡ fact.Body r.member → OfSeenInfo w seen i x → OfFact w seen f x
  of_new_body i r e q = subst (λ (g : Fact). OfFact w seen g x) (sym e) (record { definition = r.definition; defined = r.defined; concluded = record { thing = i; among = r.asked; concluded = q } })

  new_reflective : (p : MethodName) (r : Reads w entries (Contains (front ++ f ∷ [])) (info.Reflective p)) → f ≡ fact.Body r.member → (Reads w entries (Contains front) (info.Reflective p) → Before) → (Among seen.made.items (OfProxy w p) x ⊎ OfInfo w (info.Reflective p) x) → Either
  new_reflective p r e old q = go (decided seen.reflective.keys p)
    where
      go : Contains seen.reflective.keys p ⊎ (Contains seen.reflective.keys p → ⊥) → Either
      go (inl h) = inl (old ((right.reflective p).0 h))
      go (inr n) = inr (of_new_body (info.Reflective p) r e (record { new = n; concluded = q }))

  new_info : (i : Info) (r : Reads w entries (Contains (front ++ f ∷ [])) i) → f ≡ fact.Body r.member → OfInfo w i x → Either
  new_info (info.Reflective p) r e q = new_reflective p r e (λ old. of_info (info.Reflective p) old q) (inr q)
  new_info (info.New c m) r e q = inr (of_new_body (info.New c m) r e q)
  new_info (info.Load c) r e q = inr (of_new_body (info.Load c) r e q)
  new_info (info.Field c n s) r e q = inr (of_new_body (info.Field c n s) r e q)
  new_info (info.Static k) r e q = inr (of_new_body (info.Static k) r e q)
  new_info (info.Resolved c m) r e q = inr (of_new_body (info.Resolved c m) r e q)
  new_info (info.Called c m) r e q = inr (of_new_body (info.Called c m) r e q)
  new_info (info.Class c) r e q = inr (of_new_body (info.Class c) r e q)
  new_info info.ArrayForm r e q = inr (of_new_body info.ArrayForm r e q)
  new_info (info.Throws c) r e q = inr (of_new_body (info.Throws c) r e q)

  reads_before : (i : Info) (r : Reads w entries (Contains (front ++ f ∷ [])) i) → Contains front (fact.Body r.member) → Reads w entries (Contains front) i
  reads_before i r h = record { member = r.member; needed = h; definition = r.definition; defined = r.defined; asked = r.asked }

  split_needed : (c : Name) → Contains front (fact.Needed c) ⊎ (f ≡ fact.Needed c) → OfFact w seen (fact.Needed c) x → Either
  split_needed c (inl h) q = inl (of_needed c h q)
  split_needed c (inr e) q = inr (subst (λ (g : Fact). OfFact w seen g x) (sym e) q)

  split_info : (i : Info) (r : Reads w entries (Contains (front ++ f ∷ [])) i) → Contains front (fact.Body r.member) ⊎ (f ≡ fact.Body r.member) → OfInfo w i x → Either
  split_info i r (inl h) q = inl (of_info i (reads_before i r h) q)
  split_info i r (inr e) q = new_info i r e q

  split_made : (c d : Name) (m : MethodName) → Contains front (fact.Called d m) ⊎ (f ≡ fact.Called d m) → Contains front (fact.Made c) ⊎ (f ≡ fact.Made c) → IsAncestor w c d → OfDispatch w m c x → Either
  split_made c d m (inl h) (inl i) a q = inl (of_made c d m h i a q)
  split_made c d m (inl h) (inr e) a q = inr (subst (λ (g : Fact). OfFact w seen g x) (sym e) (inl (record { above = d; is_ancestor = a; concluded = record { thing = m; among = (right.called d m).1 h; concluded = q } })))
  split_made c d m (inr e) (inl i) a q = inr (subst (λ (g : Fact). OfFact w seen g x) (sym e) (inl (record { thing = c; among = (right.below d c).1 (i, a); concluded = q })))
  split_made c d m (inr e) (inr k) a q = let z : fact.Called d m ≡ fact.Made c = sym e ∙ k in absurd (let t : ⊥ = cc in t)

  split_hijacked : (c d : Name) (m : MethodName) → Contains front (fact.Called d m) ⊎ (f ≡ fact.Called d m) → Contains hijacked c → IsAncestor w c d → OfDispatch w m c x → Either
  split_hijacked c d m (inl h) i a q = inl (of_hijacked c d m h i a q)
  split_hijacked c d m (inr e) i a q = inr (subst (λ (g : Fact). OfFact w seen g x) (sym e) (inr (record { thing = c; among = i; concluded = (a, q) })))

  split_proxy : (c : Name) (p : MethodName) (r : Reads w entries (Contains (front ++ f ∷ [])) (info.Reflective p)) → Contains front (fact.Body r.member) ⊎ (f ≡ fact.Body r.member) → Contains front (fact.Made c) ⊎ (f ≡ fact.Made c) → OfProxy w p c x → Either
  split_proxy c p r (inl h) (inl i) q = inl (of_proxy c p (reads_before (info.Reflective p) r h) i q)
  split_proxy c p r (inl h) (inr e) q = inr (subst (λ (g : Fact). OfFact w seen g x) (sym e) (inr (record { thing = p; among = (right.reflective p).1 (reads_before (info.Reflective p) r h); concluded = q })))
  split_proxy c p r (inr e) (inl i) q = new_reflective p r e (λ old. of_proxy c p old i q) (inl (record { thing = c; among = (right.made c).1 i; concluded = q }))
  split_proxy c p r (inr e) (inr k) q = let z : fact.Body r.member ≡ fact.Made c = sym e ∙ k in absurd (let t : ⊥ = cc in t)

  pub split : Now → Either
  split (of_start q) = inl (of_start q)
  split (of_needed c h q) = split_needed c (Contains-push_cases front f (fact.Needed c) h) q
  split (of_info i r q) = split_info i r (Contains-push_cases front f (fact.Body r.member) r.needed) q
  split (of_made c d m h i a q) = split_made c d m (Contains-push_cases front f (fact.Called d m) h) (Contains-push_cases front f (fact.Made c) i) a q
  split (of_hijacked c d m h i a q) = split_hijacked c d m (Contains-push_cases front f (fact.Called d m) h) i a q
  split (of_proxy c p r h q) = split_proxy c p r (Contains-push_cases front f (fact.Body r.member) r.needed) (Contains-push_cases front f (fact.Made c) h) q

  -- the way back
  from_info : (i : Info) → Reads w entries (Contains (front ++ f ∷ [])) i → OfSeenInfo w seen i x → Now
  from_info (info.Reflective p) r q = go q.concluded
    where
      go : Among seen.made.items (OfProxy w p) x ⊎ OfInfo w (info.Reflective p) x → Now
      go (inl a) = of_proxy a.thing p r (grown w entries front f (fact.Made a.thing) ((right.made a.thing).0 a.among)) a.concluded
      go (inr h) = of_info (info.Reflective p) r h
  from_info (info.New c m) r q = of_info (info.New c m) r q
  from_info (info.Load c) r q = of_info (info.Load c) r q
  from_info (info.Field c n s) r q = of_info (info.Field c n s) r q
  from_info (info.Static k) r q = of_info (info.Static k) r q
  from_info (info.Resolved c m) r q = of_info (info.Resolved c m) r q
  from_info (info.Called c m) r q = of_info (info.Called c m) r q
  from_info (info.Class c) r q = of_info (info.Class c) r q
  from_info info.ArrayForm r q = of_info info.ArrayForm r q
  from_info (info.Throws c) r q = of_info (info.Throws c) r q

  from_fact : (g : Fact) → f ≡ g → OfFact w seen g x → Now
  from_fact (fact.Needed c) e q = of_needed c (latest w entries front f (fact.Needed c) e) q
  from_fact (fact.Made c) e (inl q) = of_made c q.above q.concluded.thing (grown w entries front f (fact.Called q.above q.concluded.thing) ((right.called q.above q.concluded.thing).0 q.concluded.among)) (latest w entries front f (fact.Made c) e) q.is_ancestor q.concluded.concluded
  from_fact (fact.Made c) e (inr q) = of_proxy c q.thing (reads_old w entries front f (info.Reflective q.thing) ((right.reflective q.thing).0 q.among)) (latest w entries front f (fact.Made c) e) q.concluded
  from_fact (fact.CellUsed c) e q = absurd q
  from_fact (fact.NeededField c n s) e q = absurd q
  from_fact (fact.Body k) e q = from_info q.concluded.thing (record { member = k; needed = latest w entries front f (fact.Body k) e; definition = q.definition; defined = q.defined; asked = q.concluded.among }) q.concluded.concluded
  from_fact (fact.Called d m) e (inl q) = let b = (right.below d q.thing).0 q.among in of_made q.thing d m (latest w entries front f (fact.Called d m) e) (grown w entries front f (fact.Made q.thing) b.0) b.1 q.concluded
  from_fact (fact.Called d m) e (inr q) = of_hijacked q.thing d m (latest w entries front f (fact.Called d m) e) q.among q.concluded.0 q.concluded.1

  pub back : OfFact w seen f x → Now
  back q = from_fact f refl q
