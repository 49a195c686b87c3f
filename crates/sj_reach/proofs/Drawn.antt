-- What the rules conclude, sorted by what it is concluded of.
use Rattle.std.proofs.Common.{◌≡◌, Bool, true, false, List, [], Option, Some, None, Contains, refl, sym, ap, subst, inl, inr}
use Rattle.std.specs.Prelude.{◌⊎◌}
use Rattle.std.proofs.lemmas.List.Elements.{Contains-append_cases, Contains-append_left, Contains-append_right, Contains-push}
use Rattle.worklist.proofs.Inserted.{nothing_in, only_one}
use Rattle.sj_names.specs.declared.entry_points.EntryPoint.{EntryPoint}
use Rattle.sj_names.specs.declared.method_names.Member.{Member}
use Rattle.sj_names.specs.declared.method_names.MethodName.{MethodName}
use Rattle.sj_names.specs.WellKnown.{hijacked}
use Rattle.sj_trees.specs.declared.classes.ClassDef.{ClassDef}
use Rattle.sj_trees.specs.declared.classes.ClassKind.{ClassKind}
use Rattle.sj_trees.specs.declared.classes.ClassKind.TheVariants.{Class, ModuleClass, Interface}
use Rattle.sj_infos.specs.declared.infos.Info.{Info}
use Rattle.sj_infos.specs.declared.infos.Info.TheVariants as info
use Rattle.sj_world.specs.Ancestors.{IsAncestor, listed, written, written_in}
use Rattle.sj_world.specs.Known.{Name, Classes, class_of, is_hijacked}
use Rattle.sj_world.specs.Resolution.{Answer, Resolves, target, abstract, missing}
use Rattle.sj_world.specs.declared.facts.Fact.{Fact}
use Rattle.sj_world.specs.declared.facts.Fact.TheVariants as fact
use Rattle.sj_world.proofs.OnCycles.{among}
use Rattle.sj_reach_spec.specs.Rules.{public_member, Reads, IsAsked, of_entry, of_new, of_load, of_call, of_throw, IsCalledOn, on_made, on_hijacked, Rule, the_object, entry_class, above, above_hijacked, asked_body, new_needed, new_made, load_needed, load_made, load_used, field_class, field_needed, static_class, resolved_class, resolved_body, call_class, call_hijacked, call, dispatched, reflective, reflective_hijacked, array_made, class_named, throw_needed, throw_made}
use Rattle.sj_reach_spec.specs.Refusals.{Refusal, HasNeededParents, needed, hijacked as by_hijacked, missing_class, wrong_kind, abstract_target, IsOtherKind, Asks, no_class, no_member, no_body, no_field, no_class_above, no_interface_above, no_class_made, no_module, no_exception, no_target, no_target_body, no_method, no_hijacked_body, no_dispatched_body, no_dispatched_method, no_reflective_body}
use Rattle.sj_reach.specs.Conclusions.{Conclusion, follows, told, tells, report, Just, Among}
use Rattle.proxy_targets.specs.Proxies.{IsTargetName}
use Rattle.sj_reach.specs.Steps.{OfClass, OfSuperclass, OfParents, OfNeededIn, OfNeeded, OfHijackedIn, OfAsked, at_resolved, at_receiver, OfReceiver, at_dispatch, OfDispatch, OfProxy, at_hijacked, OfMaking, OfInfo, OfEntry, OfStart}
use Rattle.sj_reach.specs.declared.findings.Report.{Report}

pub is_listed : (c : Name) → is_hijacked c ≡ true → Contains hijacked c
is_listed c h = (among hijacked c).0 h

pub is_one_of_them : (c : Name) → Contains hijacked c → is_hijacked c ≡ true
is_one_of_them c h = (among hijacked c).1 h

module _ (w : Classes) (entries : List EntryPoint) (H : Fact → Type 0) where
  -- it is concluded at the start, of one fact, or of two
  pub data Draws (x : Conclusion) : Type 0 where
    of_start : OfStart w entries x → Draws x
    of_needed : (c : Name) → H (fact.Needed c) → OfNeeded w c x → Draws x
    of_info : (i : Info) → Reads w entries H i → OfInfo w i x → Draws x
    of_made : (c d : Name) (m : MethodName) → H (fact.Called d m) → H (fact.Made c) → IsAncestor w c d → OfDispatch w m c x → Draws x
    of_hijacked : (c d : Name) (m : MethodName) → H (fact.Called d m) → Contains hijacked c → IsAncestor w c d → OfDispatch w m c x → Draws x
    of_proxy : (c : Name) (p : MethodName) → Reads w entries H (info.Reflective p) → H (fact.Made c) → OfProxy w p c x → Draws x

  -- a rule concludes it
  pub record Told (r : Report) : Type 0 where
    pub refusal : Refusal
    pub asked : Asks w entries H refusal
    pub told_is : report refusal ≡ r

  abbrev pub Concluded : Conclusion → Type 0
  Concluded (follows f) = Rule w entries H f
  Concluded (told r) = Told r

-- what a class writes above it is concluded of it
written_parts : (w : Classes) (class : ClassDef) (d : Name) (o : Option Name) → class.superclass ≡ o → Contains (listed o) d ⊎ Contains class.interfaces d → OfParents w class (follows (fact.Needed d))
written_parts w class d None e (inl h) = nothing_in d h
written_parts w class d (Some s) e (inl h) = inl (subst (λ (o : Option Name). OfSuperclass w o (follows (fact.Needed d))) (sym e) (inl (ap (λ (n : Name). follows (fact.Needed n)) (only_one s d h))))
written_parts w class d o e (inr h) = inr (record { thing = d; among = h; concluded = inl refl })

written_parents : (w : Classes) (class : ClassDef) (d : Name) → Contains (written class) d → OfParents w class (follows (fact.Needed d))
written_parents w class d h = written_parts w class d class.superclass refl (Contains-append_cases (listed class.superclass) class.interfaces d h)

written_needed : (w : Classes) (o : Option ClassDef) (c d : Name) → Contains (written_in o) d → OfNeededIn w o c (follows (fact.Needed d))
written_needed w None c d h = nothing_in d h
written_needed w (Some class) c d h = written_parents w class d h

written_of_hijacked : (w : Classes) (o : Option ClassDef) (d : Name) → Contains (written_in o) d → OfHijackedIn w o (follows (fact.Needed d))
written_of_hijacked w None d h = nothing_in d h
written_of_hijacked w (Some class) d h = written_parents w class d h

receiver_missing : (w : Classes) (c : Name) (m : MethodName) (x : Conclusion) (b : Bool) → Resolves w c m missing → at_resolved w c m missing x → OfReceiver w b c m x
receiver_missing w c m x true res q = record { answer = missing; resolves = res; concluded = q }
receiver_missing w c m x false res q = inl (record { answer = missing; resolves = res; concluded = q })

module _ (w : Classes) (entries : List EntryPoint) (H : Fact → Type 0) where
  drawn-asked : (k : Member) → IsAsked w entries H k → (x : Conclusion) → OfAsked w k x → Draws w entries H x
  drawn-asked _ (of_entry e h) x q = of_start (inl (inr (record { thing = e; among = h; concluded = inr q })))
  drawn-asked _ (of_new c m r) x q = of_info (info.New c m) r (inr q)
  drawn-asked _ (of_load c r) x q = of_info (info.Load c) r (inr q)
  drawn-asked _ (of_call k r) x q = of_info (info.Static k) r (inr q)
  drawn-asked _ (of_throw c r) x q = of_info (info.Throws c) r (inr q)

  drawn-called : (m : MethodName) (c : Name) → IsCalledOn w entries H m c → (x : Conclusion) → OfDispatch w m c x → Draws w entries H x
  drawn-called m _ (on_made c d h i a) x q = of_made c d m h i a q
  drawn-called m _ (on_hijacked c d h i a) x q = of_hijacked c d m h (is_listed c i) a q

  drawn-parents : (c : Name) (class : ClassDef) → HasNeededParents w entries H c → class_of w c ≡ Some class → (x : Conclusion) → OfParents w class x → Draws w entries H x
  drawn-parents c class (needed h) is x q = of_needed c h (subst (λ (o : Option ClassDef). OfNeededIn w o c x) (sym is) q)
  drawn-parents c class (by_hijacked h) is x q = of_start (inr (record { thing = c; among = is_listed c h; concluded = subst (λ (o : Option ClassDef). OfHijackedIn w o x) (sym is) q }))

  drawn-rule : (f : Fact) → Rule w entries H f → Draws w entries H (follows f)
  drawn-rule _ the_object = of_start (inl (inl refl))
  drawn-rule _ (entry_class e h) = of_start (inl (inr (record { thing = e; among = h; concluded = inl refl })))
  drawn-rule _ (above c d h wr) = of_needed c h (written_needed w (class_of w c) c d wr)
  drawn-rule _ (above_hijacked c d h wr) = of_start (inr (record { thing = c; among = is_listed c h; concluded = written_of_hijacked w (class_of w c) d wr }))
  drawn-rule _ (asked_body k h) = drawn-asked k h _ (inr refl)
  drawn-rule _ (new_needed c m r) = of_info (info.New c m) r (inl (inl (inl refl)))
  drawn-rule _ (new_made c m r) = of_info (info.New c m) r (inl (inr refl))
  drawn-rule _ (load_needed c r) = of_info (info.Load c) r (inl (inl (inl (inl refl))))
  drawn-rule _ (load_made c r) = of_info (info.Load c) r (inl (inl (inr refl)))
  drawn-rule _ (load_used c r) = of_info (info.Load c) r (inl (inr refl))
  drawn-rule _ (field_class c f s r) = of_info (info.Field c f s) r (inl (inl refl))
  drawn-rule _ (field_needed c f s r) = of_info (info.Field c f s) r (inl (inr refl))
  drawn-rule _ (static_class k r) = of_info (info.Static k) r (inl refl)
  drawn-rule _ (resolved_class c m r) = of_info (info.Resolved c m) r (inl refl)
  drawn-rule _ (resolved_body c m d owner r res) = of_info (info.Resolved c m) r (inr (record { answer = target d owner; resolves = res; concluded = refl }))
  drawn-rule _ (call_class c m r) = of_info (info.Called c m) r (inl refl)
  drawn-rule _ (call_hijacked c m d owner r h res) = of_info (info.Called c m) r (inr (subst (λ (b : Bool). OfReceiver w b c m (follows (fact.Body (public_member owner m)))) (sym h) (record { answer = target d owner; resolves = res; concluded = refl })))
  drawn-rule _ (call c m r h) = of_info (info.Called c m) r (inr (subst (λ (b : Bool). OfReceiver w b c m (follows (fact.Called c m))) (sym h) (inr refl)))
  drawn-rule _ (dispatched c m d owner on res) = drawn-called m c on _ (record { answer = target d owner; resolves = res; concluded = refl })
  drawn-rule _ (reflective c p d owner r h t) = of_proxy c p r h (record { name = d.name; is_target = record { definition = d; owner = owner; is_target = t; name_is = refl }; concluded = refl })
  drawn-rule _ (reflective_hijacked c p d e owner there r h t res) = of_info (info.Reflective p) r (record { thing = c; among = is_listed c h; concluded = record { name = d.name; is_target = record { definition = d; owner = owner; is_target = t; name_is = refl }; concluded = record { answer = target e there; resolves = res; concluded = refl } } })
  drawn-rule _ (array_made r) = of_info info.ArrayForm r refl
  drawn-rule _ (class_named c r) = of_info (info.Class c) r refl
  drawn-rule _ (throw_needed c r) = of_info (info.Throws c) r (inl (inl (inl refl)))
  drawn-rule _ (throw_made c r) = of_info (info.Throws c) r (inl (inr refl))

  pub drawn-asks : (r : Refusal) → Asks w entries H r → Draws w entries H (tells r)
  drawn-asks _ (no_class c h n) = of_needed c h (subst (λ (o : Option ClassDef). OfNeededIn w o c (tells (missing_class c))) (sym n) refl)
  drawn-asks _ (no_member k a u) = drawn-asked k a _ (inl (inl (u, refl)))
  drawn-asks _ (no_body k a u) = drawn-asked k a _ (inl (inr (u, refl)))
  drawn-asks _ (no_field c f s r l) = of_info (info.Field c f s) r (inr (l, refl))
  drawn-asks _ (no_class_above c d class up is e o) = drawn-parents c class up is _ (inl (subst (λ (n : Option Name). OfSuperclass w n (tells (wrong_kind d))) (sym e) (inr (o, refl))))
  drawn-asks _ (no_interface_above c d class up is h o) = drawn-parents c class up is _ (inr (record { thing = d; among = h; concluded = inr (o, refl) }))
  drawn-asks _ (no_class_made c m r o) = of_info (info.New c m) r (inl (inl (inr (o, refl))))
  drawn-asks _ (no_module c r o) = of_info (info.Load c) r (inl (inl (inl (inr (o, refl)))))
  drawn-asks _ (no_exception c r o) = of_info (info.Throws c) r (inl (inl (inr (o, refl))))
  drawn-asks _ (no_target c m r p res) = of_info (info.Resolved c m) r (inr (record { answer = missing; resolves = res; concluded = (p, refl) }))
  drawn-asks _ (no_target_body c m r p res) = of_info (info.Resolved c m) r (inr (record { answer = abstract; resolves = res; concluded = (p, refl) }))
  drawn-asks _ (no_method c m r p res) = of_info (info.Called c m) r (inr (receiver_missing w c m _ (is_hijacked c) res (p, refl)))
  drawn-asks _ (no_hijacked_body c m r p h res) = of_info (info.Called c m) r (inr (subst (λ (b : Bool). OfReceiver w b c m (tells (abstract_target (public_member c m)))) (sym h) (record { answer = abstract; resolves = res; concluded = (p, refl) })))
  drawn-asks _ (no_dispatched_body c m on res) = drawn-called m c on _ (record { answer = abstract; resolves = res; concluded = refl })
  drawn-asks _ (no_dispatched_method c m on res) = drawn-called m c on _ (record { answer = missing; resolves = res; concluded = refl })
  drawn-asks _ (no_reflective_body c p d owner r h t res) = of_info (info.Reflective p) r (record { thing = c; among = is_listed c h; concluded = record { name = d.name; is_target = record { definition = d; owner = owner; is_target = t; name_is = refl }; concluded = record { answer = abstract; resolves = res; concluded = refl } } })

  pub drawn : (x : Conclusion) → Concluded w entries H x → Draws w entries H x
  drawn (follows f) q = drawn-rule f q
  drawn (told r) q = subst (λ (s : Report). Draws w entries H (told s)) q.told_is (drawn-asks q.refusal q.asked)

  -- back to the rules
  fact_here : (f : Fact) (x : Conclusion) → Rule w entries H f → Just (follows f) x → Concluded w entries H x
  fact_here f x r e = subst (Concluded w entries H) e r

  told_here : (r : Refusal) (x : Conclusion) → Asks w entries H r → Just (tells r) x → Concluded w entries H x
  told_here r x a e = subst (Concluded w entries H) e (record { refusal = r; asked = a; told_is = refl })

  back-class : (kind : ClassKind) (c : Name) (x : Conclusion) → Rule w entries H (fact.Needed c) → (IsOtherKind w kind c → Asks w entries H (wrong_kind c)) → OfClass w kind c x → Concluded w entries H x
  back-class kind c x need other (inl e) = fact_here _ x need e
  back-class kind c x need other (inr q) = told_here _ x (other q.0) q.1

  back-parts : (class : ClassDef) (x : Conclusion) → ((d : Name) → Contains (written class) d → Rule w entries H (fact.Needed d)) → ((d : Name) → class.superclass ≡ Some d → IsOtherKind w Class d → Asks w entries H (wrong_kind d)) → ((d : Name) → Contains class.interfaces d → IsOtherKind w Interface d → Asks w entries H (wrong_kind d)) → (o : Option Name) → class.superclass ≡ o → OfSuperclass w o x ⊎ Among class.interfaces (OfClass w Interface) x → Concluded w entries H x
  back-parts class x rule sup int None e (inl q) = absurd q
  back-parts class x rule sup int (Some d) e (inl q) = back-class Class d x (rule d (Contains-append_left (listed class.superclass) class.interfaces d (subst (λ (o : Option Name). Contains (listed o) d) (sym e) (Contains-push [] d)))) (sup d e) q
  back-parts class x rule sup int o e (inr q) = back-class Interface q.thing x (rule q.thing (Contains-append_right (listed class.superclass) class.interfaces q.thing q.among)) (int q.thing q.among) q.concluded

  back-needed : (c : Name) (x : Conclusion) → H (fact.Needed c) → (o : Option ClassDef) → class_of w c ≡ o → OfNeededIn w o c x → Concluded w entries H x
  back-needed c x h None e q = told_here _ x (no_class c h e) q
  back-needed c x h (Some class) e q = back-parts class x (λ d wr. above c d h (subst (λ (o : Option ClassDef). Contains (written_in o) d) (sym e) wr)) (λ d s o. no_class_above c d class (needed h) e s o) (λ d i o. no_interface_above c d class (needed h) e i o) class.superclass refl q

  back-hijacked : (c : Name) (x : Conclusion) → is_hijacked c ≡ true → (o : Option ClassDef) → class_of w c ≡ o → OfHijackedIn w o x → Concluded w entries H x
  back-hijacked c x h None e q = absurd q
  back-hijacked c x h (Some class) e q = back-parts class x (λ d wr. above_hijacked c d h (subst (λ (o : Option ClassDef). Contains (written_in o) d) (sym e) wr)) (λ d s o. no_class_above c d class (by_hijacked h) e s o) (λ d i o. no_interface_above c d class (by_hijacked h) e i o) class.superclass refl q

  back-asked : (k : Member) (x : Conclusion) → IsAsked w entries H k → OfAsked w k x → Concluded w entries H x
  back-asked k x a (inl (inl q)) = told_here _ x (no_member k a q.0) q.1
  back-asked k x a (inl (inr q)) = told_here _ x (no_body k a q.0) q.1
  back-asked k x a (inr q) = fact_here _ x (asked_body k a) q

  back-resolved : (c : Name) (m : MethodName) (x : Conclusion) → Reads w entries H (info.Resolved c m) → (r : Answer) → Resolves w c m r → at_resolved w c m r x → Concluded w entries H x
  back-resolved c m x r (target d owner) res q = fact_here _ x (resolved_body c m d owner r res) q
  back-resolved c m x r abstract res q = told_here _ x (no_target_body c m r q.0 res) q.1
  back-resolved c m x r missing res q = told_here _ x (no_target c m r q.0 res) q.1

  back-known : (c : Name) (m : MethodName) (x : Conclusion) → Reads w entries H (info.Called c m) → is_hijacked c ≡ true → (r : Answer) → Resolves w c m r → at_resolved w c m r x → Concluded w entries H x
  back-known c m x r h (target d owner) res q = fact_here _ x (call_hijacked c m d owner r h res) q
  back-known c m x r h abstract res q = told_here _ x (no_hijacked_body c m r q.0 h res) q.1
  back-known c m x r h missing res q = told_here _ x (no_method c m r q.0 res) q.1

  back-unknown : (c : Name) (m : MethodName) (x : Conclusion) → Reads w entries H (info.Called c m) → (r : Answer) → Resolves w c m r → at_receiver w c m r x → Concluded w entries H x
  back-unknown c m x r (target d owner) res q = absurd q
  back-unknown c m x r abstract res q = absurd q
  back-unknown c m x r missing res q = told_here _ x (no_method c m r q.0 res) q.1

  back-receiver : (c : Name) (m : MethodName) (x : Conclusion) → Reads w entries H (info.Called c m) → (b : Bool) → is_hijacked c ≡ b → OfReceiver w b c m x → Concluded w entries H x
  back-receiver c m x r true e q = back-known c m x r e q.answer q.resolves q.concluded
  back-receiver c m x r false e (inl q) = back-unknown c m x r q.answer q.resolves q.concluded
  back-receiver c m x r false e (inr q) = fact_here _ x (call c m r e) q

  back-dispatch : (c : Name) (m : MethodName) (x : Conclusion) → IsCalledOn w entries H m c → (r : Answer) → Resolves w c m r → at_dispatch w c m r x → Concluded w entries H x
  back-dispatch c m x on (target d owner) res q = fact_here _ x (dispatched c m d owner on res) q
  back-dispatch c m x on abstract res q = told_here _ x (no_dispatched_body c m on res) q
  back-dispatch c m x on missing res q = told_here _ x (no_dispatched_method c m on res) q

  back-proxy : (c : Name) (p m : MethodName) (x : Conclusion) → Reads w entries H (info.Reflective p) → H (fact.Made c) → (t : IsTargetName w c p m) → Just (follows (fact.Called c m)) x → Concluded w entries H x
  back-proxy c p m x r h t q = fact_here _ x (subst (λ (n : MethodName). Rule w entries H (fact.Called c n)) t.name_is (reflective c p t.definition t.owner r h t.is_target)) q

  back-hijacked_at : (c : Name) (p : MethodName) (x : Conclusion) → Reads w entries H (info.Reflective p) → is_hijacked c ≡ true → (m : MethodName) (t : IsTargetName w c p m) (r : Answer) → Resolves w c m r → at_hijacked w c m r x → Concluded w entries H x
  back-hijacked_at c p x rd h m t (target e there) res q = fact_here _ x (subst (λ (n : MethodName). Rule w entries H (fact.Body (record { class = there; namespace = _; method = n }))) t.name_is (reflective_hijacked c p t.definition e t.owner there rd h t.is_target (subst (λ (n : MethodName). Resolves w c n (target e there)) (sym t.name_is) res))) q
  back-hijacked_at c p x rd h m t abstract res q = told_here _ x (subst (λ (n : MethodName). Asks w entries H (abstract_target (record { class = c; namespace = _; method = n }))) t.name_is (no_reflective_body c p t.definition t.owner rd h t.is_target (subst (λ (n : MethodName). Resolves w c n abstract) (sym t.name_is) res))) q
  back-hijacked_at c p x rd h m t missing res q = absurd q

  back-making : (kind : ClassKind) (c : Name) (x : Conclusion) → Rule w entries H (fact.Needed c) → Rule w entries H (fact.Made c) → (IsOtherKind w kind c → Asks w entries H (wrong_kind c)) → OfMaking w kind c x → Concluded w entries H x
  back-making kind c x need made other (inl q) = back-class kind c x need other q
  back-making kind c x need made other (inr q) = fact_here _ x made q

  back-info : (i : Info) (x : Conclusion) → Reads w entries H i → OfInfo w i x → Concluded w entries H x
  back-info (info.New c m) x r (inl q) = back-making Class c x (new_needed c m r) (new_made c m r) (λ o. no_class_made c m r o) q
  back-info (info.New c m) x r (inr q) = back-asked _ x (of_new c m r) q
  back-info (info.Load c) x r (inl (inl q)) = back-making ModuleClass c x (load_needed c r) (load_made c r) (λ o. no_module c r o) q
  back-info (info.Load c) x r (inl (inr q)) = fact_here _ x (load_used c r) q
  back-info (info.Load c) x r (inr q) = back-asked _ x (of_load c r) q
  back-info (info.Field c f s) x r (inl (inl q)) = fact_here _ x (field_class c f s r) q
  back-info (info.Field c f s) x r (inl (inr q)) = fact_here _ x (field_needed c f s r) q
  back-info (info.Field c f s) x r (inr q) = told_here _ x (no_field c f s r q.0) q.1
  back-info (info.Static k) x r (inl q) = fact_here _ x (static_class k r) q
  back-info (info.Static k) x r (inr q) = back-asked _ x (of_call k r) q
  back-info (info.Resolved c m) x r (inl q) = fact_here _ x (resolved_class c m r) q
  back-info (info.Resolved c m) x r (inr q) = back-resolved c m x r q.answer q.resolves q.concluded
  back-info (info.Called c m) x r (inl q) = fact_here _ x (call_class c m r) q
  back-info (info.Called c m) x r (inr q) = back-receiver c m x r (is_hijacked c) refl q
  back-info (info.Reflective p) x r q = back-hijacked_at q.thing p x r (is_one_of_them q.thing q.among) q.concluded.name q.concluded.is_target q.concluded.concluded.answer q.concluded.concluded.resolves q.concluded.concluded.concluded
  back-info (info.Class c) x r q = fact_here _ x (class_named c r) q
  back-info info.ArrayForm x r q = fact_here _ x (array_made r) q
  back-info (info.Throws c) x r (inl q) = back-making Class c x (throw_needed c r) (throw_made c r) (λ o. no_exception c r o) q
  back-info (info.Throws c) x r (inr q) = back-asked _ x (of_throw c r) q

  back-entry : (e : EntryPoint) (x : Conclusion) → Contains entries e → OfEntry w e x → Concluded w entries H x
  back-entry e x h (inl q) = fact_here _ x (entry_class e h) q
  back-entry e x h (inr q) = back-asked _ x (of_entry e h) q

  back-start : (x : Conclusion) → OfStart w entries x → Concluded w entries H x
  back-start x (inl (inl q)) = fact_here _ x the_object q
  back-start x (inl (inr q)) = back-entry q.thing x q.among q.concluded
  back-start x (inr q) = back-hijacked q.thing x (is_one_of_them q.thing q.among) (class_of w q.thing) refl q.concluded

  pub concluded : (x : Conclusion) → Draws w entries H x → Concluded w entries H x
  concluded x (of_start q) = back-start x q
  concluded x (of_needed c h q) = back-needed c x h (class_of w c) refl q
  concluded x (of_info i r q) = back-info i x r q
  concluded x (of_made c d m h i a q) = back-dispatch c m x (on_made c d h i a) q.answer q.resolves q.concluded
  concluded x (of_hijacked c d m h i a q) = back-dispatch c m x (on_hijacked c d h (is_one_of_them c i) a) q.answer q.resolves q.concluded
  concluded x (of_proxy c p r h q) = back-proxy c p q.name x r h q.is_target q.concluded
