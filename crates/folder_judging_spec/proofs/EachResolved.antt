-- No world is without a verdict on its references: all that may be told of it stands in one list.
use Rattle.std.proofs.Common.{◌≡◌, Bool, true, false, List, [], ◌∷◌, ◌++◌, Option, Some, None, map, Contains, refl, sym, subst, inl, inr, lit<}
use Rattle.std.specs.Prelude.{◌⊎◌}
use Rattle.std.specs.List.{flat_map}
use Rattle.std.proofs.lemmas.List.Elements.{Contains-append_left, Contains-append_right}
use Rattle.sj_names.specs.declared.entry_points.EntryPoint.{EntryPoint}
use Rattle.sj_names.specs.declared.method_names.Member.{Member}
use Rattle.sj_names.specs.declared.method_names.MethodName.{MethodName}
use Rattle.sj_trees.specs.declared.classes.ClassDef.{ClassDef}
use Rattle.sj_trees.specs.declared.classes.MethodDef.{MethodDef}
use Rattle.sj_infos.specs.Infos.{asked_by}
use Rattle.sj_infos.specs.declared.infos.Info.{Info}
use Rattle.sj_infos.specs.declared.infos.Info.TheVariants as info
use Rattle.sj_local.specs.Broken.{FirstBroken}
use Rattle.sj_world.specs.Ancestors.{listed, written, written_in, IsWritten}
use Rattle.sj_world.specs.Calls.{IsChosen, IsProxyTarget, narrowest, least}
use Rattle.sj_world.specs.Known.{Name, Classes, class_of, hijacked, is_hijacked, object}
use Rattle.sj_world.specs.declared.facts.Fact.{Fact}
use Rattle.sj_world.specs.declared.facts.Fact.TheVariants as fact
use Rattle.sj_world.proofs.OnCycles.{among}
use Rattle.sj_world.proofs.Searches.{contains_at}
use Rattle.sj_reach.specs.Reachable.{Reachable, Unresolved}
use Rattle.sj_reach.specs.Refusals.{Refusal, missing_class, missing_method, missing_field, wrong_kind, abstract_target, no_class, no_member, no_body, no_field, no_class_above, no_interface_above, no_class_made, no_module, no_exception, no_target, no_target_body, no_method, no_hijacked_body, no_dispatched_body, no_dispatched_method, no_reflective_body}
use Rattle.sj_reach.specs.Rules.{entry_member, plain_constructor, message_constructor, public_member, constructor_member, Reads, IsAsked, of_entry, of_new, of_load, of_call, of_throw, IsCalledOn, on_made, on_hijacked, Rule, the_object, entry_class, above, above_hijacked, new_needed, new_made, load_needed, load_made, field_class, static_class, resolved_class, call_class, call, reflective, array_made, class_named, throw_needed, throw_made}
use Rattle.sj_reach.specs.Answers.{comes_first}
use Rattle.sj_reach.specs.Conclusions.{report}
use Rattle.sj_reach.proofs.Once.{first_itself, first_trans}
use Rattle.worklist.proofs.Inserted.{nothing_in}
use Rattle.folder_judging_spec.specs.Verdicts.{Verdict, ByReferences, unresolved, resolved}
use Rattle.folder_judging_spec.proofs.Defined.{last, found_in}
use Rattle.folder_judging_spec.proofs.EachTyped.{in_all, in_map, types_are_told}
use Rattle.folder_judging_spec.proofs.Undenied.{Undenied, granted, and_so, Least, NoneAmong, Any, least_or_none, here, there}

-- what may be told of a class, and of a member
abbrev about_class : Name → List Refusal
about_class c = missing_class c ∷ wrong_kind c ∷ []

abbrev about_member : Member → List Refusal
about_member k = missing_class k.class ∷ wrong_kind k.class ∷ missing_method k ∷ abstract_target k ∷ []

-- of what a body asks for
abbrev about_info : Info → List Refusal
about_info (info.New c m) = about_member (constructor_member c m)
about_info (info.Load c) = about_member (plain_constructor c)
about_info (info.Field c f s) = missing_class c ∷ missing_field c f ∷ []
about_info (info.Static k) = about_member k
about_info (info.Resolved c m) = about_member (public_member c m)
about_info (info.Called c m) = about_member (public_member c m)
about_info (info.Reflective p) = []
about_info (info.Class c) = about_class c
about_info info.ArrayForm = []
about_info (info.Throws c) = about_member (message_constructor c)

abbrev about_entry : EntryPoint → List Refusal
about_entry e = about_member (entry_member e)

-- of what a class writes above itself
abbrev about_written : ClassDef → List Refusal
about_written c = flat_map about_class (written c)

-- the classes that it makes, and the public names that it calls
abbrev made_by : Info → List Name
made_by (info.New c m) = c ∷ []
made_by (info.Load c) = c ∷ []
made_by (info.Throws c) = c ∷ []
made_by _ = []

abbrev called_by : Info → List MethodName
called_by (info.Called c m) = m ∷ []
called_by _ = []

abbrev name_of : MethodDef → MethodName
name_of d = d.name

abbrev names_in : ClassDef → List MethodName
names_in c = map name_of c.methods

abbrev asked_in_class : ClassDef → List Info
asked_in_class c = flat_map asked_by c.methods

module _ (w : Classes) where
  abbrev infos : List Info
  infos = flat_map asked_in_class w

  abbrev made : List Name
  made = object ∷ (hijacked ++ flat_map made_by infos)

  abbrev called : List MethodName
  called = flat_map called_by infos ++ flat_map names_in w

  abbrev dispatched_on : Name → List Refusal
  dispatched_on c = map (λ (m : MethodName). abstract_target (public_member c m)) called

  module _ (entries : List EntryPoint) where
    abbrev by_infos : List Refusal
    by_infos = flat_map about_info infos

    abbrev by_written : List Refusal
    by_written = flat_map about_written w

    abbrev by_dispatch : List Refusal
    by_dispatch = flat_map dispatched_on made

    -- all that may be told
    abbrev refusals : List Refusal
    refusals = missing_class object ∷ (flat_map about_entry entries ++ (by_infos ++ (by_written ++ by_dispatch)))

    abbrev May : Refusal → Type 0
    May r = Contains refusals r

    of_entries : (e : EntryPoint) (r : Refusal) → Contains entries e → Contains (about_entry e) r → May r
    of_entries e r i k = there (missing_class object) (flat_map about_entry entries ++ (by_infos ++ (by_written ++ by_dispatch))) r (Contains-append_left (flat_map about_entry entries) (by_infos ++ (by_written ++ by_dispatch)) r (in_all about_entry entries e r i k))

    behind_entries : (r : Refusal) → Contains (by_infos ++ (by_written ++ by_dispatch)) r → May r
    behind_entries r k = there (missing_class object) (flat_map about_entry entries ++ (by_infos ++ (by_written ++ by_dispatch))) r (Contains-append_right (flat_map about_entry entries) (by_infos ++ (by_written ++ by_dispatch)) r k)

    abbrev R : Fact → Type 0
    R = Reachable w entries

    -- what a body asks for is among the infos
    read : (i : Info) → Reads w entries R i → Contains infos i
    read i h = in_all asked_in_class w h.defined.class i (found_in w h.member.class h.defined.class h.defined.is_class) (in_all asked_by h.defined.class.methods h.definition i (contains_at h.defined.class.methods h.defined.first.place h.definition h.defined.first.stands) h.asked)

    of_info : (i : Info) (r : Refusal) → Reads w entries R i → Contains (about_info i) r → May r
    of_info i r h k = behind_entries r (Contains-append_left by_infos (by_written ++ by_dispatch) r (in_all about_info infos i r (read i h) k))

    of_written : (c : ClassDef) (d : Name) (r : Refusal) → Contains w c → Contains (written c) d → Contains (about_class d) r → May r
    of_written c d r i j k = behind_entries r (Contains-append_right by_infos (by_written ++ by_dispatch) r (Contains-append_left by_written by_dispatch r (in_all about_written w c r i (in_all about_class (written c) d r j k))))

    of_dispatch : (c : Name) (m : MethodName) → Contains made c → Contains called m → May (abstract_target (public_member c m))
    of_dispatch c m i j = behind_entries _ (Contains-append_right by_infos (by_written ++ by_dispatch) _ (Contains-append_right by_written by_dispatch _ (in_all dispatched_on made c _ i (in_map (λ (n : MethodName). abstract_target (public_member c n)) called m j))))

    written_above : (c d : Name) (r : Refusal) → IsWritten w c d → Contains (about_class d) r → May r
    written_above c d r h k = go (class_of w c) refl h
      where
        go : (o : Option ClassDef) → class_of w c ≡ o → Contains (written_in o) d → May r
        go None e j = nothing_in d j
        go (Some x) e j = of_written x d r (found_in w c x e) j k

    -- ---- classes

    needed : (c : Name) → Rule w entries R (fact.Needed c) → May (missing_class c)
    needed _ the_object = here (missing_class object) _
    needed _ (entry_class e i) = of_entries e _ i (0, lit< tt, refl)
    needed _ (above c d h i) = written_above c d _ i (0, lit< tt, refl)
    needed _ (above_hijacked c d h i) = written_above c d _ i (0, lit< tt, refl)
    needed _ (new_needed c m h) = of_info (info.New c m) _ h (0, lit< tt, refl)
    needed _ (load_needed c h) = of_info (info.Load c) _ h (0, lit< tt, refl)
    needed _ (field_class c f s h) = of_info (info.Field c f s) _ h (0, lit< tt, refl)
    needed _ (static_class k h) = of_info (info.Static k) _ h (0, lit< tt, refl)
    needed _ (resolved_class c m h) = of_info (info.Resolved c m) _ h (0, lit< tt, refl)
    needed _ (call_class c m h) = of_info (info.Called c m) _ h (0, lit< tt, refl)
    needed _ (class_named c h) = of_info (info.Class c) _ h (0, lit< tt, refl)
    needed _ (throw_needed c h) = of_info (info.Throws c) _ h (0, lit< tt, refl)

    by_info : (i : Info) (c : Name) → Reads w entries R i → Contains (made_by i) c → Contains made c
    by_info i c h k = there object (hijacked ++ flat_map made_by infos) c (Contains-append_right hijacked (flat_map made_by infos) c (in_all made_by infos i c (read i h) k))

    by_hijacked : (c : Name) → is_hijacked c ≡ true → Contains made c
    by_hijacked c h = there object (hijacked ++ flat_map made_by infos) c (Contains-append_left hijacked (flat_map made_by infos) c ((among hijacked c).0 h))

    is_made : (c : Name) → Rule w entries R (fact.Made c) → Contains made c
    is_made _ (new_made c m h) = by_info (info.New c m) c h (here c [])
    is_made _ (load_made c h) = by_info (info.Load c) c h (here c [])
    is_made _ (array_made h) = here object (hijacked ++ flat_map made_by infos)
    is_made _ (throw_made c h) = by_info (info.Throws c) c h (here c [])

    -- ---- calls

    chosen_among : (p : MethodName) (ds : List MethodDef) (d : MethodDef) → IsChosen w p ds d → Contains ds d
    chosen_among p ds d (narrowest n) = n.among
    chosen_among p ds d (least none l) = l.among

    proxy_called : (c : Name) (p : MethodName) (d : MethodDef) (owner : Name) → IsProxyTarget w c p d owner → Contains called d.name
    proxy_called c p d owner t = Contains-append_right (flat_map called_by infos) (flat_map names_in w) d.name (in_all names_in w t.chosen.class d.name (found_in w owner t.chosen.class t.chosen.is_class) (in_map name_of t.chosen.class.methods d (chosen_among p t.chosen.class.methods d t.chosen.chosen)))

    is_called : (c : Name) (m : MethodName) → Rule w entries R (fact.Called c m) → Contains called m
    is_called _ _ (call c m h n) = Contains-append_left (flat_map called_by infos) (flat_map names_in w) m (in_all called_by infos (info.Called c m) m (read (info.Called c m) h) (here m []))
    is_called _ _ (reflective c p d owner h i t) = proxy_called c p d owner t

    called_on : (m : MethodName) (c : Name) → IsCalledOn w entries R m c → May (abstract_target (public_member c m))
    called_on m _ (on_made c d h i a) = of_dispatch c m (is_made c (last w entries (fact.Made c) i)) (is_called d m (last w entries (fact.Called d m) h))
    called_on m _ (on_hijacked c d h i a) = of_dispatch c m (by_hijacked c i) (is_called d m (last w entries (fact.Called d m) h))

    -- ---- members

    method_asked : (k : Member) → IsAsked w entries R k → May (missing_method k)
    method_asked _ (of_entry e i) = of_entries e _ i (2, lit< tt, refl)
    method_asked _ (of_new c m h) = of_info (info.New c m) _ h (2, lit< tt, refl)
    method_asked _ (of_load c h) = of_info (info.Load c) _ h (2, lit< tt, refl)
    method_asked _ (of_call k h) = of_info (info.Static k) _ h (2, lit< tt, refl)
    method_asked _ (of_throw c h) = of_info (info.Throws c) _ h (2, lit< tt, refl)

    body_asked : (k : Member) → IsAsked w entries R k → May (abstract_target k)
    body_asked _ (of_entry e i) = of_entries e _ i (3, lit< tt, refl)
    body_asked _ (of_new c m h) = of_info (info.New c m) _ h (3, lit< tt, refl)
    body_asked _ (of_load c h) = of_info (info.Load c) _ h (3, lit< tt, refl)
    body_asked _ (of_call k h) = of_info (info.Static k) _ h (3, lit< tt, refl)
    body_asked _ (of_throw c h) = of_info (info.Throws c) _ h (3, lit< tt, refl)

    superclass_written : (o : Option Name) (d : Name) (others : List Name) → o ≡ Some d → Contains (listed o ++ others) d
    superclass_written o d others e = subst (λ (x : Option Name). Contains (listed x ++ others) d) (sym e) (here d others)

    -- all that is told may be told
    told : (r : Refusal) → Unresolved w entries r → May r
    told _ (no_class c h e) = needed c (last w entries (fact.Needed c) h)
    told _ (no_member k h u) = method_asked k h
    told _ (no_body k h a) = body_asked k h
    told _ (no_field c f s h l) = of_info (info.Field c f s) _ h (1, lit< tt, refl)
    told _ (no_class_above c d x h is up other) = of_written x d _ (found_in w c x is) (superclass_written x.superclass d x.interfaces up) (1, lit< tt, refl)
    told _ (no_interface_above c d x h is up other) = of_written x d _ (found_in w c x is) (Contains-append_right _ x.interfaces d up) (1, lit< tt, refl)
    told _ (no_class_made c m h other) = of_info (info.New c m) _ h (1, lit< tt, refl)
    told _ (no_module c h other) = of_info (info.Load c) _ h (1, lit< tt, refl)
    told _ (no_exception c h other) = of_info (info.Throws c) _ h (1, lit< tt, refl)
    told _ (no_target c m h p t) = of_info (info.Resolved c m) _ h (2, lit< tt, refl)
    told _ (no_target_body c m h p t) = of_info (info.Resolved c m) _ h (3, lit< tt, refl)
    told _ (no_method c m h p t) = of_info (info.Called c m) _ h (2, lit< tt, refl)
    told _ (no_hijacked_body c m h p j t) = of_info (info.Called c m) _ h (3, lit< tt, refl)
    told _ (no_dispatched_body c m h t) = called_on m c h
    told _ (no_dispatched_method c m h t) = called_on m c h
    told _ (no_reflective_body c p d owner h j t q) = of_dispatch c d.name (by_hijacked c j) (proxy_called c p d owner t)

    -- ---- the verdict

    abbrev is_first : Refusal → Refusal → Bool
    is_first a b = comes_first (report a) (report b)

    itself : (a : Refusal) → is_first a a ≡ false
    itself a = first_itself (report a)

    further : (a b c : Refusal) → is_first a b ≡ true → is_first b c ≡ true → is_first a c ≡ true
    further a b c = first_trans (report a) (report b) (report c)

    module _ (keeps : (c : ClassDef) → Contains w c → FirstBroken c None) where
      by_least : Least is_first itself further (Unresolved w entries) (Any is_first itself further (Unresolved w entries)) ⊎ NoneAmong is_first itself further (Unresolved w entries) (Any is_first itself further (Unresolved w entries)) → Undenied ((v : Verdict) × ByReferences entries w v)
      by_least (inl l) = granted (_, unresolved (report l.item) (record { refusal = l.item; unresolved = l.has; told_is = refl; least = λ other h. l.least other tt h }))
      by_least (inr none) = and_so (types_are_told w entries keeps (λ r h. none r tt h)) (λ t. granted (t.0, resolved t.0 (λ r h. none r tt h) t.1))

      -- a world has a verdict on its references
      pub references_are_told : Undenied ((v : Verdict) × ByReferences entries w v)
      references_are_told = and_so (least_or_none is_first itself further (Unresolved w entries) refusals told) by_least
