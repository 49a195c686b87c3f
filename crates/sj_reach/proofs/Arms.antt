-- What single steps conclude.
use Rattle.std.proofs.Common.{◌≡◌, Bool, true, false, List, [], ◌∷◌, ◌++◌, Option, Some, None, is_some, Contains, slice_get, sym, ap, ◌∙◌, subst, inl, inr, get_or}
use Rattle.std.specs.Prelude.{◌⊎◌, ◌↔◌}
use Rattle.std.specs.List.{list_any}
use Rattle.std.proofs.lemmas.List.Folds.{list_any_at}
use Rattle.indexmap.proofs.CallerLemmas.{Contains-list_any}
use Rattle.class_lists.specs.Lists.{items_at}
use Rattle.class_lists.specs.declared.lists.Lists.{Lists}
use Rattle.sj_names.specs.declared.method_names.Member.{Member}
use Rattle.sj_names.specs.declared.method_names.MethodName.{MethodName}
use Rattle.sj_names.specs.contracts.method_names.MethodNamePartialEq.TheImpl as method_eq
use Rattle.sj_trees.specs.declared.classes.ClassDef.{ClassDef}
use Rattle.sj_trees.specs.declared.classes.FieldDef.{FieldDef}
use Rattle.sj_trees.specs.declared.classes.MethodDef.{MethodDef}
use Rattle.sj_world.specs.Members.{IsField, IsMethod, IsMethodOf}
use Rattle.sj_reach_spec.proofs.One.{one_method}
use Rattle.sj_infos.specs.Infos.{asked_by}
use Rattle.sj_infos.specs.Once.{FirstsOf, nothing, new, again}
use Rattle.sj_infos.specs.declared.infos.Info.{Info}
use Rattle.sj_world.specs.Known.{Name, Classes, class_of}
use Rattle.sj_world.specs.Paths.{IsFirst, HasNone}
use Rattle.sj_world.specs.Tables.{AreAncestors}
use Rattle.std.proofs.lemmas.List.Elements.{Contains-append_left, Contains-push, Contains-push_cases}
use Rattle.sj_reach_spec.specs.Refusals.{IsUndefined, LacksField}
use Rattle.sj_reach.specs.Conclusions.{Conclusion, Adds, Among}
use Rattle.proxy_targets.specs.Proxies.{IsTargetName}
use Rattle.sj_reach.specs.Steps.{OfMember, OfAncestors, OfDispatch, OfTargets, OfSeenInfo, OfBody, IfNew, OfProxy, OfReflective}
use Rattle.sj_reach.specs.declared.findings.Findings.{Findings}
use Rattle.sj_reach.specs.declared.seen.Seen.{Seen}
use Rattle.sj_reach.proofs.Adding.{adds_none, adds_as}
use Rattle.sj_names.proofs.Equal.{method_decides}

pub adds_given : (P : Type 0) (Q : Conclusion → Type 0) (a b : Findings) → P → Adds Q a b → Adds (λ x. P × Q x) a b
adds_given P Q a b p f = adds_as Q (λ x. P × Q x) a b (λ x q. (p, q)) (λ x q. q.1) f

same_class : (o : Option ClassDef) (a b : ClassDef) → Some a ≡ o → o ≡ Some b → a ≡ b
same_class o a b e f = let s : Some a ≡ Some b = e ∙ f in cc

pub has_field : (w : Classes) (c f : Name) (s : Bool) (class : ClassDef) (fields : List FieldDef) (d : FieldDef) → Some class ≡ class_of w c → fields ≡ class.fields → IsFirst (IsField f s) fields d → LacksField w c f s → ⊥
has_field w c f s class fields d is same first lacks = lacks.none.none first.place d (subst (λ (l : List FieldDef). slice_get l first.place ≡ Some d) (same ∙ ap (λ (k : ClassDef). k.fields) (same_class (class_of w c) class lacks.class is lacks.is_class)) first.stands) first.has

pub lacks_field : (w : Classes) (c f : Name) (s : Bool) (class : ClassDef) (fields : List FieldDef) → Some class ≡ class_of w c → fields ≡ class.fields → HasNone (IsField f s) fields → LacksField w c f s
lacks_field w c f s class fields is same none = record { class = class; is_class = sym is; none = subst (HasNone (IsField f s)) same none }

pub is_method_of : (w : Classes) (k : Member) (class : ClassDef) (methods : List MethodDef) (d : MethodDef) → Some class ≡ class_of w k.class → methods ≡ class.methods → IsFirst (IsMethod k) methods d → IsMethodOf w k d
is_method_of w k class methods d is same first = record { class = class; is_class = sym is; first = subst (λ (l : List MethodDef). IsFirst (IsMethod k) l d) same first }

not_both : {A : Type 0} → true ≡ false → A
not_both e = cc

undefined_not : (w : Classes) (k : Member) (d : MethodDef) → IsMethodOf w k d → IsUndefined w k → ⊥
undefined_not w k d m u = u.none.none m.first.place d (subst (λ (c : ClassDef). slice_get c.methods m.first.place ≡ Some d) (same_class (class_of w k.class) m.class u.class (sym m.is_class) u.is_class) m.first.stands) m.first.has

pub no_member_told : (w : Classes) (k : Member) (d : MethodDef) → IsMethodOf w k d → is_some d.body ≡ true → (x : Conclusion) → OfMember w k x → ⊥
no_member_told w k d m has x (inl q) = undefined_not w k d m q.0
no_member_told w k d m has x (inr q) = not_both (sym has ∙ ap is_some (ap (λ (e : MethodDef). e.body) (one_method w k d q.0.definition m q.0.defined) ∙ q.0.has_none))

pub no_definition : (w : Classes) (k : Member) (class : ClassDef) (methods : List MethodDef) → Some class ≡ class_of w k.class → methods ≡ class.methods → HasNone (IsMethod k) methods → (d : MethodDef) → IsMethodOf w k d → ⊥
no_definition w k class methods is same none d m = none.none m.first.place d (subst (λ (l : List MethodDef). slice_get l m.first.place ≡ Some d) (sym (same ∙ ap (λ (c : ClassDef). c.methods) (same_class (class_of w k.class) class m.class is m.is_class))) m.first.stands) m.first.has

pub no_class_of : (w : Classes) (k : Member) → None ≡ class_of w k.class → (d : MethodDef) → IsMethodOf w k d → ⊥
no_class_of w k none d m = let s : None ≡ Some m.class = none ∙ m.is_class in absurd (let t : ⊥ = cc in t)

pub adds_ancestors : (w : Classes) (called : Lists MethodName) (c : Name) (names : List Name) (a b : Findings) → AreAncestors w c names → Adds (Among names (λ above. Among (items_at called above) (λ m. OfDispatch w m c))) a b → Adds (OfAncestors w called c) a b
adds_ancestors w called c names a b are f = adds_as _ (OfAncestors w called c) a b (λ x q. record { above = q.thing; is_ancestor = (are.exact q.thing).0 q.among; concluded = q.concluded }) (λ x q. record { thing = q.above; among = (are.exact q.above).1 q.is_ancestor; concluded = q.concluded }) f

pub adds_targets : (w : Classes) (c : Name) (p : MethodName) (Q : MethodName → Conclusion → Type 0) (names ms : List MethodName) (a b : Findings) → ms ≡ names → ((m : MethodName) → Contains names m ↔ IsTargetName w c p m) → Adds (Among ms Q) a b → Adds (OfTargets w Q c p) a b
adds_targets w c p Q names ms a b same exact f = adds_as (Among ms Q) (OfTargets w Q c p) a b (λ x q. record { name = q.thing; is_target = (exact q.thing).0 (subst (λ (l : List MethodName). Contains l q.thing) same q.among); concluded = q.concluded }) (λ x q. record { thing = q.name; among = subst (λ (l : List MethodName). Contains l q.name) (sym same) ((exact q.name).1 q.is_target); concluded = q.concluded }) f

pub there : (ps : List MethodName) (p : MethodName) → list_any (method_eq.ghosts.eq p) ps ≡ true → Contains ps p
there ps p h = Contains-list_any method_eq.ghosts.eq (λ a b e. (method_decides a b).0 e) ps p h

pub not_there : (ps : List MethodName) (p : MethodName) → list_any (method_eq.ghosts.eq p) ps ≡ false → Contains ps p → ⊥
not_there ps p apart has =
    let yes : list_any (method_eq.ghosts.eq p) ps ≡ true = list_any_at (method_eq.ghosts.eq p) ps has.0 p has.1 ((method_decides p (get_or ps has.0 p)).1 (sym has.2)) in
    not_both (sym yes ∙ apart)

pub adds_seen : (w : Classes) (seen : Seen) (p : MethodName) (s : Findings) → list_any (method_eq.ghosts.eq p) seen.reflective.keys ≡ true → Adds (IfNew w seen p) s s
adds_seen w seen p s h = adds_none (IfNew w seen p) s (λ x q. q.new (there seen.reflective.keys p h))

pub adds_new : (w : Classes) (seen : Seen) (p : MethodName) (a b : Findings) → list_any (method_eq.ghosts.eq p) seen.reflective.keys ≡ false → Adds (λ x. Among seen.made.items (OfProxy w p) x ⊎ OfReflective w p x) a b → Adds (IfNew w seen p) a b
adds_new w seen p a b h f = adds_as _ (IfNew w seen p) a b (λ x q. record { new = not_there seen.reflective.keys p h; concluded = q }) (λ x q. q.concluded) f

-- the same things stand in both lists
one_more : {A : Type 0} (xs ys : List A) (y x : A) → (Contains ys x → Contains xs x) → Contains ys x ⊎ (y ≡ x) → Contains (xs ++ y ∷ []) x
one_more xs ys y x f (inl h) = Contains-append_left xs (y ∷ []) x (f h)
one_more {A} xs ys y x f (inr e) = subst (λ (z : A). Contains (xs ++ y ∷ []) z) e (Contains-push xs y)

one_again : {A : Type 0} (xs once : List A) (y x : A) → (Contains xs x → Contains once x) → Contains once y → Contains xs x ⊎ (y ≡ x) → Contains once x
one_again xs once y x f there (inl h) = f h
one_again {A} xs once y x f there (inr e) = subst (λ (z : A). Contains once z) e there

pub stands_in_all : {A : Type 0} (xs once : List A) (x : A) → FirstsOf xs once → Contains once x → Contains xs x
stands_in_all _ _ x nothing h = h
stands_in_all _ _ x (new xs once y f apart) h = one_more xs once y x (stands_in_all xs once x f) (Contains-push_cases once y x h)
stands_in_all _ _ x (again xs once y f there) h = Contains-append_left xs (y ∷ []) x (stands_in_all xs once x f h)

pub stands_once : {A : Type 0} (xs once : List A) (x : A) → FirstsOf xs once → Contains xs x → Contains once x
stands_once _ _ x nothing h = h
stands_once _ _ x (new xs once y f apart) h = one_more once xs y x (stands_once xs once x f) (Contains-push_cases xs y x h)
stands_once _ _ x (again xs once y f there) h = one_again xs once y x (stands_once xs once x f) (stands_once xs once y f there) (Contains-push_cases xs y x h)

pub adds_asked : (w : Classes) (seen : Seen) (all once infos : List Info) (a b : Findings) → FirstsOf all once → infos ≡ once → Adds (Among infos (OfSeenInfo w seen)) a b → Adds (Among all (OfSeenInfo w seen)) a b
adds_asked w seen all once infos a b firsts same f = adds_as _ (Among all (OfSeenInfo w seen)) a b (λ x q. record { thing = q.thing; among = stands_in_all all once q.thing firsts (subst (λ (l : List Info). Contains l q.thing) same q.among); concluded = q.concluded }) (λ x q. record { thing = q.thing; among = subst (λ (l : List Info). Contains l q.thing) (sym same) (stands_once all once q.thing firsts q.among); concluded = q.concluded }) f

pub adds_body : (w : Classes) (seen : Seen) (k : Member) (d : MethodDef) (a b : Findings) → IsMethodOf w k d → Adds (Among (asked_by d) (OfSeenInfo w seen)) a b → Adds (OfBody w seen k) a b
adds_body w seen k d a b m f = adds_as _ (OfBody w seen k) a b (λ x q. record { definition = d; defined = m; concluded = q }) (λ x q. subst (λ (e : MethodDef). Among (asked_by e) (OfSeenInfo w seen) x) (one_method w k q.definition d q.defined m) q.concluded) f

pub adds_no_body : (w : Classes) (seen : Seen) (k : Member) (s : Findings) → ((d : MethodDef) → IsMethodOf w k d → ⊥) → Adds (OfBody w seen k) s s
adds_no_body w seen k s none = adds_none (OfBody w seen k) s (λ x q. none q.definition q.defined)
