-- A reflective name has one target in a class, and the name of each method that is found stands in its class.
use Rattle.std.proofs.Common.{◌≡◌, true, Option, Some, None, refl, sym, ap, subst, ◌∙◌, Contains}
use Rattle.std.specs.Prelude.{is_some}
use Rattle.accepted_folders.proofs.Plain.{class_found}
use Rattle.accepted_folders.specs.Entries.{IsTarget}
use Rattle.linked_pieces.proofs.Names.{tied_name}
use Rattle.proxy_targets.specs.Proxies.{IsTargetName}
use Rattle.proxy_targets.proofs.Named.{SomeChosen, chosen_named, not_lacking, one_passed, same_class}
use Rattle.accepted_folders.proofs.Classes.{result-keeps, signature-keeps}
use Rattle.sj_local.specs.Broken.{FirstBroken}
use Rattle.sj_names.proofs.Same.{impossible}
use Rattle.sj_names.proofs.ReadMethodNames.{reads_method_names}
use Rattle.sj_names.specs.MethodNames.{IsMethodName, method_name_of, spelled_method}
use Rattle.sj_names.specs.declared.method_names.MethodName.{MethodName}
use Rattle.sj_names.specs.declared.references.TypeRef.{TypeRef}
use Rattle.sj_trees.specs.declared.classes.ClassDef.{ClassDef}
use Rattle.sj_trees.specs.declared.classes.MethodDef.{MethodDef}
use Rattle.sj_world.proofs.Searches.{contains_at}
use Rattle.sj_world.specs.Calls.{IsNamedBy, IsChosen, narrowest, least, HasNoneNamed}
use Rattle.sj_world.specs.Known.{Name, Classes, class_of}
use Rattle.sj_world.specs.Laws.{IsPlain}
use Rattle.sj_world.specs.Paths.{IsFirst}
use Rattle.sj_world.specs.Refusals.{HasNoCycle}
use Rattle.sj_world.specs.Resolution.{IsBody, Answer, target, abstract, missing, Resolves, by_chain, by_ancestors, ResolvesAbove, by_default, undeclared, declared}
use Rattle.accepted_folders.specs.SjTypingSpecRules.{call_type}
use Rattle.linked_entries.proofs.Below.{one_type, one_reference}

-- no two method names have one spelling
pub names_differ : (a b : MethodName) → IsMethodName a → IsMethodName b → spelled_method a ≡ spelled_method b → a ≡ b
names_differ a b h k e =
    let both : Some a ≡ Some b = sym ((reads_method_names (spelled_method a) a).1 (h, refl)) ∙ ap method_name_of e ∙ (reads_method_names (spelled_method b) b).1 (k, refl) in
    cc

one_result : (o p : Option TypeRef) → is_some o ≡ true → is_some p ≡ true → call_type o ≡ call_type p → o ≡ p
one_result None p h k e = impossible h
one_result (Some r) None h k e = impossible k
one_result (Some r) (Some s) h k e = ap (λ t. Some t) (one_reference r s e)

-- a method of a class of the world
pub record IsDefinedIn (w : Classes) (d : MethodDef) : Type 0 where
  pub class : ClassDef
  pub in_world : Contains w class
  pub among : Contains class.methods d

-- the name of a method of a class of the world
pub record IsMethodsName (w : Classes) (m : MethodName) : Type 0 where
  pub definition : MethodDef
  pub is_defined : IsDefinedIn w definition
  pub name_is : definition.name ≡ m

module _ (w : Classes) where
  defined_at : (owner : Name) (m : MethodName) (class : ClassDef) (d : MethodDef) → class_of w owner ≡ Some class → IsFirst (IsBody m) class.methods d → IsMethodsName w m
  defined_at owner m class d found first = record { definition = d; is_defined = record { class = class; in_world = (class_found w owner class found).0; among = contains_at class.methods first.place d first.stands }; name_is = first.has.is_public.name_is }

  -- what an answer says of the name that is called
  abbrev IsTold : MethodName → Answer → Type 0
  IsTold m (target d owner) = IsMethodsName w m
  IsTold m abstract = Unit {0}
  IsTold m missing = Unit {0}

  told_above : (Above : Name → Type 0) (m : MethodName) (r : Answer) → ResolvesAbove w Above m r → IsTold m r
  told_above Above m _ (by_default d owner h) = defined_at owner m h.candidate.default.class d h.candidate.default.is_class h.candidate.default.first
  told_above Above m _ (undeclared h k) = tt
  told_above Above m _ (declared h k) = tt

  told : (c : Name) (m : MethodName) (r : Answer) → Resolves w c m r → IsTold m r
  told c m _ (by_chain d owner h) = defined_at owner m h.body.class d h.body.is_class h.body.first
  told c m _ (by_ancestors r h k) = told_above _ m r k

  -- a name with a target is that of a method
  pub target_named : (c : Name) (m : MethodName) (owner : Name) → IsTarget w c m owner → IsMethodsName w m
  target_named c m owner h = told c m (target h.body owner) h.resolves

  -- a method that a reflective name reaches
  pub record IsReached (p t : MethodName) : Type 0 where
    pub definition : MethodDef
    pub is_defined : IsDefinedIn w definition
    pub named : IsNamedBy p definition
    pub name_is : definition.name ≡ t

  pub proxy_reached : (c : Name) (p t : MethodName) → IsTargetName w c p t → IsReached p t
  proxy_reached c p t q =
      let chosen = chosen_named w p q.is_target.chosen.class.methods q.definition q.is_target.chosen.chosen in
      record { definition = q.definition; is_defined = record { class = q.is_target.chosen.class; in_world = (class_found w q.owner q.is_target.chosen.class q.is_target.chosen.is_class).0; among = chosen.0 }; named = chosen.1; name_is = q.name_is }

  module _ (none : HasNoCycle w) (plain : IsPlain w) (kept : (c : ClassDef) → Contains w c → FirstBroken c None) (named : (c : ClassDef) → Contains w c → (m : MethodDef) → Contains c.methods m → IsMethodName m.name) where
    -- what is chosen of the methods of one class has one name
    one_chosen : (p : MethodName) (class : ClassDef) → Contains w class → (d e : MethodDef) → IsChosen w p class.methods d → IsChosen w p class.methods e → d.name ≡ e.name
    one_chosen p class i d e (narrowest h) (narrowest k) =
        let types : d.result ≡ e.result = one_type w none plain d.result e.result (h.narrow.below e k.among k.named) (k.narrow.below d h.among h.named) in
        let of_first : d.result ≡ call_type d.name.result = (signature-keeps class (kept class i) d h.among).1 in
        let of_second : e.result ≡ call_type e.name.result = (signature-keeps class (kept class i) e k.among).1 in
        let results : d.name.result ≡ e.name.result = one_result d.name.result e.name.result (result-keeps class (kept class i) d h.among) (result-keeps class (kept class i) e k.among) (sym of_first ∙ types ∙ of_second) in
        let simple : d.name.simple ≡ e.name.simple = h.named.simple_is ∙ sym k.named.simple_is in
        let params : d.name.params ≡ e.name.params = h.named.params_are ∙ sym k.named.params_are in
        (λ j. record { simple = simple j; params = params j; result = results j })
    one_chosen p class i d e (narrowest h) (least n k) = absurd (n.none d h)
    one_chosen p class i d e (least n h) (narrowest k) = absurd (n.none e k)
    one_chosen p class i d e (least n h) (least o k) = names_differ d.name e.name (named class i d h.among) (named class i e k.among) (tied_name _ _ (k.least d h.among h.named) (h.least e k.among k.named))

    pub one_target_name : (c : Name) (p t u : MethodName) → IsTargetName w c p t → IsTargetName w c p u → t ≡ u
    one_target_name c p t u q r =
        let owner : q.owner ≡ r.owner = one_passed w (HasNoneNamed w p) (SomeChosen w p) (not_lacking w p) c q.owner r.owner q.is_target.passes r.is_target.passes (record { definition = q.definition; chosen = q.is_target.chosen }) (record { definition = r.definition; chosen = r.is_target.chosen }) in
        let class : q.is_target.chosen.class ≡ r.is_target.chosen.class = same_class q.is_target.chosen.class r.is_target.chosen.class (sym q.is_target.chosen.is_class ∙ ap (class_of w) owner ∙ r.is_target.chosen.is_class) in
        sym q.name_is ∙ one_chosen p r.is_target.chosen.class (class_found w r.owner r.is_target.chosen.class r.is_target.chosen.is_class).0 q.definition r.definition (subst (λ (k : ClassDef). IsChosen w p k.methods q.definition) class q.is_target.chosen.chosen) r.is_target.chosen.chosen ∙ r.name_is
