-- What resolves to a method without a body of `java.lang.Object`.
use Rattle.std.proofs.Common.{◌≡◌, zero, suc, ◌<◌, true, false, [], ◌∷◌, Some, None, is_some, Contains, refl, sym, ap, ◌∙◌, subst, inl, inr, arith, lit<, codes}
use Rattle.std.specs.Prelude.{◌⊎◌}
use Rattle.sj_trees.specs.Term.{Term}
use Rattle.sj_trees.specs.declared.classes.ClassDef.{ClassDef}
use Rattle.sj_trees.specs.declared.classes.ClassKind.TheVariants.{Class, Interface}
use Rattle.sj_trees.specs.declared.classes.MethodDef.{MethodDef}
use Rattle.sj_trees.specs.declared.types.IrType.TheVariants.{NoType}
use Rattle.sj_names.specs.declared.method_names.Namespace.TheVariants.{Public, PublicStatic}
use Rattle.sj_ask.specs.Known.{Name, Classes, class_of, object}
use Rattle.sj_ask.specs.Ancestors.{Way, by_path, is_object, IsAncestor, IsParent, parents, IsNext, IsOnChain, next_on_chain}
use Rattle.sj_ask.specs.Calls.{IsNamedBy, IsProxyTarget, narrowest}
use Rattle.sj_ask.specs.Paths.{Path, stay, on}
use Rattle.sj_ask.specs.Resolution.{IsBody, IsDefault, IsDeclaredAt, HasNoBody, Resolves, by_ancestors, declared, abstract, begin, up}
use Rattle.sj_ask.specs.Subtypes.{IsSub, equal}
use Rattle.sj_ask.proofs.Searches.{contains_at}
use Rattle.worklist.proofs.Inserted.{nothing_in, only_one}
use Rattle.sj_reach_spec.specs.Rows.{abstract_m, folder, proxy, static_method}
use Rattle.sj_reach_spec.proofs.Lacking.{boolean, interface, m, same_some, not_some, main_is_not_m}

abbrev with_abstract : Term → Classes
with_abstract body = folder body (abstract_m ∷ [])

one_of_two : {X : Type 0} (a b x : X) → Contains (a ∷ b ∷ []) x → (a ≡ x) ⊎ (b ≡ x)
one_of_two a b x (zero, l, e) = inl e
one_of_two a b x (suc zero, l, e) = inr e
one_of_two a b x (suc (suc k), l, e) = let low : suc (suc k) < 2 = l in absurd (omega arith)

in_object : (body : Term) (class : ClassDef) (d : MethodDef) → class_of (with_abstract body) object ≡ Some class → Contains class.methods d → IsBody m d → ⊥
in_object body class d is among h = elim (one_of_two (static_method (codes "main") (Some body)) abstract_m d (subst (λ (c : ClassDef). Contains c.methods d) (sym (same_some _ class is)) among)) [
  | inl e ↦ main_is_not_m body d e h.is_public.name_is
  | inr e ↦ (let b : false ≡ true = ap (λ (k : MethodDef). is_some k.body) e ∙ h.has_body in cc)
]

no_interface : (body : Term) (class : ClassDef) → class_of (with_abstract body) object ≡ Some class → class.kind ≡ Interface → ⊥
no_interface body class is kind = let k : Class ≡ Interface = ap (λ (c : ClassDef). c.kind) (same_some _ class is) ∙ kind in cc

-- a class that doesn't declare it, and above which nothing but `java.lang.Object` stands
module _ (body : Term) (c : Name) (lacks : IsDeclaredAt (with_abstract body) m c → ⊥) (nexts : (b : Name) → IsNext (with_abstract body) c b → b ≡ object) (aboves : (b : Name) → IsParent (with_abstract body) c b → b ≡ object) (above_it : IsAncestor (with_abstract body) c object) where
  abbrev IsEither : Name → Type 0
  IsEither n = (n ≡ c) ⊎ (n ≡ object)

  no_body : (n : Name) → IsEither n → HasNoBody (with_abstract body) m n
  no_body n (inl e) = record { none = λ d h. lacks (subst (IsDeclaredAt (with_abstract body) m) e (record { class = h.class; is_class = h.is_class; declared = record { method = d; among = contains_at h.class.methods h.first.place d h.first.stands; is_public = h.first.has.is_public } })) }
  no_body n (inr e) = record { none = λ d h. in_object body h.class d (subst (λ (k : Name). class_of (with_abstract body) k ≡ Some h.class) e h.is_class) (contains_at h.class.methods h.first.place d h.first.stands) h.first.has }

  next_one : (b d : Name) → IsEither b → IsNext (with_abstract body) b d → IsEither d
  next_one b d (inl e) step = inr (nexts d (subst (λ (k : Name). IsNext (with_abstract body) k d) e step))
  next_one b d (inr e) step = let s : None ≡ Some d = subst (λ (k : Name). next_on_chain (with_abstract body) k ≡ Some d) e step in not_some d s

  on_chain : (d : Name) → IsOnChain (with_abstract body) c d → IsEither d
  on_chain _ stay = inl refl
  on_chain _ (on b d path step) = next_one b d (on_chain b path) step

  parent : (b d : Name) → IsEither b → IsParent (with_abstract body) b d → IsEither d
  parent b d (inl e) step = inr (aboves d (subst (λ (k : Name). IsParent (with_abstract body) k d) e step))
  parent b d (inr e) step = let s : Contains [] d = subst (λ (k : Name). Contains (parents (with_abstract body) k) d) e step in nothing_in d s

  along : (d : Name) → Path (IsParent (with_abstract body)) c d → IsEither d
  along _ stay = inl refl
  along _ (on b d path step) = parent b d (along b path) step

  by_way : (d : Name) → Way (with_abstract body) c d → IsEither d
  by_way d (by_path path) = along d path
  by_way d (is_object e) = inr e

  no_default : (n : Name) (d : MethodDef) → IsEither n → IsDefault (with_abstract body) m n d → ⊥
  no_default n d (inl e) h = lacks (subst (IsDeclaredAt (with_abstract body) m) e (record { class = h.class; is_class = h.is_class; declared = record { method = d; among = contains_at h.class.methods h.first.place d h.first.stands; is_public = h.first.has.is_public } }))
  no_default n d (inr e) h = no_interface body h.class (subst (λ (k : Name). class_of (with_abstract body) k ≡ Some h.class) e h.is_class) h.is_interface

  is_abstract : Resolves (with_abstract body) c m abstract
  is_abstract = by_ancestors abstract (record { none = λ d h. no_body d (on_chain d h) }) (declared (record { none = λ n d h. no_default n d (by_way n h.above.way) h.default }) (record { owner = object; above = above_it; declared = record { class = _; is_class = refl; declared = record { method = abstract_m; among = (1, lit< tt, refl); is_public = record { namespace_is = refl; name_is = refl } } } }))

pub boolean_is_abstract : (body : Term) → Resolves (with_abstract body) boolean m abstract
boolean_is_abstract body = is_abstract body boolean (λ d. not_some d.class d.is_class) (λ b step. let s : Some object ≡ Some b = step in sym (same_some object b s)) (λ b step. let s : Contains (object ∷ []) b = step in sym (only_one object b s)) (record { known = refl; way = is_object refl })

pub interface_is_abstract : (body : Term) → Resolves (with_abstract body) interface m abstract
interface_is_abstract body = is_abstract body interface (λ d. nothing_in d.declared.method (subst (λ (k : ClassDef). Contains k.methods d.declared.method) (sym (same_some _ d.class d.is_class)) d.declared.among)) (λ b step. let s : None ≡ Some b = step in not_some b s) (λ b step. let s : Contains [] b = step in nothing_in b s) (record { known = refl; way = is_object refl })

not_named : (body : Term) (other : MethodDef) → static_method (codes "main") (Some body) ≡ other → IsNamedBy proxy other → ⊥
not_named body other q h = let n : PublicStatic ≡ Public = ap (λ (d : MethodDef). d.namespace) q ∙ h.namespace_is in cc

narrow : (body : Term) (other : MethodDef) → Contains (static_method (codes "main") (Some body) ∷ abstract_m ∷ []) other → IsNamedBy proxy other → IsSub (with_abstract body) NoType other.result
narrow body other among h = elim (one_of_two (static_method (codes "main") (Some body)) abstract_m other among) [
  | inl e ↦ absurd (not_named body other e h)
  | inr e ↦ subst (λ (d : MethodDef). IsSub (with_abstract body) NoType d.result) e (equal refl)
]

pub proxy_of_boolean : (body : Term) → IsProxyTarget (with_abstract body) boolean proxy abstract_m object
proxy_of_boolean body = record { passes = up boolean object begin (record { none = λ class is. not_some class is }) refl; chosen = record { class = _; is_class = refl; chosen = narrowest (record { among = (1, lit< tt, refl); named = record { namespace_is = refl; simple_is = refl; params_are = refl }; narrow = record { below = narrow body } }) } }
