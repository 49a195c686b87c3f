-- A class has no method that neither it nor anything above it declares.
use Rattle.std.proofs.Common.{◌≡◌, true, false, [], ◌∷◌, Some, None, Contains, refl, sym, ap, ◌∙◌, subst, inl, inr, codes}
use Rattle.std.specs.Prelude.{◌⊎◌}
use Rattle.sj_trees.specs.Term.{Term}
use Rattle.sj_trees.specs.declared.classes.ClassDef.{ClassDef}
use Rattle.sj_trees.specs.declared.classes.MethodDef.{MethodDef}
use Rattle.sj_names.specs.WellKnown.{is_same_text}
use Rattle.sj_names.specs.declared.method_names.MethodName.{MethodName}
use Rattle.sj_ask.specs.Known.{Name, class_of, object}
use Rattle.sj_ask.specs.Ancestors.{Way, by_path, is_object, IsParent, parents, IsNext, IsOnChain, next_on_chain}
use Rattle.sj_ask.specs.Paths.{Path, stay, on}
use Rattle.sj_ask.specs.Resolution.{IsDefault, IsDeclaredAt, HasNoBody, Resolves, by_ancestors, undeclared, missing}
use Rattle.sj_ask.proofs.Searches.{contains_at}
use Rattle.worklist.proofs.Inserted.{nothing_in, only_one}
use Rattle.sj_reach_spec.specs.Rows.{plain_name, folder, static_method}

abbrev pub boolean : Name
boolean = codes "java.lang.Boolean"

abbrev pub interface : Name
interface = codes "I"

abbrev pub m : MethodName
m = plain_name (codes "m")

pub same_some : {X : Type 0} (x y : X) → Some x ≡ Some y → x ≡ y
same_some x y e = cc

pub not_some : {X A : Type 0} (y : X) → None ≡ Some y → A
not_some y e = cc

pub main_is_not_m : (body : Term) (d : MethodDef) → static_method (codes "main") (Some body) ≡ d → d.name ≡ m → ⊥
main_is_not_m body d e h = let b : false ≡ true = ap (λ (n : MethodName). is_same_text n.simple (codes "m")) (ap (λ (k : MethodDef). k.name) e ∙ h) in cc

in_object : (body : Term) (class : ClassDef) (d : MethodDef) → class_of (folder body []) object ≡ Some class → Contains class.methods d → d.name ≡ m → ⊥
in_object body class d is among h = main_is_not_m body d (only_one (static_method (codes "main") (Some body)) d (subst (λ (c : ClassDef). Contains c.methods d) (sym (same_some _ class is)) among)) h

-- a class that doesn't declare it, and above which nothing but `java.lang.Object` stands
module _ (body : Term) (c : Name) (lacks : IsDeclaredAt (folder body []) m c → ⊥) (nexts : (b : Name) → IsNext (folder body []) c b → b ≡ object) (aboves : (b : Name) → IsParent (folder body []) c b → b ≡ object) where
  abbrev IsEither : Name → Type 0
  IsEither n = (n ≡ c) ⊎ (n ≡ object)

  declares_none : (n : Name) → IsEither n → IsDeclaredAt (folder body []) m n → ⊥
  declares_none n (inl e) d = lacks (subst (IsDeclaredAt (folder body []) m) e d)
  declares_none n (inr e) d = in_object body d.class d.declared.method (subst (λ (k : Name). class_of (folder body []) k ≡ Some d.class) e d.is_class) d.declared.among d.declared.is_public.name_is

  no_body : (n : Name) → IsEither n → HasNoBody (folder body []) m n
  no_body n e = record { none = λ d h. declares_none n e (record { class = h.class; is_class = h.is_class; declared = record { method = d; among = contains_at h.class.methods h.first.place d h.first.stands; is_public = h.first.has.is_public } }) }

  next_one : (b d : Name) → IsEither b → IsNext (folder body []) b d → IsEither d
  next_one b d (inl e) step = inr (nexts d (subst (λ (k : Name). IsNext (folder body []) k d) e step))
  next_one b d (inr e) step = let s : None ≡ Some d = subst (λ (k : Name). next_on_chain (folder body []) k ≡ Some d) e step in not_some d s

  on_chain : (d : Name) → IsOnChain (folder body []) c d → IsEither d
  on_chain _ stay = inl refl
  on_chain _ (on b d path step) = next_one b d (on_chain b path) step

  parent : (b d : Name) → IsEither b → IsParent (folder body []) b d → IsEither d
  parent b d (inl e) step = inr (aboves d (subst (λ (k : Name). IsParent (folder body []) k d) e step))
  parent b d (inr e) step = let s : Contains [] d = subst (λ (k : Name). Contains (parents (folder body []) k) d) e step in nothing_in d s

  along : (d : Name) → Path (IsParent (folder body [])) c d → IsEither d
  along _ stay = inl refl
  along _ (on b d path step) = parent b d (along b path) step

  by_way : (d : Name) → Way (folder body []) c d → IsEither d
  by_way d (by_path path) = along d path
  by_way d (is_object e) = inr e

  no_default : (n : Name) (d : MethodDef) → IsEither n → IsDefault (folder body []) m n d → ⊥
  no_default n d e h = declares_none n e (record { class = h.class; is_class = h.is_class; declared = record { method = d; among = contains_at h.class.methods h.first.place d h.first.stands; is_public = h.first.has.is_public } })

  has_none : Resolves (folder body []) c m missing
  has_none = by_ancestors missing (record { none = λ d h. no_body d (on_chain d h) }) (undeclared (record { none = λ n d h. no_default n d (by_way n h.above.way) h.default }) (λ h. declares_none h.owner (by_way h.owner h.above.way) h.declared))

-- a hijacked class that isn't in the folder
pub boolean_has_none : (body : Term) → Resolves (folder body []) boolean m missing
boolean_has_none body = has_none body boolean (λ d. not_some d.class d.is_class) (λ b step. let s : Some object ≡ Some b = step in sym (same_some object b s)) (λ b step. let s : Contains (object ∷ []) b = step in sym (only_one object b s))

-- an interface without methods
pub interface_has_none : (body : Term) → Resolves (folder body []) interface m missing
interface_has_none body = has_none body interface (λ d. nothing_in d.declared.method (subst (λ (k : ClassDef). Contains k.methods d.declared.method) (sym (same_some _ d.class d.is_class)) d.declared.among)) (λ b step. let s : None ≡ Some b = step in not_some b s) (λ b step. let s : Contains [] b = step in nothing_in b s)
