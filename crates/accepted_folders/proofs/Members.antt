-- A member is the same as itself, and the definition that is found for a member is the first of its class that is that member's.
use Rattle.std.proofs.Common.{◌≡◌, ◌<◌, ℕ, zero, suc, Bool, true, false, List, [], ◌∷◌, ◌&&◌, Option, Some, None, refl, sym, ap, subst, ◌∙◌, arith, slice_get, if◌then◌else◌}
use Rattle.std.specs.Cmp.Lexicographic.{pointwise}
use Rattle.std.proofs.lemmas.Bool.{and_parts, and_from}
use Rattle.std.proofs.lemmas.List.Folds.{list_any_at}
use Rattle.sj_names.specs.Same.{is_same_text, is_same_reference, is_same_result, is_same_method, is_same_namespace}
use Rattle.sj_names.specs.declared.method_names.Member.{Member}
use Rattle.sj_names.specs.declared.method_names.MethodName.{MethodName}
use Rattle.sj_names.specs.declared.method_names.Namespace.{Namespace}
use Rattle.sj_names.specs.declared.references.TypeRef.{TypeRef}
use Rattle.sj_names.proofs.Same.{impossible, text-same, text-refl, array-refl, method-same, namespace-same}
use Rattle.sj_trees.specs.declared.classes.ClassDef.{ClassDef}
use Rattle.sj_trees.specs.declared.classes.MethodDef.{MethodDef}
use Rattle.ir_mean.specs.World as ir
use Rattle.sj_world.specs.Known.{Name, Classes, class_of}
use Rattle.sj_world.specs.Members.{IsMethod, IsMethodOf}
use Rattle.sj_world.specs.Paths.{IsFirst}
use Rattle.agree_classes.specs.EmittedMethods.{EmittedMethod, HasFunction}
use Rattle.folder_judging_spec.proofs.Firsts.{same_first}
use Rattle.agree_classes.specs.Linked.{is_same_member, has_function}

reference-refl : (r : TypeRef) → is_same_reference r r ≡ true
reference-refl TypeRef.Void = refl
reference-refl TypeRef.Boolean = refl
reference-refl TypeRef.Char = refl
reference-refl TypeRef.Byte = refl
reference-refl TypeRef.Short = refl
reference-refl TypeRef.Int = refl
reference-refl TypeRef.Long = refl
reference-refl (TypeRef.Class c) = text-refl c
reference-refl (TypeRef.Array a) = array-refl a

references-refl : (rs : List TypeRef) → pointwise is_same_reference rs rs ≡ true
references-refl [] = refl
references-refl (r ∷ rs) = and_from (is_same_reference r r) (pointwise is_same_reference rs rs) (reference-refl r) (references-refl rs)

result-refl : (o : Option TypeRef) → is_same_result o o ≡ true
result-refl None = refl
result-refl (Some r) = reference-refl r

method-refl : (m : MethodName) → is_same_method m m ≡ true
method-refl m = and_from (is_same_text m.simple m.simple && pointwise is_same_reference m.params m.params) (is_same_result m.result m.result) (and_from (is_same_text m.simple m.simple) (pointwise is_same_reference m.params m.params) (text-refl m.simple) (references-refl m.params)) (result-refl m.result)

namespace-refl : (n : Namespace) → is_same_namespace n n ≡ true
namespace-refl Namespace.Public = refl
namespace-refl Namespace.PublicStatic = refl
namespace-refl Namespace.Private = refl
namespace-refl Namespace.PrivateStatic = refl
namespace-refl Namespace.Constructor = refl

member-refl : (k : Member) → is_same_member k k ≡ true
member-refl k = and_from (is_same_text k.class k.class && is_same_namespace k.namespace k.namespace) (is_same_method k.method k.method) (and_from (is_same_text k.class k.class) (is_same_namespace k.namespace k.namespace) (text-refl k.class) (namespace-refl k.namespace)) (method-refl k.method)

pub has_function-from : (fs : List EmittedMethod) (m : Member) → HasFunction fs m → has_function fs m ≡ true
has_function-from fs m h =
    let itself : is_same_member m h.method.member ≡ true = subst (λ (k : Member). is_same_member m k ≡ true) (sym h.is) (member-refl m) in
    list_any_at (λ (e : EmittedMethod). is_same_member m e.member) fs h.listed.0 h.method h.listed.1 (subst (λ (e : EmittedMethod). is_same_member m e.member ≡ true) (sym h.listed.2) itself)

turned : (a b : List ℕ) → is_same_text a b ≡ is_same_text b a
turned a b = go (is_same_text a b) (is_same_text b a) refl refl
  where
    go : (p q : Bool) → is_same_text a b ≡ p → is_same_text b a ≡ q → p ≡ q
    go true true f g = refl
    go false false f g = refl
    go true false f g = impossible (sym g ∙ subst (λ (x : List ℕ). is_same_text b x ≡ true) (sym (text-same a b f)) (text-refl b))
    go false true f g = impossible (sym f ∙ subst (λ (x : List ℕ). is_same_text a x ≡ true) (sym (text-same b a g)) (text-refl a))

pub same-class : (w : Classes) (name : Name) → ir.class_of w name ≡ class_of w name
same-class [] name = refl
same-class (c ∷ w) name = ap (λ (b : Bool). if b then Some c else ir.class_of w name) (turned name c.name) ∙ ap (λ (o : Option ClassDef). if is_same_text c.name name then Some c else o) (same-class w name)

-- the test by which a method is found
abbrev tests : Member → MethodDef → Bool
tests k x = is_same_namespace k.namespace x.namespace && is_same_method k.method x.name

is-method : (k : Member) (x : MethodDef) → tests k x ≡ true → IsMethod k x
is-method k x t = let p = and_parts (is_same_namespace k.namespace x.namespace) (is_same_method k.method x.name) t in record { namespace_is = sym (namespace-same k.namespace x.namespace p.0); name_is = sym (method-same k.method x.name p.1) }

is-tested : (k : Member) (x : MethodDef) → IsMethod k x → tests k x ≡ true
is-tested k x h = and_from (is_same_namespace k.namespace x.namespace) (is_same_method k.method x.name) (subst (λ (n : Namespace). is_same_namespace k.namespace n ≡ true) (sym h.namespace_is) (namespace-refl k.namespace)) (subst (λ (m : MethodName). is_same_method k.method m ≡ true) (sym h.name_is) (method-refl k.method))

no-place : {A : Type 0} (i : ℕ) → i < 0 → A
no-place i l = absurd (omega (arith, l))

pub first-method : (k : Member) (ds : List MethodDef) (d : MethodDef) → ir.method_among ds k.namespace k.method ≡ Some d → IsFirst (IsMethod k) ds d
first-method k [] d e = absurd (cc)
first-method k (x ∷ xs) d e = go (tests k x) refl e (first-method k xs d)
  where
    go : (b : Bool) → tests k x ≡ b → (if b then Some x else ir.method_among xs k.namespace k.method) ≡ Some d → (ir.method_among xs k.namespace k.method ≡ Some d → IsFirst (IsMethod k) xs d) → IsFirst (IsMethod k) (x ∷ xs) d
    go true t f later = let same : x ≡ d = cc in record { place = 0; stands = ap Some same; has = subst (IsMethod k) same (is-method k x t); none_before = λ i y l at h. no-place i l }
    go false t f later = let r = later f in record { place = suc r.place; stands = r.stands; has = r.has; none_before = none r }
      where
        none : (r : IsFirst (IsMethod k) xs d) (i : ℕ) (y : MethodDef) → i < suc r.place → slice_get (x ∷ xs) i ≡ Some y → IsMethod k y → ⊥
        none r zero y l at h = let same : x ≡ y = cc in impossible (sym t ∙ is-tested k x (subst (IsMethod k) (sym same) h))
        none r (suc i) y l at h = r.none_before i y (omega (arith, l)) at h

-- what is found for a member is its definition
pub defined : (w : Classes) (k : Member) (d : MethodDef) → ir.member_of w k.class k.namespace k.method ≡ Some d → IsMethodOf w k d
defined w k d e = go (ir.class_of w k.class) refl e
  where
    go : (o : Option ClassDef) → ir.class_of w k.class ≡ o → ir.method_in o k.namespace k.method ≡ Some d → IsMethodOf w k d
    go None s f = absurd cc
    go (Some c) s f = record { class = c; is_class = sym (same-class w k.class) ∙ s; first = first-method k c.methods d f }

pub none-among : (k : Member) (ds : List MethodDef) → ir.method_among ds k.namespace k.method ≡ None → (i : ℕ) (y : MethodDef) → slice_get ds i ≡ Some y → IsMethod k y → ⊥
none-among k [] e i y at h = cc
none-among k (x ∷ xs) e i y at h = go (tests k x) refl e (none-among k xs) i at
  where
    go : (b : Bool) → tests k x ≡ b → (if b then Some x else ir.method_among xs k.namespace k.method) ≡ None → (ir.method_among xs k.namespace k.method ≡ None → (j : ℕ) (z : MethodDef) → slice_get xs j ≡ Some z → IsMethod k z → ⊥) → (j : ℕ) → slice_get (x ∷ xs) j ≡ Some y → ⊥
    go true t f later j at = absurd (cc)
    go false t f later zero at = let same : x ≡ y = cc in impossible (sym t ∙ is-tested k x (subst (IsMethod k) (sym same) h))
    go false t f later (suc j) at = later f j y at h

first-found : (k : Member) (ds : List MethodDef) (d : MethodDef) → IsFirst (IsMethod k) ds d → ir.method_among ds k.namespace k.method ≡ Some d
first-found k ds d f = go (ir.method_among ds k.namespace k.method) refl
  where
    go : (o : Option MethodDef) → ir.method_among ds k.namespace k.method ≡ o → ir.method_among ds k.namespace k.method ≡ Some d
    go None e = absurd (none-among k ds e f.place d f.stands f.has)
    go (Some b) e = e ∙ ap Some (same_first (IsMethod k) ds b d (first-method k ds b e) f)

-- the definition of a member is what is found for it
pub found-member : (w : Classes) (k : Member) (d : MethodDef) → IsMethodOf w k d → ir.member_of w k.class k.namespace k.method ≡ Some d
found-member w k d m = ap (λ (o : Option ClassDef). ir.method_in o k.namespace k.method) (same-class w k.class ∙ m.is_class) ∙ first-found k m.class.methods d m.first
