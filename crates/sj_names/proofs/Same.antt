-- Names and references that are told to be the same are.
use Rattle.std.proofs.Common.{◌≡◌, ℕ, true, false, List, ◌==◌, ◌&&◌, Option, Some, None, refl, ap, subst}
use Rattle.std.specs.Bool.{Decides}
use Rattle.std.proofs.lemmas.Bool.{and_parts, and_from}
use Rattle.std.proofs.lemmas.Bool.Decides.{Decides-eqb}
use Rattle.std.proofs.lemmas.Slice.Eq.{bytes_eq-Decides, slice_eq-Decides}
use Rattle.std.specs.Cmp.Lexicographic.{pointwise}
use Rattle.sj_names.specs.Same.{is_same_text, is_same_base, is_same_array, is_same_reference, is_same_result, is_same_method, is_same_namespace}
use Rattle.sj_names.specs.declared.references.ArrayRef.{ArrayRef}
use Rattle.sj_names.specs.declared.references.BaseRef.{BaseRef}
use Rattle.sj_names.specs.declared.references.TypeRef.{TypeRef}
use Rattle.sj_names.specs.declared.method_names.MethodName.{MethodName}
use Rattle.sj_names.specs.declared.method_names.Namespace.{Namespace}

pub impossible : {A : Type 0} → false ≡ true → A
impossible h = absurd (cc)

pub text-same : (xs ys : List ℕ) → is_same_text xs ys ≡ true → xs ≡ ys
text-same xs ys h = (bytes_eq-Decides xs ys).0 h

pub text-refl : (xs : List ℕ) → is_same_text xs xs ≡ true
text-refl xs = (bytes_eq-Decides xs xs).1 refl

pub base-same : (a b : BaseRef) → is_same_base a b ≡ true → a ≡ b
base-same BaseRef.Boolean BaseRef.Boolean h = refl
base-same BaseRef.Char BaseRef.Char h = refl
base-same BaseRef.Byte BaseRef.Byte h = refl
base-same BaseRef.Short BaseRef.Short h = refl
base-same BaseRef.Int BaseRef.Int h = refl
base-same BaseRef.Long BaseRef.Long h = refl
base-same (BaseRef.Class c) (BaseRef.Class d) h = ap BaseRef.Class (text-same c d h)
base-same _ _ h = impossible h

pub base-refl : (a : BaseRef) → is_same_base a a ≡ true
base-refl BaseRef.Boolean = refl
base-refl BaseRef.Char = refl
base-refl BaseRef.Byte = refl
base-refl BaseRef.Short = refl
base-refl BaseRef.Int = refl
base-refl BaseRef.Long = refl
base-refl (BaseRef.Class c) = text-refl c

pub array-same : (a b : ArrayRef) → is_same_array a b ≡ true → a ≡ b
array-same a b h =
    let p = and_parts (a.dimensions == b.dimensions) (is_same_base a.base b.base) h in
    let e = (Decides-eqb a.dimensions b.dimensions).0 p.0 in
    let f = base-same a.base b.base p.1 in
    λ i. record { dimensions = e i; base = f i }

pub array-refl : (a : ArrayRef) → is_same_array a a ≡ true
array-refl a = and_from (a.dimensions == a.dimensions) (is_same_base a.base a.base) ((Decides-eqb a.dimensions a.dimensions).1 refl) (base-refl a.base)

reference-same : (a b : TypeRef) → is_same_reference a b ≡ true → a ≡ b
reference-same TypeRef.Void TypeRef.Void h = refl
reference-same TypeRef.Boolean TypeRef.Boolean h = refl
reference-same TypeRef.Char TypeRef.Char h = refl
reference-same TypeRef.Byte TypeRef.Byte h = refl
reference-same TypeRef.Short TypeRef.Short h = refl
reference-same TypeRef.Int TypeRef.Int h = refl
reference-same TypeRef.Long TypeRef.Long h = refl
reference-same (TypeRef.Class c) (TypeRef.Class d) h = ap TypeRef.Class (text-same c d h)
reference-same (TypeRef.Array a) (TypeRef.Array b) h = ap TypeRef.Array (array-same a b h)
reference-same _ _ h = impossible h

reference-refl : (a : TypeRef) → is_same_reference a a ≡ true
reference-refl TypeRef.Void = refl
reference-refl TypeRef.Boolean = refl
reference-refl TypeRef.Char = refl
reference-refl TypeRef.Byte = refl
reference-refl TypeRef.Short = refl
reference-refl TypeRef.Int = refl
reference-refl TypeRef.Long = refl
reference-refl (TypeRef.Class c) = text-refl c
reference-refl (TypeRef.Array a) = array-refl a

reference-decides : (a b : TypeRef) → Decides (is_same_reference a b) (a ≡ b)
reference-decides a b = (reference-same a b, λ e. subst (λ x. is_same_reference a x ≡ true) e (reference-refl a))

result-same : (a b : Option TypeRef) → is_same_result a b ≡ true → a ≡ b
result-same None None h = refl
result-same (Some a) (Some b) h = ap Some (reference-same a b h)
result-same None (Some b) h = impossible h
result-same (Some a) None h = impossible h

pub method-same : (a b : MethodName) → is_same_method a b ≡ true → a ≡ b
method-same a b h =
    let p = and_parts (is_same_text a.simple b.simple && pointwise is_same_reference a.params b.params) (is_same_result a.result b.result) h in
    let q = and_parts (is_same_text a.simple b.simple) (pointwise is_same_reference a.params b.params) p.0 in
    let e = text-same a.simple b.simple q.0 in
    let f = (slice_eq-Decides reference-decides a.params b.params (pointwise is_same_reference a.params b.params) refl).0 q.1 in
    let g = result-same a.result b.result p.1 in
    λ i. record { simple = e i; params = f i; result = g i }

pub namespace-same : (a b : Namespace) → is_same_namespace a b ≡ true → a ≡ b
namespace-same Namespace.Public Namespace.Public h = refl
namespace-same Namespace.PublicStatic Namespace.PublicStatic h = refl
namespace-same Namespace.Private Namespace.Private h = refl
namespace-same Namespace.PrivateStatic Namespace.PrivateStatic h = refl
namespace-same Namespace.Constructor Namespace.Constructor h = refl
namespace-same _ _ h = impossible h
