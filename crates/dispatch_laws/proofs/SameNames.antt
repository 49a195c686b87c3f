-- A name of a method, and a member, is told to be the same as itself.
use Rattle.std.proofs.Common.{◌≡◌, true, List, [], ◌∷◌, ◌&&◌, Option, Some, None, refl}
use Rattle.std.specs.Cmp.Lexicographic.{pointwise}
use Rattle.std.proofs.lemmas.Bool.{and_parts, and_from}
use Rattle.sj_emit_expr_questions.specs.Task.{is_same_member}
use Rattle.sj_names.proofs.Same.{text-same, text-refl, array-refl, method-same, namespace-same}
use Rattle.sj_names.specs.Same.{is_same_text, is_same_reference, is_same_result, is_same_method, is_same_namespace}
use Rattle.sj_names.specs.declared.method_names.Member.{Member}
use Rattle.sj_names.specs.declared.method_names.MethodName.{MethodName}
use Rattle.sj_names.specs.declared.method_names.Namespace.{Namespace}
use Rattle.sj_names.specs.declared.references.TypeRef.{TypeRef}

reference-itself : (r : TypeRef) → is_same_reference r r ≡ true
reference-itself TypeRef.Void = refl
reference-itself TypeRef.Boolean = refl
reference-itself TypeRef.Char = refl
reference-itself TypeRef.Byte = refl
reference-itself TypeRef.Short = refl
reference-itself TypeRef.Int = refl
reference-itself TypeRef.Long = refl
reference-itself (TypeRef.Class c) = text-refl c
reference-itself (TypeRef.Array a) = array-refl a

pub references-itself : (rs : List TypeRef) → pointwise is_same_reference rs rs ≡ true
references-itself [] = refl
references-itself (r ∷ rs) = and_from (is_same_reference r r) (pointwise is_same_reference rs rs) (reference-itself r) (references-itself rs)

result-itself : (o : Option TypeRef) → is_same_result o o ≡ true
result-itself None = refl
result-itself (Some r) = reference-itself r

pub method-itself : (m : MethodName) → is_same_method m m ≡ true
method-itself m = and_from (is_same_text m.simple m.simple && pointwise is_same_reference m.params m.params) (is_same_result m.result m.result) (and_from (is_same_text m.simple m.simple) (pointwise is_same_reference m.params m.params) (text-refl m.simple) (references-itself m.params)) (result-itself m.result)

namespace-itself : (n : Namespace) → is_same_namespace n n ≡ true
namespace-itself Namespace.Public = refl
namespace-itself Namespace.PublicStatic = refl
namespace-itself Namespace.Private = refl
namespace-itself Namespace.PrivateStatic = refl
namespace-itself Namespace.Constructor = refl

pub member-itself : (k : Member) → is_same_member k k ≡ true
member-itself k = and_from (is_same_text k.class k.class && is_same_namespace k.namespace k.namespace) (is_same_method k.method k.method) (and_from (is_same_text k.class k.class) (is_same_namespace k.namespace k.namespace) (text-refl k.class) (namespace-itself k.namespace)) (method-itself k.method)

pub member-same : (a b : Member) → is_same_member a b ≡ true → a ≡ b
member-same a b h =
    let both = and_parts (is_same_text a.class b.class && is_same_namespace a.namespace b.namespace) (is_same_method a.method b.method) h in
    let front = and_parts (is_same_text a.class b.class) (is_same_namespace a.namespace b.namespace) both.0 in
    let e = text-same a.class b.class front.0 in
    let f = namespace-same a.namespace b.namespace front.1 in
    let g = method-same a.method b.method both.1 in
    λ i. record { class = e i; namespace = f i; method = g i }
