-- The two tests of equality on members are one.
use Rattle.std.proofs.Common.{◌≡◌, Bool, true, false, ◌&&◌, List, [], ◌∷◌, Option, Some, None, refl, sym, subst, ◌∙◌}
use Rattle.std.proofs.lemmas.Bool.{and_parts, and_from}
use Rattle.std.specs.Cmp.Lexicographic.{pointwise}
use Rattle.sj_emit_expr_questions.specs.Task.{is_same_member}
use Rattle.sj_names.proofs.Equal.{member_decides}
use Rattle.sj_names.proofs.Same.{impossible, text-same, text-refl, array-refl, method-same, namespace-same}
use Rattle.sj_names.specs.Same.{is_same_text, is_same_reference, is_same_result, is_same_method, is_same_namespace}
use Rattle.sj_names.specs.contracts.method_names.MemberPartialEq.TheImpl as member_eq
use Rattle.sj_names.specs.declared.method_names.Member.{Member}
use Rattle.sj_names.specs.declared.method_names.MethodName.{MethodName}
use Rattle.sj_names.specs.declared.method_names.Namespace.{Namespace}
use Rattle.sj_names.specs.declared.references.TypeRef.{TypeRef}

reference-refl : (r : TypeRef) → is_same_reference r r ≡ true
reference-refl TypeRef.Void = refl
reference-refl TypeRef.Boolean = refl
reference-refl TypeRef.Char = refl
reference-refl TypeRef.Byte = refl
reference-refl TypeRef.Short = refl
reference-refl TypeRef.Int = refl
reference-refl TypeRef.Long = refl
reference-refl (TypeRef.Class c) = text-refl c
reference-refl (TypeRef.Array a) = array-refl a

references-refl : (rs : List TypeRef) → pointwise is_same_reference rs rs ≡ true
references-refl [] = refl
references-refl (r ∷ rs) = and_from (is_same_reference r r) (pointwise is_same_reference rs rs) (reference-refl r) (references-refl rs)

result-refl : (o : Option TypeRef) → is_same_result o o ≡ true
result-refl None = refl
result-refl (Some r) = reference-refl r

method-refl : (m : MethodName) → is_same_method m m ≡ true
method-refl m = and_from (is_same_text m.simple m.simple && pointwise is_same_reference m.params m.params) (is_same_result m.result m.result) (and_from (is_same_text m.simple m.simple) (pointwise is_same_reference m.params m.params) (text-refl m.simple) (references-refl m.params)) (result-refl m.result)

namespace-refl : (n : Namespace) → is_same_namespace n n ≡ true
namespace-refl Namespace.Public = refl
namespace-refl Namespace.PublicStatic = refl
namespace-refl Namespace.Private = refl
namespace-refl Namespace.PrivateStatic = refl
namespace-refl Namespace.Constructor = refl

member-refl : (k : Member) → is_same_member k k ≡ true
member-refl k = and_from (is_same_text k.class k.class && is_same_namespace k.namespace k.namespace) (is_same_method k.method k.method) (and_from (is_same_text k.class k.class) (is_same_namespace k.namespace k.namespace) (text-refl k.class) (namespace-refl k.namespace)) (method-refl k.method)

member-same : (m k : Member) → is_same_member m k ≡ true → m ≡ k
member-same m k h =
    let p = and_parts (is_same_text m.class k.class && is_same_namespace m.namespace k.namespace) (is_same_method m.method k.method) h in
    let q = and_parts (is_same_text m.class k.class) (is_same_namespace m.namespace k.namespace) p.0 in
    let e = text-same m.class k.class q.0 in
    let f = namespace-same m.namespace k.namespace q.1 in
    let g = method-same m.method k.method p.1 in
    λ i. record { class = e i; namespace = f i; method = g i }

one-test : (m k : Member) → member_eq.ghosts.eq m k ≡ is_same_member m k
one-test m k = go (member_eq.ghosts.eq m k) (is_same_member m k) refl refl
  where
    go : (p q : Bool) → member_eq.ghosts.eq m k ≡ p → is_same_member m k ≡ q → p ≡ q
    go true true f g = refl
    go false false f g = refl
    go true false f g = impossible (sym g ∙ subst (λ (x : Member). is_same_member m x ≡ true) ((member_decides m k).0 f) (member-refl m))
    go false true f g = impossible (sym f ∙ (member_decides m k).1 (member-same m k g))

pub equality-of-members : member_eq.ghosts.eq ≡ is_same_member
equality-of-members = λ i m k. one-test m k i
