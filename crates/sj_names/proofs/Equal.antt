-- Names that compare as equal are one.
use Rattle.std.proofs.Common.{◌≡◌, Bool, Option, Some, None, true, false, refl, ap, subst, List, ℕ}
use Rattle.std.specs.Prelude.{nat_eq, ◌&&◌}
use Rattle.std.specs.Bool.{Decides}
use Rattle.std.specs.Cmp.Lexicographic.{pointwise}
use Rattle.std.specs.Option.{option_eq}
use Rattle.std.proofs.lemmas.Bool.{and_parts, and_from}
use Rattle.std.proofs.lemmas.Bool.Decides.{Decides-eqb}
use Rattle.std.proofs.lemmas.Slice.Eq.{bytes_eq-Decides, slice_eq-Decides}
use Rattle.sj_names.specs.declared.references.ArrayRef.{ArrayRef}
use Rattle.sj_names.specs.declared.references.BaseRef.{BaseRef}
use Rattle.sj_names.specs.declared.references.TypeRef.{TypeRef}
use Rattle.sj_names.specs.declared.method_names.Member.{Member}
use Rattle.sj_names.specs.declared.method_names.MethodName.{MethodName}
use Rattle.sj_names.specs.declared.method_names.Namespace.{Namespace}
use Rattle.sj_names.specs.contracts.references.BaseRefPartialEq.TheImpl as base_eq
use Rattle.sj_names.specs.contracts.references.ArrayRefPartialEq.TheImpl as array_eq
use Rattle.sj_names.specs.contracts.references.TypeRefPartialEq.TheImpl as type_eq
use Rattle.sj_names.specs.contracts.method_names.MemberPartialEq.TheImpl as member_eq
use Rattle.sj_names.specs.contracts.method_names.MethodNamePartialEq.TheImpl as method_eq
use Rattle.sj_names.specs.contracts.method_names.NamespacePartialEq.TheImpl as namespace_eq

pub false_is_not_true : {A : Type 0} → false ≡ true → A
false_is_not_true e = cc

base_refl : (a : BaseRef) → base_eq.ghosts.eq a a ≡ true
base_refl BaseRef.Boolean = refl
base_refl BaseRef.Char = refl
base_refl BaseRef.Byte = refl
base_refl BaseRef.Short = refl
base_refl BaseRef.Int = refl
base_refl BaseRef.Long = refl
base_refl (BaseRef.Class c) = (bytes_eq-Decides c c).1 refl

base_is : (a b : BaseRef) → base_eq.ghosts.eq a b ≡ true → a ≡ b
base_is BaseRef.Boolean BaseRef.Boolean h = refl
base_is BaseRef.Char BaseRef.Char h = refl
base_is BaseRef.Byte BaseRef.Byte h = refl
base_is BaseRef.Short BaseRef.Short h = refl
base_is BaseRef.Int BaseRef.Int h = refl
base_is BaseRef.Long BaseRef.Long h = refl
base_is (BaseRef.Class a) (BaseRef.Class b) h = ap BaseRef.Class ((bytes_eq-Decides a b).0 h)
base_is _ _ h = false_is_not_true h

base_decides : (a b : BaseRef) → Decides (base_eq.ghosts.eq a b) (a ≡ b)
base_decides a b = (base_is a b, λ h. subst (λ (c : BaseRef). base_eq.ghosts.eq a c ≡ true) h (base_refl a))

and_decides : {P Q : Type 0} (b c : Bool) → Decides b P → Decides c Q → Decides (b && c) (P × Q)
and_decides b c p q = (λ h. (p.0 (and_parts b c h).0, q.0 (and_parts b c h).1), λ h. and_from b c (p.1 h.0) (q.1 h.1))

array_decides : (r s : ArrayRef) → Decides (array_eq.ghosts.eq r s) (r ≡ s)
array_decides r s =
    let both = and_decides (nat_eq r.dimensions s.dimensions) (base_eq.ghosts.eq r.base s.base) (Decides-eqb r.dimensions s.dimensions) (base_decides r.base s.base) in
    (λ h. λ i. record { dimensions = (both.0 h).0 i; base = (both.0 h).1 i }, λ h. both.1 (ap (λ (x : ArrayRef). x.dimensions) h, ap (λ (x : ArrayRef). x.base) h))

type_refl : (a : TypeRef) → type_eq.ghosts.eq a a ≡ true
type_refl TypeRef.Void = refl
type_refl TypeRef.Boolean = refl
type_refl TypeRef.Char = refl
type_refl TypeRef.Byte = refl
type_refl TypeRef.Short = refl
type_refl TypeRef.Int = refl
type_refl TypeRef.Long = refl
type_refl (TypeRef.Class c) = (bytes_eq-Decides c c).1 refl
type_refl (TypeRef.Array r) = (array_decides r r).1 refl

type_is : (a b : TypeRef) → type_eq.ghosts.eq a b ≡ true → a ≡ b
type_is TypeRef.Void TypeRef.Void h = refl
type_is TypeRef.Boolean TypeRef.Boolean h = refl
type_is TypeRef.Char TypeRef.Char h = refl
type_is TypeRef.Byte TypeRef.Byte h = refl
type_is TypeRef.Short TypeRef.Short h = refl
type_is TypeRef.Int TypeRef.Int h = refl
type_is TypeRef.Long TypeRef.Long h = refl
type_is (TypeRef.Class a) (TypeRef.Class b) h = ap TypeRef.Class ((bytes_eq-Decides a b).0 h)
type_is (TypeRef.Array a) (TypeRef.Array b) h = ap TypeRef.Array ((array_decides a b).0 h)
type_is _ _ h = false_is_not_true h

type_decides : (a b : TypeRef) → Decides (type_eq.ghosts.eq a b) (a ≡ b)
type_decides a b = (type_is a b, λ h. subst (λ (c : TypeRef). type_eq.ghosts.eq a c ≡ true) h (type_refl a))

result_decides : (x y : Option TypeRef) → Decides (option_eq type_eq.ghosts.eq x y) (x ≡ y)
result_decides None None = (λ h. refl, λ h. refl)
result_decides (Some r) (Some s) = (λ h. ap Some ((type_decides r s).0 h), λ h. (type_decides r s).1 (cc))
result_decides None (Some s) = (λ h. cc, λ h. cc)
result_decides (Some r) None = (λ h. cc, λ h. cc)

namespace_refl : (a : Namespace) → namespace_eq.ghosts.eq a a ≡ true
namespace_refl Namespace.Public = refl
namespace_refl Namespace.PublicStatic = refl
namespace_refl Namespace.Private = refl
namespace_refl Namespace.PrivateStatic = refl
namespace_refl Namespace.Constructor = refl

namespace_is : (a b : Namespace) → namespace_eq.ghosts.eq a b ≡ true → a ≡ b
namespace_is Namespace.Public Namespace.Public h = refl
namespace_is Namespace.PublicStatic Namespace.PublicStatic h = refl
namespace_is Namespace.Private Namespace.Private h = refl
namespace_is Namespace.PrivateStatic Namespace.PrivateStatic h = refl
namespace_is Namespace.Constructor Namespace.Constructor h = refl
namespace_is _ _ h = false_is_not_true h

namespace_decides : (a b : Namespace) → Decides (namespace_eq.ghosts.eq a b) (a ≡ b)
namespace_decides a b = (namespace_is a b, λ h. subst (λ (c : Namespace). namespace_eq.ghosts.eq a c ≡ true) h (namespace_refl a))

abbrev pub same_texts : List ℕ → List ℕ → Bool
same_texts = pointwise nat_eq

pub method_decides : (a b : MethodName) → Decides (method_eq.ghosts.eq a b) (a ≡ b)
method_decides a b =
    let types = and_decides (pointwise type_eq.ghosts.eq a.params b.params) (option_eq type_eq.ghosts.eq a.result b.result) (slice_eq-Decides type_decides a.params b.params _ refl) (result_decides a.result b.result) in
    let both = and_decides (same_texts a.simple b.simple) (pointwise type_eq.ghosts.eq a.params b.params && option_eq type_eq.ghosts.eq a.result b.result) (bytes_eq-Decides a.simple b.simple) types in (
      λ h. λ i. record { simple = (both.0 h).0 i; params = (both.0 h).1.0 i; result = (both.0 h).1.1 i },
      λ h. both.1 (ap (λ (k : MethodName). k.simple) h, (ap (λ (k : MethodName). k.params) h, ap (λ (k : MethodName). k.result) h)),
    )

pub member_decides : (a b : Member) → Decides (member_eq.ghosts.eq a b) (a ≡ b)
member_decides a b =
    let inner = and_decides (namespace_eq.ghosts.eq a.namespace b.namespace) (method_eq.ghosts.eq a.method b.method) (namespace_decides a.namespace b.namespace) (method_decides a.method b.method) in
    let both = and_decides (same_texts a.class b.class) (namespace_eq.ghosts.eq a.namespace b.namespace && method_eq.ghosts.eq a.method b.method) (bytes_eq-Decides a.class b.class) inner in (
      λ h. λ i. record { class = (both.0 h).0 i; namespace = (both.0 h).1.0 i; method = (both.0 h).1.1 i },
      λ h. both.1 (ap (λ (k : Member). k.class) h, (ap (λ (k : Member). k.namespace) h, ap (λ (k : Member). k.method) h)),
    )

-- a class and a method
pub pair_decides : (c d : List ℕ) (m n : MethodName) → Decides (same_texts c d && method_eq.ghosts.eq m n) ((c ≡ d) × (m ≡ n))
pair_decides c d m n = and_decides (same_texts c d) (method_eq.ghosts.eq m n) (bytes_eq-Decides c d) (method_decides m n)

pub field_decides : (c d f g : List ℕ) (b : Bool) → Decides (same_texts c d && (same_texts f g && b)) ((c ≡ d) × ((f ≡ g) × (b ≡ true)))
field_decides c d f g b = and_decides (same_texts c d) (same_texts f g && b) (bytes_eq-Decides c d) (and_decides (same_texts f g) b (bytes_eq-Decides f g) (λ h. h, λ h. h))
