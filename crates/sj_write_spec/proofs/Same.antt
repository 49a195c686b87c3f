-- Texts and names of methods that compare as equal are one.
use Rattle.std.proofs.Common.{◌≡◌, ℕ, Bool, List, Option, Some, None, refl, ap}
use Rattle.std.specs.Prelude.{nat_eq, ◌&&◌}
use Rattle.std.specs.Bool.{Decides}
use Rattle.std.specs.Cmp.Lexicographic.{pointwise}
use Rattle.std.specs.Option.{option_eq}
use Rattle.std.proofs.lemmas.Bool.{and_parts, and_from}
use Rattle.std.proofs.lemmas.Bool.Decides.{Decides-eqb}
use Rattle.std.proofs.lemmas.Slice.Eq.{bytes_eq-Decides, slice_eq-Decides}
use Rattle.sj_names.specs.declared.references.ArrayRef.{ArrayRef}
use Rattle.sj_names.specs.declared.references.BaseRef.{BaseRef}
use Rattle.sj_names.specs.declared.references.TypeRef.{TypeRef}
use Rattle.sj_names.specs.declared.method_names.MethodName.{MethodName}
use Rattle.sj_names.specs.contracts.references.BaseRefPartialEq.TheImpl as base_eq
use Rattle.sj_names.specs.contracts.references.ArrayRefPartialEq.TheImpl as array_eq
use Rattle.sj_names.specs.contracts.references.TypeRefPartialEq.TheImpl as type_eq
use Rattle.sj_write_spec.specs.Tables.{same_text, same_method}

base_decides : (a b : BaseRef) → Decides (base_eq.ghosts.eq a b) (a ≡ b)
base_decides BaseRef.Boolean BaseRef.Boolean = (λ h. refl, λ h. refl)
base_decides BaseRef.Char BaseRef.Char = (λ h. refl, λ h. refl)
base_decides BaseRef.Byte BaseRef.Byte = (λ h. refl, λ h. refl)
base_decides BaseRef.Short BaseRef.Short = (λ h. refl, λ h. refl)
base_decides BaseRef.Int BaseRef.Int = (λ h. refl, λ h. refl)
base_decides BaseRef.Long BaseRef.Long = (λ h. refl, λ h. refl)
base_decides (BaseRef.Class c) (BaseRef.Class d) = (λ h. ap BaseRef.Class ((bytes_eq-Decides c d).0 h), λ h. (bytes_eq-Decides c d).1 (cc))
base_decides _ _ = (λ h. cc, λ h. cc)

and_decides : {P Q : Type 0} (b c : Bool) → Decides b P → Decides c Q → Decides (b && c) (P × Q)
and_decides b c p q = (λ h. (p.0 (and_parts b c h).0, q.0 (and_parts b c h).1), λ h. and_from b c (p.1 h.0) (q.1 h.1))

array_decides : (r s : ArrayRef) → Decides (array_eq.ghosts.eq r s) (r ≡ s)
array_decides r s =
    let both = and_decides (nat_eq r.dimensions s.dimensions) (base_eq.ghosts.eq r.base s.base) (Decides-eqb r.dimensions s.dimensions) (base_decides r.base s.base) in
    (λ h. λ i. record { dimensions = (both.0 h).0 i; base = (both.0 h).1 i }, λ h. both.1 (ap (λ (x : ArrayRef). x.dimensions) h, ap (λ (x : ArrayRef). x.base) h))

type_decides : (a b : TypeRef) → Decides (type_eq.ghosts.eq a b) (a ≡ b)
type_decides TypeRef.Void TypeRef.Void = (λ h. refl, λ h. refl)
type_decides TypeRef.Boolean TypeRef.Boolean = (λ h. refl, λ h. refl)
type_decides TypeRef.Char TypeRef.Char = (λ h. refl, λ h. refl)
type_decides TypeRef.Byte TypeRef.Byte = (λ h. refl, λ h. refl)
type_decides TypeRef.Short TypeRef.Short = (λ h. refl, λ h. refl)
type_decides TypeRef.Int TypeRef.Int = (λ h. refl, λ h. refl)
type_decides TypeRef.Long TypeRef.Long = (λ h. refl, λ h. refl)
type_decides (TypeRef.Class c) (TypeRef.Class d) = (λ h. ap TypeRef.Class ((bytes_eq-Decides c d).0 h), λ h. (bytes_eq-Decides c d).1 (cc))
type_decides (TypeRef.Array r) (TypeRef.Array s) = (λ h. ap TypeRef.Array ((array_decides r s).0 h), λ h. (array_decides r s).1 (cc))
type_decides _ _ = (λ h. cc, λ h. cc)

result_decides : (x y : Option TypeRef) → Decides (option_eq type_eq.ghosts.eq x y) (x ≡ y)
result_decides None None = (λ h. refl, λ h. refl)
result_decides (Some r) (Some s) = (λ h. ap Some ((type_decides r s).0 h), λ h. (type_decides r s).1 (cc))
result_decides None (Some s) = (λ h. cc, λ h. cc)
result_decides (Some r) None = (λ h. cc, λ h. cc)

pub text_decides : (x y : List ℕ) → Decides (same_text x y) (x ≡ y)
text_decides x y = bytes_eq-Decides x y

pub method_decides : (a b : MethodName) → Decides (same_method a b) (a ≡ b)
method_decides a b =
    let types = and_decides (pointwise type_eq.ghosts.eq a.params b.params) (option_eq type_eq.ghosts.eq a.result b.result) (slice_eq-Decides type_decides a.params b.params _ refl) (result_decides a.result b.result) in
    let name = and_decides (pointwise nat_eq a.simple b.simple) (pointwise type_eq.ghosts.eq a.params b.params && option_eq type_eq.ghosts.eq a.result b.result) (bytes_eq-Decides a.simple b.simple) types in (
      λ h. λ i. record { simple = (name.0 h).0 i; params = (name.0 h).1.0 i; result = (name.0 h).1.1 i },
      λ h. name.1 (ap (λ (k : MethodName). k.simple) h, (ap (λ (k : MethodName). k.params) h, ap (λ (k : MethodName). k.result) h)),
    )
