-- Names, types and numbers that stand in a listing are in their ranges.
use Rattle.std.proofs.Common.{◌≡◌, ◌<◌, ◌^◌, ◌+◌, ◌/◌, ◌%◌, ℕ, ℤ, pos, negsuc, Bool, true, false, cond, ◌&&◌, List, [], ◌∷◌, ◌++◌, replicate, Option, Some, None, refl, subst, arith}
use Rattle.std.specs.Prelude.{nat_lt, nat_le, All, IfSome, if◌then◌else◌, codes, nat_eq}
use Rattle.std.specs.Char.{IsScalar, encode_utf8}
use Rattle.std.specs.Cmp.Lexicographic.{pointwise}
use Rattle.std.specs.List.{list_all}
use Rattle.std.specs.Str.{IsUtf8, all_scalars, encode_utf8_all}
use Rattle.std.proofs.lemmas.Bool.{and_parts}
use Rattle.std.proofs.lemmas.Bool.Decides.{nat_tests}
use Rattle.std.proofs.lemmas.List.Elements.{All-nil, All-cons, All-head, All-tail, All-append}
use Rattle.js_tree.specs.Rules.{IsBelow, IsNumber}
use Rattle.sj_names.proofs.Same.{impossible}
use Rattle.sj_names.specs.Bases.{spelled_base}
use Rattle.sj_names.specs.MethodNames.{spelled_method, spelled_parameters, spelled_result}
use Rattle.sj_names.specs.References.{spelled, spelled_array}
use Rattle.sj_names.specs.declared.method_names.MethodName.{MethodName}
use Rattle.sj_names.specs.declared.references.ArrayRef.{ArrayRef}
use Rattle.sj_names.specs.declared.references.BaseRef.{BaseRef}
use Rattle.sj_names.specs.declared.references.BaseRef.TheVariants as bases
use Rattle.sj_names.specs.declared.references.TypeRef.{TypeRef}
use Rattle.sj_names.specs.declared.references.TypeRef.TheVariants as references
use Rattle.sj_text_spec.specs.Rules.{IsMethod, IsArray, IsListedType}
use Rattle.sj_trees.specs.Types.{class_type}
use Rattle.sj_trees.specs.declared.types.IrType.{IrType}
use Rattle.sj_trees.specs.declared.types.IrType.TheVariants.{Any, Class, Array}
use Rattle.sj_emit_expr_pieces.specs.Ranges.{AreBytes, FitsBase, FitsArray, FitsReference, FitsType, FitsMethodName}

abbrev IsByte : ℕ → Type 0
IsByte b = b < 2 ^ 8

-- a text of which each byte passes the test
abbrev is_byte : ℕ → Bool
is_byte b = nat_lt b 256

byte-is : (b : ℕ) → is_byte b ≡ true → b < 2 ^ 8
byte-is b h = grind (arith, nat_tests, h)

pub bytes-by : (text : List ℕ) → list_all is_byte text ≡ true → AreBytes text
bytes-by [] h = All-nil IsByte
bytes-by (b ∷ text) h = let k = and_parts (is_byte b) (list_all is_byte text) h in All-cons IsByte b text (byte-is b k.0) (bytes-by text k.1)

-- ---- UTF-8 is bytes

scalar-below : (c : ℕ) → IsScalar c → c < 1114112
scalar-below c h = go (nat_lt c 55296) (nat_le 57344 c) (nat_lt c 1114112) refl refl h
  where
    go : (x y z : Bool) → nat_lt c 55296 ≡ x → nat_lt c 1114112 ≡ z → cond x true (y && z) ≡ true → c < 1114112
    go true y z e f k = let l : c < 55296 = grind (arith, nat_tests, e) in omega (arith, l)
    go false true true e f k = grind (arith, nat_tests, f)
    go false true false e f k = impossible k
    go false false z e f k = impossible k

last-byte : (c : ℕ) → AreBytes ((128 + c % 64) ∷ [])
last-byte c = All-cons IsByte (128 + c % 64) [] (omega arith) (All-nil IsByte)

scalar-bytes : (c : ℕ) → IsScalar c → AreBytes (encode_utf8 c)
unfolding encode_utf8
scalar-bytes c h = go (nat_lt c 128) (nat_lt c 2048) (nat_lt c 65536) refl refl refl
  where
    top : c < 1114112
    top = scalar-below c h

    two : AreBytes ((128 + (c / 64) % 64) ∷ (128 + c % 64) ∷ [])
    two = All-cons IsByte (128 + (c / 64) % 64) ((128 + c % 64) ∷ []) (omega arith) (last-byte c)

    go : (p q r : Bool) → nat_lt c 128 ≡ p → nat_lt c 2048 ≡ q → nat_lt c 65536 ≡ r
        → AreBytes (cond p (c ∷ []) (cond q ((192 + c / 64) ∷ (128 + c % 64) ∷ []) (cond r ((224 + c / 4096) ∷ (128 + (c / 64) % 64) ∷ (128 + c % 64) ∷ []) ((240 + c / 262144) ∷ (128 + (c / 4096) % 64) ∷ (128 + (c / 64) % 64) ∷ (128 + c % 64) ∷ []))))
    go true q r e f g = All-cons IsByte c [] (let l : c < 128 = grind (arith, nat_tests, e) in omega (arith, l)) (All-nil IsByte)
    go false true r e f g = All-cons IsByte (192 + c / 64) ((128 + c % 64) ∷ []) (let l : c < 2048 = grind (arith, nat_tests, f) in omega (arith, l)) (last-byte c)
    go false false true e f g = All-cons IsByte (224 + c / 4096) ((128 + (c / 64) % 64) ∷ (128 + c % 64) ∷ []) (let l : c < 65536 = grind (arith, nat_tests, g) in omega (arith, l)) two
    go false false false e f g = All-cons IsByte (240 + c / 262144) ((128 + (c / 4096) % 64) ∷ (128 + (c / 64) % 64) ∷ (128 + c % 64) ∷ []) (omega (arith, top)) (All-cons IsByte (128 + (c / 4096) % 64) ((128 + (c / 64) % 64) ∷ (128 + c % 64) ∷ []) (omega arith) two)

scalars-bytes : (cs : List ℕ) → all_scalars cs ≡ true → AreBytes (encode_utf8_all cs)
scalars-bytes [] h = All-nil IsByte
scalars-bytes (c ∷ cs) h = let k = and_parts _ (all_scalars cs) h in All-append IsByte (encode_utf8 c) (encode_utf8_all cs) (scalar-bytes c k.0) (scalars-bytes cs k.1)

pub text-fits : (text : List ℕ) → IsUtf8 text → AreBytes text
text-fits text h = subst AreBytes h.1.1 (scalars-bytes h.0 h.1.0)

-- ---- references and names of methods are spelled with their names

front : (xs ys : List ℕ) → AreBytes (xs ++ ys) → AreBytes xs
front [] ys h = All-nil IsByte
front (x ∷ xs) ys h = All-cons IsByte x xs (All-head IsByte x (xs ++ ys) h) (front xs ys (All-tail IsByte x (xs ++ ys) h))

back : (xs ys : List ℕ) → AreBytes (xs ++ ys) → AreBytes ys
back [] ys h = h
back (x ∷ xs) ys h = back xs ys (All-tail IsByte x (xs ++ ys) h)

base-fits : (b : BaseRef) → AreBytes (spelled_base b) → FitsBase b
base-fits (bases.Class c) h = All-tail IsByte 0x4c c h
base-fits _ h = tt

reference-fits : (r : TypeRef) → AreBytes (spelled r) → FitsReference r
reference-fits (references.Class c) h = All-tail IsByte 0x4c c h
reference-fits (references.Array a) h = base-fits a.base (back (replicate a.dimensions 0x5b) (spelled_base a.base) h)
reference-fits _ h = tt

parameters-fit : (rs : List TypeRef) → AreBytes (spelled_parameters rs) → All FitsReference rs
parameters-fit [] h = All-nil FitsReference
parameters-fit (r ∷ rs) h =
    All-cons FitsReference r rs (reference-fits r (All-tail IsByte 0x3b (spelled r) (front (0x3b ∷ spelled r) (spelled_parameters rs) h))) (parameters-fit rs (back (0x3b ∷ spelled r) (spelled_parameters rs) h))

result-fits : (o : Option TypeRef) → AreBytes (spelled_result o) → IfSome o FitsReference
result-fits None h = tt
result-fits (Some r) h = reference-fits r h

pub method-fits : (m : MethodName) → IsMethod m → FitsMethodName m
method-fits m h =
    let whole = text-fits (spelled_method m) h.1 in
    let both = front (m.simple ++ spelled_parameters m.params) (0x3b ∷ spelled_result m.result) whole in
    let outcome = back (m.simple ++ spelled_parameters m.params) (0x3b ∷ spelled_result m.result) whole in
    (front m.simple (spelled_parameters m.params) both, parameters-fit m.params (back m.simple (spelled_parameters m.params) both), result-fits m.result (All-tail IsByte 0x3b (spelled_result m.result) outcome))

pub array-fits : (r : ArrayRef) → IsArray r → FitsArray r
array-fits r h = (omega (arith, h.0.1), base-fits r.base (back (replicate r.dimensions 0x5b) (spelled_base r.base) (text-fits (spelled_array r) h.1)))

-- ---- types and numbers

pub type-fits : (t : IrType) → IsListedType t → FitsType t
type-fits (Class c) h = text-fits c h.0.1
type-fits (Array r) h = array-fits r h
type-fits _ h = tt

pub class-fits : (c : List ℕ) → AreBytes c → FitsType (class_type c)
class-fits c h = go (pointwise nat_eq c (codes "java.lang.Object"))
  where
    go : (b : Bool) → FitsType (if b then Any else Class c)
    go true = tt
    go false = h

pub byte-fits : (z : ℤ) → IsBelow (2 ^ 7) z → IsNumber z
byte-fits (pos n) h = omega (arith, h)
byte-fits (negsuc n) h = omega (arith, h)

pub short-fits : (z : ℤ) → IsBelow (2 ^ 15) z → IsNumber z
short-fits (pos n) h = omega (arith, h)
short-fits (negsuc n) h = omega (arith, h)
