-- Names of the emitted code keep the rule of names.
use Rattle.std.proofs.Common.{◌≡◌, ◌∙◌, ◌+◌, ◌<◌, ◌/◌, ◌%◌, ◌^◌, ℕ, zero, suc, Bool, true, false, ◌&&◌, List, [], ◌∷◌, ◌++◌, refl, ap, arith}
use Rattle.std.specs.Prelude.{◌==◌, codes, map, replicate, Option, Some, None, IfSome, All}
use Rattle.std.specs.Char.{digit_char}
use Rattle.std.specs.Int.Digits.{digits_of, AllBelowBase}
use Rattle.std.specs.List.{list_all}
use Rattle.std.proofs.lemmas.Bool.Decides.{nat_tests}
use Rattle.std.proofs.lemmas.Int.Digits.{all_below_base_digits_of}
use Rattle.std.proofs.lemmas.List.Elements.{All-nil, All-cons, All-head, All-tail, All-append}
use Rattle.std.proofs.lemmas.List.Folds.{list_all-append}
use Rattle.js_tree.specs.Names.{is_name_character}
use Rattle.js_tree.specs.Rules.{IsName, IsProperty}
use Rattle.sj_core.specs.Terms.{Variable, named, numbered, receiver}
use Rattle.sj_emit_expr_spec.specs.Names.{variable_name, label_name}
use Rattle.sj_emit_expr_spec.specs.Templates.{member_name, class_name, property_name, static_name, setter_name, load_name, store_name, element_setter}
use Rattle.sj_emit_expr_spec.specs.Tests.{test_name, cast_name}
use Rattle.sj_mangling.specs.Bindings.{function_name, class_binding, method_binding}
use Rattle.sj_mangling.specs.declared.bindings.ClassBinding.TheVariants.{Constants}
use Rattle.sj_mangling.specs.declared.bindings.MethodBinding.{MethodBinding}
use Rattle.sj_mangling.specs.declared.bindings.MethodBinding.TheVariants.{Entry, Dispatch, Reflective}
use Rattle.sj_mangling.specs.Mangling.{is_alphanumeric, mangled_byte, mangled}
use Rattle.sj_mangling.specs.Numerals.{number_text}
use Rattle.sj_names.specs.Bases.{spelled_base}
use Rattle.sj_names.specs.MethodNames.{spelled_method, spelled_parameters, spelled_result}
use Rattle.sj_names.specs.References.{spelled}
use Rattle.sj_names.specs.declared.references.BaseRef.{BaseRef}
use Rattle.sj_names.specs.declared.references.BaseRef.TheVariants as bases
use Rattle.sj_names.specs.declared.references.TypeRef.{TypeRef}
use Rattle.sj_names.specs.declared.references.TypeRef.TheVariants as types
use Rattle.sj_names.specs.declared.method_names.Member.{Member}
use Rattle.sj_names.specs.declared.method_names.MethodName.{MethodName}
use Rattle.sj_names.specs.declared.method_names.Namespace.{Namespace}
use Rattle.sj_names.specs.declared.method_names.Namespace.TheVariants.{Public, PublicStatic, Private, PrivateStatic, Constructor}
use Rattle.sj_trees.specs.declared.types.IrType.{IrType}
use Rattle.sj_trees.specs.declared.types.IrType.TheVariants.{Undefined, Boolean, Char, Byte, Short, Int, Long, String, Null, Class}
use Rattle.sj_emit_expr_pieces.specs.Ranges.{AreBytes, FitsBase, FitsReference, FitsType, FitsMethodName, FitsMember, FitsVariable}

-- spellings are texts of bytes
abbrev IsByte : ℕ → Type 0
IsByte b = b < 2 ^ 8

letter-bytes : (b : ℕ) → b < 2 ^ 8 → AreBytes (b ∷ [])
letter-bytes b h = All-cons IsByte b [] h (All-nil IsByte)

base-bytes : (r : BaseRef) → FitsBase r → AreBytes (spelled_base r)
base-bytes bases.Boolean h = letter-bytes 90 (omega arith)
base-bytes bases.Char h = letter-bytes 67 (omega arith)
base-bytes bases.Byte h = letter-bytes 66 (omega arith)
base-bytes bases.Short h = letter-bytes 83 (omega arith)
base-bytes bases.Int h = letter-bytes 73 (omega arith)
base-bytes bases.Long h = letter-bytes 74 (omega arith)
base-bytes (bases.Class name) h = All-cons IsByte 76 name (omega arith) h

replicated-bytes : (n b : ℕ) → b < 2 ^ 8 → AreBytes (replicate n b)
replicated-bytes zero b h = All-nil IsByte
replicated-bytes (suc n) b h = All-cons IsByte b (replicate n b) h (replicated-bytes n b h)

pub reference-bytes : (r : TypeRef) → FitsReference r → AreBytes (spelled r)
reference-bytes types.Void h = letter-bytes 86 (omega arith)
reference-bytes types.Boolean h = letter-bytes 90 (omega arith)
reference-bytes types.Char h = letter-bytes 67 (omega arith)
reference-bytes types.Byte h = letter-bytes 66 (omega arith)
reference-bytes types.Short h = letter-bytes 83 (omega arith)
reference-bytes types.Int h = letter-bytes 73 (omega arith)
reference-bytes types.Long h = letter-bytes 74 (omega arith)
reference-bytes (types.Class name) h = All-cons IsByte 76 name (omega arith) h
reference-bytes (types.Array array) h = All-append IsByte (replicate array.dimensions 91) (spelled_base array.base) (replicated-bytes array.dimensions 91 (omega arith)) (base-bytes array.base h)

parameters-bytes : (rs : List TypeRef) → All FitsReference rs → AreBytes (spelled_parameters rs)
parameters-bytes [] h = All-nil IsByte
parameters-bytes (r ∷ rs) h = All-append IsByte (59 ∷ spelled r) (spelled_parameters rs) (All-cons IsByte 59 (spelled r) (omega arith) (reference-bytes r (All-head FitsReference r rs h))) (parameters-bytes rs (All-tail FitsReference r rs h))

result-bytes : (r : Option TypeRef) → IfSome r FitsReference → AreBytes (spelled_result r)
result-bytes None h = letter-bytes 82 (omega arith)
result-bytes (Some r) h = reference-bytes r h

pub spelled-bytes : (m : MethodName) → FitsMethodName m → AreBytes (spelled_method m)
spelled-bytes m h = All-append IsByte (m.simple ++ spelled_parameters m.params) (59 ∷ spelled_result m.result) (All-append IsByte m.simple (spelled_parameters m.params) h.0 (parameters-bytes m.params h.1)) (All-cons IsByte 59 (spelled_result m.result) (omega arith) (result-bytes m.result h.2))

-- letters, digits, `_` and `$` alone
abbrev pub AreCharacters : List ℕ → Type 0
AreCharacters xs = list_all is_name_character xs ≡ true

both : (xs ys : List ℕ) → AreCharacters xs → AreCharacters ys → AreCharacters (xs ++ ys)
both xs ys h k = list_all-append is_name_character xs ys ∙ (λ i. h i && k i)

digit-character : (n : ℕ) → n < 16 → is_name_character (digit_char n) ≡ true
digit-character n small = grind (arith, nat_tests)

byte-characters : (byte : ℕ) → byte < 2 ^ 8 → AreCharacters (mangled_byte byte)
byte-characters byte small = by_kind (is_alphanumeric byte) (byte == 46) (byte == 59) refl refl refl
  where
    by_kind : (plain dot semicolon : Bool) → is_alphanumeric byte ≡ plain → (byte == 46) ≡ dot → (byte == 59) ≡ semicolon → AreCharacters (mangled_byte byte)
    by_kind true dot semicolon is is_dot is_semicolon =
        let letter : is_name_character byte ≡ true = grind (arith, nat_tests) in
        rw is (ap (λ b. b && true) letter)
    by_kind false true semicolon is is_dot is_semicolon = rw (is, is_dot) refl
    by_kind false false true is is_dot is_semicolon = rw (is, is_dot, is_semicolon) refl
    by_kind false false false is is_dot is_semicolon =
        let high : is_name_character (digit_char (byte / 16)) ≡ true = digit-character (byte / 16) (omega arith) in
        let low : is_name_character (digit_char (byte % 16)) ≡ true = digit-character (byte % 16) (omega arith) in
        rw (is, is_dot, is_semicolon) (λ i. high i && (low i && true))

mangled-characters : (text : List ℕ) → AreBytes text → AreCharacters (mangled text)
mangled-characters [] bytes = refl
mangled-characters (byte ∷ text) bytes = both (mangled_byte byte) (mangled text) (byte-characters byte (All-head (λ b. b < 2 ^ 8) byte text bytes)) (mangled-characters text (All-tail (λ b. b < 2 ^ 8) byte text bytes))

digit-named : (d : ℕ) → d < 10 → is_name_character (48 + d) ≡ true
digit-named d small = grind (arith, nat_tests)

digits-characters : (ds : List ℕ) → AllBelowBase 10 ds → AreCharacters (map (λ d. 48 + d) ds)
digits-characters [] h = refl
digits-characters (d ∷ ds) h = λ i. digit-named d h.0 i && digits-characters ds h.1 i

pub numeral-characters : (n : ℕ) → AreCharacters (number_text n)
numeral-characters zero = refl
numeral-characters (suc n) = digits-characters (digits_of 10 (suc n)) (all_below_base_digits_of 10 (suc n) (omega arith))

pub variable-named : (x : Variable) → FitsVariable x → IsName (variable_name x)
variable-named (named x) bytes = rw (mangled-characters x bytes) refl
variable-named (numbered n) bytes = rw (numeral-characters n) refl
variable-named receiver bytes = refl

pub label-named : (l : List ℕ) → AreBytes l → IsName (label_name l)
label-named l bytes = rw (mangled-characters l bytes) refl

function-rest : (class : List ℕ) (method : MethodName) → AreBytes class → AreBytes (spelled_method method) → AreCharacters ((mangled class ++ codes "__") ++ mangled (spelled_method method))
function-rest class method bytes others = both (mangled class ++ codes "__") (mangled (spelled_method method)) (both (mangled class) (codes "__") (mangled-characters class bytes) refl) (mangled-characters (spelled_method method) others)

function-named : (namespace : Namespace) (class : List ℕ) (method : MethodName) → AreBytes class → AreBytes (spelled_method method) → IsName (function_name namespace class method)
function-named Public class method bytes others = rw (function-rest class method bytes others) refl
function-named PublicStatic class method bytes others = rw (function-rest class method bytes others) refl
function-named Private class method bytes others = rw (function-rest class method bytes others) refl
function-named PrivateStatic class method bytes others = rw (function-rest class method bytes others) refl
function-named Constructor class method bytes others = rw (function-rest class method bytes others) refl

pub class-named : (c : List ℕ) → AreBytes c → IsName (class_name c)
class-named c bytes = rw (mangled-characters c bytes) refl

pub constants-named : (c : List ℕ) → AreBytes c → IsName (class_binding Constants c)
constants-named c bytes = rw (mangled-characters c bytes) refl

pub load-named : (c : List ℕ) → AreBytes c → IsName (load_name c)
load-named c bytes = rw (mangled-characters c bytes) refl

pub store-named : (c : List ℕ) → AreBytes c → IsName (store_name c)
store-named c bytes = rw (mangled-characters c bytes) refl

pub test-named : (t : IrType) → FitsType t → IsName (test_name t)
test-named Undefined h = refl
test-named Boolean h = refl
test-named Char h = refl
test-named Byte h = refl
test-named Short h = refl
test-named Int h = refl
test-named Long h = refl
test-named (Class c) h = rw (mangled-characters c h) refl
test-named _ h = refl

pub cast-named : (t : IrType) → FitsType t → IsName (cast_name t)
cast-named Undefined h = refl
cast-named Boolean h = refl
cast-named Char h = refl
cast-named Byte h = refl
cast-named Short h = refl
cast-named Int h = refl
cast-named Long h = refl
cast-named (Class c) h = rw (mangled-characters c h) refl
cast-named _ h = refl

pub element-setter-named : (t : IrType) → IsName (element_setter t)
element-setter-named Undefined = refl
element-setter-named Boolean = refl
element-setter-named Char = refl
element-setter-named Byte = refl
element-setter-named Short = refl
element-setter-named Int = refl
element-setter-named Long = refl
element-setter-named String = refl
element-setter-named Null = refl
element-setter-named _ = refl

field-rest : (c f : List ℕ) → AreBytes c → AreBytes f → AreCharacters ((mangled c ++ codes "__") ++ mangled f)
field-rest c f bytes others = both (mangled c ++ codes "__") (mangled f) (both (mangled c) (codes "__") (mangled-characters c bytes) refl) (mangled-characters f others)

pub property-named : (c f : List ℕ) → AreBytes c → AreBytes f → IsProperty (property_name c f)
property-named c f bytes others = rw (field-rest c f bytes others) refl

pub static-named : (c f : List ℕ) → AreBytes c → AreBytes f → IsName (static_name c f)
static-named c f bytes others = rw (field-rest c f bytes others) refl

pub setter-named : (c f : List ℕ) → AreBytes c → AreBytes f → IsName (setter_name c f)
setter-named c f bytes others = rw (field-rest c f bytes others) refl

method-rest : (m : MethodName) → FitsMethodName m → AreCharacters (mangled (spelled_method m))
method-rest m h = mangled-characters (spelled_method m) (spelled-bytes m h)

pub method-named : (binding : MethodBinding) (m : MethodName) → FitsMethodName m → IsName (method_binding binding m)
method-named Entry m h = rw (method-rest m h) refl
method-named Dispatch m h = rw (method-rest m h) refl
method-named Reflective m h = rw (method-rest m h) refl

pub entry-named : (m : MethodName) → FitsMethodName m → IsProperty (method_binding Entry m)
entry-named m h = rw (method-rest m h) refl

pub member-named : (m : Member) → FitsMember m → IsName (member_name m)
member-named m h = function-named m.namespace m.class m.method h.0 (spelled-bytes m.method h.1)
