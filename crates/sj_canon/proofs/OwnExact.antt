-- What a tree has of its own is told by what is written of it.
use Rattle.std.proofs.Common.{◌≡◌, ℕ, ◌/◌, ◌%◌, List, [], ◌∷◌, ◌++◌, Option, Some, None, refl, ap, arith, Bool, true, false, ◌==◌, if◌then◌else◌}
use Rattle.std.specs.Prelude.{ℤ}
use Rattle.sj_names.specs.declared.method_names.MethodName.{MethodName}
use Rattle.sj_names.specs.declared.method_names.Namespace.{Namespace}
use Rattle.sj_names.specs.declared.references.ArrayRef.{ArrayRef}
use Rattle.sj_trees.specs.declared.types.IrType.{IrType}
use Rattle.sj_trees.specs.declared.operators.BinaryOp.{BinaryOp}
use Rattle.sj_trees.specs.declared.operators.UnaryOp.{UnaryOp}
use Rattle.sj_trees.specs.Operators.{unary_with, binary_with}
use Rattle.tree_parts.specs.Own.{OwnParts}
use Rattle.sj_canon.specs.Numbers.{mark_byte, signed_bytes, text_bytes, list_bytes, option_bytes}
use Rattle.sj_canon.specs.Names.{array_bytes, type_bytes, method_name_bytes}
use Rattle.sj_canon.specs.Own.{unit_bytes, namespace_or_none, unary_or_none, binary_or_none, codes_bytes, texts_bytes, references_bytes, values_bytes, own_bytes}
use Rattle.sj_canon.proofs.Exact.{Shows, IsExact, both, two, of_part, seen_as, first_same, rest_same, byte_shows, text_exact, list_exact, option_exact, signed_exact}
use Rattle.sj_canon.proofs.NamesExact.{array_exact, type_exact, method_name_exact, namespace_with, namespace_is}

namespace_read : ℕ → Option Namespace
namespace_read n = if n == 0 then None else Some (namespace_with n)

namespace_found : (n : Option Namespace) → namespace_read (namespace_or_none n) ≡ n
unfolding namespace_read
namespace_found None = refl
namespace_found (Some Namespace.Public) = ap (λ (n : Namespace). Some n) (namespace_is Namespace.Public)
namespace_found (Some Namespace.PublicStatic) = ap (λ (n : Namespace). Some n) (namespace_is Namespace.PublicStatic)
namespace_found (Some Namespace.Private) = ap (λ (n : Namespace). Some n) (namespace_is Namespace.Private)
namespace_found (Some Namespace.PrivateStatic) = ap (λ (n : Namespace). Some n) (namespace_is Namespace.PrivateStatic)
namespace_found (Some Namespace.Constructor) = ap (λ (n : Namespace). Some n) (namespace_is Namespace.Constructor)

unary_found : (o : Option UnaryOp) → unary_with (unary_or_none o) ≡ o
unary_found None = refl
unary_found (Some UnaryOp.BooleanNot) = refl
unary_found (Some UnaryOp.CharToInt) = refl
unary_found (Some UnaryOp.ByteToInt) = refl
unary_found (Some UnaryOp.ShortToInt) = refl
unary_found (Some UnaryOp.IntToLong) = refl
unary_found (Some UnaryOp.IntToChar) = refl
unary_found (Some UnaryOp.IntToByte) = refl
unary_found (Some UnaryOp.IntToShort) = refl
unary_found (Some UnaryOp.LongToInt) = refl

binary_found : (o : Option BinaryOp) → binary_with (binary_or_none o) ≡ o
binary_found None = refl
binary_found (Some BinaryOp.StrictEqual) = refl
binary_found (Some BinaryOp.StrictNotEqual) = refl
binary_found (Some BinaryOp.StringConcatenate) = refl
binary_found (Some BinaryOp.BooleanEqual) = refl
binary_found (Some BinaryOp.BooleanNotEqual) = refl
binary_found (Some BinaryOp.BooleanOr) = refl
binary_found (Some BinaryOp.BooleanAnd) = refl
binary_found (Some BinaryOp.IntAdd) = refl
binary_found (Some BinaryOp.IntSubtract) = refl
binary_found (Some BinaryOp.IntMultiply) = refl
binary_found (Some BinaryOp.IntDivide) = refl
binary_found (Some BinaryOp.IntRemainder) = refl
binary_found (Some BinaryOp.IntOr) = refl
binary_found (Some BinaryOp.IntAnd) = refl
binary_found (Some BinaryOp.IntXor) = refl
binary_found (Some BinaryOp.IntShiftLeft) = refl
binary_found (Some BinaryOp.IntShiftRightLogical) = refl
binary_found (Some BinaryOp.IntShiftRightArithmetic) = refl
binary_found (Some BinaryOp.IntEqual) = refl
binary_found (Some BinaryOp.IntNotEqual) = refl
binary_found (Some BinaryOp.IntLess) = refl
binary_found (Some BinaryOp.IntLessOrEqual) = refl
binary_found (Some BinaryOp.IntGreater) = refl
binary_found (Some BinaryOp.IntGreaterOrEqual) = refl
binary_found (Some BinaryOp.LongAdd) = refl
binary_found (Some BinaryOp.LongSubtract) = refl
binary_found (Some BinaryOp.LongMultiply) = refl
binary_found (Some BinaryOp.LongDivide) = refl
binary_found (Some BinaryOp.LongRemainder) = refl
binary_found (Some BinaryOp.LongOr) = refl
binary_found (Some BinaryOp.LongAnd) = refl
binary_found (Some BinaryOp.LongXor) = refl
binary_found (Some BinaryOp.LongShiftLeft) = refl
binary_found (Some BinaryOp.LongShiftRightLogical) = refl
binary_found (Some BinaryOp.LongShiftRightArithmetic) = refl
binary_found (Some BinaryOp.LongEqual) = refl
binary_found (Some BinaryOp.LongNotEqual) = refl
binary_found (Some BinaryOp.LongLess) = refl
binary_found (Some BinaryOp.LongLessOrEqual) = refl
binary_found (Some BinaryOp.LongGreater) = refl
binary_found (Some BinaryOp.LongGreaterOrEqual) = refl

mark_read : ℕ → Bool
mark_read n = n == 1

mark_found : (m : Bool) → mark_read (mark_byte m) ≡ m
unfolding mark_read
mark_found true = refl
mark_found false = refl

pub mark_shows : Shows (λ (m : Bool). m) (λ (m : Bool). mark_byte m ∷ [])
mark_shows = seen_as mark_byte (λ m. m) mark_read (λ (m : Bool). mark_byte m ∷ []) mark_found (byte_shows mark_byte)

namespace_or_none_shows : Shows (λ (n : Option Namespace). n) (λ (n : Option Namespace). namespace_or_none n ∷ [])
namespace_or_none_shows = seen_as namespace_or_none (λ n. n) namespace_read (λ (n : Option Namespace). namespace_or_none n ∷ []) namespace_found (byte_shows namespace_or_none)

unary_shows : Shows (λ (o : Option UnaryOp). o) (λ (o : Option UnaryOp). unary_or_none o ∷ [])
unary_shows = seen_as unary_or_none (λ o. o) unary_with (λ (o : Option UnaryOp). unary_or_none o ∷ []) unary_found (byte_shows unary_or_none)

binary_shows : Shows (λ (o : Option BinaryOp). o) (λ (o : Option BinaryOp). binary_or_none o ∷ [])
binary_shows = seen_as binary_or_none (λ o. o) binary_with (λ (o : Option BinaryOp). binary_or_none o ∷ []) binary_found (byte_shows binary_or_none)

unit_exact : IsExact unit_bytes
unit_exact = record {
  same = λ u v r s e.
      let low : u % 256 ≡ v % 256 = first_same e in
      let more = rest_same e in
      let high : u / 256 ≡ v / 256 = first_same more in
      (omega arith, rest_same more);
}

-- four groups
codes_1 : Shows (λ (o : OwnParts). two o.form o.namespace) (λ (o : OwnParts). (o.form ∷ []) ++ (namespace_or_none o.namespace ∷ []))
codes_1 = both (λ (o : OwnParts). o.form) (λ (o : OwnParts). o.namespace) (λ (o : OwnParts). o.form ∷ []) (λ (o : OwnParts). namespace_or_none o.namespace ∷ []) (byte_shows (λ (o : OwnParts). o.form)) (of_part (λ (o : OwnParts). o.namespace) (λ n. n) (λ (n : Option Namespace). namespace_or_none n ∷ []) namespace_or_none_shows)

codes_2 : Shows (λ (o : OwnParts). two o.unary o.binary) (λ (o : OwnParts). (unary_or_none o.unary ∷ []) ++ (binary_or_none o.binary ∷ []))
codes_2 = both (λ (o : OwnParts). o.unary) (λ (o : OwnParts). o.binary) (λ (o : OwnParts). unary_or_none o.unary ∷ []) (λ (o : OwnParts). binary_or_none o.binary ∷ []) (of_part (λ (o : OwnParts). o.unary) (λ n. n) (λ (n : Option UnaryOp). unary_or_none n ∷ []) unary_shows) (of_part (λ (o : OwnParts). o.binary) (λ n. n) (λ (n : Option BinaryOp). binary_or_none n ∷ []) binary_shows)

codes_3 : Shows (λ (o : OwnParts). two (two o.unary o.binary) o.mark) (λ (o : OwnParts). (unary_or_none o.unary ∷ binary_or_none o.binary ∷ []) ++ (mark_byte o.mark ∷ []))
codes_3 = both (λ (o : OwnParts). two o.unary o.binary) (λ (o : OwnParts). o.mark) (λ (o : OwnParts). unary_or_none o.unary ∷ binary_or_none o.binary ∷ []) (λ (o : OwnParts). mark_byte o.mark ∷ []) codes_2 (of_part (λ (o : OwnParts). o.mark) (λ n. n) (λ (n : Bool). mark_byte n ∷ []) mark_shows)

codes_show : Shows (λ (o : OwnParts). two (two o.form o.namespace) (two (two o.unary o.binary) o.mark)) codes_bytes
unfolding codes_bytes
codes_show = both (λ (o : OwnParts). two o.form o.namespace) (λ (o : OwnParts). two (two o.unary o.binary) o.mark) (λ (o : OwnParts). o.form ∷ namespace_or_none o.namespace ∷ []) (λ (o : OwnParts). unary_or_none o.unary ∷ binary_or_none o.binary ∷ mark_byte o.mark ∷ []) codes_1 codes_3

texts_1 : Shows (λ (o : OwnParts). two o.text o.class) (λ (o : OwnParts). text_bytes o.text ++ text_bytes o.class)
texts_1 = both (λ (o : OwnParts). o.text) (λ (o : OwnParts). o.class) (λ (o : OwnParts). text_bytes o.text) (λ (o : OwnParts). text_bytes o.class) (of_part (λ (o : OwnParts). o.text) (λ t. t) text_bytes text_exact) (of_part (λ (o : OwnParts). o.class) (λ t. t) text_bytes text_exact)

texts_show : Shows (λ (o : OwnParts). two (two o.text o.class) o.field) texts_bytes
unfolding texts_bytes
texts_show = both (λ (o : OwnParts). two o.text o.class) (λ (o : OwnParts). o.field) (λ (o : OwnParts). text_bytes o.text ++ text_bytes o.class) (λ (o : OwnParts). text_bytes o.field) texts_1 (of_part (λ (o : OwnParts). o.field) (λ t. t) text_bytes text_exact)

references_1 : Shows (λ (o : OwnParts). two o.method o.array) (λ (o : OwnParts). option_bytes method_name_bytes o.method ++ option_bytes array_bytes o.array)
references_1 = both (λ (o : OwnParts). o.method) (λ (o : OwnParts). o.array) (λ (o : OwnParts). option_bytes method_name_bytes o.method) (λ (o : OwnParts). option_bytes array_bytes o.array) (of_part (λ (o : OwnParts). o.method) (λ t. t) (option_bytes method_name_bytes) (option_exact method_name_bytes method_name_exact)) (of_part (λ (o : OwnParts). o.array) (λ t. t) (option_bytes array_bytes) (option_exact array_bytes array_exact))

references_show : Shows (λ (o : OwnParts). two (two o.method o.array) o.tpe) references_bytes
unfolding references_bytes
references_show = both (λ (o : OwnParts). two o.method o.array) (λ (o : OwnParts). o.tpe) (λ (o : OwnParts). option_bytes method_name_bytes o.method ++ option_bytes array_bytes o.array) (λ (o : OwnParts). option_bytes type_bytes o.tpe) references_1 (of_part (λ (o : OwnParts). o.tpe) (λ t. t) (option_bytes type_bytes) (option_exact type_bytes type_exact))

values_1 : Shows (λ (o : OwnParts). two o.unit o.number) (λ (o : OwnParts). unit_bytes o.unit ++ signed_bytes o.number)
values_1 = both (λ (o : OwnParts). o.unit) (λ (o : OwnParts). o.number) (λ (o : OwnParts). unit_bytes o.unit) (λ (o : OwnParts). signed_bytes o.number) (of_part (λ (o : OwnParts). o.unit) (λ t. t) unit_bytes unit_exact) (of_part (λ (o : OwnParts). o.number) (λ t. t) signed_bytes signed_exact)

values_show : Shows (λ (o : OwnParts). two (two o.unit o.number) o.units) values_bytes
unfolding values_bytes
values_show = both (λ (o : OwnParts). two o.unit o.number) (λ (o : OwnParts). o.units) (λ (o : OwnParts). unit_bytes o.unit ++ signed_bytes o.number) (λ (o : OwnParts). list_bytes unit_bytes o.units) values_1 (of_part (λ (o : OwnParts). o.units) (λ t. t) (list_bytes unit_bytes) (list_exact unit_bytes unit_exact))

-- all of them
own_view : OwnParts → ((((ℕ × Option Namespace) × ((Option UnaryOp × Option BinaryOp) × Bool)) × ((List ℕ × List ℕ) × List ℕ)) × ((Option MethodName × Option ArrayRef) × Option IrType)) × ((ℕ × ℤ) × List ℕ)
own_view o = (((((o.form, o.namespace), ((o.unary, o.binary), o.mark)), ((o.text, o.class), o.field)), ((o.method, o.array), o.tpe)), ((o.unit, o.number), o.units))

own_with : ((((ℕ × Option Namespace) × ((Option UnaryOp × Option BinaryOp) × Bool)) × ((List ℕ × List ℕ) × List ℕ)) × ((Option MethodName × Option ArrayRef) × Option IrType)) × ((ℕ × ℤ) × List ℕ) → OwnParts
own_with v = record { form = v.0.0.0.0.0; text = v.0.0.1.0.0; class = v.0.0.1.0.1; field = v.0.0.1.1; method = v.0.1.0.0; namespace = v.0.0.0.0.1; array = v.0.1.0.1; tpe = v.0.1.1; mark = v.0.0.0.1.1; unary = v.0.0.0.1.0.0; binary = v.0.0.0.1.0.1; unit = v.1.0.0; number = v.1.0.1; units = v.1.1 }

own_found : (o : OwnParts) → own_with (own_view o) ≡ o
unfolding own_with own_view
own_found o = refl

own_shows : Shows own_view own_bytes
unfolding own_view own_bytes
own_shows = both (λ (o : OwnParts). two (two (two (two o.form o.namespace) (two (two o.unary o.binary) o.mark)) (two (two o.text o.class) o.field)) (two (two o.method o.array) o.tpe)) (λ (o : OwnParts). two (two o.unit o.number) o.units) (λ (o : OwnParts). (codes_bytes o ++ texts_bytes o) ++ references_bytes o) values_bytes
    (both (λ (o : OwnParts). two (two (two o.form o.namespace) (two (two o.unary o.binary) o.mark)) (two (two o.text o.class) o.field)) (λ (o : OwnParts). two (two o.method o.array) o.tpe) (λ (o : OwnParts). codes_bytes o ++ texts_bytes o) references_bytes
    (both (λ (o : OwnParts). two (two o.form o.namespace) (two (two o.unary o.binary) o.mark)) (λ (o : OwnParts). two (two o.text o.class) o.field) codes_bytes texts_bytes codes_show texts_show) references_show) values_show

pub own_exact : IsExact own_bytes
own_exact = seen_as own_view (λ o. o) own_with own_bytes own_found own_shows
