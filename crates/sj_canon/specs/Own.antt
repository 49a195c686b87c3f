-- Canonical bytes of what a tree has of its own.
use Rattle.std.specs.Prelude.{ℕ, ◌/◌, ◌%◌, List, [], ◌∷◌, ◌++◌, Option, Some, None}
use Rattle.sj_names.specs.declared.method_names.Namespace.{Namespace}
use Rattle.sj_trees.specs.declared.operators.BinaryOp.{BinaryOp}
use Rattle.sj_trees.specs.declared.operators.UnaryOp.{UnaryOp}
use Rattle.sj_trees.specs.Operators.{unary_code, binary_code}
use Rattle.tree_parts.specs.Own.{OwnParts}
use Rattle.sj_canon.specs.Numbers.{mark_byte, signed_bytes, text_bytes, list_bytes, option_bytes}
use Rattle.sj_canon.specs.Names.{array_bytes, type_bytes, method_name_bytes, namespace_byte}

-- a unit of a text, in two bytes
abbrev pub unit_bytes : ℕ → List ℕ
unit_bytes u = u % 256 ∷ u / 256 ∷ []

-- a code, or 0 where there is none
abbrev pub namespace_or_none : Option Namespace → ℕ
namespace_or_none None = 0
namespace_or_none (Some n) = namespace_byte n

abbrev pub unary_or_none : Option UnaryOp → ℕ
unary_or_none None = 0
unary_or_none (Some o) = unary_code o

abbrev pub binary_or_none : Option BinaryOp → ℕ
binary_or_none None = 0
binary_or_none (Some o) = binary_code o

unfoldable pub codes_bytes : OwnParts → List ℕ
codes_bytes o = o.form ∷ namespace_or_none o.namespace ∷ unary_or_none o.unary ∷ binary_or_none o.binary ∷ mark_byte o.mark ∷ []

unfoldable pub texts_bytes : OwnParts → List ℕ
texts_bytes o = text_bytes o.text ++ text_bytes o.class ++ text_bytes o.field

unfoldable pub references_bytes : OwnParts → List ℕ
references_bytes o = option_bytes method_name_bytes o.method ++ option_bytes array_bytes o.array ++ option_bytes type_bytes o.tpe

unfoldable pub values_bytes : OwnParts → List ℕ
values_bytes o = unit_bytes o.unit ++ signed_bytes o.number ++ list_bytes unit_bytes o.units

unfoldable pub own_bytes : OwnParts → List ℕ
own_bytes o = codes_bytes o ++ texts_bytes o ++ references_bytes o ++ values_bytes o
