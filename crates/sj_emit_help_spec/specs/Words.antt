-- Names and small expressions that helpers and the pieces of classes are made of.
use Rattle.std.specs.Prelude.{ℕ, List, [], ◌∷◌, ◌++◌, codes, map, zero, suc, length}
use Rattle.std.specs.Char.Escape.{encode_utf16}
use Rattle.std.specs.List.{flat_map}
use Rattle.std.specs.Str.{chars}
use Rattle.js_tree.specs.Terms.{Name, Expression, Expressions, null_literal, text_literal, name_use, call_of, binary_of, unary_of, Statement, Statements, no_statements, statement, return_of}
use Rattle.js_tree.specs.Views.{expressions_of, statements_of}
use Rattle.js_tree.specs.declared.operators.BinaryOperator.TheVariants.{StrictEqual, StrictNotEqual, And, Or}
use Rattle.js_tree.specs.declared.operators.UnaryOperator.TheVariants.{TypeOf}
use Rattle.js_tree.specs.declared.items.Binding.{Binding}
use Rattle.sj_mangling.specs.Numerals.{number_text}
use Rattle.sj_mangling.specs.Bindings.{class_binding, method_binding, function_name}
use Rattle.sj_mangling.specs.declared.bindings.ClassBinding.TheVariants.{Constants, Class, Marker}
use Rattle.sj_mangling.specs.declared.bindings.MethodBinding.TheVariants.{Entry}
use Rattle.sj_names.specs.declared.method_names.MethodName.{MethodName}
use Rattle.sj_names.specs.declared.method_names.Namespace.TheVariants.{Public}
use Rattle.sj_emit_help_spec.specs.declared.kinds.Kind.{Kind}
use Rattle.sj_emit_help_spec.specs.declared.kinds.Kind.TheVariants as kinds

-- the class of each kind of primitive values
abbrev pub kind_class : Kind → Name
kind_class kinds.Undefined = codes "java.lang.Void"
kind_class kinds.Boolean = codes "java.lang.Boolean"
kind_class kinds.Char = codes "java.lang.Character"
kind_class kinds.Byte = codes "java.lang.Byte"
kind_class kinds.Short = codes "java.lang.Short"
kind_class kinds.Int = codes "java.lang.Integer"
kind_class kinds.Long = codes "java.lang.Long"
kind_class kinds.Text = codes "java.lang.String"

abbrev pub letter : Kind → Name
letter kinds.Undefined = codes "V"
letter kinds.Boolean = codes "Z"
letter kinds.Char = codes "C"
letter kinds.Byte = codes "B"
letter kinds.Short = codes "S"
letter kinds.Int = codes "I"
letter kinds.Long = codes "J"
letter kinds.Text = codes "T"

abbrev pub all_kinds : List Kind
all_kinds = kinds.Undefined ∷ kinds.Boolean ∷ kinds.Char ∷ kinds.Byte ∷ kinds.Short ∷ kinds.Int ∷ kinds.Long ∷ kinds.Text ∷ []

-- the kinds that a call tells apart: a byte or a short is told as an int
abbrev pub told_kinds : List Kind
told_kinds = kinds.Undefined ∷ kinds.Boolean ∷ kinds.Char ∷ kinds.Int ∷ kinds.Long ∷ kinds.Text ∷ []

-- the kinds that a test of a class tells by their words; a boxed char is an object, and has its markers
abbrev pub worded_kinds : List Kind
worded_kinds = kinds.Undefined ∷ kinds.Boolean ∷ kinds.Int ∷ kinds.Long ∷ kinds.Text ∷ []

abbrev pub is_name : Kind → Name
is_name k = codes "$is" ++ letter k

abbrev pub as_name : Kind → Name
as_name k = codes "$as" ++ letter k

abbrev pub object_class : Name
object_class = codes "java.lang.Object"

abbrev pub constants_name : Name → Name
constants_name = class_binding Constants

abbrev pub class_name : Name → Name
class_name = class_binding Class

abbrev pub marker : Name → Name
marker = class_binding Marker

abbrev pub entry_name : MethodName → Name
entry_name = method_binding Entry

abbrev pub public_function : Name → MethodName → Name
public_function = function_name Public

-- `a0`, `a1`, ..
abbrev pub parameter : ℕ → Name
parameter n = codes "a" ++ number_text n

abbrev pub first_parameters : ℕ → List Name
first_parameters zero = []
first_parameters (suc n) = first_parameters n ++ parameter n ∷ []

abbrev pub parameters_of : MethodName → List Name
parameters_of m = first_parameters (length m.params)

abbrev pub uses : List Name → Expressions
uses xs = expressions_of (map name_use xs)

abbrev pub x : Expression
x = name_use (codes "x")

abbrev pub call1 : Name → Expression → Expression
call1 f e = call_of f (expressions_of (e ∷ []))

abbrev pub body_of : List Statement → Statements
body_of = statements_of

abbrev pub only_return : Expression → Statements
only_return e = statement (return_of e) no_statements

abbrev pub not_null : Expression → Expression
not_null e = binary_of e StrictNotEqual null_literal

abbrev pub is_null : Expression → Expression
is_null e = binary_of e StrictEqual null_literal

-- `((typeof e) === "word")`
abbrev pub has_word : List ℕ → Expression → Expression
has_word word e = binary_of (unary_of TypeOf e) StrictEqual (text_literal word)

abbrev pub both : Expression → Expression → Expression
both e g = binary_of e And g

abbrev pub either : Expression → Expression → Expression
either e g = binary_of e Or g

abbrev pub bound : Name → Name → Binding
bound owner name = record { owner = owner; name = name }

abbrev pub helper : Name → Binding
helper name = record { owner = object_class; name = name }

-- the units of a text in UTF-8
abbrev pub units_of : List ℕ → List ℕ
units_of text = flat_map encode_utf16 (chars text)
