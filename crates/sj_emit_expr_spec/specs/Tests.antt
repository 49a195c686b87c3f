-- Tests, casts and identity: the functions that they call.
use Rattle.std.specs.Prelude.{ℕ, List, ◌++◌, pos, codes}
use Rattle.std.specs.Char.Escape.{encode_utf16}
use Rattle.std.specs.List.{flat_map}
use Rattle.std.specs.Str.{chars}
use Rattle.js_tree.specs.Terms.{Name, Expression, Expressions, number_literal, text_literal, name_use, call_of, no_expressions, expression}
use Rattle.sj_mangling.specs.Bindings.{class_binding}
use Rattle.sj_mangling.specs.declared.bindings.ClassBinding.TheVariants.{Constants, IsInstance, AsInstance}
use Rattle.sj_names.specs.Bases.{spelled_base}
use Rattle.sj_names.specs.References.{spelled_array}
use Rattle.sj_names.specs.declared.references.ArrayRef.{ArrayRef}
use Rattle.sj_names.specs.declared.references.BaseRef.{BaseRef}
use Rattle.sj_names.specs.declared.references.BaseRef.TheVariants as bases
use Rattle.sj_desugar_spec.specs.IrType.{IrType}
use Rattle.sj_desugar_spec.specs.IrTypeVariants.{Any, Undefined, Boolean, Char, Byte, Short, Int, Long, Class, Array}

-- the letter of a primitive type or of arrays, by which the helpers for its values are named
abbrev pub kind_letter : IrType → Name
kind_letter Undefined = codes "V"
kind_letter Boolean = codes "Z"
kind_letter Char = codes "C"
kind_letter Byte = codes "B"
kind_letter Short = codes "S"
kind_letter Int = codes "I"
kind_letter Long = codes "J"
kind_letter (Array r) = codes "A"
kind_letter _ = codes "T"

-- the function that tests for a type, and the one that casts to it
abbrev pub test_name : IrType → Name
test_name (Class c) = class_binding IsInstance c
test_name t = codes "$is" ++ kind_letter t

abbrev pub cast_name : IrType → Name
cast_name (Class c) = class_binding AsInstance c
cast_name t = codes "$as" ++ kind_letter t

abbrev pub call_of_one : Name → Expression → Expression
call_of_one f e = call_of f (expression e no_expressions)

-- the base of a type of arrays: the letter of a primitive one as a text, and the constants of a class
abbrev pub base_template : BaseRef → Expression
base_template (bases.Class c) = name_use (class_binding Constants c)
base_template b = text_literal (spelled_base b)

-- the arguments that tell a type of arrays, in front of others: how many dimensions it has, and its base
abbrev pub of_array : ArrayRef → Expressions → Expressions
of_array r es = expression (number_literal (pos r.dimensions)) (expression (base_template r.base) es)

-- the spelling of a reference to arrays in UTF-16
abbrev pub array_text : ArrayRef → List ℕ
array_text r = flat_map encode_utf16 (chars (spelled_array r))

abbrev pub test_template : IrType → Expression → Expression
test_template (Array r) e = call_of (test_name (Array r)) (expression e (of_array r no_expressions))
test_template t e = call_of_one (test_name t) e

-- a cast to any writes nothing, and one to a type of arrays has its spelling, which is told where it fails
abbrev pub cast_template : IrType → Expression → Expression
cast_template Any e = e
cast_template (Array r) e = call_of (cast_name (Array r)) (expression e (of_array r (expression (text_literal (array_text r)) no_expressions)))
cast_template t e = call_of_one (cast_name t) e

-- the helper that tells whether two values are the same
abbrev pub same_name : Name
same_name = codes "$eq"

abbrev pub same_template : Expression → Expression → Expression
same_template e g = call_of same_name (expression e (expression g no_expressions))
