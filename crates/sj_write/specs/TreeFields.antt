-- The fields of a term as fields of a file. Clauses of private functions alone cite these words: nothing here is to be believed.
use Rattle.std.specs.Prelude.{ℕ, List}
use Rattle.std.specs.Int.{w8, w16, w32, w64}
use Rattle.sj_trees.specs.Operators.{unary_code, binary_code}
use Rattle.sj_write_spec.specs.Fields as file
use Rattle.sj_write_spec.specs.Fields.{Fields, nothing, number_field, byte, mark, signed, each, position_fields}
use Rattle.sj_write_spec.specs.References.{type_fields, array_fields}
use Rattle.sj_write_spec.specs.Trees.{namespace_code, term_fields, terms_fields, cases_fields}
use Rattle.tree_fields.specs.Fields.{FieldTerm, no_field, position_field, name_field, type_field, mark_field, method_field, namespace_field, unary_field, binary_field, array_field, unit_field, byte_field, short_field, int_field, long_field, text_field, tree_field, trees_field, cases_field}

-- one field, with these source files
abbrev pub field_written : List (List ℕ) → FieldTerm → Fields
field_written sources no_field = nothing
field_written sources (position_field p) = position_fields sources p
field_written sources (name_field x) = file.name_field x
field_written sources (type_field t) = type_fields t
field_written sources (mark_field b) = mark b
field_written sources (method_field g) = file.method_field g
field_written sources (namespace_field s) = byte (namespace_code s)
field_written sources (unary_field o) = byte (unary_code o)
field_written sources (binary_field o) = byte (binary_code o)
field_written sources (array_field r) = array_fields r
field_written sources (unit_field v) = number_field 2 v
field_written sources (byte_field v) = signed w8 1 v
field_written sources (short_field v) = signed w16 2 v
field_written sources (int_field v) = signed w32 4 v
field_written sources (long_field v) = signed w64 8 v
field_written sources (text_field u) = file.string_field u
field_written sources (tree_field t) = term_fields sources t
field_written sources (trees_field ts) = terms_fields sources ts
field_written sources (cases_field cs) = cases_fields sources cs

abbrev pub fields_written : List (List ℕ) → List FieldTerm → Fields
fields_written sources fs = each (field_written sources) fs
