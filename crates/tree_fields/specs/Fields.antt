-- The fields of a term, in the order in which files and listings have them.
use Rattle.std.specs.Prelude.{ℕ, ℤ, Bool, List, [], ◌∷◌, ◌+◌}
use Rattle.sj_names.specs.declared.method_names.MethodName.{MethodName}
use Rattle.sj_names.specs.declared.method_names.Namespace.{Namespace}
use Rattle.sj_names.specs.declared.references.ArrayRef.{ArrayRef}
use Rattle.sj_trees.specs.Term.{Term, Terms, Cases, var_def, skip, block_of, labeled, assign, return_to, if_then, while_loop, do_while, try_catch, try_finally, throw, match_on, new_object, load_module, store_module, select, select_static, apply, apply_statically, apply_static, unary_op, binary_op, new_array, array_value, array_length, array_select, is_instance_of, as_instance_of, undefined_literal, null_literal, boolean_literal, char_literal, byte_literal, short_literal, int_literal, long_literal, string_literal, var_ref, this_ref, log_line}
use Rattle.sj_trees.specs.View.{view, terms_view, cases_view}
use Rattle.sj_trees.specs.declared.operators.BinaryOp.{BinaryOp}
use Rattle.sj_trees.specs.declared.operators.UnaryOp.{UnaryOp}
use Rattle.sj_trees.specs.declared.positions.Position.{Position}
use Rattle.sj_trees.specs.declared.types.IrType.{IrType}
use Rattle.tree_parts.specs.Sizes.{size, size_of_all, size_of_cases}
use Rattle.tree_fields.specs.declared.fields.Field.{Field}
use Rattle.tree_fields.specs.declared.fields.Field.TheVariants as the

-- a field of a term, by its kind
pub data FieldTerm : Type 0 where
  no_field : FieldTerm
  position_field : Position → FieldTerm
  name_field : List ℕ → FieldTerm
  type_field : IrType → FieldTerm
  mark_field : Bool → FieldTerm
  method_field : MethodName → FieldTerm
  namespace_field : Namespace → FieldTerm
  unary_field : UnaryOp → FieldTerm
  binary_field : BinaryOp → FieldTerm
  array_field : ArrayRef → FieldTerm
  unit_field : ℕ → FieldTerm
  byte_field : ℤ → FieldTerm
  short_field : ℤ → FieldTerm
  int_field : ℤ → FieldTerm
  long_field : ℤ → FieldTerm
  text_field : List ℕ → FieldTerm
  tree_field : Term → FieldTerm
  trees_field : Terms → FieldTerm
  cases_field : Cases → FieldTerm

-- seven fields, of which the first is the position
abbrev pub seven : (p : Position) (a b c d e f : FieldTerm) → List FieldTerm
seven p a b c d e f = position_field p ∷ a ∷ b ∷ c ∷ d ∷ e ∷ f ∷ []

-- the fields of each form, with no field where there are fewer than seven
abbrev pub fields_of : Term → List FieldTerm
fields_of (var_def p x t b a) = seven p (name_field x) (type_field t) (mark_field b) (tree_field a) no_field no_field
fields_of (skip p) = seven p no_field no_field no_field no_field no_field no_field
fields_of (block_of p ts) = seven p (trees_field ts) no_field no_field no_field no_field no_field
fields_of (labeled p l t a) = seven p (name_field l) (type_field t) (tree_field a) no_field no_field no_field
fields_of (assign p a b) = seven p (tree_field a) (tree_field b) no_field no_field no_field no_field
fields_of (return_to p a l) = seven p (tree_field a) (name_field l) no_field no_field no_field no_field
fields_of (if_then p a b c t) = seven p (tree_field a) (tree_field b) (tree_field c) (type_field t) no_field no_field
fields_of (while_loop p a b) = seven p (tree_field a) (tree_field b) no_field no_field no_field no_field
fields_of (do_while p a b) = seven p (tree_field a) (tree_field b) no_field no_field no_field no_field
fields_of (try_catch p a x b t) = seven p (tree_field a) (name_field x) (tree_field b) (type_field t) no_field no_field
fields_of (try_finally p a b) = seven p (tree_field a) (tree_field b) no_field no_field no_field no_field
fields_of (throw p a) = seven p (tree_field a) no_field no_field no_field no_field no_field
fields_of (match_on p a cs b t) = seven p (tree_field a) (cases_field cs) (tree_field b) (type_field t) no_field no_field
fields_of (new_object p c g ts) = seven p (name_field c) (method_field g) (trees_field ts) no_field no_field no_field
fields_of (load_module p c) = seven p (name_field c) no_field no_field no_field no_field no_field
fields_of (store_module p c a) = seven p (name_field c) (tree_field a) no_field no_field no_field no_field
fields_of (select p a c f t) = seven p (tree_field a) (name_field c) (name_field f) (type_field t) no_field no_field
fields_of (select_static p c f t) = seven p (name_field c) (name_field f) (type_field t) no_field no_field no_field
fields_of (apply p a g ts t) = seven p (tree_field a) (method_field g) (trees_field ts) (type_field t) no_field no_field
fields_of (apply_statically p a c s g ts t) = seven p (tree_field a) (name_field c) (namespace_field s) (method_field g) (trees_field ts) (type_field t)
fields_of (apply_static p c s g ts t) = seven p (name_field c) (namespace_field s) (method_field g) (trees_field ts) (type_field t) no_field
fields_of (unary_op p o a) = seven p (unary_field o) (tree_field a) no_field no_field no_field no_field
fields_of (binary_op p o a b) = seven p (binary_field o) (tree_field a) (tree_field b) no_field no_field no_field
fields_of (new_array p r a) = seven p (array_field r) (tree_field a) no_field no_field no_field no_field
fields_of (array_value p r ts) = seven p (array_field r) (trees_field ts) no_field no_field no_field no_field
fields_of (array_length p a) = seven p (tree_field a) no_field no_field no_field no_field no_field
fields_of (array_select p a b t) = seven p (tree_field a) (tree_field b) (type_field t) no_field no_field no_field
fields_of (is_instance_of p a t) = seven p (tree_field a) (type_field t) no_field no_field no_field no_field
fields_of (as_instance_of p a t) = seven p (tree_field a) (type_field t) no_field no_field no_field no_field
fields_of (undefined_literal p) = seven p no_field no_field no_field no_field no_field no_field
fields_of (null_literal p) = seven p no_field no_field no_field no_field no_field no_field
fields_of (boolean_literal p b) = seven p (mark_field b) no_field no_field no_field no_field no_field
fields_of (char_literal p v) = seven p (unit_field v) no_field no_field no_field no_field no_field
fields_of (byte_literal p v) = seven p (byte_field v) no_field no_field no_field no_field no_field
fields_of (short_literal p v) = seven p (short_field v) no_field no_field no_field no_field no_field
fields_of (int_literal p v) = seven p (int_field v) no_field no_field no_field no_field no_field
fields_of (long_literal p v) = seven p (long_field v) no_field no_field no_field no_field no_field
fields_of (string_literal p u) = seven p (text_field u) no_field no_field no_field no_field no_field
fields_of (var_ref p x t) = seven p (name_field x) (type_field t) no_field no_field no_field no_field
fields_of (this_ref p t) = seven p (type_field t) no_field no_field no_field no_field no_field
fields_of (log_line p a) = seven p (tree_field a) no_field no_field no_field no_field no_field

-- what a contract sees of a field
abbrev pub field_seen : Field → FieldTerm
field_seen the.None = no_field
field_seen (the.Position p) = position_field p
field_seen (the.Name x) = name_field x.now
field_seen (the.Type t) = type_field t.now
field_seen (the.Mark b) = mark_field b
field_seen (the.Method g) = method_field g.now
field_seen (the.Namespace s) = namespace_field s
field_seen (the.Unary o) = unary_field o
field_seen (the.Binary o) = binary_field o
field_seen (the.Array r) = array_field r.now
field_seen (the.Unit v) = unit_field v
field_seen (the.Byte v) = byte_field v
field_seen (the.Short v) = short_field v
field_seen (the.Int v) = int_field v
field_seen (the.Long v) = long_field v
field_seen (the.Text u) = text_field u.now
field_seen (the.Tree a) = tree_field (view a.now)
field_seen (the.Trees ts) = trees_field (terms_view ts.now)
field_seen (the.Cases cs) = cases_field (cases_view cs.now)

-- how many trees a field is, and fields are
abbrev pub size_of_field : FieldTerm → ℕ
size_of_field (tree_field t) = size t
size_of_field (trees_field ts) = size_of_all ts
size_of_field (cases_field cs) = size_of_cases cs
size_of_field _ = 0

abbrev pub size_of_fields : List FieldTerm → ℕ
size_of_fields [] = 0
size_of_fields (f ∷ fs) = size_of_field f + size_of_fields fs
