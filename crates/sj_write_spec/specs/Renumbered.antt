-- Classes with other numbers of source files.
use Rattle.std.specs.Prelude.{ℕ, List, map, option_map}
use Rattle.sj_trees.specs.declared.positions.Position.{Position}
use Rattle.sj_trees.specs.declared.classes.FieldDef.{FieldDef}
use Rattle.sj_trees.specs.declared.classes.MethodDef.{MethodDef}
use Rattle.sj_trees.specs.declared.classes.ClassDef.{ClassDef}
use Rattle.sj_trees.specs.Term.{Term, Terms, Cases, no_terms, more_terms, no_cases, more_cases, var_def, skip, block_of, labeled, assign, return_to, if_then, while_loop, do_while, try_catch, try_finally, throw, match_on, new_object, load_module, store_module, select, select_static, apply, apply_statically, apply_static, unary_op, binary_op, new_array, array_value, array_length, array_select, is_instance_of, as_instance_of, undefined_literal, null_literal, boolean_literal, char_literal, byte_literal, short_literal, int_literal, long_literal, string_literal, var_ref, this_ref, log_line}

-- the position in the file of another number
abbrev pub renumbered_position : (ℕ → ℕ) → Position → Position
renumbered_position f p = record { file = f p.file; line = p.line; column = p.column }

abbrev mutual
  -- the tree with each position so
  pub renumbered : (ℕ → ℕ) → Term → Term
  renumbered f (var_def p name tpe mutable value) = var_def (renumbered_position f p) name tpe mutable (renumbered f value)
  renumbered f (skip p) = skip (renumbered_position f p)
  renumbered f (block_of p trees) = block_of (renumbered_position f p) (renumbered_all f trees)
  renumbered f (labeled p label tpe body) = labeled (renumbered_position f p) label tpe (renumbered f body)
  renumbered f (assign p target value) = assign (renumbered_position f p) (renumbered f target) (renumbered f value)
  renumbered f (return_to p value label) = return_to (renumbered_position f p) (renumbered f value) label
  renumbered f (if_then p condition consequent alternative tpe) = if_then (renumbered_position f p) (renumbered f condition) (renumbered f consequent) (renumbered f alternative) tpe
  renumbered f (while_loop p condition body) = while_loop (renumbered_position f p) (renumbered f condition) (renumbered f body)
  renumbered f (do_while p body condition) = do_while (renumbered_position f p) (renumbered f body) (renumbered f condition)
  renumbered f (try_catch p block name handler tpe) = try_catch (renumbered_position f p) (renumbered f block) name (renumbered f handler) tpe
  renumbered f (try_finally p block finalizer) = try_finally (renumbered_position f p) (renumbered f block) (renumbered f finalizer)
  renumbered f (throw p value) = throw (renumbered_position f p) (renumbered f value)
  renumbered f (match_on p selector cases default tpe) = match_on (renumbered_position f p) (renumbered f selector) (renumbered_cases f cases) (renumbered f default) tpe
  renumbered f (new_object p class method arguments) = new_object (renumbered_position f p) class method (renumbered_all f arguments)
  renumbered f (load_module p class) = load_module (renumbered_position f p) class
  renumbered f (store_module p class value) = store_module (renumbered_position f p) class (renumbered f value)
  renumbered f (select p qualifier class field tpe) = select (renumbered_position f p) (renumbered f qualifier) class field tpe
  renumbered f (select_static p class field tpe) = select_static (renumbered_position f p) class field tpe
  renumbered f (apply p receiver method arguments tpe) = apply (renumbered_position f p) (renumbered f receiver) method (renumbered_all f arguments) tpe
  renumbered f (apply_statically p receiver class namespace method arguments tpe) = apply_statically (renumbered_position f p) (renumbered f receiver) class namespace method (renumbered_all f arguments) tpe
  renumbered f (apply_static p class namespace method arguments tpe) = apply_static (renumbered_position f p) class namespace method (renumbered_all f arguments) tpe
  renumbered f (unary_op p operator operand) = unary_op (renumbered_position f p) operator (renumbered f operand)
  renumbered f (binary_op p operator left right) = binary_op (renumbered_position f p) operator (renumbered f left) (renumbered f right)
  renumbered f (new_array p array length) = new_array (renumbered_position f p) array (renumbered f length)
  renumbered f (array_value p array items) = array_value (renumbered_position f p) array (renumbered_all f items)
  renumbered f (array_length p array) = array_length (renumbered_position f p) (renumbered f array)
  renumbered f (array_select p array index tpe) = array_select (renumbered_position f p) (renumbered f array) (renumbered f index) tpe
  renumbered f (is_instance_of p value tpe) = is_instance_of (renumbered_position f p) (renumbered f value) tpe
  renumbered f (as_instance_of p value tpe) = as_instance_of (renumbered_position f p) (renumbered f value) tpe
  renumbered f (undefined_literal p) = undefined_literal (renumbered_position f p)
  renumbered f (null_literal p) = null_literal (renumbered_position f p)
  renumbered f (boolean_literal p value) = boolean_literal (renumbered_position f p) value
  renumbered f (char_literal p value) = char_literal (renumbered_position f p) value
  renumbered f (byte_literal p value) = byte_literal (renumbered_position f p) value
  renumbered f (short_literal p value) = short_literal (renumbered_position f p) value
  renumbered f (int_literal p value) = int_literal (renumbered_position f p) value
  renumbered f (long_literal p value) = long_literal (renumbered_position f p) value
  renumbered f (string_literal p value) = string_literal (renumbered_position f p) value
  renumbered f (var_ref p name tpe) = var_ref (renumbered_position f p) name tpe
  renumbered f (this_ref p tpe) = this_ref (renumbered_position f p) tpe
  renumbered f (log_line p value) = log_line (renumbered_position f p) (renumbered f value)

  -- each tree so
  pub renumbered_all : (ℕ → ℕ) → Terms → Terms
  renumbered_all f no_terms = no_terms
  renumbered_all f (more_terms e es) = more_terms (renumbered f e) (renumbered_all f es)

  -- each case so
  pub renumbered_cases : (ℕ → ℕ) → Cases → Cases
  renumbered_cases f no_cases = no_cases
  renumbered_cases f (more_cases keys e cs) = more_cases keys (renumbered f e) (renumbered_cases f cs)

-- members so
abbrev pub renumbered_field : (ℕ → ℕ) → FieldDef → FieldDef
renumbered_field f d = record { pos = renumbered_position f d.pos; is_static = d.is_static; mutable = d.mutable; name = d.name; tpe = d.tpe }

abbrev pub renumbered_method : (ℕ → ℕ) → MethodDef → MethodDef
renumbered_method f d = record { pos = renumbered_position f d.pos; namespace = d.namespace; name = d.name; params = d.params; result = d.result; body = option_map (renumbered f) d.body; hash = d.hash }

-- the class so, with these source files
abbrev pub renumbered_class : (ℕ → ℕ) → List (List ℕ) → ClassDef → ClassDef
renumbered_class f files c = record { pos = renumbered_position f c.pos; files = files; name = c.name; kind = c.kind; superclass = c.superclass; interfaces = c.interfaces; fields = map (renumbered_field f) c.fields; methods = map (renumbered_method f) c.methods }
