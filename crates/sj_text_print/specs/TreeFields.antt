-- The fields of a term as parts of its listing. Clauses of private functions alone cite these words: nothing here is to be believed.
use Rattle.std.specs.Prelude.{List, [], ◌∷◌, ℕ, codes}
use Rattle.js_tree.specs.Texts.{put_text}
use Rattle.js_tree.specs.Written.{Putting, put, nothing, ◌▸◌}
use Rattle.sj_text_spec.specs.Texts.{put_bracketed, put_name, put_method_name, put_array, put_mark, put_natural, put_integer, put_unary_op, put_binary_op, put_namespace, put_type, put_tree, put_trees, put_cases}
use Rattle.sj_trees.specs.Term.{Term, var_def, skip, block_of, labeled, assign, return_to, if_then, while_loop, do_while, try_catch, try_finally, throw, match_on, new_object, load_module, store_module, select, select_static, apply, apply_statically, apply_static, unary_op, binary_op, new_array, array_value, array_length, array_select, is_instance_of, as_instance_of, undefined_literal, null_literal, boolean_literal, char_literal, byte_literal, short_literal, int_literal, long_literal, string_literal, var_ref, this_ref, log_line}
use Rattle.tree_fields.specs.Fields.{FieldTerm, no_field, position_field, name_field, type_field, mark_field, method_field, namespace_field, unary_field, binary_field, array_field, unit_field, byte_field, short_field, int_field, long_field, text_field, tree_field, trees_field, cases_field}

-- one field behind a space; a position is not in a listing
abbrev pub put_field : FieldTerm → Putting
put_field no_field = nothing
put_field (position_field p) = nothing
put_field (name_field x) = put (codes " ") ▸ put_name x
put_field (type_field t) = put (codes " ") ▸ put_type t
put_field (mark_field b) = put (codes " ") ▸ put_mark b
put_field (method_field g) = put (codes " ") ▸ put_method_name g
put_field (namespace_field s) = put (codes " ") ▸ put_namespace s
put_field (unary_field o) = put (codes " ") ▸ put_unary_op o
put_field (binary_field o) = put (codes " ") ▸ put_binary_op o
put_field (array_field r) = put (codes " ") ▸ put_array r
put_field (unit_field v) = put (codes " ") ▸ put_natural v
put_field (byte_field v) = put (codes " ") ▸ put_integer v
put_field (short_field v) = put (codes " ") ▸ put_integer v
put_field (int_field v) = put (codes " ") ▸ put_integer v
put_field (long_field v) = put (codes " ") ▸ put_integer v
put_field (text_field u) = put (codes " ") ▸ put_text u
put_field (tree_field t) = put (codes " ") ▸ put_tree t
put_field (trees_field ts) = put (codes " ") ▸ put_bracketed (put_trees ts)
put_field (cases_field cs) = put (codes " ") ▸ put_bracketed (put_cases cs)

abbrev pub put_fields : List FieldTerm → Putting
put_fields [] = nothing
put_fields (f ∷ fs) = put_field f ▸ put_fields fs

-- the word of a term's form
abbrev pub word_of : Term → List ℕ
word_of (var_def _ _ _ _ _) = codes "VarDef"
word_of (skip _) = codes "Skip"
word_of (block_of _ _) = codes "Block"
word_of (labeled _ _ _ _) = codes "Labeled"
word_of (assign _ _ _) = codes "Assign"
word_of (return_to _ _ _) = codes "Return"
word_of (if_then _ _ _ _ _) = codes "If"
word_of (while_loop _ _ _) = codes "While"
word_of (do_while _ _ _) = codes "DoWhile"
word_of (try_catch _ _ _ _ _) = codes "TryCatch"
word_of (try_finally _ _ _) = codes "TryFinally"
word_of (throw _ _) = codes "Throw"
word_of (match_on _ _ _ _ _) = codes "Match"
word_of (new_object _ _ _ _) = codes "New"
word_of (load_module _ _) = codes "LoadModule"
word_of (store_module _ _ _) = codes "StoreModule"
word_of (select _ _ _ _ _) = codes "Select"
word_of (select_static _ _ _ _) = codes "SelectStatic"
word_of (apply _ _ _ _ _) = codes "Apply"
word_of (apply_statically _ _ _ _ _ _ _) = codes "ApplyStatically"
word_of (apply_static _ _ _ _ _ _) = codes "ApplyStatic"
word_of (unary_op _ _ _) = codes "UnaryOp"
word_of (binary_op _ _ _ _) = codes "BinaryOp"
word_of (new_array _ _ _) = codes "NewArray"
word_of (array_value _ _ _) = codes "ArrayValue"
word_of (array_length _ _) = codes "ArrayLength"
word_of (array_select _ _ _ _) = codes "ArraySelect"
word_of (is_instance_of _ _ _) = codes "IsInstanceOf"
word_of (as_instance_of _ _ _) = codes "AsInstanceOf"
word_of (undefined_literal _) = codes "Undefined"
word_of (null_literal _) = codes "Null"
word_of (boolean_literal _ _) = codes "BooleanLiteral"
word_of (char_literal _ _) = codes "CharLiteral"
word_of (byte_literal _ _) = codes "ByteLiteral"
word_of (short_literal _ _) = codes "ShortLiteral"
word_of (int_literal _ _) = codes "IntLiteral"
word_of (long_literal _ _) = codes "LongLiteral"
word_of (string_literal _ _) = codes "StringLiteral"
word_of (var_ref _ _ _) = codes "VarRef"
word_of (this_ref _ _) = codes "This"
word_of (log_line _ _) = codes "Log"
