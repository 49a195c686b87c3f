-- The text of a listing: the same productions, each put behind what is there. Positions, source files and hashes are not in it.
use Rattle.std.specs.Prelude.{ℕ, ℤ, pos, negsuc, Bool, true, false, List, [], ◌+◌, codes, decimal, Option, Some, None}
use Rattle.std.specs.Char.Escape.{encode_utf16}
use Rattle.std.specs.Str.{chars}
use Rattle.js_tree.specs.Written.{Putting, put, nothing, ◌▸◌, put_separated, put_each}
use Rattle.js_tree.specs.Texts.{put_unit, put_text}
use Rattle.sj_names.specs.References.{spelled_array}
use Rattle.sj_names.specs.MethodNames.{spelled_method}
use Rattle.sj_names.specs.declared.references.ArrayRef.{ArrayRef}
use Rattle.sj_names.specs.declared.method_names.MethodName.{MethodName}
use Rattle.sj_names.specs.declared.method_names.Namespace.{Namespace}
use Rattle.sj_names.specs.declared.method_names.Namespace.TheVariants as namespaces
use Rattle.sj_trees.specs.Operators.{unary_code, binary_code}
use Rattle.sj_trees.specs.Term.{Term, Terms, no_terms, more_terms, Cases, no_cases, more_cases, var_def, skip, block_of, labeled, assign, return_to, if_then, while_loop, do_while, try_catch, try_finally, throw, match_on, new_object, load_module, store_module, select, select_static, apply, apply_statically, apply_static, unary_op, binary_op, new_array, array_value, array_length, array_select, is_instance_of, as_instance_of, undefined_literal, null_literal, boolean_literal, char_literal, byte_literal, short_literal, int_literal, long_literal, string_literal, var_ref, this_ref, log_line}
use Rattle.sj_trees.specs.declared.classes.ClassKind.{ClassKind}
use Rattle.sj_trees.specs.declared.classes.ClassKind.TheVariants as kinds
use Rattle.sj_trees.specs.declared.classes.ParamDef.{ParamDef}
use Rattle.sj_trees.specs.declared.classes.FieldDef.{FieldDef}
use Rattle.sj_trees.specs.declared.classes.MethodDef.{MethodDef}
use Rattle.sj_trees.specs.declared.classes.ClassDef.{ClassDef}
use Rattle.sj_trees.specs.declared.operators.BinaryOp.{BinaryOp}
use Rattle.sj_trees.specs.declared.operators.UnaryOp.{UnaryOp}
use Rattle.sj_trees.specs.declared.types.IrType.{IrType}
use Rattle.sj_trees.specs.declared.types.IrType.TheVariants as types

infixr 10 ◌▹◌
-- a part with a space in front, and what follows it
abbrev pub ◌▹◌ : Putting → Putting → Putting
v ▹ w = put (codes " ") ▸ v ▸ w

abbrev pub put_end : Putting
put_end = put (codes ")")

-- a word and its fields in parentheses
abbrev pub put_form : List ℕ → Putting → Putting
put_form word fields = put (codes "(") ▸ put word ▸ fields

abbrev pub put_bracketed : Putting → Putting
put_bracketed w = put (codes "[") ▸ w ▸ put (codes "]")

abbrev pub put_list : {A : Type 0} → (A → Putting) → List A → Putting
put_list w xs = put_bracketed (put_separated (codes " ") w xs)

abbrev pub put_character : ℕ → Putting
put_character c = put_each put_unit (encode_utf16 c)

-- a name in UTF-8 as the string literal of its 16-bit units
abbrev pub put_name : List ℕ → Putting
put_name name = put (codes "\"") ▸ put_each put_character (chars name) ▸ put (codes "\"")

abbrev pub put_method_name : MethodName → Putting
put_method_name m = put_name (spelled_method m)

abbrev pub put_array : ArrayRef → Putting
put_array r = put_name (spelled_array r)

abbrev pub put_mark : Bool → Putting
put_mark false = put (codes "0")
put_mark true = put (codes "1")

abbrev pub put_natural : ℕ → Putting
put_natural n = put (decimal n)

abbrev pub put_integer : ℤ → Putting
put_integer (pos n) = put (decimal n)
put_integer (negsuc n) = put (codes "-") ▸ put (decimal (n + 1))

abbrev pub put_unary_op : UnaryOp → Putting
put_unary_op o = put (decimal (unary_code o))

abbrev pub put_binary_op : BinaryOp → Putting
put_binary_op o = put (decimal (binary_code o))

abbrev pub namespace_text : Namespace → List ℕ
namespace_text namespaces.Public = codes "Public"
namespace_text namespaces.PublicStatic = codes "PublicStatic"
namespace_text namespaces.Private = codes "Private"
namespace_text namespaces.PrivateStatic = codes "PrivateStatic"
namespace_text namespaces.Constructor = codes "Constructor"

abbrev pub put_namespace : Namespace → Putting
put_namespace n = put (namespace_text n)

abbrev pub kind_text : ClassKind → List ℕ
kind_text kinds.Class = codes "Class"
kind_text kinds.ModuleClass = codes "ModuleClass"
kind_text kinds.Interface = codes "Interface"
kind_text kinds.HijackedClass = codes "HijackedClass"

abbrev pub put_kind : ClassKind → Putting
put_kind k = put (kind_text k)

abbrev pub put_type : IrType → Putting
put_type types.Any = put (codes "any")
put_type types.Nothing = put (codes "nothing")
put_type types.Undefined = put (codes "undef")
put_type types.Boolean = put (codes "boolean")
put_type types.Char = put (codes "char")
put_type types.Byte = put (codes "byte")
put_type types.Short = put (codes "short")
put_type types.Int = put (codes "int")
put_type types.Long = put (codes "long")
put_type types.String = put (codes "string")
put_type types.Null = put (codes "null")
put_type (types.Class name) = put (codes "(L ") ▸ put_name name ▸ put_end
put_type (types.Array array) = put (codes "(A ") ▸ put_array array ▸ put_end
put_type types.NoType = put (codes "none")

abbrev mutual
  pub put_tree : Term → Putting
  put_tree (var_def p x t b e) = put_form (codes "VarDef") (put_name x ▹ put_type t ▹ put_mark b ▹ put_tree e ▹ put_end)
  put_tree (skip p) = put_form (codes "Skip") (put_end)
  put_tree (block_of p es) = put_form (codes "Block") (put_bracketed (put_trees es) ▹ put_end)
  put_tree (labeled p l t e) = put_form (codes "Labeled") (put_name l ▹ put_type t ▹ put_tree e ▹ put_end)
  put_tree (assign p e d) = put_form (codes "Assign") (put_tree e ▹ put_tree d ▹ put_end)
  put_tree (return_to p e l) = put_form (codes "Return") (put_tree e ▹ put_name l ▹ put_end)
  put_tree (if_then p c e d t) = put_form (codes "If") (put_tree c ▹ put_tree e ▹ put_tree d ▹ put_type t ▹ put_end)
  put_tree (while_loop p c e) = put_form (codes "While") (put_tree c ▹ put_tree e ▹ put_end)
  put_tree (do_while p e c) = put_form (codes "DoWhile") (put_tree e ▹ put_tree c ▹ put_end)
  put_tree (try_catch p e x d t) = put_form (codes "TryCatch") (put_tree e ▹ put_name x ▹ put_tree d ▹ put_type t ▹ put_end)
  put_tree (try_finally p e d) = put_form (codes "TryFinally") (put_tree e ▹ put_tree d ▹ put_end)
  put_tree (throw p e) = put_form (codes "Throw") (put_tree e ▹ put_end)
  put_tree (match_on p e cs d t) = put_form (codes "Match") (put_tree e ▹ put_bracketed (put_cases cs) ▹ put_tree d ▹ put_type t ▹ put_end)
  put_tree (new_object p c g es) = put_form (codes "New") (put_name c ▹ put_method_name g ▹ put_bracketed (put_trees es) ▹ put_end)
  put_tree (load_module p c) = put_form (codes "LoadModule") (put_name c ▹ put_end)
  put_tree (store_module p c e) = put_form (codes "StoreModule") (put_name c ▹ put_tree e ▹ put_end)
  put_tree (select p e c f t) = put_form (codes "Select") (put_tree e ▹ put_name c ▹ put_name f ▹ put_type t ▹ put_end)
  put_tree (select_static p c f t) = put_form (codes "SelectStatic") (put_name c ▹ put_name f ▹ put_type t ▹ put_end)
  put_tree (apply p e g es t) = put_form (codes "Apply") (put_tree e ▹ put_method_name g ▹ put_bracketed (put_trees es) ▹ put_type t ▹ put_end)
  put_tree (apply_statically p e c s g es t) = put_form (codes "ApplyStatically") (put_tree e ▹ put_name c ▹ put_namespace s ▹ put_method_name g ▹ put_bracketed (put_trees es) ▹ put_type t ▹ put_end)
  put_tree (apply_static p c s g es t) = put_form (codes "ApplyStatic") (put_name c ▹ put_namespace s ▹ put_method_name g ▹ put_bracketed (put_trees es) ▹ put_type t ▹ put_end)
  put_tree (unary_op p o e) = put_form (codes "UnaryOp") (put_unary_op o ▹ put_tree e ▹ put_end)
  put_tree (binary_op p o e d) = put_form (codes "BinaryOp") (put_binary_op o ▹ put_tree e ▹ put_tree d ▹ put_end)
  put_tree (new_array p r e) = put_form (codes "NewArray") (put_array r ▹ put_tree e ▹ put_end)
  put_tree (array_value p r es) = put_form (codes "ArrayValue") (put_array r ▹ put_bracketed (put_trees es) ▹ put_end)
  put_tree (array_length p e) = put_form (codes "ArrayLength") (put_tree e ▹ put_end)
  put_tree (array_select p e d t) = put_form (codes "ArraySelect") (put_tree e ▹ put_tree d ▹ put_type t ▹ put_end)
  put_tree (is_instance_of p e t) = put_form (codes "IsInstanceOf") (put_tree e ▹ put_type t ▹ put_end)
  put_tree (as_instance_of p e t) = put_form (codes "AsInstanceOf") (put_tree e ▹ put_type t ▹ put_end)
  put_tree (undefined_literal p) = put_form (codes "Undefined") (put_end)
  put_tree (null_literal p) = put_form (codes "Null") (put_end)
  put_tree (boolean_literal p b) = put_form (codes "BooleanLiteral") (put_mark b ▹ put_end)
  put_tree (char_literal p v) = put_form (codes "CharLiteral") (put_natural v ▹ put_end)
  put_tree (byte_literal p v) = put_form (codes "ByteLiteral") (put_integer v ▹ put_end)
  put_tree (short_literal p v) = put_form (codes "ShortLiteral") (put_integer v ▹ put_end)
  put_tree (int_literal p v) = put_form (codes "IntLiteral") (put_integer v ▹ put_end)
  put_tree (long_literal p v) = put_form (codes "LongLiteral") (put_integer v ▹ put_end)
  put_tree (string_literal p u) = put_form (codes "StringLiteral") (put_text u ▹ put_end)
  put_tree (var_ref p x t) = put_form (codes "VarRef") (put_name x ▹ put_type t ▹ put_end)
  put_tree (this_ref p t) = put_form (codes "This") (put_type t ▹ put_end)
  put_tree (log_line p e) = put_form (codes "Log") (put_tree e ▹ put_end)

  pub put_trees : Terms → Putting
  put_trees no_terms = nothing
  put_trees (more_terms e es) = put_tree e ▸ put_more_trees es

  pub put_more_trees : Terms → Putting
  put_more_trees no_terms = nothing
  put_more_trees (more_terms e es) = put (codes " ") ▸ put_tree e ▸ put_more_trees es

  pub put_cases : Cases → Putting
  put_cases no_cases = nothing
  put_cases (more_cases ks e cs) = (put (codes "(") ▸ put_list put_integer ks ▸ (put_tree e ▹ put_end)) ▸ put_more_cases cs

  pub put_more_cases : Cases → Putting
  put_more_cases no_cases = nothing
  put_more_cases (more_cases ks e cs) = put (codes " ") ▸ (put (codes "(") ▸ put_list put_integer ks ▸ (put_tree e ▹ put_end)) ▸ put_more_cases cs

abbrev pub put_param : ParamDef → Putting
put_param p = put_form (codes "param") (put_name p.name ▹ put_mark p.mutable ▹ put_type p.tpe ▹ put_end)

abbrev pub put_field : FieldDef → Putting
put_field f = put_form (codes "field") (put_mark f.is_static ▹ put_mark f.mutable ▹ put_name f.name ▹ put_type f.tpe ▹ put_end)

abbrev pub put_body : Option Term → Putting
put_body None = put (codes "-")
put_body (Some t) = put_tree t

abbrev pub put_method : MethodDef → Putting
put_method m = put_form (codes "method") (put_namespace m.namespace ▹ put_method_name m.name ▹ put_list put_param m.params ▹ put_type m.result ▹ put_body m.body ▹ put_end)

abbrev pub put_superclass : Option (List ℕ) → Putting
put_superclass None = put (codes "-")
put_superclass (Some name) = put_name name

abbrev pub put_class : ClassDef → Putting
put_class c = put_form (codes "class") (put_name c.name ▹ put_kind c.kind ▹ put_superclass c.superclass ▹ put_list put_name c.interfaces ▹ put_list put_field c.fields ▹ put_list put_method c.methods ▹ put_end)

-- the text by itself
abbrev pub listing_text : ClassDef → List ℕ
listing_text c = put_class c []
