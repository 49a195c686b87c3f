-- Which classes have a listing, and the class that a listing of another one lists.
use Rattle.std.specs.Prelude.{◌≡◌, ◌<◌, ◌^◌, ℕ, pos, false, List, [], ◌∷◌, None, IsTrue, All, MatchOption, map, option_map}
use Rattle.std.specs.Str.{IsUtf8}
use Rattle.js_tree.specs.Rules.{IsBelow}
use Rattle.sj_names.specs.Grammar.{is_plain_name, is_class_name}
use Rattle.sj_names.specs.References.{spelled_array, IsReference}
use Rattle.sj_names.specs.MethodNames.{spelled_method, IsMethodName}
use Rattle.sj_names.specs.declared.references.ArrayRef.{ArrayRef}
use Rattle.sj_names.specs.declared.references.TypeRef.TheVariants.{Array}
use Rattle.sj_names.specs.declared.method_names.MethodName.{MethodName}
use Rattle.sj_units.specs.Modified.{IsText}
use Rattle.sj_trees.specs.Erase.{nowhere, erase}
use Rattle.sj_trees.specs.Term.{Term, Terms, no_terms, more_terms, Cases, no_cases, more_cases, var_def, skip, block_of, labeled, assign, return_to, if_then, while_loop, do_while, try_catch, try_finally, throw, match_on, new_object, load_module, store_module, select, select_static, apply, apply_statically, apply_static, unary_op, binary_op, new_array, array_value, array_length, array_select, is_instance_of, as_instance_of, undefined_literal, null_literal, boolean_literal, char_literal, byte_literal, short_literal, int_literal, long_literal, string_literal, var_ref, this_ref, log_line}
use Rattle.sj_trees.specs.declared.classes.ParamDef.{ParamDef}
use Rattle.sj_trees.specs.declared.classes.FieldDef.{FieldDef}
use Rattle.sj_trees.specs.declared.classes.MethodDef.{MethodDef}
use Rattle.sj_trees.specs.declared.classes.ClassDef.{ClassDef}
use Rattle.sj_trees.specs.declared.types.IrType.{IrType}
use Rattle.sj_trees.specs.declared.types.IrType.TheVariants as types
use Rattle.sj_text_spec.specs.Spelling.{is_object}

-- the name of a field, a local or a label; a name that the inliner makes has no listing
abbrev pub IsPlain : List ℕ → Type 0
IsPlain name = IsTrue (is_plain_name name) × IsUtf8 name

abbrev pub IsClass : List ℕ → Type 0
IsClass name = IsTrue (is_class_name name) × IsUtf8 name

abbrev pub IsMethod : MethodName → Type 0
IsMethod m = IsMethodName m × IsUtf8 (spelled_method m)

abbrev pub IsArray : ArrayRef → Type 0
IsArray r = IsReference (Array r) × IsUtf8 (spelled_array r)

-- a type: `java.lang.Object` is no class type
abbrev pub IsListedType : IrType → Type 0
IsListedType (types.Class c) = IsClass c × (is_object c ≡ false)
IsListedType (types.Array r) = IsArray r
IsListedType other = Unit {0}

abbrev mutual
  pub IsListedTree : Term → Type 0
  IsListedTree (var_def p x t b e) = IsPlain x × IsListedType t × IsListedTree e
  IsListedTree (skip p) = Unit {0}
  IsListedTree (block_of p es) = AreListedTrees es
  IsListedTree (labeled p l t e) = IsPlain l × IsListedType t × IsListedTree e
  IsListedTree (assign p e d) = IsListedTree e × IsListedTree d
  IsListedTree (return_to p e l) = IsListedTree e × IsPlain l
  IsListedTree (if_then p c e d t) = IsListedTree c × IsListedTree e × IsListedTree d × IsListedType t
  IsListedTree (while_loop p c e) = IsListedTree c × IsListedTree e
  IsListedTree (do_while p e c) = IsListedTree e × IsListedTree c
  IsListedTree (try_catch p e x d t) = IsListedTree e × IsPlain x × IsListedTree d × IsListedType t
  IsListedTree (try_finally p e d) = IsListedTree e × IsListedTree d
  IsListedTree (throw p e) = IsListedTree e
  IsListedTree (match_on p e cs d t) = IsListedTree e × AreListedCases cs × IsListedTree d × IsListedType t
  IsListedTree (new_object p c g es) = IsClass c × IsMethod g × AreListedTrees es
  IsListedTree (load_module p c) = IsClass c
  IsListedTree (store_module p c e) = IsClass c × IsListedTree e
  IsListedTree (select p e c f t) = IsListedTree e × IsClass c × IsPlain f × IsListedType t
  IsListedTree (select_static p c f t) = IsClass c × IsPlain f × IsListedType t
  IsListedTree (apply p e g es t) = IsListedTree e × IsMethod g × AreListedTrees es × IsListedType t
  IsListedTree (apply_statically p e c s g es t) = IsListedTree e × IsClass c × IsMethod g × AreListedTrees es × IsListedType t
  IsListedTree (apply_static p c s g es t) = IsClass c × IsMethod g × AreListedTrees es × IsListedType t
  IsListedTree (unary_op p o e) = IsListedTree e
  IsListedTree (binary_op p o e d) = IsListedTree e × IsListedTree d
  IsListedTree (new_array p r e) = IsArray r × IsListedTree e
  IsListedTree (array_value p r es) = IsArray r × AreListedTrees es
  IsListedTree (array_length p e) = IsListedTree e
  IsListedTree (array_select p e d t) = IsListedTree e × IsListedTree d × IsListedType t
  IsListedTree (is_instance_of p e t) = IsListedTree e × IsListedType t
  IsListedTree (as_instance_of p e t) = IsListedTree e × IsListedType t
  IsListedTree (undefined_literal p) = Unit {0}
  IsListedTree (null_literal p) = Unit {0}
  IsListedTree (boolean_literal p b) = Unit {0}
  IsListedTree (char_literal p v) = v < 2 ^ 16
  IsListedTree (byte_literal p v) = IsBelow (2 ^ 7) v
  IsListedTree (short_literal p v) = IsBelow (2 ^ 15) v
  IsListedTree (int_literal p v) = IsBelow (2 ^ 31) v
  IsListedTree (long_literal p v) = IsBelow (2 ^ 63) v
  IsListedTree (string_literal p u) = IsText u
  IsListedTree (var_ref p x t) = IsPlain x × IsListedType t
  IsListedTree (this_ref p t) = IsListedType t
  IsListedTree (log_line p e) = IsListedTree e

  pub AreListedTrees : Terms → Type 0
  AreListedTrees no_terms = Unit {0}
  AreListedTrees (more_terms e es) = IsListedTree e × AreListedTrees es

  pub AreListedCases : Cases → Type 0
  AreListedCases no_cases = Unit {0}
  AreListedCases (more_cases ks e cs) = All (IsBelow (2 ^ 31)) ks × IsListedTree e × AreListedCases cs

abbrev pub IsListedParam : ParamDef → Type 0
IsListedParam p = IsPlain p.name × IsListedType p.tpe

abbrev pub IsListedField : FieldDef → Type 0
IsListedField f = IsPlain f.name × IsListedType f.tpe

abbrev pub IsListedMethod : MethodDef → Type 0
IsListedMethod m = IsMethod m.name × All IsListedParam m.params × IsListedType m.result × MatchOption m.body (Unit {0}) IsListedTree

-- each reference and method name is in its grammar, no class type is that of `java.lang.Object`, and no local or label is one of the
-- inliner's; what else stands here holds of every class, since the types of names, texts and numbers keep it
pub record HasListing (c : ClassDef) : Type 0 where
  pub name : IsClass c.name
  pub superclass : MatchOption c.superclass (Unit {0}) IsClass
  pub interfaces : All IsClass c.interfaces
  pub fields : All IsListedField c.fields
  pub methods : All IsListedMethod c.methods

-- ---- what a listing says of a class

abbrev pub bare_field : FieldDef → FieldDef
bare_field f = record { pos = nowhere; is_static = f.is_static; mutable = f.mutable; name = f.name; tpe = f.tpe }

abbrev pub bare_method : MethodDef → MethodDef
bare_method m = record { pos = nowhere; namespace = m.namespace; name = m.name; params = m.params; result = m.result; body = option_map erase m.body; hash = None }

-- the class with every position zero, one source file with the empty name, and no hashes
abbrev pub bare : ClassDef → ClassDef
bare c = record { pos = nowhere; files = [] ∷ []; name = c.name; kind = c.kind; superclass = c.superclass; interfaces = c.interfaces; fields = map bare_field c.fields; methods = map bare_method c.methods }
