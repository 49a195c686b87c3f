-- The grammar of listings: which bytes list a class. What a listing doesn't say is that of no other class than this one: each
-- position is zero, the one source file has the empty name, and no method has a hash.
use Rattle.std.specs.Prelude.{◌≡◌, ℕ, ℤ, pos, negsuc, Bool, true, false, List, [], ◌∷◌, ◌++◌, ◌+◌, ◌^◌, not, nat_lt, nat_eq, codes, decimal, Option, Some, None}
use Rattle.std.specs.List.{flat_map}
use Rattle.std.specs.Cmp.Lexicographic.{pointwise}
use Rattle.std.specs.Char.Escape.{encode_utf16}
use Rattle.std.specs.Str.{all_scalars, encode_utf8_all}
use Rattle.js_tree.specs.Words.{unit_text}
use Rattle.js_tree.specs.Written.{Grammar, Is, ◌●◌, Where, Separated}
use Rattle.js_tree.specs.Spelling.{SpellsText}
use Rattle.sj_names.specs.Grammar.{is_plain_name, is_class_name}
use Rattle.sj_names.specs.References.{spelled_array, IsReference}
use Rattle.sj_names.specs.MethodNames.{spelled_method, IsMethodName}
use Rattle.sj_names.specs.declared.references.ArrayRef.{ArrayRef}
use Rattle.sj_names.specs.declared.references.TypeRef.TheVariants.{Array}
use Rattle.sj_names.specs.declared.method_names.MethodName.{MethodName}
use Rattle.sj_names.specs.declared.method_names.Namespace.{Namespace}
use Rattle.sj_names.specs.declared.method_names.Namespace.TheVariants as namespaces
use Rattle.sj_trees.specs.Erase.{nowhere}
use Rattle.sj_trees.specs.Operators.{unary_code, binary_code}
use Rattle.sj_trees.specs.Term.{Term, Terms, no_terms, more_terms, Cases, no_cases, more_cases, var_def, skip, block_of, labeled, assign, return_to, if_then, while_loop, do_while, try_catch, try_finally, throw, match_on, new_object, load_module, store_module, select, select_static, apply, apply_statically, apply_static, unary_op, binary_op, new_array, array_value, array_length, array_select, is_instance_of, as_instance_of, undefined_literal, null_literal, boolean_literal, char_literal, byte_literal, short_literal, int_literal, long_literal, string_literal, var_ref, this_ref, log_line}
use Rattle.sj_trees.specs.declared.classes.ClassKind.{ClassKind}
use Rattle.sj_trees.specs.declared.classes.ClassKind.TheVariants as kinds
use Rattle.sj_trees.specs.declared.classes.ParamDef.{ParamDef}
use Rattle.sj_trees.specs.declared.classes.FieldDef.{FieldDef}
use Rattle.sj_trees.specs.declared.classes.MethodDef.{MethodDef}
use Rattle.sj_trees.specs.declared.classes.ClassDef.{ClassDef}
use Rattle.sj_trees.specs.declared.operators.BinaryOp.{BinaryOp}
use Rattle.sj_trees.specs.declared.operators.UnaryOp.{UnaryOp}
use Rattle.sj_trees.specs.declared.types.IrType.{IrType}
use Rattle.sj_trees.specs.declared.types.IrType.TheVariants as types

-- ---- how parts stand together

infixr 10 ◌▪◌
-- a part with a space in front, and what follows it
abbrev pub ◌▪◌ : Grammar → Grammar → Grammar
P ▪ Q = Is (codes " ") ● P ● Q

-- the end of what stands in parentheses
abbrev pub End : Grammar
End = Is (codes ")")

-- a word and its fields in parentheses; `unlisted` is what holds of the parts that a listing doesn't have
pub record Form (unlisted : Type 0) (word : List ℕ) (fields : Grammar) (text : List ℕ) : Type 0 where
  pub blank : unlisted
  pub spelled : (Is (codes "(") ● Is word ● fields) text

abbrev pub Bracketed : Grammar → Grammar
Bracketed P = Is (codes "[") ● P ● Is (codes "]")

-- a list, with a space between each two of its parts
abbrev pub SpellsList : {A : Type 0} → (A → Grammar) → List A → Grammar
SpellsList P xs = Bracketed (Separated (codes " ") P xs)

-- ---- names and references, as string literals

-- the one or two units of a character, as they stand in a string literal
abbrev pub character_text : ℕ → List ℕ
character_text c = flat_map unit_text (encode_utf16 c)

-- a text in UTF-8 as the string literal of its 16-bit units
pub record SpellsLiteral (name text : List ℕ) : Type 0 where
  pub characters : List ℕ
  pub scalars : all_scalars characters ≡ true
  pub coded : encode_utf8_all characters ≡ name
  pub is : text ≡ codes "\"" ++ flat_map character_text characters ++ codes "\""

-- the name of a field, a local or a label
unfoldable pub SpellsPlainName : List ℕ → Grammar
SpellsPlainName name = Where (is_plain_name name) (SpellsLiteral name)

unfoldable pub SpellsClassName : List ℕ → Grammar
SpellsClassName name = Where (is_class_name name) (SpellsLiteral name)

-- the spelling of a method name
pub record SpellsMethodName (method : MethodName) (text : List ℕ) : Type 0 where
  pub method_name : IsMethodName method
  pub spelled : SpellsLiteral (spelled_method method) text

-- the spelling of a reference to an array
pub record SpellsArray (array : ArrayRef) (text : List ℕ) : Type 0 where
  pub reference : IsReference (Array array)
  pub spelled : SpellsLiteral (spelled_array array) text

-- ---- marks, numbers and words

unfoldable pub SpellsMark : Bool → Grammar
SpellsMark false = Is (codes "0")
SpellsMark true = Is (codes "1")

-- a number below the limit
unfoldable pub SpellsNatural : ℕ → ℕ → Grammar
SpellsNatural limit n = Where (nat_lt n limit) (Is (decimal n))

-- a number from -limit to limit - 1
unfoldable pub SpellsInteger : ℕ → ℤ → Grammar
SpellsInteger limit (pos n) = Where (nat_lt n limit) (Is (decimal n))
SpellsInteger limit (negsuc n) = Where (nat_lt n limit) (Is (codes "-") ● Is (decimal (n + 1)))

unfoldable pub SpellsUnaryOp : UnaryOp → Grammar
SpellsUnaryOp operator = Is (decimal (unary_code operator))

unfoldable pub SpellsBinaryOp : BinaryOp → Grammar
SpellsBinaryOp operator = Is (decimal (binary_code operator))

unfoldable pub SpellsNamespace : Namespace → Grammar
SpellsNamespace namespaces.Public = Is (codes "Public")
SpellsNamespace namespaces.PublicStatic = Is (codes "PublicStatic")
SpellsNamespace namespaces.Private = Is (codes "Private")
SpellsNamespace namespaces.PrivateStatic = Is (codes "PrivateStatic")
SpellsNamespace namespaces.Constructor = Is (codes "Constructor")

unfoldable pub SpellsKind : ClassKind → Grammar
SpellsKind kinds.Class = Is (codes "Class")
SpellsKind kinds.ModuleClass = Is (codes "ModuleClass")
SpellsKind kinds.Interface = Is (codes "Interface")
SpellsKind kinds.HijackedClass = Is (codes "HijackedClass")

-- the class whose instances are no type of their own
abbrev pub is_object : List ℕ → Bool
is_object name = pointwise nat_eq name (codes "java.lang.Object")

unfoldable pub SpellsType : IrType → Grammar
SpellsType types.Any = Is (codes "any")
SpellsType types.Nothing = Is (codes "nothing")
SpellsType types.Undefined = Is (codes "undef")
SpellsType types.Boolean = Is (codes "boolean")
SpellsType types.Char = Is (codes "char")
SpellsType types.Byte = Is (codes "byte")
SpellsType types.Short = Is (codes "short")
SpellsType types.Int = Is (codes "int")
SpellsType types.Long = Is (codes "long")
SpellsType types.String = Is (codes "string")
SpellsType types.Null = Is (codes "null")
SpellsType (types.Class name) = Is (codes "(L ") ● Where (not (is_object name)) (SpellsClassName name) ● End
SpellsType (types.Array array) = Is (codes "(A ") ● SpellsArray array ● End
SpellsType types.NoType = Is (codes "none")

-- ---- trees

-- a key of a case
abbrev pub SpellsKey : ℤ → Grammar
SpellsKey = SpellsInteger (2 ^ 31)

unfoldable mutual
  -- a form by its name, and its fields in their order
  pub SpellsTree : Term → Grammar
  SpellsTree (var_def p x t b e) = Form (p ≡ nowhere) (codes "VarDef") (SpellsPlainName x ▪ SpellsType t ▪ SpellsMark b ▪ SpellsTree e ▪ End)
  SpellsTree (skip p) = Form (p ≡ nowhere) (codes "Skip") (End)
  SpellsTree (block_of p es) = Form (p ≡ nowhere) (codes "Block") (Bracketed (SpellsTrees es) ▪ End)
  SpellsTree (labeled p l t e) = Form (p ≡ nowhere) (codes "Labeled") (SpellsPlainName l ▪ SpellsType t ▪ SpellsTree e ▪ End)
  SpellsTree (assign p e d) = Form (p ≡ nowhere) (codes "Assign") (SpellsTree e ▪ SpellsTree d ▪ End)
  SpellsTree (return_to p e l) = Form (p ≡ nowhere) (codes "Return") (SpellsTree e ▪ SpellsPlainName l ▪ End)
  SpellsTree (if_then p c e d t) = Form (p ≡ nowhere) (codes "If") (SpellsTree c ▪ SpellsTree e ▪ SpellsTree d ▪ SpellsType t ▪ End)
  SpellsTree (while_loop p c e) = Form (p ≡ nowhere) (codes "While") (SpellsTree c ▪ SpellsTree e ▪ End)
  SpellsTree (do_while p e c) = Form (p ≡ nowhere) (codes "DoWhile") (SpellsTree e ▪ SpellsTree c ▪ End)
  SpellsTree (try_catch p e x d t) = Form (p ≡ nowhere) (codes "TryCatch") (SpellsTree e ▪ SpellsPlainName x ▪ SpellsTree d ▪ SpellsType t ▪ End)
  SpellsTree (try_finally p e d) = Form (p ≡ nowhere) (codes "TryFinally") (SpellsTree e ▪ SpellsTree d ▪ End)
  SpellsTree (throw p e) = Form (p ≡ nowhere) (codes "Throw") (SpellsTree e ▪ End)
  SpellsTree (match_on p e cs d t) = Form (p ≡ nowhere) (codes "Match") (SpellsTree e ▪ Bracketed (SpellsCases cs) ▪ SpellsTree d ▪ SpellsType t ▪ End)
  SpellsTree (new_object p c g es) = Form (p ≡ nowhere) (codes "New") (SpellsClassName c ▪ SpellsMethodName g ▪ Bracketed (SpellsTrees es) ▪ End)
  SpellsTree (load_module p c) = Form (p ≡ nowhere) (codes "LoadModule") (SpellsClassName c ▪ End)
  SpellsTree (store_module p c e) = Form (p ≡ nowhere) (codes "StoreModule") (SpellsClassName c ▪ SpellsTree e ▪ End)
  SpellsTree (select p e c f t) = Form (p ≡ nowhere) (codes "Select") (SpellsTree e ▪ SpellsClassName c ▪ SpellsPlainName f ▪ SpellsType t ▪ End)
  SpellsTree (select_static p c f t) = Form (p ≡ nowhere) (codes "SelectStatic") (SpellsClassName c ▪ SpellsPlainName f ▪ SpellsType t ▪ End)
  SpellsTree (apply p e g es t) = Form (p ≡ nowhere) (codes "Apply") (SpellsTree e ▪ SpellsMethodName g ▪ Bracketed (SpellsTrees es) ▪ SpellsType t ▪ End)
  SpellsTree (apply_statically p e c s g es t) = Form (p ≡ nowhere) (codes "ApplyStatically") (SpellsTree e ▪ SpellsClassName c ▪ SpellsNamespace s ▪ SpellsMethodName g ▪ Bracketed (SpellsTrees es) ▪ SpellsType t ▪ End)
  SpellsTree (apply_static p c s g es t) = Form (p ≡ nowhere) (codes "ApplyStatic") (SpellsClassName c ▪ SpellsNamespace s ▪ SpellsMethodName g ▪ Bracketed (SpellsTrees es) ▪ SpellsType t ▪ End)
  SpellsTree (unary_op p o e) = Form (p ≡ nowhere) (codes "UnaryOp") (SpellsUnaryOp o ▪ SpellsTree e ▪ End)
  SpellsTree (binary_op p o e d) = Form (p ≡ nowhere) (codes "BinaryOp") (SpellsBinaryOp o ▪ SpellsTree e ▪ SpellsTree d ▪ End)
  SpellsTree (new_array p r e) = Form (p ≡ nowhere) (codes "NewArray") (SpellsArray r ▪ SpellsTree e ▪ End)
  SpellsTree (array_value p r es) = Form (p ≡ nowhere) (codes "ArrayValue") (SpellsArray r ▪ Bracketed (SpellsTrees es) ▪ End)
  SpellsTree (array_length p e) = Form (p ≡ nowhere) (codes "ArrayLength") (SpellsTree e ▪ End)
  SpellsTree (array_select p e d t) = Form (p ≡ nowhere) (codes "ArraySelect") (SpellsTree e ▪ SpellsTree d ▪ SpellsType t ▪ End)
  SpellsTree (is_instance_of p e t) = Form (p ≡ nowhere) (codes "IsInstanceOf") (SpellsTree e ▪ SpellsType t ▪ End)
  SpellsTree (as_instance_of p e t) = Form (p ≡ nowhere) (codes "AsInstanceOf") (SpellsTree e ▪ SpellsType t ▪ End)
  SpellsTree (undefined_literal p) = Form (p ≡ nowhere) (codes "Undefined") (End)
  SpellsTree (null_literal p) = Form (p ≡ nowhere) (codes "Null") (End)
  SpellsTree (boolean_literal p b) = Form (p ≡ nowhere) (codes "BooleanLiteral") (SpellsMark b ▪ End)
  SpellsTree (char_literal p v) = Form (p ≡ nowhere) (codes "CharLiteral") (SpellsNatural (2 ^ 16) v ▪ End)
  SpellsTree (byte_literal p v) = Form (p ≡ nowhere) (codes "ByteLiteral") (SpellsInteger (2 ^ 7) v ▪ End)
  SpellsTree (short_literal p v) = Form (p ≡ nowhere) (codes "ShortLiteral") (SpellsInteger (2 ^ 15) v ▪ End)
  SpellsTree (int_literal p v) = Form (p ≡ nowhere) (codes "IntLiteral") (SpellsInteger (2 ^ 31) v ▪ End)
  SpellsTree (long_literal p v) = Form (p ≡ nowhere) (codes "LongLiteral") (SpellsInteger (2 ^ 63) v ▪ End)
  SpellsTree (string_literal p u) = Form (p ≡ nowhere) (codes "StringLiteral") (SpellsText u ▪ End)
  SpellsTree (var_ref p x t) = Form (p ≡ nowhere) (codes "VarRef") (SpellsPlainName x ▪ SpellsType t ▪ End)
  SpellsTree (this_ref p t) = Form (p ≡ nowhere) (codes "This") (SpellsType t ▪ End)
  SpellsTree (log_line p e) = Form (p ≡ nowhere) (codes "Log") (SpellsTree e ▪ End)

  -- trees with a space between each two
  pub SpellsTrees : Terms → Grammar
  SpellsTrees no_terms = Is []
  SpellsTrees (more_terms e es) = SpellsTree e ● SpellsMoreTrees es

  pub SpellsMoreTrees : Terms → Grammar
  SpellsMoreTrees no_terms = Is []
  SpellsMoreTrees (more_terms e es) = Is (codes " ") ● SpellsTree e ● SpellsMoreTrees es

  -- cases with a space between each two: in parentheses the list of the keys and the tree
  pub SpellsCases : Cases → Grammar
  SpellsCases no_cases = Is []
  SpellsCases (more_cases ks e cs) = (Is (codes "(") ● SpellsList SpellsKey ks ● (SpellsTree e ▪ End)) ● SpellsMoreCases cs

  pub SpellsMoreCases : Cases → Grammar
  SpellsMoreCases no_cases = Is []
  SpellsMoreCases (more_cases ks e cs) = Is (codes " ") ● (Is (codes "(") ● SpellsList SpellsKey ks ● (SpellsTree e ▪ End)) ● SpellsMoreCases cs

-- ---- classes

unfoldable pub SpellsParam : ParamDef → Grammar
SpellsParam p = Form (Unit {0}) (codes "param") (SpellsPlainName p.name ▪ SpellsMark p.mutable ▪ SpellsType p.tpe ▪ End)

unfoldable pub SpellsField : FieldDef → Grammar
SpellsField f = Form (f.pos ≡ nowhere) (codes "field") (SpellsMark f.is_static ▪ SpellsMark f.mutable ▪ SpellsPlainName f.name ▪ SpellsType f.tpe ▪ End)

-- the body of a method, or `-` where it has none
unfoldable pub SpellsBody : Option Term → Grammar
SpellsBody None = Is (codes "-")
SpellsBody (Some t) = SpellsTree t

unfoldable pub SpellsMethod : MethodDef → Grammar
SpellsMethod m = Form ((m.pos ≡ nowhere) × (m.hash ≡ None)) (codes "method") (SpellsNamespace m.namespace ▪ SpellsMethodName m.name ▪ SpellsList SpellsParam m.params ▪ SpellsType m.result ▪ SpellsBody m.body ▪ End)

-- the superclass, or `-` where there is none
unfoldable pub SpellsSuperclass : Option (List ℕ) → Grammar
SpellsSuperclass None = Is (codes "-")
SpellsSuperclass (Some name) = SpellsClassName name

-- the listing of a class
unfoldable pub Lists : ClassDef → Grammar
Lists c = Form ((c.pos ≡ nowhere) × (c.files ≡ [] ∷ [])) (codes "class") (SpellsClassName c.name ▪ SpellsKind c.kind ▪ SpellsSuperclass c.superclass ▪ SpellsList SpellsClassName c.interfaces ▪ SpellsList SpellsField c.fields ▪ SpellsList SpellsMethod c.methods ▪ End)
