-- The texts of pieces of classes, and of the functions that tell primitive receivers apart: a row each.
use Rattle.std.specs.Prelude.{◌≡◌, ℕ, true, false, List, [], ◌∷◌, Option, Some, None, map, codes}
use Rattle.std.specs.List.{flat_map}
use Rattle.js_tree.specs.Terms.{Name, Piece}
use Rattle.js_tree.specs.Texts.{piece_text}
use Rattle.js_tree.specs.declared.items.Binding.{Binding}
use Rattle.sj_names.specs.declared.method_names.MethodName.{MethodName}
use Rattle.sj_names.specs.declared.references.TypeRef.{TypeRef}
use Rattle.sj_names.specs.declared.references.TypeRef.TheVariants as References
use Rattle.sj_trees.specs.Erase.{nowhere}
use Rattle.sj_trees.specs.declared.classes.FieldDef.{FieldDef}
use Rattle.sj_trees.specs.declared.types.IrType.{IrType}
use Rattle.sj_trees.specs.declared.types.IrType.TheVariants as Types
use Rattle.sj_baselink_spec.specs.MethodEntry.{MethodEntry}
use Rattle.sj_baselink_spec.specs.Rules.{public_member}
use Rattle.sj_emit_class_spec.specs.Dispatch.{dispatch_piece, reflective_piece}
use Rattle.sj_emit_class_spec.specs.Pieces.{all_statics, cast_piece, cell_pieces, class_piece, constants_piece, kind_of_class, test_piece}
use Rattle.sj_emit_help_spec.specs.Words.{all_kinds, bound, object_class}
use Rattle.sj_emit_help_spec.specs.declared.kinds.Kind.TheVariants as kinds

abbrev pub named : List ℕ → List TypeRef → Option TypeRef → MethodName
named simple params result = record { simple = simple; params = params; result = result }

abbrev pub text_type : TypeRef
text_type = References.Class (codes "java.lang.String")

abbrev pub m : MethodName
m = named (codes "m") [] (Some References.Void)

abbrev pub len : MethodName
len = named (codes "len") [] (Some References.Int)

abbrev pub key : MethodName
key = named (codes "key") (References.Int ∷ []) (Some References.Char)

abbrev pub key_proxy : MethodName
key_proxy = named (codes "key") (References.Int ∷ []) None

abbrev pub name : MethodName
name = named (codes "name") [] (Some text_type)

abbrev pub name_of_char : MethodName
name_of_char = named (codes "name") [] (Some References.Char)

abbrev pub name_proxy : MethodName
name_proxy = named (codes "name") [] None

abbrev pub b_proxy : MethodName
b_proxy = named (codes "b") (References.Int ∷ []) None

-- an entry for the body of this owner, and one for a body of the class itself
abbrev pub bridge_to : Name → Name → MethodName → MethodEntry
bridge_to c owner n = record { class = c; name = n; target = public_member owner n }

abbrev pub bridge : Name → MethodName → MethodEntry
bridge c n = bridge_to c c n

-- an entry for a reflective name
abbrev pub proxy_entry : Name → MethodName → MethodName → MethodEntry
proxy_entry c p n = record { class = c; name = p; target = public_member c n }

abbrev pub a_field : Name → IrType → FieldDef
a_field n t = record { pos = nowhere; is_static = false; «mutable» = true; name = n; tpe = t }

-- a piece is written as this text and uses these bindings
abbrev pub IsWritten : Piece → List ℕ → List Binding → Type 0
IsWritten p text used = (piece_text p ≡ text) × (p.uses ≡ used)

abbrev pub uses_of : Piece → List Binding
uses_of p = p.uses

-- these pieces are written as this text, and use these bindings
abbrev pub AreWritten : List Piece → List ℕ → List (List Binding) → Type 0
AreWritten ps text used = (flat_map piece_text ps ≡ text) × (map uses_of ps ≡ used)

abbrev pub row_entries : Type 0
row_entries = IsWritten (class_piece (codes "A") (Some object_class) (bridge (codes "A") key ∷ proxy_entry (codes "A") key_proxy key ∷ bridge (codes "A") name ∷ proxy_entry (codes "A") name_proxy name ∷ []) []) (codes "class c_A extends c_java_lang_Object {\n  constructor() {\n    super();\n    this.k = k_A;\n  }\n  m_key$$I$$C(a0) {\n    return f_A__key$$I$$C(this, a0);\n  }\n  m_key$$I$$R(a0) {\n    return new $C(this.m_key$$I$$C(a0));\n  }\n  m_name$$Ljava_lang_String() {\n    return f_A__name$$Ljava_lang_String(this);\n  }\n  m_name$$R() {\n    return this.m_name$$Ljava_lang_String();\n  }\n}\n") (bound (codes "java.lang.Object") (codes "c_java_lang_Object") ∷ bound (codes "A") (codes "k_A") ∷ bound (codes "A") (codes "f_A__key$$I$$C") ∷ bound (codes "java.lang.Object") (codes "$C") ∷ bound (codes "A") (codes "f_A__name$$Ljava_lang_String") ∷ [])

abbrev pub row_default : Type 0
row_default = IsWritten (class_piece (codes "D") (Some (codes "B")) (bridge_to (codes "D") (codes "J") m ∷ []) []) (codes "class c_D extends c_B {\n  constructor() {\n    super();\n    this.k = k_D;\n  }\n  m_m$$V() {\n    return f_J__m$$V(this);\n  }\n}\n") (bound (codes "B") (codes "c_B") ∷ bound (codes "D") (codes "k_D") ∷ bound (codes "J") (codes "f_J__m$$V") ∷ [])

abbrev pub row_top : Type 0
row_top = IsWritten (class_piece object_class None [] []) (codes "class c_java_lang_Object {\n  constructor() {\n    this.k = k_java_lang_Object;\n  }\n}\n") (bound (codes "java.lang.Object") (codes "k_java_lang_Object") ∷ [])

abbrev pub row_field : Type 0
row_field = IsWritten (class_piece (codes "java.lang.Throwable") (Some object_class) [] (a_field (codes "message") (Types.Class (codes "java.lang.String")) ∷ [])) (codes "class c_java_lang_Throwable extends c_java_lang_Object {\n  constructor() {\n    super();\n    this.k = k_java_lang_Throwable;\n    this.f_java_lang_Throwable__message = null;\n  }\n}\n") (bound (codes "java.lang.Object") (codes "c_java_lang_Object") ∷ bound (codes "java.lang.Throwable") (codes "k_java_lang_Throwable") ∷ [])

abbrev pub row_constants : Type 0
row_constants = IsWritten (constants_piece (codes "java.lang.ClassCastException") (codes "java.lang.ClassCastException" ∷ object_class ∷ codes "java.lang.Throwable" ∷ [])) (codes "const k_java_lang_ClassCastException = {s: \"i_java_lang_ClassCastException\", i_java_lang_ClassCastException: 1, i_java_lang_Object: 1, i_java_lang_Throwable: 1};\n") ([])

abbrev pub row_cast : Type 0
row_cast = IsWritten (cast_piece (codes "A")) (codes "function as_A(x) {\n  return (((x === null) || is_A(x)) ? x : $cce(\"A\"));\n}\n") (bound (codes "A") (codes "is_A") ∷ bound (codes "java.lang.Object") (codes "$cce") ∷ [])

abbrev pub row_hijacked : Type 0
row_hijacked = IsWritten (test_piece (codes "java.lang.Byte") [] (kind_of_class (codes "java.lang.Byte") all_kinds)) (codes "function is_java_lang_Byte(x) {\n  return $isB(x);\n}\n") (bound (codes "java.lang.Object") (codes "$isB") ∷ [])

abbrev pub row_dispatch : Type 0
row_dispatch = IsWritten (dispatch_piece len (record { kind = kinds.Text; owner = codes "java.lang.String" } ∷ [])) (codes "function d_len$$I(x) {\n  if ($isT(x)) {\n    return f_java_lang_String__len$$I(x);\n  }\n  return x.m_len$$I();\n}\n") (bound (codes "java.lang.Object") (codes "$isT") ∷ bound (codes "java.lang.String") (codes "f_java_lang_String__len$$I") ∷ [])

abbrev pub row_reflective : Type 0
row_reflective = IsWritten (reflective_piece name_proxy (record { kind = kinds.Char; owner = codes "java.lang.Character"; method = name_of_char } ∷ record { kind = kinds.Text; owner = codes "java.lang.String"; method = name } ∷ [])) (codes "function r_name$$R(x) {\n  if ($isC(x)) {\n    return new $C(f_java_lang_Character__name$$C(x));\n  }\n  if ($isT(x)) {\n    return f_java_lang_String__name$$Ljava_lang_String(x);\n  }\n  if ((((typeof x) === \"object\") && (\"m_name$$R\" in x))) {\n    return x.m_name$$R();\n  }\n  $nme(\"name;R\");\n}\n") (bound (codes "java.lang.Object") (codes "$isC") ∷ bound (codes "java.lang.Object") (codes "$C") ∷ bound (codes "java.lang.Character") (codes "f_java_lang_Character__name$$C") ∷ bound (codes "java.lang.Object") (codes "$isT") ∷ bound (codes "java.lang.String") (codes "f_java_lang_String__name$$Ljava_lang_String") ∷ bound (codes "java.lang.Object") (codes "$nme") ∷ [])

abbrev pub row_no_case : Type 0
row_no_case = IsWritten (reflective_piece b_proxy []) (codes "function r_b$$I$$R(x, a0) {\n  if ((((typeof x) === \"object\") && (\"m_b$$I$$R\" in x))) {\n    return x.m_b$$I$$R(a0);\n  }\n  $nme(\"b;I;R\");\n}\n") (bound (codes "java.lang.Object") (codes "$nme") ∷ [])

abbrev pub row_object : Type 0
row_object = IsWritten (test_piece (codes "I") (kinds.Undefined ∷ kinds.Boolean ∷ kinds.Int ∷ kinds.Long ∷ kinds.Text ∷ []) (kind_of_class (codes "I") all_kinds)) (codes "function is_I(x) {\n  return ((x !== null) && ((((($isV(x) || $isZ(x)) || $isI(x)) || $isJ(x)) || $isT(x)) || (((typeof x) === \"object\") && (\"i_I\" in x.k))));\n}\n") (bound (codes "java.lang.Object") (codes "$isV") ∷ bound (codes "java.lang.Object") (codes "$isZ") ∷ bound (codes "java.lang.Object") (codes "$isI") ∷ bound (codes "java.lang.Object") (codes "$isJ") ∷ bound (codes "java.lang.Object") (codes "$isT") ∷ [])

abbrev pub row_plain : Type 0
row_plain = IsWritten (test_piece (codes "A") [] (kind_of_class (codes "A") all_kinds)) (codes "function is_A(x) {\n  return ((x !== null) && (((typeof x) === \"object\") && (\"i_A\" in x.k)));\n}\n") []

abbrev pub row_module : Type 0
row_module = AreWritten (cell_pieces (codes "L") true) (codes "let n_L = null;\nfunction g_L() {\n  if ((n_L === null)) {\n    const x = ct_L__$3cinit$3e$$V(new c_L());\n    n_L = x;\n  }\n  return n_L;\n}\nfunction q_L(x) {\n  n_L = x;\n}\n") (([]) ∷ (bound (codes "L") (codes "n_L") ∷ bound (codes "L") (codes "ct_L__$3cinit$3e$$V") ∷ bound (codes "L") (codes "c_L") ∷ []) ∷ (bound (codes "L") (codes "n_L") ∷ []) ∷ [])

abbrev pub row_stored : Type 0
row_stored = AreWritten (cell_pieces (codes "S") false) (codes "let n_S = null;\nfunction q_S(x) {\n  n_S = x;\n}\n") (([]) ∷ (bound (codes "S") (codes "n_S") ∷ []) ∷ [])

abbrev pub row_statics : Type 0
row_statics = AreWritten (all_statics (codes "T") (a_field (codes "$") (Types.Class (codes "T")) ∷ a_field (codes "A") Types.Int ∷ a_field (codes "_") Types.Undefined ∷ [])) (codes "let t_T__$24 = null;\nfunction u_T__$24(x) {\n  t_T__$24 = x;\n}\nlet t_T__A = 0;\nfunction u_T__A(x) {\n  t_T__A = x;\n}\nlet t_T__$5f = (void 0);\nfunction u_T__$5f(x) {\n  t_T__$5f = x;\n}\n") (([]) ∷ (bound (codes "T") (codes "t_T__$24") ∷ []) ∷ ([]) ∷ (bound (codes "T") (codes "t_T__A") ∷ []) ∷ ([]) ∷ (bound (codes "T") (codes "t_T__$5f") ∷ []) ∷ [])
