-- What the codes of the format stand for: tables of codes.
use Rattle.std.specs.Prelude.{ℕ, List, [], ◌∷◌, Option, Some, None, nat_le, ◌==◌, if◌then◌else◌}
use Rattle.sj_names.specs.declared.method_names.Namespace.{Namespace}
use Rattle.sj_names.specs.declared.method_names.Namespace.TheVariants as names
use Rattle.sj_trees.specs.declared.types.IrType.{IrType}
use Rattle.sj_trees.specs.declared.types.IrType.TheVariants as types
use Rattle.sj_trees.specs.declared.classes.ClassKind.{ClassKind}
use Rattle.sj_trees.specs.declared.classes.ClassKind.TheVariants as classes
use Rattle.sj_trees.specs.declared.refusals.Reserved.{Reserved}
use Rattle.sj_trees.specs.declared.refusals.Reserved.TheVariants as forms
use Rattle.sj_read_spec.specs.declared.codes.MemberTag.{MemberTag}
use Rattle.sj_read_spec.specs.declared.codes.MemberTag.TheVariants as members

abbrev pub reserved_trees : List (ℕ × Reserved)
reserved_trees =
    (64, forms.FloatLiteral) ∷
    (65, forms.DoubleLiteral) ∷
    (66, forms.Closure) ∷
    (67, forms.JsNew) ∷
    (68, forms.JsSelect) ∷
    (69, forms.JsFunctionApply) ∷
    (70, forms.JsMethodApply) ∷
    (71, forms.JsObjectConstr) ∷
    (72, forms.JsArrayConstr) ∷
    (73, forms.JsImportCall) ∷
    (74, forms.JsGlobalRef) ∷
    (75, forms.ForIn) ∷
    (76, forms.Debugger) ∷
    (77, forms.ClassOf) ∷
    (78, forms.GetClass) ∷
    (79, forms.RecordValue) ∷ []

-- the types that one code gives
abbrev pub plain_types : List (ℕ × IrType)
plain_types =
    (1, types.Any) ∷
    (2, types.Nothing) ∷
    (3, types.Undefined) ∷
    (4, types.Boolean) ∷
    (5, types.Char) ∷
    (6, types.Byte) ∷
    (7, types.Short) ∷
    (8, types.Int) ∷
    (9, types.Long) ∷
    (10, types.String) ∷
    (11, types.Null) ∷
    (14, types.NoType) ∷ []

abbrev pub reserved_types : List (ℕ × Reserved)
reserved_types = (15, forms.FloatType) ∷ (16, forms.DoubleType) ∷ (17, forms.RecordType) ∷ []

abbrev pub kinds : List (ℕ × ClassKind)
kinds = (1, classes.Class) ∷ (2, classes.ModuleClass) ∷ (3, classes.Interface) ∷ (4, classes.HijackedClass) ∷ []

abbrev pub reserved_kinds : List (ℕ × Reserved)
reserved_kinds = (5, forms.JsClass) ∷ (6, forms.JsModuleClass) ∷ (7, forms.NativeJsClass) ∷ (8, forms.NativeJsModuleClass) ∷ (9, forms.AbstractJsType) ∷ []

abbrev pub namespaces : List (ℕ × Namespace)
namespaces = (0, names.Public) ∷ (1, names.PublicStatic) ∷ (2, names.Private) ∷ (3, names.PrivateStatic) ∷ (4, names.Constructor) ∷ []

abbrev pub reserved_namespaces : List (ℕ × Reserved)
reserved_namespaces = (5, forms.StaticConstructor) ∷ []

abbrev pub member_tags : List (ℕ × MemberTag)
member_tags = (1, members.Field) ∷ (2, members.Method) ∷ []

abbrev pub reserved_members : List (ℕ × Reserved)
reserved_members = (3, forms.JsMethodDef) ∷ (4, forms.JsPropertyDef) ∷ []

-- the codes of operators from 128 on are reserved
abbrev pub reserved_operators : ℕ → Option Reserved
reserved_operators code = if nat_le 128 code then Some forms.Operator else None
