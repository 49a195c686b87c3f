-- Short words for the parts of recorded classes.
use Rattle.std.specs.Prelude.{ℕ, Bool, List, [], ◌∷◌, Option, None}
use Rattle.sj_names.specs.declared.method_names.MethodName.{MethodName}
use Rattle.sj_names.specs.declared.method_names.Namespace.{Namespace}
use Rattle.sj_names.specs.declared.references.ArrayRef.{ArrayRef}
use Rattle.sj_names.specs.declared.references.BaseRef.{BaseRef}
use Rattle.sj_names.specs.declared.references.TypeRef.{TypeRef}
use Rattle.sj_trees.specs.Term.{Term}
use Rattle.sj_trees.specs.declared.classes.ClassDef.{ClassDef}
use Rattle.sj_trees.specs.declared.classes.ClassKind.{ClassKind}
use Rattle.sj_trees.specs.declared.classes.FieldDef.{FieldDef}
use Rattle.sj_trees.specs.declared.classes.MethodDef.{MethodDef}
use Rattle.sj_trees.specs.declared.classes.ParamDef.{ParamDef}
use Rattle.sj_trees.specs.declared.positions.Position.{Position}
use Rattle.sj_trees.specs.declared.types.IrType.{IrType}

abbrev pub nowhere : Position
nowhere = record { file = 0; line = 0; column = 0 }

-- the empty text
abbrev pub no_units : List ℕ
no_units = []

abbrev pub m : List ℕ → List TypeRef → Option TypeRef → MethodName
m simple params result = record { simple = simple; params = params; result = result }

abbrev pub array_of : ℕ → BaseRef → ArrayRef
array_of dimensions base = record { dimensions = dimensions; base = base }

abbrev pub field_of : Bool → Bool → List ℕ → IrType → FieldDef
field_of is_static changes name tpe = record { pos = nowhere; is_static = is_static; «mutable» = changes; name = name; tpe = tpe }

abbrev pub parameter : List ℕ → Bool → IrType → ParamDef
parameter name changes tpe = record { name = name; «mutable» = changes; tpe = tpe }

abbrev pub method_of : Namespace → MethodName → List ParamDef → IrType → Option Term → MethodDef
method_of namespace name params result body = record { pos = nowhere; namespace = namespace; name = name; params = params; result = result; body = body; hash = None }

abbrev pub class_with : List ℕ → ClassKind → Option (List ℕ) → List (List ℕ) → List FieldDef → List MethodDef → ClassDef
class_with name kind superclass interfaces fields methods = record { pos = nowhere; files = [] ∷ []; name = name; kind = kind; superclass = superclass; interfaces = interfaces; fields = fields; methods = methods }
