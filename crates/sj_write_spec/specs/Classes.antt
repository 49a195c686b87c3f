-- The fields of a class behind the tables: those of the class, then those of its fields, then those of its methods.
use Rattle.std.specs.Prelude.{ℕ, ◌+◌, List, length}
use Rattle.sj_trees.specs.declared.classes.ParamDef.{ParamDef}
use Rattle.sj_trees.specs.declared.classes.FieldDef.{FieldDef}
use Rattle.sj_trees.specs.declared.classes.MethodDef.{MethodDef}
use Rattle.sj_trees.specs.declared.classes.ClassKind.{ClassKind}
use Rattle.sj_trees.specs.declared.classes.ClassDef.{ClassDef}
use Rattle.sj_write_spec.specs.Fields.{Fields, HasFiles, name_field, method_field, plain_field, ◌▸◌, byte, mark, count, each, list_fields, option_fields, position_fields}
use Rattle.sj_write_spec.specs.References.{type_fields}
use Rattle.sj_write_spec.specs.Trees.{term_fields, namespace_code}

-- a kind of class
abbrev pub kind_code : ClassKind → ℕ
kind_code ClassKind.Class = 1
kind_code ClassKind.ModuleClass = 2
kind_code ClassKind.Interface = 3
kind_code ClassKind.HijackedClass = 4

-- a parameter
abbrev pub param_fields : ParamDef → Fields
param_fields p = name_field p.name ▸ mark p.mutable ▸ type_fields p.tpe

-- a field of a class
abbrev pub field_fields : List (List ℕ) → FieldDef → Fields
field_fields sources f = byte 1 ▸ position_fields sources f.pos ▸ mark f.is_static ▸ mark f.mutable ▸ name_field f.name ▸ type_fields f.tpe

-- a method
abbrev pub method_fields : List (List ℕ) → MethodDef → Fields
method_fields sources m = byte 2 ▸ position_fields sources m.pos ▸ byte (namespace_code m.namespace) ▸ method_field m.name ▸ list_fields param_fields m.params ▸ type_fields m.result ▸ option_fields (term_fields sources) m.body ▸ option_fields plain_field m.hash

-- the members: how many there are, the fields, and the methods
abbrev pub members_fields : List (List ℕ) → List FieldDef → List MethodDef → Fields
members_fields sources fs ms = count (length fs + length ms) ▸ each (field_fields sources) fs ▸ each (method_fields sources) ms

-- a class
abbrev pub class_fields : ClassDef → Fields
class_fields c = position_fields c.files c.pos ▸ name_field c.name ▸ byte (kind_code c.kind) ▸ option_fields name_field c.superclass ▸ list_fields name_field c.interfaces ▸ members_fields c.files c.fields c.methods

-- each position of the class names one of its source files
abbrev pub NamesItsFiles : ClassDef → Type 0
NamesItsFiles c = HasFiles (class_fields c)
