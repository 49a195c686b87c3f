-- How members run, and what is asked of the fields of classes.
use Rattle.std.specs.Prelude.{◌≡◌, IsTrue}
use Rattle.std.specs.List.{Contains}
use Rattle.ir_mean.specs.World.{World}
use Rattle.sj_names.specs.Grammar.{is_class_name, is_plain_name}
use Rattle.sj_names.specs.declared.method_names.Namespace.{Namespace}
use Rattle.sj_names.specs.declared.method_names.Namespace.TheVariants.{Public, PublicStatic, Private, PrivateStatic, Constructor}
use Rattle.sj_trees.specs.declared.classes.ClassDef.{ClassDef}
use Rattle.sj_trees.specs.declared.classes.FieldDef.{FieldDef}
use Rattle.sj_trees.specs.declared.types.IrType.TheVariants.{Nothing}

-- how a member runs: by itself, on a receiver, or on the object that it completes
pub data Running : Type 0 where
  alone : Running
  on_receiver : Running
  completing : Running

abbrev pub running : Namespace → Running
running PublicStatic = alone
running PrivateStatic = alone
running Public = on_receiver
running Private = on_receiver
running Constructor = completing

-- names of classes and fields are in their grammar; a field has its own name in its class, among the instance fields or the static ones, and a type of which there are
-- values
pub record FieldsAreKept (w : World) : Type 0 where
  pub class_names : (d : ClassDef) → Contains w d → IsTrue (is_class_name d.name)
  pub field_names : (d : ClassDef) (f : FieldDef) → Contains w d → Contains d.fields f → IsTrue (is_plain_name f.name)
  pub once : (d : ClassDef) (f g : FieldDef) → Contains w d → Contains d.fields f → Contains d.fields g → f.is_static ≡ g.is_static → f.name ≡ g.name → f ≡ g
  pub values : (d : ClassDef) (f : FieldDef) → Contains w d → Contains d.fields f → f.tpe ≡ Nothing → ⊥
