-- Fields and methods of the classes of a world.
use Rattle.std.specs.Prelude.{◌≡◌, Bool, Some}
use Rattle.sj_names.specs.declared.method_names.Member.{Member}
use Rattle.sj_trees.specs.declared.classes.ClassDef.{ClassDef}
use Rattle.sj_trees.specs.declared.classes.FieldDef.{FieldDef}
use Rattle.sj_trees.specs.declared.classes.MethodDef.{MethodDef}
use Rattle.sj_world.specs.Known.{Name, Classes, class_of}
use Rattle.sj_world.specs.Paths.{IsFirst}

-- a field with this name and static mark
pub record IsField (name : Name) (mark : Bool) (f : FieldDef) : Type 0 where
  pub name_is : f.name ≡ name
  pub mark_is : f.is_static ≡ mark

-- the field of the class of this name
pub record IsFieldOf (w : Classes) (c name : Name) (mark : Bool) (f : FieldDef) : Type 0 where
  pub class : ClassDef
  pub is_class : class_of w c ≡ Some class
  pub first : IsFirst (IsField name mark) class.fields f

pub record HasNoField (w : Classes) (c name : Name) (mark : Bool) : Type 0 where
  pub none : (f : FieldDef) → IsFieldOf w c name mark f → ⊥

-- a method with the namespace and the name of this member
pub record IsMethod (k : Member) (d : MethodDef) : Type 0 where
  pub namespace_is : d.namespace ≡ k.namespace
  pub name_is : d.name ≡ k.method

-- the definition of a member
pub record IsMethodOf (w : Classes) (k : Member) (d : MethodDef) : Type 0 where
  pub class : ClassDef
  pub is_class : class_of w k.class ≡ Some class
  pub first : IsFirst (IsMethod k) class.methods d

pub record HasNoMethod (w : Classes) (k : Member) : Type 0 where
  pub none : (d : MethodDef) → IsMethodOf w k d → ⊥
