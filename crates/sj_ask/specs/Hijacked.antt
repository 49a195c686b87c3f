-- The classes above hijacked ones, by those that the world has.
use Rattle.std.specs.Prelude.{◌≡◌, Option, Some, None, codes}
use Rattle.sj_trees.specs.declared.classes.ClassDef.{ClassDef}
use Rattle.sj_world.specs.Known.{Name, Classes, class_of, object}
use Rattle.sj_world.specs.Ancestors.{IsAncestor}

-- the class is above `java.lang.Object`, which the world has
pub record IsAboveObject (w : Classes) (c : Name) : Type 0 where
  pub class : ClassDef
  pub is_class : class_of w object ≡ Some class
  pub way : IsAncestor w object c

-- the class is above that of this name, or where the world lacks that, above `java.lang.Object`
abbrev pub IsAboveIn : Classes → Option ClassDef → Name → Name → Type 0
IsAboveIn w None below c = IsAboveObject w c
IsAboveIn w (Some class) below c = IsAncestor w below c

abbrev pub IsAboveName : Classes → Name → Name → Type 0
IsAboveName w below c = IsAboveIn w (class_of w below) below c

-- one of the hijacked classes but `java.lang.Byte` and `java.lang.Short`
pub data IsAboveOne (w : Classes) (c : Name) : Type 0 where
  void : IsAboveName w (codes "java.lang.Void") c → IsAboveOne w c
  boolean : IsAboveName w (codes "java.lang.Boolean") c → IsAboveOne w c
  character : IsAboveName w (codes "java.lang.Character") c → IsAboveOne w c
  integer : IsAboveName w (codes "java.lang.Integer") c → IsAboveOne w c
  long : IsAboveName w (codes "java.lang.Long") c → IsAboveOne w c
  string : IsAboveName w (codes "java.lang.String") c → IsAboveOne w c
