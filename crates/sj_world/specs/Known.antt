-- The classes of a world by their names, and the classes that every world knows.
pub use Rattle.sj_names.specs.WellKnown.{is_same_text as is_same, object, integer, hijacked, is_hijacked}
use Rattle.std.specs.Prelude.{ℕ, Bool, List, [], ◌∷◌, ◌||◌, Option, Some, None, is_some, codes, if◌then◌else◌}
use Rattle.sj_trees.specs.declared.classes.ClassDef.{ClassDef}

-- the text of a class's name
abbrev pub Name : Type 0
Name = List ℕ

-- the classes of a folder
abbrev pub Classes : Type 0
Classes = List ClassDef

-- the class of this name
abbrev pub class_of : Classes → Name → Option ClassDef
class_of [] name = None
class_of (c ∷ w) name = if is_same c.name name then Some c else class_of w name

-- the world has the class, or it is one of the eight, which are there in every world
abbrev pub is_known : Classes → Name → Bool
is_known w name = is_some (class_of w name) || is_hijacked name

-- bytes, shorts and ints are one kind of number at run time, so what stands above `java.lang.Byte` and `java.lang.Short`
-- is what stands above `java.lang.Integer`
abbrev pub stands_as : Name → Name
stands_as name = if is_same name (codes "java.lang.Byte") || is_same name (codes "java.lang.Short") then integer else name

-- the names of the classes
abbrev pub names_of : Classes → List Name
names_of [] = []
names_of (c ∷ w) = c.name ∷ names_of w
