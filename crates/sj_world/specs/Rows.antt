-- Small worlds whose parents and chains are worked out.
use Rattle.std.specs.Prelude.{List, [], ◌∷◌, codes, Option, Some, None}
use Rattle.sj_trees.specs.declared.classes.ClassDef.{ClassDef}
use Rattle.sj_trees.specs.declared.classes.ClassKind.{ClassKind}
use Rattle.sj_trees.specs.declared.classes.ClassKind.TheVariants as Kinds
use Rattle.sj_world.specs.Known.{Name, Classes, object}

-- a class without members
abbrev pub empty_class : Name → ClassKind → Option Name → List Name → ClassDef
empty_class name kind superclass interfaces = record { pos = record { file = 0; line = 0; column = 0 }; files = [] ∷ []; name = name; kind = kind; superclass = superclass; interfaces = interfaces; fields = []; methods = [] }

abbrev pub number : Name
number = codes "java.lang.Number"

-- `B` below `A`, which has the interface `J` below `I`; `N` below a class that isn't there; numbers, with the interface `I`
abbrev pub family : Classes
family = empty_class (codes "A") Kinds.Class (Some object) (codes "J" ∷ [])
    ∷ empty_class (codes "B") Kinds.Class (Some (codes "A")) []
    ∷ empty_class (codes "I") Kinds.Interface None []
    ∷ empty_class (codes "J") Kinds.Interface None (codes "I" ∷ [])
    ∷ empty_class (codes "N") Kinds.Class (Some (codes "Gone")) []
    ∷ empty_class (codes "java.lang.Integer") Kinds.HijackedClass (Some number) []
    ∷ empty_class number Kinds.Class (Some object) (codes "I" ∷ [])
    ∷ empty_class object Kinds.Class None []
    ∷ []

-- a world that breaks a local rule: `java.lang.Object` below `Top`; `A` that writes nothing above it; `B` below `java.lang.Object`
abbrev pub capped : Classes
capped = empty_class (codes "A") Kinds.Class None []
    ∷ empty_class (codes "B") Kinds.Class (Some object) []
    ∷ empty_class (codes "Top") Kinds.Class None []
    ∷ empty_class object Kinds.Class (Some (codes "Top")) []
    ∷ []

-- `A` below `B` below `A`
abbrev pub ring : Classes
ring = empty_class (codes "A") Kinds.Class (Some (codes "B")) [] ∷ empty_class (codes "B") Kinds.Class (Some (codes "A")) [] ∷ []
