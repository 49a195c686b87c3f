-- A small world whose method entries are worked out.
use Rattle.std.specs.Prelude.{List, [], ◌∷◌, Option, Some, None, codes}
use Rattle.sj_names.specs.declared.method_names.Member.{Member}
use Rattle.sj_names.specs.declared.method_names.MethodName.{MethodName}
use Rattle.sj_names.specs.declared.method_names.Namespace.TheVariants.{Public, PublicStatic}
use Rattle.sj_trees.specs.Term.{skip}
use Rattle.sj_trees.specs.Erase.{nowhere}
use Rattle.sj_trees.specs.declared.classes.ClassDef.{ClassDef}
use Rattle.sj_trees.specs.declared.classes.ClassKind.{ClassKind}
use Rattle.sj_trees.specs.declared.classes.ClassKind.TheVariants.{Class, Interface}
use Rattle.sj_trees.specs.declared.classes.MethodDef.{MethodDef}
use Rattle.proxy_targets.specs.Known.{Name, Classes, object}
use Rattle.proxy_targets.specs.Fact.{Fact}
use Rattle.proxy_targets.specs.FactVariants.{Made, Body, Called}
use Rattle.proxy_targets.specs.MethodEntry.{MethodEntry}
use Rattle.sj_reach_spec.specs.Rows.{a_method, static_method, plain_name, proxy, call_by_proxy}
use Rattle.sj_reach_spec.specs.Rules.{public_member}
use Rattle.sj_baselink_spec.specs.Entries.{IsMethodEntry}

abbrev pub m : MethodName
m = plain_name (codes "m")

-- a public `m` with a body
abbrev pub body_of_m : MethodDef
body_of_m = a_method Public (codes "m") (Some (skip nowhere))

-- the static `main`, whose body calls `m` by its reflective name
abbrev pub main_method : MethodDef
main_method = static_method (codes "main") (Some call_by_proxy)

abbrev pub class_with : Name → ClassKind → Option Name → List Name → List MethodDef → ClassDef
class_with name kind superclass interfaces methods = record { pos = nowhere; files = [] ∷ []; name = name; kind = kind; superclass = superclass; interfaces = interfaces; fields = []; methods = methods }

-- `A` has `m`; below it stands `B`, which hasn't, and `C`, which has its own; `I` is an interface with `m`, and `D` has that interface
abbrev pub world : Classes
world = class_with (codes "A") Class (Some object) [] (body_of_m ∷ [])
    ∷ class_with (codes "B") Class (Some (codes "A")) [] []
    ∷ class_with (codes "C") Class (Some (codes "A")) [] (body_of_m ∷ [])
    ∷ class_with (codes "D") Class (Some object) (codes "I" ∷ []) []
    ∷ class_with (codes "I") Interface None [] (body_of_m ∷ [])
    ∷ class_with object Class None [] (main_method ∷ [])
    ∷ []

-- the class has an entry for `m` with the body of this owner
abbrev pub entry_for_m : Name → Name → MethodEntry
entry_for_m c owner = record { class = c; name = m; target = public_member owner m }

-- instances of the class are made, `m` is called on this one, and the body of this owner is needed
abbrev pub calling : Name → Name → Name → List Fact
calling made called owner = Made made ∷ Called called m ∷ Body (public_member owner m) ∷ []

-- a class that is made has an entry for a method that is called on it
abbrev pub CalledIsThere : Type 0
CalledIsThere = IsMethodEntry world (calling (codes "A") (codes "A") (codes "A")) (entry_for_m (codes "A") (codes "A"))

-- where nothing is called, nothing has an entry
abbrev pub UncalledIsNot : Type 0
UncalledIsNot = (e : MethodEntry) → IsMethodEntry world (Made (codes "A") ∷ Body (public_member (codes "A") m) ∷ []) e → ⊥

-- the superclass of a class that is made has one, and the class itself hasn't, where the same body is run
abbrev pub SuperclassHasIt : Type 0
SuperclassHasIt = IsMethodEntry world (calling (codes "B") (codes "A") (codes "A")) (entry_for_m (codes "A") (codes "A"))

abbrev pub InheritedIsNot : Type 0
InheritedIsNot = IsMethodEntry world (calling (codes "B") (codes "A") (codes "A")) (entry_for_m (codes "B") (codes "A")) → ⊥

-- where another body is run, the class has one as well
abbrev pub OverridingIsThere : Type 0
OverridingIsThere = IsMethodEntry world (calling (codes "C") (codes "A") (codes "C")) (entry_for_m (codes "C") (codes "C"))

-- the body of an interface stands in the entry of the class below
abbrev pub DefaultIsThere : Type 0
DefaultIsThere = IsMethodEntry world (calling (codes "D") (codes "I") (codes "I")) (entry_for_m (codes "D") (codes "I"))

-- an entry for a reflective name stands for the method of the class that is made, also where its superclass declares it
abbrev pub main_member : Member
main_member = record { class = object; namespace = PublicStatic; method = plain_name (codes "main") }

abbrev pub ReflectiveIsThere : Type 0
ReflectiveIsThere = IsMethodEntry world (Made (codes "B") ∷ Body main_member ∷ []) (record { class = codes "B"; name = proxy; target = public_member (codes "B") m })
