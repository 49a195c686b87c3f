-- The rules on a class as a whole.
use Rattle.std.specs.Prelude.{Bool, true, false, List, [], ◌∷◌, ◌&&◌, ◌||◌, not, is_some, if◌then◌else◌}
use Rattle.std.specs.List.{list_any}
use Rattle.sj_trees.specs.declared.classes.ClassKind.{ClassKind}
use Rattle.sj_trees.specs.declared.classes.ClassKind.TheVariants.{Class, Interface, HijackedClass}
use Rattle.sj_trees.specs.declared.classes.ClassDef.{ClassDef}
use Rattle.sj_local.specs.Names.{is_object, is_number, is_hijacked, is_some_name}

abbrev pub is_empty : {A : Type 0} → List A → Bool
is_empty [] = true
is_empty (_ ∷ _) = false

abbrev pub is_class : ClassKind → Bool
is_class Class = true
is_class _ = false

abbrev pub is_interface : ClassKind → Bool
is_interface Interface = true
is_interface _ = false

abbrev pub is_hijacked_kind : ClassKind → Bool
is_hijacked_kind HijackedClass = true
is_hijacked_kind _ = false

-- `java.lang.Object` is a class without superclass and interfaces. An interface has no superclass. Every other class has one.
abbrev pub keeps_superclass : ClassDef → Bool
keeps_superclass c =
    if is_object c.name then is_class c.kind && not (is_some c.superclass) && is_empty c.interfaces else
    if is_interface c.kind then not (is_some c.superclass) else
    is_some c.superclass

-- the kind of hijacked classes, below `java.lang.Object` or `java.lang.Number`, for the eight names and for no other
abbrev pub is_rightly_hijacked : ClassDef → Bool
is_rightly_hijacked c =
    if is_hijacked c.name then is_hijacked_kind c.kind && is_some_name (λ d. is_object d || is_number d) c.superclass else
    not (is_hijacked_kind c.kind)

-- `java.lang.Number` is a class below `java.lang.Object`
abbrev pub is_right_number : ClassDef → Bool
is_right_number c = not (is_number c.name) || (is_class c.kind && is_some_name is_object c.superclass)

-- the rules on hijacked classes: beside the two above, no class stands below one of the eight
abbrev pub keeps_hijacked : ClassDef → Bool
keeps_hijacked c = is_rightly_hijacked c && is_right_number c && not (is_some_name is_hijacked c.superclass) && not (list_any is_hijacked c.interfaces)
