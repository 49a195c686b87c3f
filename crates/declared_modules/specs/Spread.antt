-- The spread of a plan: in which file each binding stands, and what the code of each file can use.
use Rattle.std.specs.Prelude.{◌≡◌, List, [], Option, Some, None}
use Rattle.std.specs.List.{Contains}
use Rattle.module_uses.specs.Declared.{Spread, all_items, AreConstants}
use Rattle.module_uses.specs.Placed.{placed}
use Rattle.module_uses.specs.Built.{Usable}
use Rattle.sj_emit_help_spec.specs.Words.{object_class}
use Rattle.js_tree.specs.Terms.{Name, Property, Item, object_item, Piece}
use Rattle.module_uses.specs.Files.{program_of}
use Rattle.sj_emit_module_spec.specs.Modules.{file_with}
use Rattle.module_uses.specs.Used.{restricted, uses_in}
use Rattle.module_uses.specs.Settings.{Top, a_function, a_method, a_constructor, a_dispatch, a_reflection, a_class, some_constants, a_static, a_setter, a_cell, a_loader, a_storer, a_test, a_cast, a_helper}
use Rattle.sj_trees.specs.declared.types.IrType.TheVariants.{Class}
use Rattle.sj_split.specs.declared.plans.PlannedModule.{PlannedModule}
use Rattle.sj_world.specs.Known.{Classes}

-- the class that owns a binding: `java.lang.Object` owns the helpers, and so the tests and casts of types other than classes
abbrev pub owner_of : Top → Name
owner_of (a_function m) = m.class
owner_of (a_method m) = m.class
owner_of (a_constructor m) = m.class
owner_of (a_dispatch m) = object_class
owner_of (a_reflection m) = object_class
owner_of (a_class c) = c
owner_of (some_constants c) = c
owner_of (a_static c f t) = c
owner_of (a_setter c f t) = c
owner_of (a_cell c) = c
owner_of (a_loader c) = c
owner_of (a_storer c) = c
owner_of (a_test (Class c)) = c
owner_of (a_test t) = object_class
owner_of (a_cast (Class c)) = c
owner_of (a_cast t) = object_class
owner_of (a_helper h) = object_class

-- a file without a name stands for none
abbrev pub file_or_none : Option Name → Name
file_or_none None = []
file_or_none (Some f) = f

-- a binding is at home in the file in which its owner stands
abbrev pub home_in : List PlannedModule → Top → Name
home_in modules t = file_or_none (file_with modules (owner_of t))

-- the program of a plan, where the code of a file can use what it uses of what is there, and these files run in front of the last, which declares these items
abbrev pub spread_of : List PlannedModule → List Piece → Classes → Usable → List Name → Name → List Item → Spread
spread_of modules ps w all front last declared = record {
  classes = w;
  program = program_of modules ps;
  home = home_in modules;
  has = λ f. restricted all (uses_in modules ps f);
  front = front;
  last = last;
  declared = declared;
}

-- the pieces of these classes that stand in files stand there among the items that run
abbrev pub AllStand : List PlannedModule → List Piece → List Name → Spread → Type 0
AllStand modules ps written z = (q : Piece) (f : Name) → Contains ps q → Contains written q.owner → file_with modules q.owner ≡ Some f → Contains (all_items z) (placed f q.item)

-- each object that an item declares is the constants of a class
abbrev pub DeclaresConstants : Spread → Type 0
DeclaresConstants z = (f x : Name) (qs : List Property) → Contains (all_items z) (placed f (object_item x qs)) → AreConstants z.classes qs
