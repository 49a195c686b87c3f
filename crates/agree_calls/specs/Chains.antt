-- The classes of a chain, as they stand in the program.
use Rattle.std.specs.Prelude.{◌≡◌, true, false, codes, List, [], ◌∷◌, Option, Some, None, ◌⊎◌}
use Rattle.array_code.specs.Words.{constants_name}
use Rattle.dispatch_laws.specs.World as ir_world
use Rattle.js_mean.specs.Classes.{members_of}
use Rattle.js_mean.specs.Files.{owner}
use Rattle.js_mean.specs.States as js
use Rattle.js_tree.specs.Terms.{Name, Member, constructor_of}
use Rattle.js_tree.specs.Views.{statements_of}
use Rattle.array_code.specs.Pieces.{constructor_body}
use Rattle.agree_bodies.specs.Settings.{Place, IsField, TellsClass, link_of, some_constants, a_class}
use Rattle.agree_bodies.specs.Worlds.{World}
use Rattle.sj_names.specs.Same.{is_same_text}
use Rattle.sj_trees.specs.declared.classes.FieldDef.{FieldDef}
use Rattle.sj_trees.specs.declared.types.IrType.{IrType}
use Rattle.sj_trees.specs.declared.types.IrType.TheVariants.{Nothing}
use Rattle.agree_calls.specs.Made.{Makers}

-- the class stands in its file, with the constructor of its fields; its file reaches its constants; the code of some file has the class; and it isn't that of chars
pub record ClassStands (p : Place) (c : Name) (superclass : Option Name) (fields : List FieldDef) : Type 0 where
  pub others : List Member
  pub members_are : members_of p.program (link_of p c) ≡ Some (constructor_of [] (statements_of (constructor_body c superclass fields)) ∷ others)
  pub reached : owner p.program (p.home (a_class c)) (constants_name c) ≡ Some (p.home (some_constants c))
  pub user : Name
  pub usable : (p.has user).live c ≡ true
  pub no_char : is_same_text c (codes "java.lang.Character") ≡ false

-- each class with the one that it extends
pub data ChainStands (p : Place) : List Name → Type 0 where
  extends_none : (c : Name) (fields : List FieldDef) → ClassStands p c None fields → ChainStands p (c ∷ [])
  extends_one : (c d : Name) (ds : List Name) (fields : List FieldDef) → ClassStands p c (Some d) fields → ChainStands p (d ∷ ds) → ChainStands p (c ∷ d ∷ ds)

-- what the constructors of the chain make in a state: properties that lead to the constants of the first class
pub record MadeBy (p : Place) (w : World) (u : js.State) (c : Name) (cs : List Name) : Type 0 where
  pub own : Name → Option js.Value
  pub makers : Makers p.program (link_of p) u (c ∷ cs) own
  pub tells : TellsClass w c own

-- each of these is a field of the class, and a field of this name and type is among them
abbrev pub AllFields : Place → Name → List FieldDef → Type 0
AllFields p c [] = Unit {0}
AllFields p c (f ∷ fs) = IsField p.classes c f.name f.tpe × AllFields p c fs

abbrev pub HasAmong : List FieldDef → Name → IrType → Type 0
HasAmong [] g t = ⊥
HasAmong (f ∷ fs) g t = ((f.name ≡ g) × (f.tpe ≡ t)) ⊎ HasAmong fs g t

-- the fields of each class of a chain are those that its constructor sets
abbrev pub ChainFields : (p : Place) (cs : List Name) → ChainStands p cs → Type 0
ChainFields p _ (extends_none c fields st) = AllFields p c fields × ((g : Name) (t : IrType) → IsField p.classes c g t → HasAmong fields g t)
ChainFields p _ (extends_one c d ds fields st rest) = AllFields p c fields × ((g : Name) (t : IrType) → IsField p.classes c g t → HasAmong fields g t) × ChainFields p (d ∷ ds) rest

-- a field of the IR begins at the zero of its type, of which there are values
pub record BeginsAtZero (p : Place) (d g : Name) (t : IrType) : Type 0 where
  pub zero : ir_world.zeros_in (ir_world.class_of p.classes d) g ≡ Some (ir_world.zero_of t)
  pub values : t ≡ Nothing → ⊥
