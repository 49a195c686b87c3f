-- `new` of a class makes an object with the fields of its chain, which stands for the IR's.
use Rattle.std.specs.Prelude.{◌≡◌, ℕ, ◌+◌, ◌<◌, ◌≤◌, Bool, List, [], ◌∷◌, length, map, Option, Some, None, codes}
use Rattle.js_tree.specs.Terms.{Name, Member, constructor_of}
use Rattle.js_tree.specs.Views.{statements_of}
use Rattle.outcomes.specs.Outcome.{done, going}
use Rattle.js_mean.specs.Classes.{members_of}
use Rattle.js_mean.specs.Files.{owner}
use Rattle.js_mean.specs.Meaning.{below, top_cell, construct}
use Rattle.js_mean.specs.Objects.{no_properties, with_property, allocated, next_address}
use Rattle.js_mean.specs.States.{Value, object, ClassLink, holds, State, gives, Program}
use Rattle.array_code.specs.Pieces.{constructor_body}
use Rattle.array_code.specs.Words.{class_name, constants_name}
use Rattle.sj_mangling.specs.Bindings.{field_binding}
use Rattle.sj_mangling.specs.declared.bindings.FieldBinding.TheVariants.{Property}
use Rattle.sj_trees.specs.declared.classes.FieldDef.{FieldDef}
use Rattle.dispatch_laws.specs.Dispatch.{chain_of}
use Rattle.dispatch_laws.specs.States as ir
use Rattle.js_mean.specs.States as js
pub use Rattle.agree_bodies.specs.Settings.{zero_shown}
use Rattle.agree_bodies.specs.Settings.{Place, SameState, SameStored, link_of, links_of, zeroed}
use Rattle.agree_bodies.specs.Worlds.{World}

-- own properties with the fields of a class at their zeros
abbrev pub with_fields : Name → List FieldDef → (Name → Option Value) → Name → Option Value
with_fields c [] own = own
with_fields c (f ∷ fs) own = with_fields c fs (with_property (field_binding Property c f.name) (zero_shown f.tpe) own)

-- the properties that an object has behind the constructor of a class: those that it had, the constants of the class, and its fields
abbrev pub started : Name → List FieldDef → ℕ → (Name → Option Value) → Name → Option Value
started c fields constants own = with_fields c fields (with_property (codes "k") (object constants) own)

-- the constructor of a class stands in the program, and its constants at an address
pub record MakerStands (p : Program) (link_of : Name → ClassLink) (s : State) (c : Name) (superclass : Option Name) (fields : List FieldDef) (constants : ℕ) : Type 0 where
  pub others : List Member
  pub members_are : members_of p (link_of c) ≡ Some (constructor_of [] (statements_of (constructor_body c superclass fields)) ∷ others)
  pub named : (link_of c).name ≡ class_name c
  pub const : Bool
  pub constants_stand : top_cell (owner p (link_of c).file (constants_name c)) (constants_name c) s ≡ holds const (object constants)

-- the classes of a chain, and the properties that an object of it has when it is made
pub data Makers (p : Program) (link_of : Name → ClassLink) (s : State) : List Name → (Name → Option Value) → Type 0 where
  makes_top : (c : Name) (fields : List FieldDef) (k : ℕ) → MakerStands p link_of s c None fields k → Makers p link_of s (c ∷ []) (started c fields k no_properties)
  makes_more : (c d : Name) (ds : List Name) (fields : List FieldDef) (k : ℕ) (before : Name → Option Value) → Makers p link_of s (d ∷ ds) before → MakerStands p link_of s c (Some d) fields k → Makers p link_of s (c ∷ d ∷ ds) (started c fields k before)

-- a chain of classes costs a unit for each, and makes one object, with these properties and nothing else; with fewer units it is going
abbrev pub ChainsMake : Type 0
ChainsMake = (p : Program) (link_of : Name → ClassLink) (s : State) (chain : List Name) (own : Name → Option Value) (target : List ClassLink) → Makers p link_of s chain own → (n : ℕ) →
    construct p (below p (length chain + n)) (map link_of chain) target [] s ≡ done (gives (object (next_address s)) (allocated target own s))

abbrev pub ShortBoundsGo : Type 0
ShortBoundsGo = (p : Program) (link_of : Name → ClassLink) (s : State) (chain : List Name) (own : Name → Option Value) (target : List ClassLink) → Makers p link_of s chain own → (m : ℕ) → m < length chain → construct p (below p m) (map link_of chain) target [] s ≡ going

-- the chain of a class stands in the program, and an object that it makes stands for the IR's
pub record Stands (p : Place) (c : List ℕ) (w : World) (u : js.State) : Type 0 where
  pub own : Name → Option js.Value
  pub makers : Makers p.program (link_of p) u (chain_of p.classes c) own
  pub shape : SameStored p w c None (Some (zeroed p c)) (Some (js.plain (links_of p c) own))

-- objects of the class can be made in each state, and the units beyond those of the IR are enough for its chain
pub record IsMade (p : Place) (c : List ℕ) : Type 0 where
  pub depth : length (chain_of p.classes c) ≤ p.room.beyond
  pub stands : (w : World) (s : ir.State) (u : js.State) → SameState p w s u → Stands p c w u
