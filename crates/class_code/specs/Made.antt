-- `new` of a class makes an object with the fields of its chain.
use Rattle.std.specs.Prelude.{◌≡◌, ℕ, ◌+◌, ◌<◌, Bool, List, [], ◌∷◌, length, map, Option, Some, None, codes}
use Rattle.js_tree.specs.Terms.{Name, Member, constructor_of}
use Rattle.js_tree.specs.Views.{statements_of}
use Rattle.outcomes.specs.Outcome.{done, going}
use Rattle.sj_mangling.specs.Bindings.{field_binding}
use Rattle.sj_mangling.specs.declared.bindings.FieldBinding.TheVariants.{Property}
use Rattle.sj_trees.specs.declared.classes.FieldDef.{FieldDef}
use Rattle.js_mean.specs.Classes.{members_of}
use Rattle.js_mean.specs.Objects.{no_properties, with_property, allocated, next_address}
use Rattle.js_mean.specs.Files.{owner}
use Rattle.js_mean.specs.States.{Value, object, ClassLink, holds, State, gives, Program}
use Rattle.js_mean.specs.Meaning.{below, top_cell, construct}
use Rattle.file_tops.specs.Tops.{with_each, literal_value}
use Rattle.entry_search.specs.Words.{class_name, constants_name}
use Rattle.entry_search.specs.Pieces.{zero_of, constructor_body}

-- own properties with the fields of a class at their zeros
abbrev pub with_fields : Name → List FieldDef → (Name → Option Value) → Option (Name → Option Value)
with_fields c [] own = Some own
with_fields c (f ∷ fs) own = with_each (literal_value (zero_of f.tpe)) (λ v. with_fields c fs (with_property (field_binding Property c f.name) v own))

-- the constructor of a class stands in the program, and its constants at an address
pub record MakerStands (p : Program) (link_of : Name → ClassLink) (s : State) (c : Name) (superclass : Option Name) (fields : List FieldDef) (constants : ℕ) : Type 0 where
  pub others : List Member
  pub members_are : members_of p (link_of c) ≡ Some (constructor_of [] (statements_of (constructor_body c superclass fields)) ∷ others)
  pub named : (link_of c).name ≡ class_name c
  pub const : Bool
  pub constants_stand : top_cell (owner p (link_of c).file (constants_name c)) (constants_name c) s ≡ holds const (object constants)

-- the classes of a chain, and the properties that an object of it has when it is made
pub data Makes (p : Program) (link_of : Name → ClassLink) (s : State) : List Name → (Name → Option Value) → Type 0 where
  makes_top : (c : Name) (fields : List FieldDef) (k : ℕ) (own : Name → Option Value) → MakerStands p link_of s c None fields k → with_fields c fields (with_property (codes "k") (object k) no_properties) ≡ Some own → Makes p link_of s (c ∷ []) own
  makes_more : (c d : Name) (ds : List Name) (fields : List FieldDef) (k : ℕ) (before own : Name → Option Value) → Makes p link_of s (d ∷ ds) before → MakerStands p link_of s c (Some d) fields k → with_fields c fields (with_property (codes "k") (object k) before) ≡ Some own → Makes p link_of s (c ∷ d ∷ ds) own

-- a chain of classes costs a unit for each, and makes one object, with these properties and nothing else; with fewer units it is going
abbrev pub ChainsMake : Type 0
ChainsMake = (p : Program) (link_of : Name → ClassLink) (s : State) (chain : List Name) (own : Name → Option Value) (target : List ClassLink) → Makes p link_of s chain own → (n : ℕ) →
    construct p (below p (length chain + n)) (map link_of chain) target [] s ≡ done (gives (object (next_address s)) (allocated target own s))

abbrev pub ShortBoundsGo : Type 0
ShortBoundsGo = (p : Program) (link_of : Name → ClassLink) (s : State) (chain : List Name) (own : Name → Option Value) (target : List ClassLink) → Makes p link_of s chain own → (m : ℕ) → m < length chain → construct p (below p m) (map link_of chain) target [] s ≡ going
