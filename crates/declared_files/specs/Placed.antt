-- The items of files that run one behind another, and what the binding of each holds once they have run.
use Rattle.std.specs.Prelude.{◌≡◌, ℕ, Bool, true, false, ◌&&◌, List, [], ◌∷◌, ◌++◌, map, slice_get, Option, Some, None}
use Rattle.std.specs.List.{Contains, list_all, list_any}
use Rattle.file_declarations.specs.Declarations.{declares as declares_alone, Holds as HoldsAlone, behind}
use Rattle.file_tops.specs.Tops.{literal_properties, after_items, after_files, link}
use Rattle.js_mean.specs.Files.{module_among, items_in, is_good_file, owner, running_order}
use Rattle.js_mean.specs.Meaning.{opening}
use Rattle.js_mean.specs.Objects.{no_properties}
use Rattle.js_mean.specs.Proper.{are_distinct}
use Rattle.js_mean.specs.States.{Value, class, ClassLink, holds, Stored, plain, State, Program}
use Rattle.js_tree.specs.Names.{is_same_text}
use Rattle.js_tree.specs.Terms.{Name, Property, Item, object_item, class_item, subclass_item}

-- a file runs last of those that it reaches by imports, and each of these runs once
pub record RunsLast (p : Program) (f : Name) : Type 0 where
  pub front : List Name
  pub order : running_order p f ≡ front ++ f ∷ []
  pub once : are_distinct (running_order p f) ≡ true

abbrev pub FilesRunLast : Type 0
FilesRunLast = (p : Program) (f : Name) → RunsLast p f

-- an item, and the file in which it stands
pub record Placed : Type 0 where
  pub file : Name
  pub item : Item

abbrev pub placed : Name → Item → Placed
placed f i = record { file = f; item = i }

-- the items of these files, in the order in which they run, and behind them items of one more
abbrev pub items_until : Program → List Name → Name → List Item → List Placed
items_until p [] g is = map (placed g) is
items_until p (f ∷ fs) g is = map (placed f) (items_in (module_among p f)) ++ items_until p fs g is

-- with the class that an item declares
abbrev pub with_class : Name → Item → List ClassLink → List ClassLink
with_class f (class_item x ms) cs = link f x ∷ cs
with_class f (subclass_item x y ms) cs = link f x ∷ cs
with_class f _ cs = cs

-- the binding of this name in this file is one of these classes
abbrev pub is_one_of : List ClassLink → Name → Name → Bool
is_one_of cs f x = list_any (λ (c : ClassLink). is_same_text f c.file && is_same_text x c.name) cs

abbrev pub leads_to : List ClassLink → Option Name → Name → Bool
leads_to cs None x = false
leads_to cs (Some f) x = is_one_of cs f x

-- the item only declares, where these classes are declared in front of it: a class extends one of these, in its own file or in another
abbrev pub declares : Program → List ClassLink → Name → Item → Bool
declares p cs f (subclass_item x y ms) = leads_to cs (owner p f y) y
declares p cs f i = declares_alone [] i

abbrev pub declare : Program → List ClassLink → List Placed → Bool
declare p cs [] = true
declare p cs (l ∷ ls) = declares p cs l.file l.item && declare p (with_class l.file l.item cs) ls

-- the item is the class of this name
abbrev pub is_class : Name → Item → Bool
is_class y (class_item x ms) = is_same_text y x
is_class y (subclass_item x z ms) = is_same_text y x
is_class y _ = false

-- the class of this name and file is declared in one of these files, or by one of these items of the file at hand
pub data IsInFront (p : Program) (fs : List Name) (f : Name) (front : List Item) (g y : Name) : Type 0 where
  in_a_file : (i : Item) → Contains fs g → Contains (items_in (module_among p g)) i → is_class y i ≡ true → IsInFront p fs f front g y
  in_this_file : (i : Item) → f ≡ g → Contains front i → is_class y i ≡ true → IsInFront p fs f front g y

-- an item of a file only declares, where these files and these items of its own stand in front of it
abbrev pub DeclaresBehind : Program → List Name → Name → List Item → Item → Type 0
DeclaresBehind p fs f front (subclass_item x y ms) = (g : Name) × (owner p f y ≡ Some g) × IsInFront p fs f front g y
DeclaresBehind p fs f front i = declares_alone [] i ≡ true

-- where each item does so in its place, the items of the files do
abbrev pub FilesDeclareInOrder : Type 0
FilesDeclareInOrder = (p : Program) (fs : List Name) (f : Name) (is : List Item)
    → ((before after : List Name) (g : Name) → fs ≡ before ++ g ∷ after → (front behind : List Item) (i : Item) → items_in (module_among p g) ≡ front ++ i ∷ behind → DeclaresBehind p before g front i)
    → ((front behind : List Item) (i : Item) → is ≡ front ++ i ∷ behind → DeclaresBehind p fs f front i)
    → declare p [] (items_until p fs f is) ≡ true

-- a class that extends another: it holds itself in front of what the other holds, in the file of the other
pub record HoldsClass (p : Program) (f x y : Name) (t : State) : Type 0 where
  pub from : Name
  pub owned : owner p f y ≡ Some from
  pub above : List ClassLink
  pub held : t.tops f x ≡ holds false (class (link f x ∷ above))
  pub held_above : t.tops from y ≡ holds false (class above)

-- what the binding of an item of this file holds, where this many objects are made in front of it
abbrev pub Holds : Program → State → ℕ → Name → Item → Type 0
Holds p t n f (subclass_item x y ms) = HoldsClass p f x y t
Holds p t n f i = HoldsAlone f t n i

abbrev pub AllHold : Program → State → ℕ → List Placed → Type 0
AllHold p t n [] = Unit {0}
AllHold p t n (l ∷ ls) = Holds p t n l.file l.item × AllHold p t (behind n l.item) ls

-- the object that one of these items declares
pub data OfPlaced (ls : List Placed) : Stored → Type 0 where
  of_placed : (f x : Name) (ps : List Property) (own : Name → Option Value) → Contains ls (placed f (object_item x ps)) → literal_properties ps no_properties ≡ Some own → OfPlaced ls (plain [] own)

-- the files run in this order, each once, and are good; and the last has these items in front of the rest
pub record RunInOrder (p : Program) (fs : List Name) (f : Name) (is rest : List Item) : Type 0 where
  pub good : list_all (is_good_file p) (fs ++ f ∷ []) ≡ true
  pub once : are_distinct (fs ++ f ∷ []) ≡ true
  pub items : items_in (module_among p f) ≡ is ++ rest

-- the files, and the items of the last, come to a state in which the binding of each holds what it is to hold, and nothing stands on the heap but objects that they declare
pub record DeclaredAt (p : Program) (fs : List Name) (f : Name) (is : List Item) : Type 0 where
  pub front : State
  pub runs : after_files p fs (opening p) ≡ Some front
  pub end : State
  pub runs_last : after_items p f is front ≡ Some end
  pub hold : AllHold p end 0 (items_until p fs f is)
  pub made : (a : ℕ) (y : Stored) → slice_get end.heap a ≡ Some y → OfPlaced (items_until p fs f is) y

-- files of declarations, and declarations in front of what else stands in the last, do so
abbrev pub DeclarationsOfFilesHold : Type 0
DeclarationsOfFilesHold = (p : Program) (fs : List Name) (f : Name) (is rest : List Item) → RunInOrder p fs f is rest → declare p [] (items_until p fs f is) ≡ true → DeclaredAt p fs f is
