-- Laws of the tops of files.
use Rattle.std.specs.Prelude.{◌≡◌, ◌⊎◌, ℕ, true, false, List, [], ◌∷◌, ◌++◌, slice_get, Option, Some}
use Rattle.std.specs.List.{Contains}
use Rattle.js_tree.specs.Names.{is_same_text}
use Rattle.js_tree.specs.Terms.{Name, Property, Item, object_item, Member, subclass_item}
use Rattle.js_mean.specs.Objects.{no_properties}
use Rattle.js_mean.specs.States.{Value, class, ClassLink, holds, Stored, plain, State, Program}
use Rattle.js_mean.specs.Files.{owner}
use Rattle.js_mean.specs.Meaning.{cell_of, top_scope, run_items, run_files}
use Rattle.file_tops.specs.Tops.{literal_properties, after_items, after_files, start_name, classes_in, link}

-- declarations come to one state, at every bound and without a line, and what stands behind them runs in it
abbrev pub DeclarationsRun : Type 0
DeclarationsRun = (p : Program) (m : ℕ) (f : Name) (is js : List Item) (s t : State) → after_items p f is s ≡ Some t → run_items p m f (is ++ js) s ≡ run_items p m f js t

-- the same for files that only declare, before others
abbrev pub FilesDeclare : Type 0
FilesDeclare = (p : Program) (m : ℕ) (fs gs : List Name) (s t : State) → after_files p fs s ≡ Some t → run_files p m (fs ++ gs) s ≡ run_files p m gs t

-- what no later item starts is as it was
abbrev pub OthersStay : Type 0
OthersStay = (p : Program) (f : Name) (is : List Item) (s t : State) (g y : Name) → after_items p f is s ≡ Some t → (is_same_text g f ≡ true → start_name is y ≡ false) → t.tops g y ≡ s.tops g y

-- a class that extends another holds itself and, behind it, what the other's name holds at the end
pub record Extends (p : Program) (f x y : Name) (t : State) : Type 0 where
  pub above : List ClassLink
  pub is_class : t.tops f x ≡ holds false (class (link f x ∷ above))
  pub is_above : classes_in (cell_of p y (top_scope p f) t) ≡ Some above

-- nothing from here on starts the name that it extends
abbrev pub IsSettled : Program → Name → Name → List Item → Type 0
IsSettled p f y is = (g : Name) → owner p f y ≡ Some g → is_same_text g f ≡ true → start_name is y ≡ false

abbrev pub ClassesExtend : Type 0
ClassesExtend = (p : Program) (f : Name) (front back : List Item) (s t : State) (x y : Name) (ms : List Member) → after_items p f (front ++ subclass_item x y ms ∷ back) s ≡ Some t → start_name back x ≡ false → IsSettled p f y (subclass_item x y ms ∷ back) → Extends p f x y t

-- the object that one of these items declares
pub data OfItem (is : List Item) : Stored → Type 0 where
  of_item : (x : Name) (ps : List Property) (own : Name → Option Value) → Contains is (object_item x ps) → literal_properties ps no_properties ≡ Some own → OfItem is (plain [] own)

-- what stands on the heap behind items stood there before, or is the object that one of them declares
abbrev pub HeapsAreOfItems : Type 0
HeapsAreOfItems = (p : Program) (f : Name) (is : List Item) (s t : State) → after_items p f is s ≡ Some t → (a : ℕ) (y : Stored) → slice_get t.heap a ≡ Some y → (slice_get s.heap a ≡ Some y) ⊎ OfItem is y
