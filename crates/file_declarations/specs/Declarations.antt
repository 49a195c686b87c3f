-- Items that only declare, and what the binding of each holds once they have run.
use Rattle.std.specs.Prelude.{◌≡◌, ℕ, suc, Bool, true, false, ◌&&◌, List, [], ◌∷◌, ◌++◌, slice_get, Option, Some, is_some}
use Rattle.std.specs.List.{list_all}
use Rattle.file_tops.specs.Tops.{literal_value, literal_properties, after_items, link}
use Rattle.js_mean.specs.Files.{module_among}
use Rattle.js_mean.specs.Meaning.{opening}
use Rattle.js_mean.specs.Objects.{no_properties}
use Rattle.js_mean.specs.Proper.{is_among, are_distinct, item_names}
use Rattle.js_mean.specs.States.{Value, object, function, class, ClassLink, Cell, holds, plain, State, Program}
use Rattle.js_tree.specs.Terms.{Name, Expression, Property, Item, const_item, object_item, let_item, expression_item, function_item, class_item, subclass_item, Module}

-- with the class that an item declares
abbrev pub with_class : Item → List Name → List Name
with_class (class_item x ms) cs = x ∷ cs
with_class (subclass_item x y ms) cs = x ∷ cs
with_class _ cs = cs

-- the item only declares, where these classes are declared in front of it: a name or an object begins with literals, and a class extends one of these
abbrev pub declares : List Name → Item → Bool
declares cs (const_item x e) = is_some (literal_value e)
declares cs (object_item x ps) = list_all (λ (q : Property). is_some (literal_value q.value)) ps
declares cs (let_item x e) = is_some (literal_value e)
declares cs (expression_item e) = false
declares cs (function_item x xs ss) = true
declares cs (class_item x ms) = true
declares cs (subclass_item x y ms) = is_among cs y

abbrev pub declare : List Name → List Item → Bool
declare cs [] = true
declare cs (i ∷ is) = declares cs i && declare (with_class i cs) is

-- a name that holds its literal
pub record HoldsLiteral (const : Bool) (e : Expression) (cell : Cell) : Type 0 where
  pub value : Value
  pub literal : literal_value e ≡ Some value
  pub held : cell ≡ holds const value

-- a constant that holds the object of these properties, which stands at this address
pub record HoldsObject (n : ℕ) (ps : List Property) (t : State) (cell : Cell) : Type 0 where
  pub properties : Name → Option Value
  pub literal : literal_properties ps no_properties ≡ Some properties
  pub held : cell ≡ holds true (object n)
  pub there : slice_get t.heap n ≡ Some (plain [] properties)

-- a class that extends another: it holds itself in front of what the other holds
pub record HoldsClass (f x y : Name) (t : State) : Type 0 where
  pub above : List ClassLink
  pub held : t.tops f x ≡ holds false (class (link f x ∷ above))
  pub held_above : t.tops f y ≡ holds false (class above)

-- what the binding of an item of this file holds, where this many objects are made in front of it
abbrev pub Holds : Name → State → ℕ → Item → Type 0
Holds f t n (const_item x e) = HoldsLiteral true e (t.tops f x)
Holds f t n (object_item x ps) = HoldsObject n ps t (t.tops f x)
Holds f t n (let_item x e) = HoldsLiteral false e (t.tops f x)
Holds f t n (expression_item e) = ⊥
Holds f t n (function_item x xs ss) = t.tops f x ≡ holds false (function f x)
Holds f t n (class_item x ms) = t.tops f x ≡ holds false (class (link f x ∷ []))
Holds f t n (subclass_item x y ms) = HoldsClass f x y t

-- this many objects, and that of the item, if it makes one
abbrev pub behind : ℕ → Item → ℕ
behind n (object_item x ps) = suc n
behind n _ = n

abbrev pub AllHold : Name → State → ℕ → List Item → Type 0
AllHold f t n [] = Unit {0}
AllHold f t n (i ∷ is) = Holds f t n i × AllHold f t (behind n i) is

-- the items come to a state in which the binding of each holds what it is to hold
pub record DeclaredAt (p : Program) (f : Name) (is : List Item) (s : State) (n : ℕ) : Type 0 where
  pub end : State
  pub runs : after_items p f is s ≡ Some end
  pub hold : AllHold f end n is

-- declarations in front of what else stands in a module without imports, no two of one name, do so in its file
abbrev pub DeclarationsHold : Type 0
DeclarationsHold = (p : Program) (f : Name) (m : Module) (is rest : List Item) → module_among p f ≡ Some m → m.imports ≡ [] → m.items ≡ is ++ rest → are_distinct (item_names m.items) ≡ true → declare [] is ≡ true → DeclaredAt p f is (opening p) 0
