-- Objects and arrays on the heap, and properties. Sections are those of ECMA-262, 11th edition (2020).
use Rattle.std.specs.Prelude.{ℕ, Bool, false, List, [], ◌∷◌, ◌++◌, ◌-◌, ◌^◌, ℤ, pos, negsuc, length, set, replicate, slice_get, nat_lt, ◌||◌, Option, Some, None, codes, is_some, if◌then◌else◌}
use Rattle.std.specs.List.{list_any}
use Rattle.js_tree.specs.Names.{is_same_text, is_property}
use Rattle.js_tree.specs.Terms.{Name}
use Rattle.js_mean.specs.Classes.{method_code}
use Rattle.js_mean.specs.Operators.{are_same_classes, text_of}
use Rattle.js_mean.specs.States.{Value, undefined, null, boolean, number, big_int, text, object, function, class, method, ClassLink, Stored, plain, array, State, Program}

-- the first class of these that has a method of this name gives it, with itself and those behind it (9.1.8)
abbrev pub method_on : Program → List ClassLink → Name → Option Value
method_on p [] x = None
method_on p (l ∷ ls) x = if is_some (method_code p l x) then Some (method (l ∷ ls) x) else method_on p ls x

-- a property: the object's own, else that of its classes (9.1.8.1)
abbrev pub or_value : Option Value → Option Value → Option Value
or_value None other = other
or_value (Some v) other = Some v

-- a property or an item that isn't there is undefined
abbrev pub or_undefined : Option Value → Value
or_undefined None = undefined
or_undefined (Some v) = v

abbrev pub found_on : Program → List ClassLink → (Name → Option Value) → Name → Option Value
found_on p ls own x = or_value (own x) (method_on p ls x)

-- what the standard gives to every object (19.1.3, B.2.2): each is there, and none is a value of the subset
abbrev pub given_to_objects : List Name
given_to_objects = codes "constructor" ∷ codes "hasOwnProperty" ∷ codes "isPrototypeOf" ∷ codes "propertyIsEnumerable" ∷ codes "toLocaleString" ∷ codes "toString" ∷ codes "valueOf" ∷ codes "__proto__" ∷ codes "__defineGetter__" ∷ codes "__defineSetter__" ∷ codes "__lookupGetter__" ∷ codes "__lookupSetter__" ∷ []

abbrev pub is_given : Name → Bool
is_given x = list_any (is_same_text x) given_to_objects

-- a property of an object: one that isn't there is undefined, and there is no value for one that the standard gives
abbrev pub value_on : Option Value → Name → Option Value
value_on (Some v) x = Some v
value_on None x = if is_given x then None else Some undefined

-- the number of the items of an array (9.4.2); its other properties are no values of the subset
abbrev pub array_property : List Value → Name → Option Value
array_property items x = if is_same_text x (codes "length") then Some (number (pos (length items))) else None

abbrev pub stored_property : Program → Option Stored → Name → Option Value
stored_property p (Some (plain ls own)) x = value_on (found_on p ls own x) x
stored_property p (Some (array items)) x = array_property items x
stored_property p None x = None

-- a property of a value, or none where asking for it is wrong (12.3.2, 7.3.3): the properties that the standard gives to texts and functions
-- are no values of the subset
abbrev pub property : Program → State → Value → Name → Option Value
property p s undefined x = None
property p s null x = None
property p s (object a) x = stored_property p (slice_get s.heap a) x
property p s (boolean b) x = Some undefined
property p s (number z) x = Some undefined
property p s (big_int z) x = Some undefined
property p s (text us) x = if is_same_text x (codes "length") || is_same_text x (codes "charCodeAt") then None else Some undefined
property p s (function f x) y = if is_same_text y (codes "length") then None else Some undefined
property p s (class ls) y = if is_same_text y (codes "length") then None else Some undefined
property p s (method ls x) y = if is_same_text y (codes "length") then None else Some undefined

-- a value as the name of a property (7.1.19)
abbrev pub key_of : Value → Option Name
key_of = text_of

-- an item of an array by its index: outside the array there is none
abbrev pub item_at : List Value → ℤ → Value
item_at items (pos n) = or_undefined (slice_get items n)
item_at items (negsuc n) = undefined

abbrev pub array_element : List Value → Value → Option Value
array_element items (number z) = Some (item_at items z)
array_element items _ = None

abbrev pub keyed_property : Program → List ClassLink → (Name → Option Value) → Option Name → Option Value
keyed_property p ls own None = None
keyed_property p ls own (Some x) = value_on (found_on p ls own x) x

abbrev pub stored_element : Program → Option Stored → Value → Option Value
stored_element p (Some (plain ls own)) i = keyed_property p ls own (key_of i)
stored_element p (Some (array items)) i = array_element items i
stored_element p None i = None

-- Numbers, BigInts and booleans have no property that is a number or a name of the subset
abbrev pub bare_element : Value → Option Value
bare_element (number z) = Some undefined
bare_element (text x) = if is_property x then Some undefined else None
bare_element _ = None

-- an element of a value, or none where asking for it is wrong (12.3.3)
abbrev pub element : Program → State → Value → Value → Option Value
element p s (object a) i = stored_element p (slice_get s.heap a) i
element p s (boolean b) i = bare_element i
element p s (number z) i = bare_element i
element p s (big_int z) i = bare_element i
element p s _ i = None

-- whether an object has a property (12.10.3)
abbrev pub has_key : Program → List ClassLink → (Name → Option Value) → Option Name → Option Bool
has_key p ls own None = None
has_key p ls own (Some x) = Some (is_some (found_on p ls own x) || is_given x)

abbrev pub stored_has : Program → Option Stored → Value → Option Bool
stored_has p (Some (plain ls own)) k = has_key p ls own (key_of k)
stored_has p _ k = None

abbrev pub has_property : Program → State → Value → Value → Option Bool
has_property p s k (object a) = stored_has p (slice_get s.heap a) k
has_property p s k _ = None

-- whether a class stands among these (12.10.4)
abbrev pub is_below : List ClassLink → List ClassLink → Bool
is_below [] ks = false
is_below (l ∷ ls) ks = are_same_classes (l ∷ ls) ks || is_below ls ks

abbrev pub stored_below : Option Stored → List ClassLink → Bool
stored_below (Some (plain ls own)) ks = is_below ls ks
stored_below _ ks = false

-- an instance of a class: no value but an object is one (12.10.4)
abbrev pub is_instance : State → Value → Value → Option Bool
is_instance s (object a) (class ks) = Some (stored_below (slice_get s.heap a) ks)
is_instance s v (class ks) = Some false
is_instance s v _ = None

abbrev pub with_heap : List Stored → State → State
with_heap heap s = record { heap = heap; tops = s.tops }

-- the state with one more object or array, and the address that it has
abbrev pub next_address : State → ℕ
next_address s = length s.heap

abbrev pub with_stored : Stored → State → State
with_stored o s = with_heap (s.heap ++ o ∷ []) s

-- the state in which something else stands at an address
abbrev pub at_address : ℕ → Stored → State → State
at_address a o s = with_heap (set s.heap a o) s

-- a new object of these classes, with these properties
abbrev pub allocated : List ClassLink → (Name → Option Value) → State → State
allocated ls own s = with_stored (plain ls own) s

abbrev pub no_properties : Name → Option Value
no_properties x = None

abbrev pub with_property : Name → Value → (Name → Option Value) → Name → Option Value
with_property x v own y = if is_same_text y x then Some v else own y

-- an object's own property is set (9.1.9); the prototype of an object can't be set here, and nothing of an array by a name
abbrev pub set_stored : ℕ → Option Stored → Name → Value → State → Option State
set_stored a (Some (plain ls own)) x v s = if is_same_text x (codes "__proto__") then None else Some (at_address a (plain ls (with_property x v own)) s)
set_stored a _ x v s = None

abbrev pub set_property : Value → Name → Value → State → Option State
set_property (object a) x v s = set_stored a (slice_get s.heap a) x v s
set_property _ x v s = None

-- an item of an array is set: at or above the length the array gets longer, up to the greatest length (9.4.2.1)
abbrev pub with_item : List Value → ℕ → Value → List Value
with_item items n v = if nat_lt n (length items) then set items n v else (items ++ replicate (n - length items) undefined ++ v ∷ [])

abbrev pub set_item : ℕ → List Value → ℤ → Value → State → Option State
set_item a items (pos n) v s = if nat_lt n (2 ^ 32 - 1) then Some (at_address a (array (with_item items n v)) s) else None
set_item a items (negsuc n) v s = None

abbrev pub set_array_element : ℕ → List Value → Value → Value → State → Option State
set_array_element a items (number z) v s = set_item a items z v s
set_array_element a items _ v s = None

abbrev pub set_keyed : ℕ → Stored → Option Name → Value → State → Option State
set_keyed a o None v s = None
set_keyed a o (Some x) v s = set_stored a (Some o) x v s

abbrev pub set_stored_element : ℕ → Option Stored → Value → Value → State → Option State
set_stored_element a (Some (plain ls own)) i v s = set_keyed a (plain ls own) (key_of i) v s
set_stored_element a (Some (array items)) i v s = set_array_element a items i v s
set_stored_element a None i v s = None

abbrev pub set_element : Value → Value → Value → State → Option State
set_element (object a) i v s = set_stored_element a (slice_get s.heap a) i v s
set_element _ i v s = None

-- `new Array(..)` of one value: a Number is the length of an array without items, any other value its one item (22.1.1.2)
abbrev pub array_of : Value → Option (List Value)
array_of (number (pos n)) = if nat_lt n (2 ^ 32) then Some (replicate n undefined) else None
array_of (number (negsuc n)) = None
array_of v = Some (v ∷ [])

-- what is called by a property: `fill` of an array, or a value
pub data Callee : Type 0 where
  fill_of : ℕ → Callee
  value_called : Value → Callee

abbrev pub called : Option Value → Option Callee
called None = None
called (Some v) = Some (value_called v)

abbrev pub stored_callee : Program → ℕ → Option Stored → Name → Option Callee
stored_callee p a (Some (array items)) x = if is_same_text x (codes "fill") then Some (fill_of a) else called (array_property items x)
stored_callee p a o x = called (stored_property p o x)

-- what a call by a property calls, or none where asking for it is wrong (12.3.6.1)
abbrev pub callee : Program → State → Value → Name → Option Callee
callee p s (object a) x = stored_callee p a (slice_get s.heap a) x
callee p s v x = called (property p s v x)

-- `fill` of one value: each item is that value (22.1.3.6)
abbrev pub filled : ℕ → Option Stored → Value → State → Option State
filled a (Some (array items)) v s = Some (at_address a (array (replicate (length items) v)) s)
filled a _ v s = None

-- `typeof` (12.5.5)
abbrev pub type_word : Value → List ℕ
type_word undefined = codes "undefined"
type_word null = codes "object"
type_word (boolean b) = codes "boolean"
type_word (number z) = codes "number"
type_word (big_int z) = codes "bigint"
type_word (text us) = codes "string"
type_word (object a) = codes "object"
type_word (function f x) = codes "function"
type_word (class ls) = codes "function"
type_word (method ls x) = codes "function"
