-- When a value of the IR and one of the emitted code stand for each other.
use Rattle.std.specs.Prelude.{◌≡◌, ℕ, ◌^◌, ◌<◌, Bool, true, false, codes, List, [], ◌∷◌, Option, Some, None, ◌==◌, if◌then◌else◌, ℤ, pos, FitsSigned}
use Rattle.std.specs.Int.{w32, w64}
use Rattle.ir_mean.specs.States as ir
use Rattle.js_mean.specs.States as js
use Rattle.js_tree.specs.Terms.{Name}
use Rattle.agree_body_rules.specs.Coercions.{is_char}
use Rattle.agree_body_rules.specs.Standing.{Fits}
use Rattle.sj_mangling.specs.Bindings.{class_binding, method_binding}
use Rattle.sj_mangling.specs.declared.bindings.MethodBinding.TheVariants.{Entry}
use Rattle.sj_names.specs.declared.method_names.MethodName.{MethodName}
use Rattle.sj_names.specs.declared.references.ArrayRef.{ArrayRef}
use Rattle.sj_mangling.specs.declared.bindings.ClassBinding.TheVariants.{Marker}
use Rattle.agree_plain_trees.specs.Standing.{suits}
use Rattle.sj_trees.specs.declared.types.IrType.{IrType}
use Rattle.sj_trees.specs.declared.types.IrType.TheVariants.{Array}

-- an array of the IR: its reference, and the address at which the emitted code has its items
pub record ArrayAt : Type 0 where
  pub kind : ArrayRef
  pub items : ℕ

-- the address that the emitted code has for each address of the IR, and the class of the IR's object at it, which is that of objects for an array; the arrays among these; what it has for itself at
-- other addresses (constants of classes, and objects that hold chars), which stays as it is; the objects that it has already made and the IR hasn't yet, as they stand; and the class of objects that
-- hold chars
pub record World : Type 0 where
  pub place : ℕ → Option ℕ
  pub classes : ℕ → Option (List ℕ)
  pub arrays : ℕ → Option ArrayAt
  pub owned : ℕ → Option js.Stored
  pub pending : ℕ → Option js.Stored
  pub boxes : List js.ClassLink

-- the world of a program that begins
abbrev pub nothing_made : List js.ClassLink → World
nothing_made boxes = record { place = λ i. None; classes = λ i. None; arrays = λ i. None; owned = λ a. None; pending = λ a. None; boxes = boxes }

-- the world in which the emitted code has made this object at this address, and the IR hasn't yet
abbrev pub with_pending : ℕ → js.Stored → World → World
with_pending a o w = record { place = w.place; classes = w.classes; arrays = w.arrays; owned = w.owned; pending = λ b. if b == a then Some o else w.pending b; boxes = w.boxes }

-- the world in which the emitted code has made this object for itself at this address
abbrev pub with_owned : ℕ → js.Stored → World → World
with_owned a o w = record { place = w.place; classes = w.classes; arrays = w.arrays; owned = λ b. if b == a then Some o else w.owned b; pending = w.pending; boxes = w.boxes }

-- the world in which the IR has made its own, of this class at this address, for the one that was pending there
abbrev pub with_born : ℕ → ℕ → List ℕ → World → World
with_born i a c w = record { place = λ j. if j == i then Some a else w.place j; classes = λ j. if j == i then Some c else w.classes j; arrays = w.arrays; owned = w.owned; pending = λ b. if b == a then None else w.pending b; boxes = w.boxes }

-- the world in which both have made an array, the IR at this address and the emitted code at that one
abbrev pub with_array : ℕ → ℕ → ArrayAt → World → World
with_array i a k w = record { place = λ j. if j == i then Some a else w.place j; classes = λ j. if j == i then Some (codes "java.lang.Object") else w.classes j; arrays = λ j. if j == i then Some k else w.arrays j; owned = w.owned; pending = w.pending; boxes = w.boxes }

-- a world in which what had an address has it still, with its class, and as the same array; and what the emitted code had, it has
pub record Grows (old new : World) : Type 0 where
  pub places : (i a : ℕ) → old.place i ≡ Some a → new.place i ≡ Some a
  pub classes : (i a : ℕ) (c : List ℕ) → old.place i ≡ Some a → old.classes i ≡ Some c → new.classes i ≡ Some c
  pub arrays : (i : ℕ) (k : ArrayAt) → old.arrays i ≡ Some k → new.arrays i ≡ Some k
  pub owns : (a : ℕ) (o : js.Stored) → old.owned a ≡ Some o → new.owned a ≡ Some o
  pub pends : (a : ℕ) (o : js.Stored) → old.pending a ≡ Some o → new.pending a ≡ Some o
  pub boxes : old.boxes ≡ new.boxes

-- an object of the class of those that hold chars, as the emitted code has it for itself and never changes it: its property `c` is the char, its constants
-- have the marker of `java.lang.Character`, and no entry of a method is among its properties
pub record IsBox (w : World) (u a : ℕ) : Type 0 where
  pub properties : Name → Option js.Value
  pub address : ℕ
  pub constants : Name → Option js.Value
  pub owned : w.owned a ≡ Some (js.plain w.boxes properties)
  pub char : properties (codes "c") ≡ Some (js.number (pos u))
  pub held : properties (codes "k") ≡ Some (js.object address)
  pub constants_owned : w.owned address ≡ Some (js.plain [] constants)
  pub marked : constants (codes "s") ≡ Some (js.text (class_binding Marker (codes "java.lang.Character")))
  pub bare : (m : MethodName) → properties (method_binding Entry m) ≡ None

-- a value, and the value of the emitted code that stands for it: of a reference the address that it has in the world, of a char a Number where it is raw,
-- and else an object that holds it
pub data Stands (w : World) (raw : Bool) : ir.Value → js.Value → Type 0 where
  same_undefined : Stands w raw ir.undefined js.undefined
  same_null : Stands w raw ir.null js.null
  same_boolean : (b : Bool) → Stands w raw (ir.boolean b) (js.boolean b)
  same_char : raw ≡ true → (u : ℕ) → u < 2 ^ 16 → Stands w raw (ir.char u) (js.number (pos u))
  same_box : raw ≡ false → (u a : ℕ) → u < 2 ^ 16 → IsBox w u a → Stands w raw (ir.char u) (js.object a)
  same_number : (z : ℤ) → FitsSigned w32 z → Stands w raw (ir.number z) (js.number z)
  same_long : (z : ℤ) → FitsSigned w64 z → Stands w raw (ir.long z) (js.big_int z)
  same_text : (us : List ℕ) → Stands w raw (ir.text us) (js.text us)
  same_reference : (i a : ℕ) → w.place i ≡ Some a → Stands w raw (ir.reference i) (js.object a)

-- the address is that of an array, which may stand where one of this reference is expected
pub record IsArrayAt (w : World) (i : ℕ) (r : ArrayRef) : Type 0 where
  pub at : ArrayAt
  pub told : w.arrays i ≡ Some at
  pub fits : Fits (Array r) (Array at.kind)

-- what has an address is an array where the type is one of arrays
abbrev pub Shaped : World → ir.Value → IrType → Type 0
Shaped w (ir.reference i) (Array r) = IsArrayAt w i r
Shaped w v t = Unit {0}

-- the value is of the kind of this type, and the other stands for it, a char being raw where the type is char and nowhere else
pub record SameValue (w : World) (t : IrType) (v : ir.Value) (x : js.Value) : Type 0 where
  pub stands : Stands w (is_char t) v x
  pub suits : suits t v ≡ true
  pub shaped : Shaped w v t

pub data SameValues (w : World) : List IrType → List ir.Value → List js.Value → Type 0 where
  no_values : SameValues w [] [] []
  one_more : (t : IrType) (v : ir.Value) (x : js.Value) (ts : List IrType) (vs : List ir.Value) (xs : List js.Value) → SameValue w t v x → SameValues w ts vs xs → SameValues w (t ∷ ts) (v ∷ vs) (x ∷ xs)
