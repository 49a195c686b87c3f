-- Values of the IR, what a program keeps while it runs, and how a tree ends.
use Rattle.std.specs.Prelude.{ℕ, ℤ, Bool, ◌&&◌, List, [], ◌∷◌, ◌++◌, length, set, Option, Some, if◌then◌else◌}
use Rattle.sj_names.specs.declared.references.ArrayRef.{ArrayRef}
use Rattle.sj_names.specs.Same.{is_same_text}
use Rattle.outcomes.specs.Outcome.{Out, done, then_do}

-- a value; byte, short and int are one kind of number, a char and a unit of a text have 16 bits, and a reference is an address
pub data Value : Type 0 where
  undefined : Value
  null : Value
  boolean : Bool → Value
  char : ℕ → Value
  number : ℤ → Value
  long : ℤ → Value
  text : List ℕ → Value
  reference : ℕ → Value

-- what fields hold: the class that has the field, and its name
abbrev pub Fields : Type 0
Fields = List ℕ → List ℕ → Option Value

-- what stands at an address: an object of a class with its fields, or an array with its items
pub data Stored : Type 0 where
  object : List ℕ → Fields → Stored
  array : ArrayRef → List Value → Stored

-- the heap, whose addresses count from 0; the static fields; and the cell of each module class
pub record State : Type 0 where
  pub heap : List Stored
  pub statics : Fields
  pub cells : List ℕ → Value

-- the locals of a call
abbrev pub Locals : Type 0
Locals = List ℕ → Option Value

-- what a body is evaluated in: its This, of which a static method has none; its locals; and which of these are sure, so that they are never
-- null
pub record Env : Type 0 where
  pub this_value : Option Value
  pub locals : Locals
  pub sure : List ℕ → Bool

-- a tree gives a value, or throws one, or has left to a label with one. Inside a loop alone: its condition doesn't hold any more.
pub data Kind : Type 0 where
  gives : Value → Kind
  throws : Value → Kind
  leaves : List ℕ → Value → Kind
  stops : Kind

-- how a tree ends, with the locals and the state that it leaves
pub data Ended : Type 0 where
  ends : Kind → Env → State → Ended

-- the evaluation of a tree
abbrev pub Run : Type 0
Run = Env → State → Out Ended

-- what gives the value and does nothing
abbrev pub given : Value → Run
given v env s = done (ends (gives v) env s)

abbrev pub onward : (Value → Run) → Ended → Out Ended
onward f (ends (gives v) env s) = f v env s
onward f (ends (throws v) env s) = done (ends (throws v) env s)
onward f (ends (leaves l v) env s) = done (ends (leaves l v) env s)
onward f (ends stops env s) = done (ends stops env s)

-- the one, and where it gives a value the other with that value
abbrev pub go_on : Out Ended → (Value → Run) → Out Ended
go_on o f = then_do o (onward f)

-- the state with one more object or array, and the address that it has
abbrev pub next_address : State → ℕ
next_address s = length s.heap

abbrev pub with_stored : Stored → State → State
with_stored o s = record { heap = s.heap ++ o ∷ []; statics = s.statics; cells = s.cells }

-- the state in which something else stands at an address
abbrev pub at_address : ℕ → Stored → State → State
at_address a o s = record { heap = set s.heap a o; statics = s.statics; cells = s.cells }

-- fields of which one holds this value
abbrev pub with_field : List ℕ → List ℕ → Value → Fields → Fields
with_field c f v fields d g = if (is_same_text d c && is_same_text g f) then Some v else fields d g

abbrev pub with_static : List ℕ → List ℕ → Value → State → State
with_static c f v s = record { heap = s.heap; statics = with_field c f v s.statics; cells = s.cells }

abbrev pub with_cell : List ℕ → Value → State → State
with_cell c v s = record { heap = s.heap; statics = s.statics; cells = λ d. if is_same_text d c then v else s.cells d }
