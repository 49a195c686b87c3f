-- What a program shows: its lines and its ending.
use Rattle.std.specs.Prelude.{ℕ, ℤ, Bool, List}
use Rattle.outcomes.specs.Outcome.{Out}

-- a thrown value as it is shown: an object by the name of its class, an array by `java.lang.Object`, and the others by kind and value
pub data Thrown : Type 0 where
  object_of : List ℕ → Thrown
  undefined : Thrown
  null : Thrown
  boolean : Bool → Thrown
  char : ℕ → Thrown
  number : ℤ → Thrown
  long : ℤ → Thrown
  text : List ℕ → Thrown

-- the initializers of a module end normally, or with a thrown value that nothing catches
pub data Ending : Type 0 where
  normal : Ending
  uncaught : Thrown → Ending

-- lines, and an ending unless the program is going or wrong
abbrev pub Shown : Type 0
Shown = Out Ending
