-- Values of the emitted code, what a program keeps while it runs, and how expressions and statements end. Sections are those of
-- ECMA-262, 11th edition (2020).
use Rattle.std.specs.Prelude.{ℕ, ℤ, Bool, List, Option}
use Rattle.js_tree.specs.Terms.{Name, Module}
use Rattle.outcomes.specs.Outcome.{Out, done}

-- where a class is declared: its file, at whose top it stands, and its name there
pub record ClassLink : Type 0 where
  pub file : Name
  pub name : Name

-- a language value (6.1): Numbers here are whole, an object or an array is an address, and a function is known by the file that declares
-- it at its top and by its name there. A class is known by where it is declared, and behind it the classes that it extends, the nearest
-- first; a method by the class that it is written in, with those that this one extends, and by its name
pub data Value : Type 0 where
  undefined : Value
  null : Value
  boolean : Bool → Value
  number : ℤ → Value
  big_int : ℤ → Value
  text : List ℕ → Value
  object : ℕ → Value
  function : Name → Name → Value
  class : List ClassLink → Value
  method : List ClassLink → Name → Value

-- what stands at an address: an object with its own properties (6.1.7) and with its class and those that this one extends, of which
-- there are none where it is written as a literal; or an array with its items (9.4.2)
pub data Stored : Type 0 where
  plain : List ClassLink → (Name → Option Value) → Stored
  array : List Value → Stored

-- a binding of a declarative environment (8.1.1.1): none of the name; not started, so that its use is an error; or one that holds a
-- value. The mark says that it is a constant.
pub data Cell : Type 0 where
  absent : Cell
  unset : Bool → Cell
  holds : Bool → Value → Cell

-- the heap, whose addresses count from 0, and the bindings at the top of each file (8.1.1.5)
pub record State : Type 0 where
  pub heap : List Stored
  pub tops : Name → Name → Cell

-- what a constructor makes: the classes that its own class extends; the class of the object, with those that it extends; and the
-- values that `super()` hands on, which are those of a constructor that isn't written (14.6.13)
pub record Making : Type 0 where
  pub above : List ClassLink
  pub target : List ClassLink
  pub handed : List Value

-- `this` (8.1.1.3): a value; or in a constructor the object that it makes, of which there is none before `super()`
pub data This : Type 0 where
  this_is : Value → This
  making : Making → Option Value → This

-- what code runs in (8.3): the file that it stands in; `this`; and the
-- innermost binding of each name inside its function. Functions of the subset don't nest, so this map is the chain of environments.
pub record Scope : Type 0 where
  pub file : Name
  pub this_value : This
  pub bindings : Name → Cell

-- how an expression ends (6.2.3): no expression of the subset changes a binding of its function
pub data ExpressionEnd : Type 0 where
  gives : Value → State → ExpressionEnd
  throws : Value → State → ExpressionEnd

abbrev pub Evaluation : Type 0
Evaluation = Scope → State → Out ExpressionEnd

-- a completion of a statement (6.2.3): normal, a break to a label, a break of the nearest loop or switch, a return, a throw
pub data Completion : Type 0 where
  normally : Completion
  breaks : Name → Completion
  breaks_nearest : Completion
  returns : Value → Completion
  thrown_with : Value → Completion

pub data StatementEnd : Type 0 where
  ends : Completion → Scope → State → StatementEnd

abbrev pub Execution : Type 0
Execution = Scope → State → Out StatementEnd

-- what an expression of a larger expression gives is handed on; a throw ends both
abbrev pub with_value : (Value → State → Out ExpressionEnd) → ExpressionEnd → Out ExpressionEnd
with_value f (gives v s) = f v s
with_value f (throws v s) = done (throws v s)

-- the same for an expression of a statement
abbrev pub in_statement : Scope → (Value → State → Out StatementEnd) → ExpressionEnd → Out StatementEnd
in_statement sc f (gives v s) = f v s
in_statement sc f (throws v s) = done (ends (thrown_with v) sc s)

-- the next statement, unless the completion is abrupt
abbrev pub next_statement : Execution → StatementEnd → Out StatementEnd
next_statement f (ends normally sc s) = f sc s
next_statement f (ends (breaks x) sc s) = done (ends (breaks x) sc s)
next_statement f (ends breaks_nearest sc s) = done (ends breaks_nearest sc s)
next_statement f (ends (returns v) sc s) = done (ends (returns v) sc s)
next_statement f (ends (thrown_with v) sc s) = done (ends (thrown_with v) sc s)

-- a file as it is read: the module that its bytes spell, or none
pub record Source : Type 0 where
  pub file : Name
  pub content : Option Module

-- the files of a program
abbrev pub Program : Type 0
Program = List Source
