-- Operands in evaluation order, and those among them that go to variables of their own.
use Rattle.std.specs.Prelude.{ℕ, suc, Bool, true, false, ◌&&◌, List, [], ◌∷◌, Some}
use Rattle.sj_core.specs.Terms.{Variable, numbered, Expression, variable_use, Statement, constant_of, declare_of, Statements, no_statements, statement, followed}
use Rattle.sj_core.specs.Position.{Position}
use Rattle.sj_core.specs.IrType.{IrType}

-- where the value of a tree goes: nowhere, to a variable of this type, or out of the method with this result type
pub data Destination : Type 0 where
  discard : Destination
  to_variable : Variable → IrType → Destination
  to_result : IrType → Destination

-- statements, and the number of the next variable for an operand
pub record Code : Type 0 where
  pub statements : Statements
  pub next : ℕ

abbrev pub no_code : ℕ → Code
no_code j = record { statements = no_statements; next = j }

abbrev pub one : Statement → ℕ → Code
one s j = record { statements = statement s no_statements; next = j }

-- a statement in front of code
abbrev pub put_first : Statement → Code → Code
put_first s c = record { statements = statement s c.statements; next = c.next }

abbrev pub joined : Code → Code → Code
joined c d = record { statements = followed c.statements d.statements; next = d.next }

-- code, and behind it what is written from its next number on
abbrev pub then_code : Code → (ℕ → Code) → Code
then_code c f = joined c (f c.next)

-- an operand: the position and the type of its tree, whether this is plain and whether it is fixed, its expression where it is plain, and
-- its statements that bring its value to a destination
pub record Operand : Type 0 where
  pub at : Position
  pub tpe : IrType
  pub plain : Bool
  pub fixed : Bool
  pub text : Expression
  pub code : Destination → ℕ → Code

abbrev pub all_plain : List Operand → Bool
all_plain [] = true
all_plain (o ∷ os) = o.plain && all_plain os

abbrev pub texts : List Operand → List Expression
texts [] = []
texts (o ∷ os) = o.text ∷ texts os

-- what operands come to: statements in front, and an expression for each
pub record Spilled : Type 0 where
  pub statements : Statements
  pub expressions : List Expression
  pub next : ℕ

abbrev pub with_expression : Expression → Spilled → Spilled
with_expression e r = record { statements = r.statements; expressions = e ∷ r.expressions; next = r.next }

abbrev pub with_statements : Statements → Spilled → Spilled
with_statements ss r = record { statements = followed ss r.statements; expressions = r.expressions; next = r.next }

-- the operand in the variable of this number, behind the code that brings it there
abbrev pub saved : ℕ → Statements → Spilled → Spilled
saved j ss r = with_statements ss (with_expression (variable_use (numbered j)) r)

-- code that brings an operand to the variable of this number, and the operands behind it
abbrev pub spill_code : Position → ℕ → Code → (ℕ → Spilled) → Spilled
spill_code p j c rest = saved j (statement (declare_of (Some p) (numbered j)) c.statements) (rest c.next)

-- by cases: whether this operand and all behind it are plain, whether it is fixed, and whether it is plain
abbrev pub spill_case : Bool → Bool → Bool → Operand → List Operand → (ℕ → Spilled) → ℕ → Spilled
spill_case true fixed plain o os rest j = record { statements = no_statements; expressions = o.text ∷ texts os; next = j }
spill_case false true plain o os rest j = with_expression o.text (rest j)
spill_case false false true o os rest j = saved j (statement (constant_of (Some o.at) (numbered j) o.text) no_statements) (rest (suc j))
spill_case false false false o os rest j = spill_code o.at j (o.code (to_variable (numbered j) o.tpe) (suc j)) rest

-- Up to the last operand that isn't plain, each operand that isn't fixed goes to a variable of its own, in order. So no operand is evaluated
-- behind a later one, and what an operand gave can't change while later ones are evaluated. Where all are plain, none does.
abbrev pub spill : List Operand → ℕ → Spilled
spill [] j = record { statements = no_statements; expressions = []; next = j }
spill (o ∷ os) j = spill_case (o.plain && all_plain os) o.fixed o.plain o os (spill os) j

-- what operands come to, and behind it what is written with their expressions
abbrev pub then_use : Spilled → (List Expression → ℕ → Code) → Code
then_use r f = joined (record { statements = r.statements; next = r.next }) (f r.expressions r.next)
