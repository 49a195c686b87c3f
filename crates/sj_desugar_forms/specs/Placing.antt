-- An operand in its place, or in a variable of its own.
use Rattle.std.specs.Prelude.{ℕ, suc, Bool, true, false, ◌&&◌, Some}
use Rattle.sj_core.specs.Terms.{numbered, Expression, variable_use, constant_of, declare_of, Statements, no_statements, statement}
use Rattle.sj_desugar_spec.specs.Spill.{Code, Operand, to_variable}
use Rattle.sj_trees.specs.declared.positions.Position.{Position}

-- statements, the operand's expression behind them, and the number of the next variable for an operand
pub record Placed : Type 0 where
  pub statements : Statements
  pub expression : Expression
  pub next : ℕ

abbrev pub in_place : Expression → ℕ → Placed
in_place e j = record { statements = no_statements; expression = e; next = j }

-- the variable of this number keeps the operand
abbrev pub kept : Position → Expression → ℕ → Placed
kept p e j = record { statements = statement (constant_of (Some p) (numbered j) e) no_statements; expression = variable_use (numbered j); next = suc j }

-- the variable of this number, behind the code that brings the operand there
abbrev pub brought : Position → ℕ → Code → Placed
brought p j c = record { statements = statement (declare_of (Some p) (numbered j)) c.statements; expression = variable_use (numbered j); next = c.next }

-- by cases: whether this operand and all behind it are plain, whether it is fixed, and whether it is plain
abbrev pub placed_case : Bool → Bool → Bool → Operand → ℕ → Placed
placed_case true fixed plain o j = in_place o.text j
placed_case false true plain o j = in_place o.text j
placed_case false false true o j = kept o.at o.text j
placed_case false false false o j = brought o.at j (o.code (to_variable (numbered j) o.tpe) (suc j))

-- by whether all operands behind it are plain
abbrev pub placed : Bool → Operand → ℕ → Placed
placed rest o j = placed_case (o.plain && rest) o.fixed o.plain o j
