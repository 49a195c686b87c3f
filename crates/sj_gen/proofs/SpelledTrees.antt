-- The generated trees and classes can be spelled.
use Rattle.std.proofs.Common.{◌≡◌, ℕ, suc, ◌<◌, ◌^◌, List, [], ◌∷◌, refl, arith, subst, true, Some, codes}
use Rattle.std.specs.Prelude.{ℤ, pos}
use Rattle.std.specs.Int.{w32, cast_signed}
use Rattle.std.proofs.lemmas.Bool.Decides.{nat_tests}
use Rattle.sj_names.specs.Grammar.{is_class_name, is_plain_name}
use Rattle.sj_names.specs.declared.method_names.Namespace.{Namespace}
use Rattle.sj_trees.specs.Term.{Term, no_terms, more_terms, apply_static, binary_op, int_literal, log_line}
use Rattle.sj_trees.specs.Erase.{nowhere}
use Rattle.sj_trees.specs.Forms.{among, form_codes}
use Rattle.sj_trees.specs.Operators.{binary_with}
use Rattle.sj_trees.specs.declared.operators.BinaryOp.{BinaryOp}
use Rattle.sj_trees.specs.declared.types.IrType.{IrType}
use Rattle.sj_trees.specs.declared.forms.Form.TheVariants.{Leaf, Statement, Call, Operation}
use Rattle.sj_trees.specs.declared.forms.LeafForm.TheVariants as leaves
use Rattle.sj_trees.specs.declared.forms.StatementForm.TheVariants as statements
use Rattle.sj_trees.specs.declared.forms.CallForm.TheVariants as calls
use Rattle.sj_trees.specs.declared.forms.OperationForm.TheVariants as operations
use Rattle.sj_read_spec.specs.Tables.{Tables}
use Rattle.sj_read_spec.specs.Codes.{plain_types, namespaces}
use Rattle.sj_read_spec.specs.Types.{IsPosition, IsType, IsTypeOf, IsNamespace}
use Rattle.sj_read_spec.specs.Trees.{IsTree, IsLeaf, IsStatement, IsCall, IsOperation}
use Rattle.sj_gen.specs.Classes.{object_name, function_name, main_name, parameter_name, parameter, empty_text}
use Rattle.sj_gen.proofs.Made.{Made, seq, gives, one_byte, number, found, tested, coded, entry, named, none_of, one_more, list_of}

-- tables for a class of the first name that calls one of the other
abbrev pub tables_for : List ℕ → List ℕ → Tables
tables_for own called = record { files = [] ∷ []; names = object_name ∷ codes "f" ∷ parameter_name ∷ codes "main" ∷ own ∷ called ∷ []; methods = function_name ∷ main_name ∷ []; strings = [] ∷ [] }

pub placed : Made (IsPosition 1) nowhere
unfolding IsPosition
placed = seq 0 (seq 0 (number 4 0 (omega arith)) (tested true 0 refl)) (seq 0 (number 4 0 (omega arith)) (seq 0 (number 4 0 (omega arith)) (gives nowhere)))

pub int_type : (names : List (List ℕ)) → Made (IsType names) IrType.Int
unfolding IsTypeOf
int_type names = seq 8 (one_byte 8 (omega arith)) (found (among plain_types 8) IrType.Int refl)

pub no_type : (names : List (List ℕ)) → Made (IsType names) IrType.NoType
unfolding IsTypeOf
no_type names = seq 14 (one_byte 14 (omega arith)) (found (among plain_types 14) IrType.NoType refl)

pub static_there : Made IsNamespace Namespace.PublicStatic
static_there = coded (among namespaces) 1 Namespace.PublicStatic (omega arith) refl

pub parameter_made : (d : ℕ) (own called : List ℕ) → Made (IsTree (suc d) (tables_for own called)) parameter
unfolding IsTree IsLeaf
parameter_made d own called = seq (Leaf leaves.VarRef) (coded (among form_codes) 39 (Leaf leaves.VarRef) (omega arith) refl) (seq nowhere placed (seq parameter_name (named is_plain_name (tables_for own called).names 2 parameter_name (omega arith) refl refl) (seq IrType.Int (int_type (tables_for own called).names) (gives parameter))))

pub int_made : (d : ℕ) (own called : List ℕ) (k : ℕ) → k < 2 ^ 31 → Made (IsTree (suc d) (tables_for own called)) (int_literal nowhere (pos k))
unfolding IsTree IsLeaf
int_made d own called k h = seq (Leaf leaves.IntLiteral) (coded (among form_codes) 36 (Leaf leaves.IntLiteral) (omega arith) refl) (seq nowhere placed (subst Literal (small k h) (seq (cast_signed w32 k) (seq k (number 4 k (omega arith)) (gives (cast_signed w32 k))) (gives (int_literal nowhere (cast_signed w32 k))))))
  where
    Literal : ℤ → Type 0
    Literal z = Made (IsLeaf (tables_for own called) leaves.IntLiteral nowhere) (int_literal nowhere z)

    small : (k : ℕ) → k < 2 ^ 31 → cast_signed w32 k ≡ pos k
    small k h = grind (arith, nat_tests)

pub empty_made : (d : ℕ) (own called : List ℕ) → Made (IsTree (suc d) (tables_for own called)) empty_text
unfolding IsTree IsLeaf
empty_made d own called = seq (Leaf leaves.StringLiteral) (coded (among form_codes) 38 (Leaf leaves.StringLiteral) (omega arith) refl) (seq nowhere placed (seq [] (entry (tables_for own called).strings 0 [] (omega arith) refl) (gives empty_text)))

pub operation_made : (d : ℕ) (own called : List ℕ) (code : ℕ) (operator : BinaryOp) (left right : Term) → code < 256 → binary_with code ≡ Some operator → Made (IsTree d (tables_for own called)) left → Made (IsTree d (tables_for own called)) right → Made (IsTree (suc d) (tables_for own called)) (binary_op nowhere operator left right)
unfolding IsTree IsOperation
operation_made d own called code operator left right h e l r = seq (Operation operations.BinaryOp) (coded (among form_codes) 23 (Operation operations.BinaryOp) (omega arith) refl) (seq nowhere placed (seq operator (coded binary_with code operator h e) (seq left l (seq right r (gives (binary_op nowhere operator left right))))))

pub call_made : (d : ℕ) (own called : List ℕ) (argument : Term) → is_class_name called ≡ true → Made (IsTree d (tables_for own called)) argument → Made (IsTree (suc d) (tables_for own called)) (apply_static nowhere called Namespace.PublicStatic function_name (more_terms argument no_terms) IrType.Int)
unfolding IsTree IsCall
call_made d own called argument g m = seq (Call calls.ApplyStatic) (coded (among form_codes) 21 (Call calls.ApplyStatic) (omega arith) refl) (seq nowhere placed (seq called (named is_class_name (tables_for own called).names 5 called (omega arith) refl g) (seq Namespace.PublicStatic static_there (seq function_name (entry (tables_for own called).methods 0 function_name (omega arith) refl) (seq (argument ∷ []) (list_of (IsTree d (tables_for own called)) 1 (argument ∷ []) (omega arith) (one_more (IsTree d (tables_for own called)) 0 argument [] m (none_of (IsTree d (tables_for own called))))) (seq IrType.Int (int_type (tables_for own called).names) (gives (apply_static nowhere called Namespace.PublicStatic function_name (more_terms argument no_terms) IrType.Int))))))))

pub log_made : (d : ℕ) (own called : List ℕ) (value : Term) → Made (IsTree d (tables_for own called)) value → Made (IsTree (suc d) (tables_for own called)) (log_line nowhere value)
unfolding IsTree IsStatement
log_made d own called value m = seq (Statement statements.Log) (coded (among form_codes) 41 (Statement statements.Log) (omega arith) refl) (seq nowhere placed (seq value m (gives (log_line nowhere value))))
