-- The forms of trees: for each the code that stands for it in a file, and the word that stands for it in a listing.
use Rattle.std.specs.Prelude.{ℕ, List, [], ◌∷◌, Option, Some, None, ◌==◌, codes, if◌then◌else◌}
use Rattle.sj_trees.specs.declared.forms.Form.{Form}
use Rattle.sj_trees.specs.declared.forms.Form.TheVariants.{Leaf, Statement, Branch, Call, Operation}
use Rattle.sj_trees.specs.declared.forms.LeafForm.TheVariants as leaves
use Rattle.sj_trees.specs.declared.forms.StatementForm.TheVariants as statements
use Rattle.sj_trees.specs.declared.forms.BranchForm.TheVariants as branches
use Rattle.sj_trees.specs.declared.forms.CallForm.TheVariants as calls
use Rattle.sj_trees.specs.declared.forms.OperationForm.TheVariants as operations
use Rattle.sj_trees.specs.Term.{Term, var_def, skip, block_of, labeled, assign, return_to, if_then, while_loop, do_while, try_catch, try_finally, throw, match_on, new_object, load_module, store_module, select, select_static, apply, apply_statically, apply_static, unary_op, binary_op, new_array, array_value, array_length, array_select, is_instance_of, as_instance_of, undefined_literal, null_literal, boolean_literal, char_literal, byte_literal, short_literal, int_literal, long_literal, string_literal, var_ref, this_ref, log_line}

-- what stands beside the code in a table
abbrev pub among : {A : Type 0} → List (ℕ × A) → ℕ → Option A
among [] code = None
among (row ∷ rows) code = if code == row.0 then Some row.1 else among rows code

-- the forms by their codes
abbrev pub form_codes : List (ℕ × Form)
form_codes =
    (1, Statement statements.VarDef) ∷
    (2, Leaf leaves.Skip) ∷
    (3, Statement statements.Block) ∷
    (4, Statement statements.Labeled) ∷
    (5, Statement statements.Assign) ∷
    (6, Statement statements.Return) ∷
    (7, Branch branches.If) ∷
    (8, Branch branches.While) ∷
    (9, Branch branches.DoWhile) ∷
    (10, Branch branches.TryCatch) ∷
    (11, Branch branches.TryFinally) ∷
    (12, Statement statements.Throw) ∷
    (13, Branch branches.Match) ∷
    (14, Call calls.New) ∷
    (15, Leaf leaves.LoadModule) ∷
    (16, Statement statements.StoreModule) ∷
    (17, Call calls.Select) ∷
    (18, Leaf leaves.SelectStatic) ∷
    (19, Call calls.Apply) ∷
    (20, Call calls.ApplyStatically) ∷
    (21, Call calls.ApplyStatic) ∷
    (22, Operation operations.UnaryOp) ∷
    (23, Operation operations.BinaryOp) ∷
    (24, Operation operations.NewArray) ∷
    (25, Operation operations.ArrayValue) ∷
    (26, Operation operations.ArrayLength) ∷
    (27, Operation operations.ArraySelect) ∷
    (28, Operation operations.IsInstanceOf) ∷
    (29, Operation operations.AsInstanceOf) ∷
    (30, Leaf leaves.Undefined) ∷
    (31, Leaf leaves.Null) ∷
    (32, Leaf leaves.BooleanLiteral) ∷
    (33, Leaf leaves.CharLiteral) ∷
    (34, Leaf leaves.ByteLiteral) ∷
    (35, Leaf leaves.ShortLiteral) ∷
    (36, Leaf leaves.IntLiteral) ∷
    (37, Leaf leaves.LongLiteral) ∷
    (38, Leaf leaves.StringLiteral) ∷
    (39, Leaf leaves.VarRef) ∷
    (40, Leaf leaves.This) ∷
    (41, Statement statements.Log) ∷ []

-- the forms by their words
abbrev pub form_words : List (List ℕ × Form)
form_words =
    (codes "VarDef", Statement statements.VarDef) ∷
    (codes "Skip", Leaf leaves.Skip) ∷
    (codes "Block", Statement statements.Block) ∷
    (codes "Labeled", Statement statements.Labeled) ∷
    (codes "Assign", Statement statements.Assign) ∷
    (codes "Return", Statement statements.Return) ∷
    (codes "If", Branch branches.If) ∷
    (codes "While", Branch branches.While) ∷
    (codes "DoWhile", Branch branches.DoWhile) ∷
    (codes "TryCatch", Branch branches.TryCatch) ∷
    (codes "TryFinally", Branch branches.TryFinally) ∷
    (codes "Throw", Statement statements.Throw) ∷
    (codes "Match", Branch branches.Match) ∷
    (codes "New", Call calls.New) ∷
    (codes "LoadModule", Leaf leaves.LoadModule) ∷
    (codes "StoreModule", Statement statements.StoreModule) ∷
    (codes "Select", Call calls.Select) ∷
    (codes "SelectStatic", Leaf leaves.SelectStatic) ∷
    (codes "Apply", Call calls.Apply) ∷
    (codes "ApplyStatically", Call calls.ApplyStatically) ∷
    (codes "ApplyStatic", Call calls.ApplyStatic) ∷
    (codes "UnaryOp", Operation operations.UnaryOp) ∷
    (codes "BinaryOp", Operation operations.BinaryOp) ∷
    (codes "NewArray", Operation operations.NewArray) ∷
    (codes "ArrayValue", Operation operations.ArrayValue) ∷
    (codes "ArrayLength", Operation operations.ArrayLength) ∷
    (codes "ArraySelect", Operation operations.ArraySelect) ∷
    (codes "IsInstanceOf", Operation operations.IsInstanceOf) ∷
    (codes "AsInstanceOf", Operation operations.AsInstanceOf) ∷
    (codes "Undefined", Leaf leaves.Undefined) ∷
    (codes "Null", Leaf leaves.Null) ∷
    (codes "BooleanLiteral", Leaf leaves.BooleanLiteral) ∷
    (codes "CharLiteral", Leaf leaves.CharLiteral) ∷
    (codes "ByteLiteral", Leaf leaves.ByteLiteral) ∷
    (codes "ShortLiteral", Leaf leaves.ShortLiteral) ∷
    (codes "IntLiteral", Leaf leaves.IntLiteral) ∷
    (codes "LongLiteral", Leaf leaves.LongLiteral) ∷
    (codes "StringLiteral", Leaf leaves.StringLiteral) ∷
    (codes "VarRef", Leaf leaves.VarRef) ∷
    (codes "This", Leaf leaves.This) ∷
    (codes "Log", Statement statements.Log) ∷ []

-- the code of a form
abbrev pub form_code : Form → ℕ
form_code (Statement statements.VarDef) = 1
form_code (Leaf leaves.Skip) = 2
form_code (Statement statements.Block) = 3
form_code (Statement statements.Labeled) = 4
form_code (Statement statements.Assign) = 5
form_code (Statement statements.Return) = 6
form_code (Branch branches.If) = 7
form_code (Branch branches.While) = 8
form_code (Branch branches.DoWhile) = 9
form_code (Branch branches.TryCatch) = 10
form_code (Branch branches.TryFinally) = 11
form_code (Statement statements.Throw) = 12
form_code (Branch branches.Match) = 13
form_code (Call calls.New) = 14
form_code (Leaf leaves.LoadModule) = 15
form_code (Statement statements.StoreModule) = 16
form_code (Call calls.Select) = 17
form_code (Leaf leaves.SelectStatic) = 18
form_code (Call calls.Apply) = 19
form_code (Call calls.ApplyStatically) = 20
form_code (Call calls.ApplyStatic) = 21
form_code (Operation operations.UnaryOp) = 22
form_code (Operation operations.BinaryOp) = 23
form_code (Operation operations.NewArray) = 24
form_code (Operation operations.ArrayValue) = 25
form_code (Operation operations.ArrayLength) = 26
form_code (Operation operations.ArraySelect) = 27
form_code (Operation operations.IsInstanceOf) = 28
form_code (Operation operations.AsInstanceOf) = 29
form_code (Leaf leaves.Undefined) = 30
form_code (Leaf leaves.Null) = 31
form_code (Leaf leaves.BooleanLiteral) = 32
form_code (Leaf leaves.CharLiteral) = 33
form_code (Leaf leaves.ByteLiteral) = 34
form_code (Leaf leaves.ShortLiteral) = 35
form_code (Leaf leaves.IntLiteral) = 36
form_code (Leaf leaves.LongLiteral) = 37
form_code (Leaf leaves.StringLiteral) = 38
form_code (Leaf leaves.VarRef) = 39
form_code (Leaf leaves.This) = 40
form_code (Statement statements.Log) = 41

-- the form of a tree
abbrev pub form_of : Term → Form
form_of (var_def p x t m e) = Statement statements.VarDef
form_of (skip p) = Leaf leaves.Skip
form_of (block_of p es) = Statement statements.Block
form_of (labeled p l t e) = Statement statements.Labeled
form_of (assign p e d) = Statement statements.Assign
form_of (return_to p e l) = Statement statements.Return
form_of (if_then p c e d t) = Branch branches.If
form_of (while_loop p c e) = Branch branches.While
form_of (do_while p e c) = Branch branches.DoWhile
form_of (try_catch p e x d t) = Branch branches.TryCatch
form_of (try_finally p e d) = Branch branches.TryFinally
form_of (throw p e) = Statement statements.Throw
form_of (match_on p e cs d t) = Branch branches.Match
form_of (new_object p c g es) = Call calls.New
form_of (load_module p c) = Leaf leaves.LoadModule
form_of (store_module p c e) = Statement statements.StoreModule
form_of (select p e c f t) = Call calls.Select
form_of (select_static p c f t) = Leaf leaves.SelectStatic
form_of (apply p e g es t) = Call calls.Apply
form_of (apply_statically p e c s g es t) = Call calls.ApplyStatically
form_of (apply_static p c s g es t) = Call calls.ApplyStatic
form_of (unary_op p o e) = Operation operations.UnaryOp
form_of (binary_op p o e d) = Operation operations.BinaryOp
form_of (new_array p r e) = Operation operations.NewArray
form_of (array_value p r es) = Operation operations.ArrayValue
form_of (array_length p e) = Operation operations.ArrayLength
form_of (array_select p e d t) = Operation operations.ArraySelect
form_of (is_instance_of p e t) = Operation operations.IsInstanceOf
form_of (as_instance_of p e t) = Operation operations.AsInstanceOf
form_of (undefined_literal p) = Leaf leaves.Undefined
form_of (null_literal p) = Leaf leaves.Null
form_of (boolean_literal p v) = Leaf leaves.BooleanLiteral
form_of (char_literal p v) = Leaf leaves.CharLiteral
form_of (byte_literal p v) = Leaf leaves.ByteLiteral
form_of (short_literal p v) = Leaf leaves.ShortLiteral
form_of (int_literal p v) = Leaf leaves.IntLiteral
form_of (long_literal p v) = Leaf leaves.LongLiteral
form_of (string_literal p u) = Leaf leaves.StringLiteral
form_of (var_ref p x t) = Leaf leaves.VarRef
form_of (this_ref p t) = Leaf leaves.This
form_of (log_line p e) = Statement statements.Log
