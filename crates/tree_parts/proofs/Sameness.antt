-- A term without positions is what it has of its own with its parts.
use Rattle.std.proofs.Common.{◌≡◌, ℕ, ℤ, Bool, List, [], ◌∷◌, Option, Some, None, refl, sym, ap, ◌∙◌}
use Rattle.sj_names.specs.declared.method_names.MethodName.{MethodName}
use Rattle.sj_names.specs.declared.method_names.Namespace.{Namespace}
use Rattle.sj_names.specs.declared.method_names.Namespace.TheVariants as namespaces
use Rattle.sj_names.specs.declared.references.ArrayRef.{ArrayRef}
use Rattle.sj_names.specs.declared.references.BaseRef.TheVariants as bases
use Rattle.sj_trees.specs.Term.{Term, Terms, Cases, no_terms, more_terms, no_cases, more_cases, var_def, skip, block_of, labeled, assign, return_to, if_then, while_loop, do_while, try_catch, try_finally, throw, match_on, new_object, load_module, store_module, select, select_static, apply, apply_statically, apply_static, unary_op, binary_op, new_array, array_value, array_length, array_select, is_instance_of, as_instance_of, undefined_literal, null_literal, boolean_literal, char_literal, byte_literal, short_literal, int_literal, long_literal, string_literal, var_ref, this_ref, log_line}
use Rattle.sj_trees.specs.Erase.{nowhere, erase, erase_all, erase_cases}
use Rattle.sj_trees.specs.declared.operators.BinaryOp.{BinaryOp}
use Rattle.sj_trees.specs.declared.operators.UnaryOp.{UnaryOp}
use Rattle.sj_trees.specs.declared.types.IrType.{IrType}
use Rattle.sj_trees.specs.declared.forms.Form.{Form}
use Rattle.sj_trees.specs.declared.forms.Form.TheVariants.{Leaf, Statement, Branch, Call, Operation}
use Rattle.sj_trees.specs.declared.forms.LeafForm.TheVariants as leaves
use Rattle.sj_trees.specs.declared.forms.StatementForm.TheVariants as statements
use Rattle.sj_trees.specs.declared.forms.BranchForm.TheVariants as branches
use Rattle.sj_trees.specs.declared.forms.CallForm.TheVariants as calls
use Rattle.sj_trees.specs.declared.forms.OperationForm.TheVariants as operations
use Rattle.sj_trees.specs.Forms.{among, form_codes}
use Rattle.tree_parts.specs.Parts.{TermParts, no_part, one_part, two_parts, three_parts, many_parts, one_and_many, part_and_cases, parts_of, erased_parts}
use Rattle.tree_parts.specs.Own.{OwnParts, nothing, own_of}

no_method : MethodName
no_method = record { simple = []; params = []; result = None }

no_namespace : Namespace
no_namespace = namespaces.Public

no_array : ArrayRef
no_array = record { dimensions = 0; base = bases.Boolean }

no_tpe : IrType
no_tpe = IrType.Any

no_unary : UnaryOp
no_unary = UnaryOp.BooleanNot

no_binary : BinaryOp
no_binary = BinaryOp.StrictEqual

given : {A : Type 0} → A → Option A → A
given d None = d
given d (Some x) = x

-- the term of this form with these parts
rebuilt_as : Form → OwnParts → TermParts → Term
rebuilt_as (Statement statements.VarDef) o (one_part a) = var_def nowhere o.text (given no_tpe o.tpe) o.mark a
rebuilt_as (Leaf leaves.Skip) o no_part = skip nowhere
rebuilt_as (Statement statements.Block) o (many_parts ts) = block_of nowhere ts
rebuilt_as (Statement statements.Labeled) o (one_part a) = labeled nowhere o.text (given no_tpe o.tpe) a
rebuilt_as (Statement statements.Assign) o (two_parts a b) = assign nowhere a b
rebuilt_as (Statement statements.Return) o (one_part a) = return_to nowhere a o.text
rebuilt_as (Branch branches.If) o (three_parts a b d) = if_then nowhere a b d (given no_tpe o.tpe)
rebuilt_as (Branch branches.While) o (two_parts a b) = while_loop nowhere a b
rebuilt_as (Branch branches.DoWhile) o (two_parts a b) = do_while nowhere a b
rebuilt_as (Branch branches.TryCatch) o (two_parts a b) = try_catch nowhere a o.text b (given no_tpe o.tpe)
rebuilt_as (Branch branches.TryFinally) o (two_parts a b) = try_finally nowhere a b
rebuilt_as (Statement statements.Throw) o (one_part a) = throw nowhere a
rebuilt_as (Branch branches.Match) o (part_and_cases a cs b) = match_on nowhere a cs b (given no_tpe o.tpe)
rebuilt_as (Call calls.New) o (many_parts ts) = new_object nowhere o.class (given no_method o.method) ts
rebuilt_as (Leaf leaves.LoadModule) o no_part = load_module nowhere o.class
rebuilt_as (Statement statements.StoreModule) o (one_part a) = store_module nowhere o.class a
rebuilt_as (Call calls.Select) o (one_part a) = select nowhere a o.class o.field (given no_tpe o.tpe)
rebuilt_as (Leaf leaves.SelectStatic) o no_part = select_static nowhere o.class o.field (given no_tpe o.tpe)
rebuilt_as (Call calls.Apply) o (one_and_many a ts) = apply nowhere a (given no_method o.method) ts (given no_tpe o.tpe)
rebuilt_as (Call calls.ApplyStatically) o (one_and_many a ts) = apply_statically nowhere a o.class (given no_namespace o.namespace) (given no_method o.method) ts (given no_tpe o.tpe)
rebuilt_as (Call calls.ApplyStatic) o (many_parts ts) = apply_static nowhere o.class (given no_namespace o.namespace) (given no_method o.method) ts (given no_tpe o.tpe)
rebuilt_as (Operation operations.UnaryOp) o (one_part a) = unary_op nowhere (given no_unary o.unary) a
rebuilt_as (Operation operations.BinaryOp) o (two_parts a b) = binary_op nowhere (given no_binary o.binary) a b
rebuilt_as (Operation operations.NewArray) o (one_part a) = new_array nowhere (given no_array o.array) a
rebuilt_as (Operation operations.ArrayValue) o (many_parts ts) = array_value nowhere (given no_array o.array) ts
rebuilt_as (Operation operations.ArrayLength) o (one_part a) = array_length nowhere a
rebuilt_as (Operation operations.ArraySelect) o (two_parts a b) = array_select nowhere a b (given no_tpe o.tpe)
rebuilt_as (Operation operations.IsInstanceOf) o (one_part a) = is_instance_of nowhere a (given no_tpe o.tpe)
rebuilt_as (Operation operations.AsInstanceOf) o (one_part a) = as_instance_of nowhere a (given no_tpe o.tpe)
rebuilt_as (Leaf leaves.Undefined) o no_part = undefined_literal nowhere
rebuilt_as (Leaf leaves.Null) o no_part = null_literal nowhere
rebuilt_as (Leaf leaves.BooleanLiteral) o no_part = boolean_literal nowhere o.mark
rebuilt_as (Leaf leaves.CharLiteral) o no_part = char_literal nowhere o.unit
rebuilt_as (Leaf leaves.ByteLiteral) o no_part = byte_literal nowhere o.number
rebuilt_as (Leaf leaves.ShortLiteral) o no_part = short_literal nowhere o.number
rebuilt_as (Leaf leaves.IntLiteral) o no_part = int_literal nowhere o.number
rebuilt_as (Leaf leaves.LongLiteral) o no_part = long_literal nowhere o.number
rebuilt_as (Leaf leaves.StringLiteral) o no_part = string_literal nowhere o.units
rebuilt_as (Leaf leaves.VarRef) o no_part = var_ref nowhere o.text (given no_tpe o.tpe)
rebuilt_as (Leaf leaves.This) o no_part = this_ref nowhere (given no_tpe o.tpe)
rebuilt_as (Statement statements.Log) o (one_part a) = log_line nowhere a
rebuilt_as _ o _ = skip nowhere

rebuilt : OwnParts → TermParts → Term
rebuilt o p = rebuilt_as (given (Leaf leaves.Skip) (among form_codes o.form)) o p

rebuilt_is : (t : Term) → rebuilt (own_of t) (erased_parts (parts_of t)) ≡ erase t
unfolding rebuilt rebuilt_as given
rebuilt_is (var_def x0 x1 x2 x3 x4) = refl
rebuilt_is (skip x0) = refl
rebuilt_is (block_of x0 x1) = refl
rebuilt_is (labeled x0 x1 x2 x3) = refl
rebuilt_is (assign x0 x1 x2) = refl
rebuilt_is (return_to x0 x1 x2) = refl
rebuilt_is (if_then x0 x1 x2 x3 x4) = refl
rebuilt_is (while_loop x0 x1 x2) = refl
rebuilt_is (do_while x0 x1 x2) = refl
rebuilt_is (try_catch x0 x1 x2 x3 x4) = refl
rebuilt_is (try_finally x0 x1 x2) = refl
rebuilt_is (throw x0 x1) = refl
rebuilt_is (match_on x0 x1 x2 x3 x4) = refl
rebuilt_is (new_object x0 x1 x2 x3) = refl
rebuilt_is (load_module x0 x1) = refl
rebuilt_is (store_module x0 x1 x2) = refl
rebuilt_is (select x0 x1 x2 x3 x4) = refl
rebuilt_is (select_static x0 x1 x2 x3) = refl
rebuilt_is (apply x0 x1 x2 x3 x4) = refl
rebuilt_is (apply_statically x0 x1 x2 x3 x4 x5 x6) = refl
rebuilt_is (apply_static x0 x1 x2 x3 x4 x5) = refl
rebuilt_is (unary_op x0 x1 x2) = refl
rebuilt_is (binary_op x0 x1 x2 x3) = refl
rebuilt_is (new_array x0 x1 x2) = refl
rebuilt_is (array_value x0 x1 x2) = refl
rebuilt_is (array_length x0 x1) = refl
rebuilt_is (array_select x0 x1 x2 x3) = refl
rebuilt_is (is_instance_of x0 x1 x2) = refl
rebuilt_is (as_instance_of x0 x1 x2) = refl
rebuilt_is (undefined_literal x0) = refl
rebuilt_is (null_literal x0) = refl
rebuilt_is (boolean_literal x0 x1) = refl
rebuilt_is (char_literal x0 x1) = refl
rebuilt_is (byte_literal x0 x1) = refl
rebuilt_is (short_literal x0 x1) = refl
rebuilt_is (int_literal x0 x1) = refl
rebuilt_is (long_literal x0 x1) = refl
rebuilt_is (string_literal x0 x1) = refl
rebuilt_is (var_ref x0 x1 x2) = refl
rebuilt_is (this_ref x0 x1) = refl
rebuilt_is (log_line x0 x1) = refl

own_is : (t : Term) → own_of (erase t) ≡ own_of t
own_is (var_def x0 x1 x2 x3 x4) = refl
own_is (skip x0) = refl
own_is (block_of x0 x1) = refl
own_is (labeled x0 x1 x2 x3) = refl
own_is (assign x0 x1 x2) = refl
own_is (return_to x0 x1 x2) = refl
own_is (if_then x0 x1 x2 x3 x4) = refl
own_is (while_loop x0 x1 x2) = refl
own_is (do_while x0 x1 x2) = refl
own_is (try_catch x0 x1 x2 x3 x4) = refl
own_is (try_finally x0 x1 x2) = refl
own_is (throw x0 x1) = refl
own_is (match_on x0 x1 x2 x3 x4) = refl
own_is (new_object x0 x1 x2 x3) = refl
own_is (load_module x0 x1) = refl
own_is (store_module x0 x1 x2) = refl
own_is (select x0 x1 x2 x3 x4) = refl
own_is (select_static x0 x1 x2 x3) = refl
own_is (apply x0 x1 x2 x3 x4) = refl
own_is (apply_statically x0 x1 x2 x3 x4 x5 x6) = refl
own_is (apply_static x0 x1 x2 x3 x4 x5) = refl
own_is (unary_op x0 x1 x2) = refl
own_is (binary_op x0 x1 x2 x3) = refl
own_is (new_array x0 x1 x2) = refl
own_is (array_value x0 x1 x2) = refl
own_is (array_length x0 x1) = refl
own_is (array_select x0 x1 x2 x3) = refl
own_is (is_instance_of x0 x1 x2) = refl
own_is (as_instance_of x0 x1 x2) = refl
own_is (undefined_literal x0) = refl
own_is (null_literal x0) = refl
own_is (boolean_literal x0 x1) = refl
own_is (char_literal x0 x1) = refl
own_is (byte_literal x0 x1) = refl
own_is (short_literal x0 x1) = refl
own_is (int_literal x0 x1) = refl
own_is (long_literal x0 x1) = refl
own_is (string_literal x0 x1) = refl
own_is (var_ref x0 x1 x2) = refl
own_is (this_ref x0 x1) = refl
own_is (log_line x0 x1) = refl

parts_are : (t : Term) → parts_of (erase t) ≡ erased_parts (parts_of t)
parts_are (var_def x0 x1 x2 x3 x4) = refl
parts_are (skip x0) = refl
parts_are (block_of x0 x1) = refl
parts_are (labeled x0 x1 x2 x3) = refl
parts_are (assign x0 x1 x2) = refl
parts_are (return_to x0 x1 x2) = refl
parts_are (if_then x0 x1 x2 x3 x4) = refl
parts_are (while_loop x0 x1 x2) = refl
parts_are (do_while x0 x1 x2) = refl
parts_are (try_catch x0 x1 x2 x3 x4) = refl
parts_are (try_finally x0 x1 x2) = refl
parts_are (throw x0 x1) = refl
parts_are (match_on x0 x1 x2 x3 x4) = refl
parts_are (new_object x0 x1 x2 x3) = refl
parts_are (load_module x0 x1) = refl
parts_are (store_module x0 x1 x2) = refl
parts_are (select x0 x1 x2 x3 x4) = refl
parts_are (select_static x0 x1 x2 x3) = refl
parts_are (apply x0 x1 x2 x3 x4) = refl
parts_are (apply_statically x0 x1 x2 x3 x4 x5 x6) = refl
parts_are (apply_static x0 x1 x2 x3 x4 x5) = refl
parts_are (unary_op x0 x1 x2) = refl
parts_are (binary_op x0 x1 x2 x3) = refl
parts_are (new_array x0 x1 x2) = refl
parts_are (array_value x0 x1 x2) = refl
parts_are (array_length x0 x1) = refl
parts_are (array_select x0 x1 x2 x3) = refl
parts_are (is_instance_of x0 x1 x2) = refl
parts_are (as_instance_of x0 x1 x2) = refl
parts_are (undefined_literal x0) = refl
parts_are (null_literal x0) = refl
parts_are (boolean_literal x0 x1) = refl
parts_are (char_literal x0 x1) = refl
parts_are (byte_literal x0 x1) = refl
parts_are (short_literal x0 x1) = refl
parts_are (int_literal x0 x1) = refl
parts_are (long_literal x0 x1) = refl
parts_are (string_literal x0 x1) = refl
parts_are (var_ref x0 x1 x2) = refl
parts_are (this_ref x0 x1) = refl
parts_are (log_line x0 x1) = refl

-- terms with the same of their own and the same parts are the same, apart from positions
pub same_term : (t u : Term) → own_of t ≡ own_of u → erased_parts (parts_of t) ≡ erased_parts (parts_of u) → erase t ≡ erase u
same_term t u own parts = sym (rebuilt_is t) ∙ (λ i. rebuilt (own i) (parts i)) ∙ rebuilt_is u

pub same_own : (t u : Term) → erase t ≡ erase u → own_of t ≡ own_of u
same_own t u same = sym (own_is t) ∙ ap own_of same ∙ own_is u

pub same_parts : (t u : Term) → erase t ≡ erase u → erased_parts (parts_of t) ≡ erased_parts (parts_of u)
same_parts t u same = sym (parts_are t) ∙ ap parts_of same ∙ parts_are u
