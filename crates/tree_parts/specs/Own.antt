-- What a term has of its own, beside its position and the terms in it.
use Rattle.std.specs.Prelude.{ℕ, zero, ℤ, pos, Bool, false, List, [], Option, Some, None, option_map}
use Rattle.sj_names.specs.declared.method_names.MethodName.{MethodName}
use Rattle.sj_names.specs.declared.method_names.Namespace.{Namespace}
use Rattle.sj_names.specs.declared.references.ArrayRef.{ArrayRef}
use Rattle.sj_trees.specs.Term.{Term, Terms, Cases, no_terms, more_terms, no_cases, more_cases, var_def, skip, block_of, labeled, assign, return_to, if_then, while_loop, do_while, try_catch, try_finally, throw, match_on, new_object, load_module, store_module, select, select_static, apply, apply_statically, apply_static, unary_op, binary_op, new_array, array_value, array_length, array_select, is_instance_of, as_instance_of, undefined_literal, null_literal, boolean_literal, char_literal, byte_literal, short_literal, int_literal, long_literal, string_literal, var_ref, this_ref, log_line}
use Rattle.sj_trees.specs.declared.operators.BinaryOp.{BinaryOp}
use Rattle.sj_trees.specs.declared.operators.UnaryOp.{UnaryOp}
use Rattle.sj_trees.specs.declared.types.IrType.{IrType}
use Rattle.sj_trees.specs.declared.forms.Form.{Form}
use Rattle.sj_trees.specs.declared.forms.Form.TheVariants.{Leaf, Statement, Branch, Call, Operation}
use Rattle.sj_trees.specs.declared.forms.LeafForm.TheVariants as leaves
use Rattle.sj_trees.specs.declared.forms.StatementForm.TheVariants as statements
use Rattle.sj_trees.specs.declared.forms.BranchForm.TheVariants as branches
use Rattle.sj_trees.specs.declared.forms.CallForm.TheVariants as calls
use Rattle.sj_trees.specs.declared.forms.OperationForm.TheVariants as operations
use Rattle.sj_trees.specs.Forms.{form_code}
use Rattle.tree_parts.specs.declared.own.Own.{Own}

-- the code of the form of a term, and what stands in it: its names, types, operators and literals, each empty where the form has none
pub record OwnParts : Type 0 where
  pub form : ℕ
  pub text : List ℕ
  pub class : List ℕ
  pub field : List ℕ
  pub method : Option MethodName
  pub namespace : Option Namespace
  pub array : Option ArrayRef
  pub tpe : Option IrType
  pub mark : Bool
  pub unary : Option UnaryOp
  pub binary : Option BinaryOp
  pub unit : ℕ
  pub number : ℤ
  pub units : List ℕ

-- a form alone
abbrev pub nothing : Form → OwnParts
nothing form = record { form = form_code form; text = []; class = []; field = []; method = None; namespace = None; array = None; tpe = None; mark = false; unary = None; binary = None; unit = 0; number = pos zero; units = [] }

abbrev pub own_of : Term → OwnParts
own_of (var_def _ x t m _) = record (nothing (Statement statements.VarDef)) { text = x; tpe = Some t; mark = m }
own_of (skip _) = nothing (Leaf leaves.Skip)
own_of (block_of _ _) = nothing (Statement statements.Block)
own_of (labeled _ x t _) = record (nothing (Statement statements.Labeled)) { text = x; tpe = Some t }
own_of (assign _ _ _) = nothing (Statement statements.Assign)
own_of (return_to _ _ x) = record (nothing (Statement statements.Return)) { text = x }
own_of (if_then _ _ _ _ t) = record (nothing (Branch branches.If)) { tpe = Some t }
own_of (while_loop _ _ _) = nothing (Branch branches.While)
own_of (do_while _ _ _) = nothing (Branch branches.DoWhile)
own_of (try_catch _ _ x _ t) = record (nothing (Branch branches.TryCatch)) { text = x; tpe = Some t }
own_of (try_finally _ _ _) = nothing (Branch branches.TryFinally)
own_of (throw _ _) = nothing (Statement statements.Throw)
own_of (match_on _ _ _ _ t) = record (nothing (Branch branches.Match)) { tpe = Some t }
own_of (new_object _ c g _) = record (nothing (Call calls.New)) { class = c; method = Some g }
own_of (load_module _ c) = record (nothing (Leaf leaves.LoadModule)) { class = c }
own_of (store_module _ c _) = record (nothing (Statement statements.StoreModule)) { class = c }
own_of (select _ _ c f t) = record (nothing (Call calls.Select)) { class = c; field = f; tpe = Some t }
own_of (select_static _ c f t) = record (nothing (Leaf leaves.SelectStatic)) { class = c; field = f; tpe = Some t }
own_of (apply _ _ g _ t) = record (nothing (Call calls.Apply)) { method = Some g; tpe = Some t }
own_of (apply_statically _ _ c s g _ t) = record (nothing (Call calls.ApplyStatically)) { class = c; namespace = Some s; method = Some g; tpe = Some t }
own_of (apply_static _ c s g _ t) = record (nothing (Call calls.ApplyStatic)) { class = c; namespace = Some s; method = Some g; tpe = Some t }
own_of (unary_op _ o _) = record (nothing (Operation operations.UnaryOp)) { unary = Some o }
own_of (binary_op _ o _ _) = record (nothing (Operation operations.BinaryOp)) { binary = Some o }
own_of (new_array _ r _) = record (nothing (Operation operations.NewArray)) { array = Some r }
own_of (array_value _ r _) = record (nothing (Operation operations.ArrayValue)) { array = Some r }
own_of (array_length _ _) = nothing (Operation operations.ArrayLength)
own_of (array_select _ _ _ t) = record (nothing (Operation operations.ArraySelect)) { tpe = Some t }
own_of (is_instance_of _ _ t) = record (nothing (Operation operations.IsInstanceOf)) { tpe = Some t }
own_of (as_instance_of _ _ t) = record (nothing (Operation operations.AsInstanceOf)) { tpe = Some t }
own_of (undefined_literal _) = nothing (Leaf leaves.Undefined)
own_of (null_literal _) = nothing (Leaf leaves.Null)
own_of (boolean_literal _ m) = record (nothing (Leaf leaves.BooleanLiteral)) { mark = m }
own_of (char_literal _ v) = record (nothing (Leaf leaves.CharLiteral)) { unit = v }
own_of (byte_literal _ v) = record (nothing (Leaf leaves.ByteLiteral)) { number = v }
own_of (short_literal _ v) = record (nothing (Leaf leaves.ShortLiteral)) { number = v }
own_of (int_literal _ v) = record (nothing (Leaf leaves.IntLiteral)) { number = v }
own_of (long_literal _ v) = record (nothing (Leaf leaves.LongLiteral)) { number = v }
own_of (string_literal _ u) = record (nothing (Leaf leaves.StringLiteral)) { units = u }
own_of (var_ref _ x t) = record (nothing (Leaf leaves.VarRef)) { text = x; tpe = Some t }
own_of (this_ref _ t) = record (nothing (Leaf leaves.This)) { tpe = Some t }
own_of (log_line _ _) = nothing (Statement statements.Log)

-- what a contract sees of it
abbrev pub own_seen : Own → OwnParts
own_seen o = record { form = form_code o.form; text = o.text.now; class = o.class.now; field = o.field.now; method = option_map (λ g. g.now) o.method; namespace = o.namespace; array = option_map (λ r. r.now) o.array; tpe = option_map (λ t. t.now) o.tpe; mark = o.mark; unary = o.unary; binary = o.binary; unit = o.unit; number = o.number; units = o.units.now }
