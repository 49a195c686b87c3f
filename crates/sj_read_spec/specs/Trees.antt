-- Trees: a tag, a position, and the parts of the form in order.
use Rattle.std.specs.Prelude.{ℕ, zero, suc, List, length, Ok, Err}
use Rattle.std.specs.Int.{w8, w16, w32, w64}
use Rattle.sj_names.specs.Grammar.{is_plain_name, is_class_name}
use Rattle.sj_trees.specs.declared.operators.UnaryOp.{UnaryOp}
use Rattle.sj_trees.specs.declared.operators.BinaryOp.{BinaryOp}
use Rattle.sj_trees.specs.declared.positions.Position.{Position}
use Rattle.sj_trees.specs.Operators.{unary_with, binary_with}
use Rattle.sj_trees.specs.Term.{Term, var_def, skip, block_of, labeled, assign, return_to, if_then, while_loop, do_while, try_catch, try_finally, throw, match_on, new_object, load_module, store_module, select, select_static, apply, apply_statically, apply_static, unary_op, binary_op, new_array, array_value, array_length, array_select, is_instance_of, as_instance_of, undefined_literal, null_literal, boolean_literal, char_literal, byte_literal, short_literal, int_literal, long_literal, string_literal, var_ref, this_ref, log_line}
use Rattle.sj_trees.specs.View.{Case, terms_of, cases_of}
use Rattle.sj_trees.specs.declared.refusals.Code.TheVariants.{TooDeep}
use Rattle.sj_trees.specs.declared.forms.Form.{Form}
use Rattle.sj_trees.specs.declared.forms.Form.TheVariants.{Leaf, Statement, Branch, Call, Operation}
use Rattle.sj_trees.specs.declared.forms.LeafForm.{LeafForm}
use Rattle.sj_trees.specs.declared.forms.LeafForm.TheVariants as leaf
use Rattle.sj_trees.specs.declared.forms.StatementForm.{StatementForm}
use Rattle.sj_trees.specs.declared.forms.StatementForm.TheVariants as statement
use Rattle.sj_trees.specs.declared.forms.BranchForm.{BranchForm}
use Rattle.sj_trees.specs.declared.forms.BranchForm.TheVariants as branch
use Rattle.sj_trees.specs.declared.forms.CallForm.{CallForm}
use Rattle.sj_trees.specs.declared.forms.CallForm.TheVariants as call
use Rattle.sj_trees.specs.declared.forms.OperationForm.{OperationForm}
use Rattle.sj_trees.specs.declared.forms.OperationForm.TheVariants as operation
use Rattle.sj_read_spec.specs.Codes.{reserved_trees, reserved_operators}
use Rattle.sj_trees.specs.Forms.{among, form_codes}
use Rattle.exact_place.specs.Reading.{◌>>=◌}
use Rattle.sj_read_spec.specs.Reading.{Reading, fault, byte_at, number_at, list_at}
use Rattle.exact_place.specs.Grammar.{Spelling, ◌then◌, IsValue}
use Rattle.sj_read_spec.specs.Spelling.{Never, IsNumber, IsCounted}
use Rattle.sj_read_spec.specs.Tables.{Tables, entry_at, IsEntry, name_at, IsName}
use Rattle.sj_read_spec.specs.References.{array_reference_at, IsArrayReference}
use Rattle.sj_read_spec.specs.Types.{code_at, IsCode, mark_at, IsMark, signed_at, IsSigned, position_at, IsPosition, namespace_at, IsNamespace, type_at, IsType}

-- operators
abbrev pub unary_at : List ℕ → Reading UnaryOp
unary_at bytes = code_at unary_with reserved_operators bytes

abbrev pub IsUnary : Spelling UnaryOp
IsUnary = IsCode unary_with

abbrev pub binary_at : List ℕ → Reading BinaryOp
binary_at bytes = code_at binary_with reserved_operators bytes

abbrev pub IsBinary : Spelling BinaryOp
IsBinary = IsCode binary_with

-- a case of a match: its keys, and its tree
unfoldable pub case_at : (List ℕ → Reading Term) → List ℕ → Reading Case
case_at tree bytes = list_at (signed_at w32 4) bytes >>= λ keys. tree keys.1 >>= λ body. Ok ((keys.0, body.0), body.1)

unfoldable pub IsCase : Spelling Term → Spelling Case
IsCase IsInner = IsCounted (IsSigned w32 4) then λ keys. IsInner then λ body. IsValue (keys, body)

-- the forms without trees in them
unfoldable pub leaf_at : Tables → LeafForm → Position → List ℕ → Reading Term
leaf_at tables leaf.Skip p bytes = Ok (skip p, bytes)
leaf_at tables leaf.LoadModule p bytes = name_at is_class_name tables.names bytes >>= λ class. Ok (load_module p class.0, class.1)
leaf_at tables leaf.SelectStatic p bytes = name_at is_class_name tables.names bytes >>= λ class. name_at is_plain_name tables.names class.1 >>= λ field. type_at tables.names field.1 >>= λ tpe. Ok (select_static p class.0 field.0 tpe.0, tpe.1)
leaf_at tables leaf.Undefined p bytes = Ok (undefined_literal p, bytes)
leaf_at tables leaf.Null p bytes = Ok (null_literal p, bytes)
leaf_at tables leaf.BooleanLiteral p bytes = mark_at bytes >>= λ value. Ok (boolean_literal p value.0, value.1)
leaf_at tables leaf.CharLiteral p bytes = number_at 2 bytes >>= λ value. Ok (char_literal p value.0, value.1)
leaf_at tables leaf.ByteLiteral p bytes = signed_at w8 1 bytes >>= λ value. Ok (byte_literal p value.0, value.1)
leaf_at tables leaf.ShortLiteral p bytes = signed_at w16 2 bytes >>= λ value. Ok (short_literal p value.0, value.1)
leaf_at tables leaf.IntLiteral p bytes = signed_at w32 4 bytes >>= λ value. Ok (int_literal p value.0, value.1)
leaf_at tables leaf.LongLiteral p bytes = signed_at w64 8 bytes >>= λ value. Ok (long_literal p value.0, value.1)
leaf_at tables leaf.StringLiteral p bytes = entry_at tables.strings bytes >>= λ value. Ok (string_literal p value.0, value.1)
leaf_at tables leaf.VarRef p bytes = name_at is_plain_name tables.names bytes >>= λ name. type_at tables.names name.1 >>= λ tpe. Ok (var_ref p name.0 tpe.0, tpe.1)
leaf_at tables leaf.This p bytes = type_at tables.names bytes >>= λ tpe. Ok (this_ref p tpe.0, tpe.1)

unfoldable pub IsLeaf : Tables → LeafForm → Position → Spelling Term
IsLeaf tables leaf.Skip p = IsValue (skip p)
IsLeaf tables leaf.LoadModule p = IsName is_class_name tables.names then λ class. IsValue (load_module p class)
IsLeaf tables leaf.SelectStatic p = IsName is_class_name tables.names then λ class. IsName is_plain_name tables.names then λ field. IsType tables.names then λ tpe. IsValue (select_static p class field tpe)
IsLeaf tables leaf.Undefined p = IsValue (undefined_literal p)
IsLeaf tables leaf.Null p = IsValue (null_literal p)
IsLeaf tables leaf.BooleanLiteral p = IsMark then λ value. IsValue (boolean_literal p value)
IsLeaf tables leaf.CharLiteral p = IsNumber 2 then λ value. IsValue (char_literal p value)
IsLeaf tables leaf.ByteLiteral p = IsSigned w8 1 then λ value. IsValue (byte_literal p value)
IsLeaf tables leaf.ShortLiteral p = IsSigned w16 2 then λ value. IsValue (short_literal p value)
IsLeaf tables leaf.IntLiteral p = IsSigned w32 4 then λ value. IsValue (int_literal p value)
IsLeaf tables leaf.LongLiteral p = IsSigned w64 8 then λ value. IsValue (long_literal p value)
IsLeaf tables leaf.StringLiteral p = IsEntry tables.strings then λ value. IsValue (string_literal p value)
IsLeaf tables leaf.VarRef p = IsName is_plain_name tables.names then λ name. IsType tables.names then λ tpe. IsValue (var_ref p name tpe)
IsLeaf tables leaf.This p = IsType tables.names then λ tpe. IsValue (this_ref p tpe)

-- the forms that set, leave, throw or write, or hold statements in a row
unfoldable pub statement_at : (List ℕ → Reading Term) → Tables → StatementForm → Position → List ℕ → Reading Term
statement_at tree tables statement.VarDef p bytes = name_at is_plain_name tables.names bytes >>= λ name. type_at tables.names name.1 >>= λ tpe. mark_at tpe.1 >>= λ mutable. tree mutable.1 >>= λ value. Ok (var_def p name.0 tpe.0 mutable.0 value.0, value.1)
statement_at tree tables statement.Block p bytes = list_at tree bytes >>= λ trees. Ok (block_of p (terms_of trees.0), trees.1)
statement_at tree tables statement.Labeled p bytes = name_at is_plain_name tables.names bytes >>= λ label. type_at tables.names label.1 >>= λ tpe. tree tpe.1 >>= λ body. Ok (labeled p label.0 tpe.0 body.0, body.1)
statement_at tree tables statement.Assign p bytes = tree bytes >>= λ target. tree target.1 >>= λ value. Ok (assign p target.0 value.0, value.1)
statement_at tree tables statement.Return p bytes = tree bytes >>= λ value. name_at is_plain_name tables.names value.1 >>= λ label. Ok (return_to p value.0 label.0, label.1)
statement_at tree tables statement.Throw p bytes = tree bytes >>= λ value. Ok (throw p value.0, value.1)
statement_at tree tables statement.StoreModule p bytes = name_at is_class_name tables.names bytes >>= λ class. tree class.1 >>= λ value. Ok (store_module p class.0 value.0, value.1)
statement_at tree tables statement.Log p bytes = tree bytes >>= λ value. Ok (log_line p value.0, value.1)

unfoldable pub IsStatement : Spelling Term → Tables → StatementForm → Position → Spelling Term
IsStatement IsInner tables statement.VarDef p = IsName is_plain_name tables.names then λ name. IsType tables.names then λ tpe. IsMark then λ mutable. IsInner then λ value. IsValue (var_def p name tpe mutable value)
IsStatement IsInner tables statement.Block p = IsCounted IsInner then λ trees. IsValue (block_of p (terms_of trees))
IsStatement IsInner tables statement.Labeled p = IsName is_plain_name tables.names then λ label. IsType tables.names then λ tpe. IsInner then λ body. IsValue (labeled p label tpe body)
IsStatement IsInner tables statement.Assign p = IsInner then λ target. IsInner then λ value. IsValue (assign p target value)
IsStatement IsInner tables statement.Return p = IsInner then λ value. IsName is_plain_name tables.names then λ label. IsValue (return_to p value label)
IsStatement IsInner tables statement.Throw p = IsInner then λ value. IsValue (throw p value)
IsStatement IsInner tables statement.StoreModule p = IsName is_class_name tables.names then λ class. IsInner then λ value. IsValue (store_module p class value)
IsStatement IsInner tables statement.Log p = IsInner then λ value. IsValue (log_line p value)

-- the forms that choose, repeat or catch
unfoldable pub branch_at : (List ℕ → Reading Term) → Tables → BranchForm → Position → List ℕ → Reading Term
branch_at tree tables branch.If p bytes = tree bytes >>= λ condition. tree condition.1 >>= λ consequent. tree consequent.1 >>= λ alternative. type_at tables.names alternative.1 >>= λ tpe. Ok (if_then p condition.0 consequent.0 alternative.0 tpe.0, tpe.1)
branch_at tree tables branch.While p bytes = tree bytes >>= λ condition. tree condition.1 >>= λ body. Ok (while_loop p condition.0 body.0, body.1)
branch_at tree tables branch.DoWhile p bytes = tree bytes >>= λ body. tree body.1 >>= λ condition. Ok (do_while p body.0 condition.0, condition.1)
branch_at tree tables branch.TryCatch p bytes = tree bytes >>= λ block. name_at is_plain_name tables.names block.1 >>= λ name. tree name.1 >>= λ handler. type_at tables.names handler.1 >>= λ tpe. Ok (try_catch p block.0 name.0 handler.0 tpe.0, tpe.1)
branch_at tree tables branch.TryFinally p bytes = tree bytes >>= λ block. tree block.1 >>= λ finalizer. Ok (try_finally p block.0 finalizer.0, finalizer.1)
branch_at tree tables branch.Match p bytes = tree bytes >>= λ selector. list_at (case_at tree) selector.1 >>= λ cases. tree cases.1 >>= λ default. type_at tables.names default.1 >>= λ tpe. Ok (match_on p selector.0 (cases_of cases.0) default.0 tpe.0, tpe.1)

unfoldable pub IsBranch : Spelling Term → Tables → BranchForm → Position → Spelling Term
IsBranch IsInner tables branch.If p = IsInner then λ condition. IsInner then λ consequent. IsInner then λ alternative. IsType tables.names then λ tpe. IsValue (if_then p condition consequent alternative tpe)
IsBranch IsInner tables branch.While p = IsInner then λ condition. IsInner then λ body. IsValue (while_loop p condition body)
IsBranch IsInner tables branch.DoWhile p = IsInner then λ body. IsInner then λ condition. IsValue (do_while p body condition)
IsBranch IsInner tables branch.TryCatch p = IsInner then λ block. IsName is_plain_name tables.names then λ name. IsInner then λ handler. IsType tables.names then λ tpe. IsValue (try_catch p block name handler tpe)
IsBranch IsInner tables branch.TryFinally p = IsInner then λ block. IsInner then λ finalizer. IsValue (try_finally p block finalizer)
IsBranch IsInner tables branch.Match p = IsInner then λ selector. IsCounted (IsCase IsInner) then λ cases. IsInner then λ default. IsType tables.names then λ tpe. IsValue (match_on p selector (cases_of cases) default tpe)

-- the forms that call a method or read a field of an object
unfoldable pub call_at : (List ℕ → Reading Term) → Tables → CallForm → Position → List ℕ → Reading Term
call_at tree tables call.New p bytes = name_at is_class_name tables.names bytes >>= λ class. entry_at tables.methods class.1 >>= λ method. list_at tree method.1 >>= λ arguments. Ok (new_object p class.0 method.0 (terms_of arguments.0), arguments.1)
call_at tree tables call.Select p bytes = tree bytes >>= λ qualifier. name_at is_class_name tables.names qualifier.1 >>= λ class. name_at is_plain_name tables.names class.1 >>= λ field. type_at tables.names field.1 >>= λ tpe. Ok (select p qualifier.0 class.0 field.0 tpe.0, tpe.1)
call_at tree tables call.Apply p bytes = tree bytes >>= λ receiver. entry_at tables.methods receiver.1 >>= λ method. list_at tree method.1 >>= λ arguments. type_at tables.names arguments.1 >>= λ tpe. Ok (apply p receiver.0 method.0 (terms_of arguments.0) tpe.0, tpe.1)
call_at tree tables call.ApplyStatically p bytes = tree bytes >>= λ receiver. name_at is_class_name tables.names receiver.1 >>= λ class. namespace_at class.1 >>= λ namespace. entry_at tables.methods namespace.1 >>= λ method. list_at tree method.1 >>= λ arguments. type_at tables.names arguments.1 >>= λ tpe. Ok (apply_statically p receiver.0 class.0 namespace.0 method.0 (terms_of arguments.0) tpe.0, tpe.1)
call_at tree tables call.ApplyStatic p bytes = name_at is_class_name tables.names bytes >>= λ class. namespace_at class.1 >>= λ namespace. entry_at tables.methods namespace.1 >>= λ method. list_at tree method.1 >>= λ arguments. type_at tables.names arguments.1 >>= λ tpe. Ok (apply_static p class.0 namespace.0 method.0 (terms_of arguments.0) tpe.0, tpe.1)

unfoldable pub IsCall : Spelling Term → Tables → CallForm → Position → Spelling Term
IsCall IsInner tables call.New p = IsName is_class_name tables.names then λ class. IsEntry tables.methods then λ method. IsCounted IsInner then λ arguments. IsValue (new_object p class method (terms_of arguments))
IsCall IsInner tables call.Select p = IsInner then λ qualifier. IsName is_class_name tables.names then λ class. IsName is_plain_name tables.names then λ field. IsType tables.names then λ tpe. IsValue (select p qualifier class field tpe)
IsCall IsInner tables call.Apply p = IsInner then λ receiver. IsEntry tables.methods then λ method. IsCounted IsInner then λ arguments. IsType tables.names then λ tpe. IsValue (apply p receiver method (terms_of arguments) tpe)
IsCall IsInner tables call.ApplyStatically p = IsInner then λ receiver. IsName is_class_name tables.names then λ class. IsNamespace then λ namespace. IsEntry tables.methods then λ method. IsCounted IsInner then λ arguments. IsType tables.names then λ tpe. IsValue (apply_statically p receiver class namespace method (terms_of arguments) tpe)
IsCall IsInner tables call.ApplyStatic p = IsName is_class_name tables.names then λ class. IsNamespace then λ namespace. IsEntry tables.methods then λ method. IsCounted IsInner then λ arguments. IsType tables.names then λ tpe. IsValue (apply_static p class namespace method (terms_of arguments) tpe)

-- the forms of an operator, an array or a type test
unfoldable pub operation_at : (List ℕ → Reading Term) → Tables → OperationForm → Position → List ℕ → Reading Term
operation_at tree tables operation.UnaryOp p bytes = unary_at bytes >>= λ operator. tree operator.1 >>= λ operand. Ok (unary_op p operator.0 operand.0, operand.1)
operation_at tree tables operation.BinaryOp p bytes = binary_at bytes >>= λ operator. tree operator.1 >>= λ left. tree left.1 >>= λ right. Ok (binary_op p operator.0 left.0 right.0, right.1)
operation_at tree tables operation.NewArray p bytes = array_reference_at tables.names bytes >>= λ array. tree array.1 >>= λ length. Ok (new_array p array.0 length.0, length.1)
operation_at tree tables operation.ArrayValue p bytes = array_reference_at tables.names bytes >>= λ array. list_at tree array.1 >>= λ items. Ok (array_value p array.0 (terms_of items.0), items.1)
operation_at tree tables operation.ArrayLength p bytes = tree bytes >>= λ array. Ok (array_length p array.0, array.1)
operation_at tree tables operation.ArraySelect p bytes = tree bytes >>= λ array. tree array.1 >>= λ index. type_at tables.names index.1 >>= λ tpe. Ok (array_select p array.0 index.0 tpe.0, tpe.1)
operation_at tree tables operation.IsInstanceOf p bytes = tree bytes >>= λ value. type_at tables.names value.1 >>= λ tpe. Ok (is_instance_of p value.0 tpe.0, tpe.1)
operation_at tree tables operation.AsInstanceOf p bytes = tree bytes >>= λ value. type_at tables.names value.1 >>= λ tpe. Ok (as_instance_of p value.0 tpe.0, tpe.1)

unfoldable pub IsOperation : Spelling Term → Tables → OperationForm → Position → Spelling Term
IsOperation IsInner tables operation.UnaryOp p = IsUnary then λ operator. IsInner then λ operand. IsValue (unary_op p operator operand)
IsOperation IsInner tables operation.BinaryOp p = IsBinary then λ operator. IsInner then λ left. IsInner then λ right. IsValue (binary_op p operator left right)
IsOperation IsInner tables operation.NewArray p = IsArrayReference tables.names then λ array. IsInner then λ length. IsValue (new_array p array length)
IsOperation IsInner tables operation.ArrayValue p = IsArrayReference tables.names then λ array. IsCounted IsInner then λ items. IsValue (array_value p array (terms_of items))
IsOperation IsInner tables operation.ArrayLength p = IsInner then λ array. IsValue (array_length p array)
IsOperation IsInner tables operation.ArraySelect p = IsInner then λ array. IsInner then λ index. IsType tables.names then λ tpe. IsValue (array_select p array index tpe)
IsOperation IsInner tables operation.IsInstanceOf p = IsInner then λ value. IsType tables.names then λ tpe. IsValue (is_instance_of p value tpe)
IsOperation IsInner tables operation.AsInstanceOf p = IsInner then λ value. IsType tables.names then λ tpe. IsValue (as_instance_of p value tpe)

-- the parts of a form
abbrev pub form_at : (List ℕ → Reading Term) → Tables → Form → Position → List ℕ → Reading Term
form_at tree tables (Leaf tag) p bytes = leaf_at tables tag p bytes
form_at tree tables (Statement tag) p bytes = statement_at tree tables tag p bytes
form_at tree tables (Branch tag) p bytes = branch_at tree tables tag p bytes
form_at tree tables (Call tag) p bytes = call_at tree tables tag p bytes
form_at tree tables (Operation tag) p bytes = operation_at tree tables tag p bytes

abbrev pub IsForm : Spelling Term → Tables → Form → Position → Spelling Term
IsForm IsInner tables (Leaf tag) p = IsLeaf tables tag p
IsForm IsInner tables (Statement tag) p = IsStatement IsInner tables tag p
IsForm IsInner tables (Branch tag) p = IsBranch IsInner tables tag p
IsForm IsInner tables (Call tag) p = IsCall IsInner tables tag p
IsForm IsInner tables (Operation tag) p = IsOperation IsInner tables tag p

-- a tree whose trees stand one in another this often at most
unfoldable pub tree_at : ℕ → Tables → List ℕ → Reading Term
tree_at zero tables bytes = byte_at bytes >>= λ tag. Err (fault TooDeep bytes)
tree_at (suc depth) tables bytes = do
  tag ← code_at (among form_codes) (among reserved_trees) bytes
  p ← position_at (length tables.files) tag.1
  form_at (tree_at depth tables) tables tag.0 p.0 p.1

unfoldable pub IsTree : ℕ → Tables → Spelling Term
IsTree zero tables = Never
IsTree (suc depth) tables = IsCode (among form_codes) then λ tag. IsPosition (length tables.files) then λ p. IsForm (IsTree depth tables) tables tag p
