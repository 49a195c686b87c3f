-- Trees.
use Rattle.std.proofs.Common.{ℕ, zero, suc, List, length, Err}
use Rattle.std.specs.Int.{w8, w16, w32, w64}
use Rattle.sj_names.specs.Grammar.{is_plain_name, is_class_name}
use Rattle.sj_trees.specs.declared.positions.Position.{Position}
use Rattle.sj_trees.specs.Operators.{unary_with, binary_with}
use Rattle.sj_trees.specs.Term.{Term}
use Rattle.sj_trees.specs.declared.refusals.Code.TheVariants.{TooDeep}
use Rattle.sj_trees.specs.declared.forms.Form.{Form}
use Rattle.sj_trees.specs.declared.forms.Form.TheVariants.{Leaf, Statement, Branch, Call, Operation}
use Rattle.sj_trees.specs.declared.forms.LeafForm.{LeafForm}
use Rattle.sj_trees.specs.declared.forms.LeafForm.TheVariants as leaf
use Rattle.sj_trees.specs.declared.forms.StatementForm.{StatementForm}
use Rattle.sj_trees.specs.declared.forms.StatementForm.TheVariants as statement
use Rattle.sj_trees.specs.declared.forms.BranchForm.{BranchForm}
use Rattle.sj_trees.specs.declared.forms.BranchForm.TheVariants as branch
use Rattle.sj_trees.specs.declared.forms.CallForm.{CallForm}
use Rattle.sj_trees.specs.declared.forms.CallForm.TheVariants as call
use Rattle.sj_trees.specs.declared.forms.OperationForm.{OperationForm}
use Rattle.sj_trees.specs.declared.forms.OperationForm.TheVariants as operation
use Rattle.sj_read_spec.specs.Codes.{reserved_trees, reserved_operators}
use Rattle.sj_trees.specs.Forms.{among, form_codes}
use Rattle.exact_place.specs.Reading.{◌>>=◌}
use Rattle.sj_read_spec.specs.Reading.{Reading, fault, byte_at}
use Rattle.exact_place.specs.Grammar.{Spelling}
use Rattle.sj_read_spec.specs.Spelling.{Never}
use Rattle.sj_read_spec.specs.Tables.{Tables}
use Rattle.sj_read_spec.specs.Trees.{unary_at, IsUnary, binary_at, IsBinary, case_at, IsCase, leaf_at, IsLeaf, statement_at, IsStatement, branch_at, IsBranch, call_at, IsCall, operation_at, IsOperation, form_at, IsForm, tree_at, IsTree}
use Rattle.sj_read_spec.proofs.Exact.{Exact, bind_ok, exact_then, exact_value, exact_list, exact_number}
use Rattle.sj_read_spec.proofs.ExactTables.{exact_entry, exact_name}
use Rattle.sj_read_spec.proofs.ExactReferences.{exact_array_reference}
use Rattle.sj_read_spec.proofs.ExactTypes.{exact_code, exact_mark, exact_signed, exact_position, exact_namespace, exact_type}

exact_unary : Exact unary_at IsUnary
exact_unary = exact_code unary_with reserved_operators

exact_binary : Exact binary_at IsBinary
exact_binary = exact_code binary_with reserved_operators

exact_case : (tree : List ℕ → Reading Term) (IsInner : Spelling Term) → Exact tree IsInner → Exact (case_at tree) (IsCase IsInner)
unfolding case_at IsCase
exact_case tree IsInner inner = exact_then _ _ _ _ (exact_list _ _ (exact_signed w32 4)) (λ keys. exact_then _ _ _ _ inner (λ body. exact_value _))

pub exact_leaf : (tables : Tables) (tag : LeafForm) (p : Position) → Exact (leaf_at tables tag p) (IsLeaf tables tag p)
unfolding leaf_at IsLeaf
exact_leaf tables leaf.Skip p = exact_value _
exact_leaf tables leaf.LoadModule p = exact_then _ _ _ _ (exact_name is_class_name tables.names) (λ class. exact_value _)
exact_leaf tables leaf.SelectStatic p = exact_then _ _ _ _ (exact_name is_class_name tables.names) (λ class. exact_then _ _ _ _ (exact_name is_plain_name tables.names) (λ field. exact_then _ _ _ _ (exact_type tables.names) (λ tpe. exact_value _)))
exact_leaf tables leaf.Undefined p = exact_value _
exact_leaf tables leaf.Null p = exact_value _
exact_leaf tables leaf.BooleanLiteral p = exact_then _ _ _ _ exact_mark (λ value. exact_value _)
exact_leaf tables leaf.CharLiteral p = exact_then _ _ _ _ (exact_number 2) (λ value. exact_value _)
exact_leaf tables leaf.ByteLiteral p = exact_then _ _ _ _ (exact_signed w8 1) (λ value. exact_value _)
exact_leaf tables leaf.ShortLiteral p = exact_then _ _ _ _ (exact_signed w16 2) (λ value. exact_value _)
exact_leaf tables leaf.IntLiteral p = exact_then _ _ _ _ (exact_signed w32 4) (λ value. exact_value _)
exact_leaf tables leaf.LongLiteral p = exact_then _ _ _ _ (exact_signed w64 8) (λ value. exact_value _)
exact_leaf tables leaf.StringLiteral p = exact_then _ _ _ _ (exact_entry tables.strings) (λ value. exact_value _)
exact_leaf tables leaf.VarRef p = exact_then _ _ _ _ (exact_name is_plain_name tables.names) (λ name. exact_then _ _ _ _ (exact_type tables.names) (λ tpe. exact_value _))
exact_leaf tables leaf.This p = exact_then _ _ _ _ (exact_type tables.names) (λ tpe. exact_value _)

pub exact_statement : (tree : List ℕ → Reading Term) (IsInner : Spelling Term) → Exact tree IsInner → (tables : Tables) (tag : StatementForm) (p : Position) → Exact (statement_at tree tables tag p) (IsStatement IsInner tables tag p)
unfolding statement_at IsStatement
exact_statement tree IsInner inner tables statement.VarDef p = exact_then _ _ _ _ (exact_name is_plain_name tables.names) (λ name. exact_then _ _ _ _ (exact_type tables.names) (λ tpe. exact_then _ _ _ _ exact_mark (λ mutable. exact_then _ _ _ _ inner (λ value. exact_value _))))
exact_statement tree IsInner inner tables statement.Block p = exact_then _ _ _ _ (exact_list tree IsInner inner) (λ trees. exact_value _)
exact_statement tree IsInner inner tables statement.Labeled p = exact_then _ _ _ _ (exact_name is_plain_name tables.names) (λ label. exact_then _ _ _ _ (exact_type tables.names) (λ tpe. exact_then _ _ _ _ inner (λ body. exact_value _)))
exact_statement tree IsInner inner tables statement.Assign p = exact_then _ _ _ _ inner (λ target. exact_then _ _ _ _ inner (λ value. exact_value _))
exact_statement tree IsInner inner tables statement.Return p = exact_then _ _ _ _ inner (λ value. exact_then _ _ _ _ (exact_name is_plain_name tables.names) (λ label. exact_value _))
exact_statement tree IsInner inner tables statement.Throw p = exact_then _ _ _ _ inner (λ value. exact_value _)
exact_statement tree IsInner inner tables statement.StoreModule p = exact_then _ _ _ _ (exact_name is_class_name tables.names) (λ class. exact_then _ _ _ _ inner (λ value. exact_value _))
exact_statement tree IsInner inner tables statement.Log p = exact_then _ _ _ _ inner (λ value. exact_value _)

pub exact_branch : (tree : List ℕ → Reading Term) (IsInner : Spelling Term) → Exact tree IsInner → (tables : Tables) (tag : BranchForm) (p : Position) → Exact (branch_at tree tables tag p) (IsBranch IsInner tables tag p)
unfolding branch_at IsBranch
exact_branch tree IsInner inner tables branch.If p = exact_then _ _ _ _ inner (λ condition. exact_then _ _ _ _ inner (λ consequent. exact_then _ _ _ _ inner (λ alternative. exact_then _ _ _ _ (exact_type tables.names) (λ tpe. exact_value _))))
exact_branch tree IsInner inner tables branch.While p = exact_then _ _ _ _ inner (λ condition. exact_then _ _ _ _ inner (λ body. exact_value _))
exact_branch tree IsInner inner tables branch.DoWhile p = exact_then _ _ _ _ inner (λ body. exact_then _ _ _ _ inner (λ condition. exact_value _))
exact_branch tree IsInner inner tables branch.TryCatch p = exact_then _ _ _ _ inner (λ block. exact_then _ _ _ _ (exact_name is_plain_name tables.names) (λ name. exact_then _ _ _ _ inner (λ handler. exact_then _ _ _ _ (exact_type tables.names) (λ tpe. exact_value _))))
exact_branch tree IsInner inner tables branch.TryFinally p = exact_then _ _ _ _ inner (λ block. exact_then _ _ _ _ inner (λ finalizer. exact_value _))
exact_branch tree IsInner inner tables branch.Match p = exact_then _ _ _ _ inner (λ selector. exact_then _ _ _ _ (exact_list (case_at tree) (IsCase IsInner) (exact_case tree IsInner inner)) (λ cases. exact_then _ _ _ _ inner (λ default. exact_then _ _ _ _ (exact_type tables.names) (λ tpe. exact_value _))))

pub exact_call : (tree : List ℕ → Reading Term) (IsInner : Spelling Term) → Exact tree IsInner → (tables : Tables) (tag : CallForm) (p : Position) → Exact (call_at tree tables tag p) (IsCall IsInner tables tag p)
unfolding call_at IsCall
exact_call tree IsInner inner tables call.New p = exact_then _ _ _ _ (exact_name is_class_name tables.names) (λ class. exact_then _ _ _ _ (exact_entry tables.methods) (λ method. exact_then _ _ _ _ (exact_list tree IsInner inner) (λ arguments. exact_value _)))
exact_call tree IsInner inner tables call.Select p = exact_then _ _ _ _ inner (λ qualifier. exact_then _ _ _ _ (exact_name is_class_name tables.names) (λ class. exact_then _ _ _ _ (exact_name is_plain_name tables.names) (λ field. exact_then _ _ _ _ (exact_type tables.names) (λ tpe. exact_value _))))
exact_call tree IsInner inner tables call.Apply p = exact_then _ _ _ _ inner (λ receiver. exact_then _ _ _ _ (exact_entry tables.methods) (λ method. exact_then _ _ _ _ (exact_list tree IsInner inner) (λ arguments. exact_then _ _ _ _ (exact_type tables.names) (λ tpe. exact_value _))))
exact_call tree IsInner inner tables call.ApplyStatically p = exact_then _ _ _ _ inner (λ receiver. exact_then _ _ _ _ (exact_name is_class_name tables.names) (λ class. exact_then _ _ _ _ exact_namespace (λ namespace. exact_then _ _ _ _ (exact_entry tables.methods) (λ method. exact_then _ _ _ _ (exact_list tree IsInner inner) (λ arguments. exact_then _ _ _ _ (exact_type tables.names) (λ tpe. exact_value _))))))
exact_call tree IsInner inner tables call.ApplyStatic p = exact_then _ _ _ _ (exact_name is_class_name tables.names) (λ class. exact_then _ _ _ _ exact_namespace (λ namespace. exact_then _ _ _ _ (exact_entry tables.methods) (λ method. exact_then _ _ _ _ (exact_list tree IsInner inner) (λ arguments. exact_then _ _ _ _ (exact_type tables.names) (λ tpe. exact_value _)))))

pub exact_operation : (tree : List ℕ → Reading Term) (IsInner : Spelling Term) → Exact tree IsInner → (tables : Tables) (tag : OperationForm) (p : Position) → Exact (operation_at tree tables tag p) (IsOperation IsInner tables tag p)
unfolding operation_at IsOperation
exact_operation tree IsInner inner tables operation.UnaryOp p = exact_then _ _ _ _ exact_unary (λ operator. exact_then _ _ _ _ inner (λ operand. exact_value _))
exact_operation tree IsInner inner tables operation.BinaryOp p = exact_then _ _ _ _ exact_binary (λ operator. exact_then _ _ _ _ inner (λ left. exact_then _ _ _ _ inner (λ right. exact_value _)))
exact_operation tree IsInner inner tables operation.NewArray p = exact_then _ _ _ _ (exact_array_reference tables.names) (λ array. exact_then _ _ _ _ inner (λ length. exact_value _))
exact_operation tree IsInner inner tables operation.ArrayValue p = exact_then _ _ _ _ (exact_array_reference tables.names) (λ array. exact_then _ _ _ _ (exact_list tree IsInner inner) (λ items. exact_value _))
exact_operation tree IsInner inner tables operation.ArrayLength p = exact_then _ _ _ _ inner (λ array. exact_value _)
exact_operation tree IsInner inner tables operation.ArraySelect p = exact_then _ _ _ _ inner (λ array. exact_then _ _ _ _ inner (λ index. exact_then _ _ _ _ (exact_type tables.names) (λ tpe. exact_value _)))
exact_operation tree IsInner inner tables operation.IsInstanceOf p = exact_then _ _ _ _ inner (λ value. exact_then _ _ _ _ (exact_type tables.names) (λ tpe. exact_value _))
exact_operation tree IsInner inner tables operation.AsInstanceOf p = exact_then _ _ _ _ inner (λ value. exact_then _ _ _ _ (exact_type tables.names) (λ tpe. exact_value _))

exact_form : (tree : List ℕ → Reading Term) (IsInner : Spelling Term) → Exact tree IsInner → (tables : Tables) (tag : Form) (p : Position) → Exact (form_at tree tables tag p) (IsForm IsInner tables tag p)
exact_form tree IsInner inner tables (Leaf tag) p = exact_leaf tables tag p
exact_form tree IsInner inner tables (Statement tag) p = exact_statement tree IsInner inner tables tag p
exact_form tree IsInner inner tables (Branch tag) p = exact_branch tree IsInner inner tables tag p
exact_form tree IsInner inner tables (Call tag) p = exact_call tree IsInner inner tables tag p
exact_form tree IsInner inner tables (Operation tag) p = exact_operation tree IsInner inner tables tag p

-- a byte at which every tree is too deep
exact_too_deep : Exact {A = Term} (λ bytes. byte_at bytes >>= λ tag. Err (fault TooDeep bytes)) Never
exact_too_deep = record {
  takes = λ bytes x rest e. let b = bind_ok (byte_at bytes) (λ tag. Err (fault TooDeep bytes)) (x, rest) e in absurd (cc (b.2));
  again = λ x text rest p. absurd p.never;
}

pub exact_tree : (depth : ℕ) (tables : Tables) → Exact (tree_at depth tables) (IsTree depth tables)
unfolding tree_at IsTree
exact_tree zero tables = exact_too_deep
exact_tree (suc depth) tables = exact_then _ _ _ _ (exact_code (among form_codes) (among reserved_trees)) (λ tag. exact_then _ _ _ _ (exact_position (length tables.files)) (λ p. exact_form (tree_at depth tables) (IsTree depth tables) (exact_tree depth tables) tables tag p))
