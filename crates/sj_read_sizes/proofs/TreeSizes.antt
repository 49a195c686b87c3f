-- A tree is spelled by as many bytes as it has trees, at least.
use Rattle.std.proofs.Common.{◌≡◌, ◌+◌, ℕ, zero, suc, List, [], ◌∷◌, refl, ap, arith}
use Rattle.exact_place.specs.Grammar.{Spelling}
use Rattle.sj_read_spec.specs.Tables.{Tables}
use Rattle.sj_read_spec.specs.Trees.{IsCase, IsLeaf, IsStatement, IsBranch, IsCall, IsOperation, IsForm, IsTree}
use Rattle.sj_trees.specs.Term.{Term}
use Rattle.sj_trees.specs.View.{Case, terms_of, cases_of}
use Rattle.sj_trees.specs.declared.forms.BranchForm.{BranchForm}
use Rattle.sj_trees.specs.declared.forms.BranchForm.TheVariants as branch
use Rattle.sj_trees.specs.declared.forms.CallForm.{CallForm}
use Rattle.sj_trees.specs.declared.forms.CallForm.TheVariants as call
use Rattle.sj_trees.specs.declared.forms.Form.{Form}
use Rattle.sj_trees.specs.declared.forms.Form.TheVariants.{Leaf, Statement, Branch, Call, Operation}
use Rattle.sj_trees.specs.declared.forms.LeafForm.{LeafForm}
use Rattle.sj_trees.specs.declared.forms.LeafForm.TheVariants as leaf
use Rattle.sj_trees.specs.declared.forms.OperationForm.{OperationForm}
use Rattle.sj_trees.specs.declared.forms.OperationForm.TheVariants as operation
use Rattle.sj_trees.specs.declared.forms.StatementForm.{StatementForm}
use Rattle.sj_trees.specs.declared.forms.StatementForm.TheVariants as statement
use Rattle.sj_trees.specs.declared.positions.Position.{Position}
use Rattle.tree_parts.specs.Sizes.{size, size_of_all, size_of_cases}
use Rattle.sj_read_sizes.proofs.Weighs.{Weighs, sum_of, behind, skipping, gives, never, a_code, listed}

trees_sum : (ts : List Term) → size_of_all (terms_of ts) ≡ sum_of size ts
trees_sum [] = refl
trees_sum (t ∷ ts) = ap (λ n. size t + n) (trees_sum ts)

abbrev case_size : Case → ℕ
case_size c = size c.1

cases_sum : (cs : List Case) → size_of_cases (cases_of cs) ≡ sum_of case_size cs
cases_sum [] = refl
cases_sum (c ∷ cs) = ap (λ n. size c.1 + n) (cases_sum cs)

case_weighs : {P : Spelling Term} → Weighs size 0 P → Weighs case_size 0 (IsCase P)
unfolding IsCase
case_weighs inner = skipping _ (λ keys. behind inner (λ body. gives (omega arith)))

leaf_weighs : (t : Tables) (tag : LeafForm) (p : Position) → Weighs size 1 (IsLeaf t tag p)
unfolding IsLeaf
leaf_weighs t leaf.Skip p = gives (omega arith)
leaf_weighs t leaf.LoadModule p = skipping _ (λ c. gives (omega arith))
leaf_weighs t leaf.SelectStatic p = skipping _ (λ c. skipping _ (λ f. skipping _ (λ y. gives (omega arith))))
leaf_weighs t leaf.Undefined p = gives (omega arith)
leaf_weighs t leaf.Null p = gives (omega arith)
leaf_weighs t leaf.BooleanLiteral p = skipping _ (λ v. gives (omega arith))
leaf_weighs t leaf.CharLiteral p = skipping _ (λ v. gives (omega arith))
leaf_weighs t leaf.ByteLiteral p = skipping _ (λ v. gives (omega arith))
leaf_weighs t leaf.ShortLiteral p = skipping _ (λ v. gives (omega arith))
leaf_weighs t leaf.IntLiteral p = skipping _ (λ v. gives (omega arith))
leaf_weighs t leaf.LongLiteral p = skipping _ (λ v. gives (omega arith))
leaf_weighs t leaf.StringLiteral p = skipping _ (λ v. gives (omega arith))
leaf_weighs t leaf.VarRef p = skipping _ (λ x. skipping _ (λ y. gives (omega arith)))
leaf_weighs t leaf.This p = skipping _ (λ y. gives (omega arith))

statement_weighs : {P : Spelling Term} → Weighs size 0 P → (t : Tables) (tag : StatementForm) (p : Position) → Weighs size 1 (IsStatement P t tag p)
unfolding IsStatement
statement_weighs inner t statement.VarDef p = skipping _ (λ x. skipping _ (λ y. skipping _ (λ m. behind inner (λ e. gives (omega arith)))))
statement_weighs inner t statement.Block p = behind (listed inner) (λ es. gives (let all = trees_sum es in omega (arith, all)))
statement_weighs inner t statement.Labeled p = skipping _ (λ l. skipping _ (λ y. behind inner (λ e. gives (omega arith))))
statement_weighs inner t statement.Assign p = behind inner (λ e. behind inner (λ d. gives (omega arith)))
statement_weighs inner t statement.Return p = behind inner (λ e. skipping _ (λ l. gives (omega arith)))
statement_weighs inner t statement.Throw p = behind inner (λ e. gives (omega arith))
statement_weighs inner t statement.StoreModule p = skipping _ (λ c. behind inner (λ e. gives (omega arith)))
statement_weighs inner t statement.Log p = behind inner (λ e. gives (omega arith))

branch_weighs : {P : Spelling Term} → Weighs size 0 P → (t : Tables) (tag : BranchForm) (p : Position) → Weighs size 1 (IsBranch P t tag p)
unfolding IsBranch
branch_weighs inner t branch.If p = behind inner (λ c. behind inner (λ e. behind inner (λ f. skipping _ (λ y. gives (omega arith)))))
branch_weighs inner t branch.While p = behind inner (λ c. behind inner (λ e. gives (omega arith)))
branch_weighs inner t branch.DoWhile p = behind inner (λ c. behind inner (λ e. gives (omega arith)))
branch_weighs inner t branch.TryCatch p = behind inner (λ e. skipping _ (λ x. behind inner (λ h. skipping _ (λ y. gives (omega arith)))))
branch_weighs inner t branch.TryFinally p = behind inner (λ e. behind inner (λ f. gives (omega arith)))
branch_weighs inner t branch.Match p = behind inner (λ e. behind (listed (case_weighs inner)) (λ cs. behind inner (λ f. skipping _ (λ y. gives (let all = cases_sum cs in omega (arith, all))))))

call_weighs : {P : Spelling Term} → Weighs size 0 P → (t : Tables) (tag : CallForm) (p : Position) → Weighs size 1 (IsCall P t tag p)
unfolding IsCall
call_weighs inner t call.New p = skipping _ (λ c. skipping _ (λ m. behind (listed inner) (λ es. gives (let all = trees_sum es in omega (arith, all)))))
call_weighs inner t call.Select p = behind inner (λ e. skipping _ (λ c. skipping _ (λ f. skipping _ (λ y. gives (omega arith)))))
call_weighs inner t call.Apply p = behind inner (λ e. skipping _ (λ m. behind (listed inner) (λ es. skipping _ (λ y. gives (let all = trees_sum es in omega (arith, all))))))
call_weighs inner t call.ApplyStatically p = behind inner (λ e. skipping _ (λ c. skipping _ (λ n. skipping _ (λ m. behind (listed inner) (λ es. skipping _ (λ y. gives (let all = trees_sum es in omega (arith, all))))))))
call_weighs inner t call.ApplyStatic p = skipping _ (λ c. skipping _ (λ n. skipping _ (λ m. behind (listed inner) (λ es. skipping _ (λ y. gives (let all = trees_sum es in omega (arith, all)))))))

operation_weighs : {P : Spelling Term} → Weighs size 0 P → (t : Tables) (tag : OperationForm) (p : Position) → Weighs size 1 (IsOperation P t tag p)
unfolding IsOperation
operation_weighs inner t operation.UnaryOp p = skipping _ (λ o. behind inner (λ e. gives (omega arith)))
operation_weighs inner t operation.BinaryOp p = skipping _ (λ o. behind inner (λ e. behind inner (λ d. gives (omega arith))))
operation_weighs inner t operation.NewArray p = skipping _ (λ r. behind inner (λ e. gives (omega arith)))
operation_weighs inner t operation.ArrayValue p = skipping _ (λ r. behind (listed inner) (λ es. gives (let all = trees_sum es in omega (arith, all))))
operation_weighs inner t operation.ArrayLength p = behind inner (λ e. gives (omega arith))
operation_weighs inner t operation.ArraySelect p = behind inner (λ e. behind inner (λ i. skipping _ (λ y. gives (omega arith))))
operation_weighs inner t operation.IsInstanceOf p = behind inner (λ e. skipping _ (λ y. gives (omega arith)))
operation_weighs inner t operation.AsInstanceOf p = behind inner (λ e. skipping _ (λ y. gives (omega arith)))

form_weighs : {P : Spelling Term} → Weighs size 0 P → (t : Tables) (tag : Form) (p : Position) → Weighs size 1 (IsForm P t tag p)
form_weighs inner t (Leaf tag) p = leaf_weighs t tag p
form_weighs inner t (Statement tag) p = statement_weighs inner t tag p
form_weighs inner t (Branch tag) p = branch_weighs inner t tag p
form_weighs inner t (Call tag) p = call_weighs inner t tag p
form_weighs inner t (Operation tag) p = operation_weighs inner t tag p

pub tree_weighs : (depth : ℕ) (t : Tables) → Weighs size 0 (IsTree depth t)
unfolding IsTree
tree_weighs zero t = never
tree_weighs (suc depth) t = behind (a_code _) (λ tag. skipping _ (λ p. form_weighs (tree_weighs depth t) t tag p))
