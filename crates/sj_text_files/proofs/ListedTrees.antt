-- The trees of class files have listings.
use Rattle.std.proofs.Common.{◌≡◌, ℕ, zero, suc, ◌<◌, ◌^◌, ◌+◌, ◌-◌, ltb, cond, pos, negsuc, Bool, true, false, List, [], ◌∷◌, refl, arith}
use Rattle.std.specs.Prelude.{All}
use Rattle.std.specs.Int.{Width, w8, w16, w32, w64, cast_signed}
use Rattle.std.proofs.lemmas.Bool.{ltb-true, ltb-false}
use Rattle.js_tree.specs.Rules.{IsBelow}
use Rattle.sj_names.specs.Grammar.{is_plain_name, is_class_name}
use Rattle.sj_trees.specs.declared.positions.Position.{Position}
use Rattle.sj_trees.specs.Term.{Term}
use Rattle.sj_trees.specs.View.{Case, terms_of, cases_of}
use Rattle.sj_trees.specs.declared.forms.Form.{Form}
use Rattle.sj_trees.specs.declared.forms.Form.TheVariants.{Leaf, Statement, Branch, Call, Operation}
use Rattle.sj_trees.specs.declared.forms.LeafForm.{LeafForm}
use Rattle.sj_trees.specs.declared.forms.LeafForm.TheVariants as leaf
use Rattle.sj_trees.specs.declared.forms.StatementForm.{StatementForm}
use Rattle.sj_trees.specs.declared.forms.StatementForm.TheVariants as statement
use Rattle.sj_trees.specs.declared.forms.BranchForm.{BranchForm}
use Rattle.sj_trees.specs.declared.forms.BranchForm.TheVariants as branch
use Rattle.sj_trees.specs.declared.forms.CallForm.{CallForm}
use Rattle.sj_trees.specs.declared.forms.CallForm.TheVariants as call
use Rattle.sj_trees.specs.declared.forms.OperationForm.{OperationForm}
use Rattle.sj_trees.specs.declared.forms.OperationForm.TheVariants as operation
use Rattle.exact_place.specs.Grammar.{Spelling}
use Rattle.sj_read_spec.specs.Tables.{Tables}
use Rattle.sj_read_spec.specs.Types.{IsSigned}
use Rattle.sj_read_spec.specs.Trees.{IsCase, IsLeaf, IsStatement, IsBranch, IsCall, IsOperation, IsForm, IsTree}
use Rattle.sj_text_spec.specs.Rules.{IsListedTree, AreListedTrees, AreListedCases}
use Rattle.sj_text_files.proofs.Ensures.{AllOf, Ensures, anything, behind, gives, never, listed, a_number, entry, all_first, all_others}
use Rattle.sj_text_files.proofs.ListedNames.{AreWell, a_name, an_array_reference, a_type}

half : (m n : ℕ) (b : Bool) → ltb n m ≡ b → n < m + m → IsBelow m (cond b (pos n) (negsuc ((m + m) - suc n)))
half m n true e below = ltb-true n m e
half m n false e below = omega (arith, below, ltb-false n m e)

-- a number of n bytes in two's complement, whose least value is -m
signed : (w : Width) (n m : ℕ) → ((x : ℕ) → x < 256 ^ n → IsBelow m (cast_signed w x)) → Ensures (IsBelow m) (IsSigned w n)
signed w n m meets = behind (a_number n) (λ x below. gives (meets x below))

signed_byte : Ensures (IsBelow (2 ^ 7)) (IsSigned w8 1)
signed_byte = signed w8 1 (2 ^ 7) (λ x below. half (2 ^ 7) x (ltb x (2 ^ 7)) refl below)

signed_short : Ensures (IsBelow (2 ^ 15)) (IsSigned w16 2)
signed_short = signed w16 2 (2 ^ 15) (λ x below. half (2 ^ 15) x (ltb x (2 ^ 15)) refl below)

signed_int : Ensures (IsBelow (2 ^ 31)) (IsSigned w32 4)
signed_int = signed w32 4 (2 ^ 31) (λ x below. half (2 ^ 31) x (ltb x (2 ^ 31)) refl below)

signed_long : Ensures (IsBelow (2 ^ 63)) (IsSigned w64 8)
signed_long = signed w64 8 (2 ^ 63) (λ x below. half (2 ^ 63) x (ltb x (2 ^ 63)) refl below)

trees_meet : (trees : List Term) → AllOf IsListedTree trees → AreListedTrees (terms_of trees)
trees_meet [] all = tt
trees_meet (t ∷ ts) all = (all_first t ts all, trees_meet ts (all_others t ts all))

abbrev pub IsListedCase : Case → Type 0
IsListedCase c = All (IsBelow (2 ^ 31)) c.0 × IsListedTree c.1

cases_meet : (cases : List Case) → AllOf IsListedCase cases → AreListedCases (cases_of cases)
cases_meet [] all = tt
cases_meet (c ∷ cs) all = let here = all_first c cs all in (here.0, here.1, cases_meet cs (all_others c cs all))

case_meets : {P : Spelling Term} → Ensures IsListedTree P → Ensures IsListedCase (IsCase P)
unfolding IsCase
case_meets inner = behind (listed signed_int) (λ keys all. behind inner (λ body is. gives (all.at, is)))

leaf_meets : (t : Tables) → AreWell t → (tag : LeafForm) (p : Position) → Ensures IsListedTree (IsLeaf t tag p)
unfolding IsLeaf
leaf_meets t w leaf.Skip p = gives tt
leaf_meets t w leaf.LoadModule p = behind (a_name is_class_name t.names w.names) (λ c a. gives a)
leaf_meets t w leaf.SelectStatic p = behind (a_name is_class_name t.names w.names) (λ c a. behind (a_name is_plain_name t.names w.names) (λ f b. behind (a_type t.names w.names) (λ y d. gives (a, b, d))))
leaf_meets t w leaf.Undefined p = gives tt
leaf_meets t w leaf.Null p = gives tt
leaf_meets t w leaf.BooleanLiteral p = behind (anything _) (λ v k. gives tt)
leaf_meets t w leaf.CharLiteral p = behind (a_number 2) (λ v a. gives a)
leaf_meets t w leaf.ByteLiteral p = behind signed_byte (λ v a. gives a)
leaf_meets t w leaf.ShortLiteral p = behind signed_short (λ v a. gives a)
leaf_meets t w leaf.IntLiteral p = behind signed_int (λ v a. gives a)
leaf_meets t w leaf.LongLiteral p = behind signed_long (λ v a. gives a)
leaf_meets t w leaf.StringLiteral p = behind (entry t.strings w.strings) (λ v a. gives a)
leaf_meets t w leaf.VarRef p = behind (a_name is_plain_name t.names w.names) (λ x a. behind (a_type t.names w.names) (λ y b. gives (a, b)))
leaf_meets t w leaf.This p = behind (a_type t.names w.names) (λ y a. gives a)

statement_meets : {P : Spelling Term} → Ensures IsListedTree P → (t : Tables) → AreWell t → (tag : StatementForm) (p : Position) → Ensures IsListedTree (IsStatement P t tag p)
unfolding IsStatement
statement_meets inner t w statement.VarDef p = behind (a_name is_plain_name t.names w.names) (λ x a. behind (a_type t.names w.names) (λ y b. behind (anything _) (λ m k. behind inner (λ e d. gives (a, b, d)))))
statement_meets inner t w statement.Block p = behind (listed inner) (λ es all. gives (trees_meet es all))
statement_meets inner t w statement.Labeled p = behind (a_name is_plain_name t.names w.names) (λ l a. behind (a_type t.names w.names) (λ y b. behind inner (λ e d. gives (a, b, d))))
statement_meets inner t w statement.Assign p = behind inner (λ e a. behind inner (λ d b. gives (a, b)))
statement_meets inner t w statement.Return p = behind inner (λ e a. behind (a_name is_plain_name t.names w.names) (λ l b. gives (a, b)))
statement_meets inner t w statement.Throw p = behind inner (λ e a. gives a)
statement_meets inner t w statement.StoreModule p = behind (a_name is_class_name t.names w.names) (λ c a. behind inner (λ e b. gives (a, b)))
statement_meets inner t w statement.Log p = behind inner (λ e a. gives a)

branch_meets : {P : Spelling Term} → Ensures IsListedTree P → (t : Tables) → AreWell t → (tag : BranchForm) (p : Position) → Ensures IsListedTree (IsBranch P t tag p)
unfolding IsBranch
branch_meets inner t w branch.If p = behind inner (λ c a. behind inner (λ e b. behind inner (λ f d. behind (a_type t.names w.names) (λ y g. gives (a, b, d, g)))))
branch_meets inner t w branch.While p = behind inner (λ c a. behind inner (λ e b. gives (a, b)))
branch_meets inner t w branch.DoWhile p = behind inner (λ c a. behind inner (λ e b. gives (a, b)))
branch_meets inner t w branch.TryCatch p = behind inner (λ e a. behind (a_name is_plain_name t.names w.names) (λ x b. behind inner (λ h d. behind (a_type t.names w.names) (λ y g. gives (a, b, d, g)))))
branch_meets inner t w branch.TryFinally p = behind inner (λ e a. behind inner (λ f b. gives (a, b)))
branch_meets inner t w branch.Match p = behind inner (λ e a. behind (listed (case_meets inner)) (λ cs all. behind inner (λ f b. behind (a_type t.names w.names) (λ y d. gives (a, cases_meet cs all, b, d)))))

call_meets : {P : Spelling Term} → Ensures IsListedTree P → (t : Tables) → AreWell t → (tag : CallForm) (p : Position) → Ensures IsListedTree (IsCall P t tag p)
unfolding IsCall
call_meets inner t w call.New p = behind (a_name is_class_name t.names w.names) (λ c a. behind (entry t.methods w.methods) (λ m b. behind (listed inner) (λ es all. gives (a, b, trees_meet es all))))
call_meets inner t w call.Select p = behind inner (λ e a. behind (a_name is_class_name t.names w.names) (λ c b. behind (a_name is_plain_name t.names w.names) (λ f d. behind (a_type t.names w.names) (λ y g. gives (a, b, d, g)))))
call_meets inner t w call.Apply p = behind inner (λ e a. behind (entry t.methods w.methods) (λ m b. behind (listed inner) (λ es all. behind (a_type t.names w.names) (λ y d. gives (a, b, trees_meet es all, d)))))
call_meets inner t w call.ApplyStatically p = behind inner (λ e a. behind (a_name is_class_name t.names w.names) (λ c b. behind (anything _) (λ n k. behind (entry t.methods w.methods) (λ m d. behind (listed inner) (λ es all. behind (a_type t.names w.names) (λ y g. gives (a, b, d, trees_meet es all, g)))))))
call_meets inner t w call.ApplyStatic p = behind (a_name is_class_name t.names w.names) (λ c a. behind (anything _) (λ n k. behind (entry t.methods w.methods) (λ m b. behind (listed inner) (λ es all. behind (a_type t.names w.names) (λ y d. gives (a, b, trees_meet es all, d))))))

operation_meets : {P : Spelling Term} → Ensures IsListedTree P → (t : Tables) → AreWell t → (tag : OperationForm) (p : Position) → Ensures IsListedTree (IsOperation P t tag p)
unfolding IsOperation
operation_meets inner t w operation.UnaryOp p = behind (anything _) (λ o k. behind inner (λ e a. gives a))
operation_meets inner t w operation.BinaryOp p = behind (anything _) (λ o k. behind inner (λ e a. behind inner (λ d b. gives (a, b))))
operation_meets inner t w operation.NewArray p = behind (an_array_reference t.names w.names) (λ r a. behind inner (λ e b. gives (a, b)))
operation_meets inner t w operation.ArrayValue p = behind (an_array_reference t.names w.names) (λ r a. behind (listed inner) (λ es all. gives (a, trees_meet es all)))
operation_meets inner t w operation.ArrayLength p = behind inner (λ e a. gives a)
operation_meets inner t w operation.ArraySelect p = behind inner (λ e a. behind inner (λ i b. behind (a_type t.names w.names) (λ y d. gives (a, b, d))))
operation_meets inner t w operation.IsInstanceOf p = behind inner (λ e a. behind (a_type t.names w.names) (λ y b. gives (a, b)))
operation_meets inner t w operation.AsInstanceOf p = behind inner (λ e a. behind (a_type t.names w.names) (λ y b. gives (a, b)))

form_meets : {P : Spelling Term} → Ensures IsListedTree P → (t : Tables) → AreWell t → (tag : Form) (p : Position) → Ensures IsListedTree (IsForm P t tag p)
form_meets inner t w (Leaf tag) p = leaf_meets t w tag p
form_meets inner t w (Statement tag) p = statement_meets inner t w tag p
form_meets inner t w (Branch tag) p = branch_meets inner t w tag p
form_meets inner t w (Call tag) p = call_meets inner t w tag p
form_meets inner t w (Operation tag) p = operation_meets inner t w tag p

pub a_tree : (depth : ℕ) (t : Tables) → AreWell t → Ensures IsListedTree (IsTree depth t)
unfolding IsTree
a_tree zero t w = never
a_tree (suc depth) t w = behind (anything _) (λ tag k. behind (anything _) (λ p k. form_meets (a_tree depth t w) t w tag p))
