-- One level of the grammar of trees as the reader takes it, and that it is the grammar.
use Rattle.std.proofs.Common.{◌≡◌, ℕ, List, [], ◌∷◌, ◌++◌, ◌^◌, refl, sym, ap, subst, ◌∙◌, codes}
use Rattle.js_tree.specs.Written.{Grammar, Is, ◌●◌, More, Separated}
use Rattle.js_tree.specs.Spelling.{SpellsText}
use Rattle.js_read_spec.proofs.Parts.{seq, led, lead_of}
use Rattle.exact_place.specs.Grammar.{Spelling, ◌then◌, Leads, IsMapped}
use Rattle.sj_trees.specs.Erase.{nowhere}
use Rattle.sj_trees.specs.Term.{Term, Terms, no_terms, more_terms, Cases, no_cases, more_cases, var_def, skip, block_of, labeled, assign, return_to, if_then, while_loop, do_while, try_catch, try_finally, throw, match_on, new_object, load_module, store_module, select, select_static, apply, apply_statically, apply_static, unary_op, binary_op, new_array, array_value, array_length, array_select, is_instance_of, as_instance_of, undefined_literal, null_literal, boolean_literal, char_literal, byte_literal, short_literal, int_literal, long_literal, string_literal, var_ref, this_ref, log_line}
use Rattle.sj_trees.specs.View.{Case, terms_of, cases_of}
use Rattle.sj_text_spec.specs.Spelling.{◌▪◌, End, Form, Bracketed, SpellsList, SpellsPlainName, SpellsClassName, SpellsMethodName, SpellsArray, SpellsMark, SpellsNatural, SpellsInteger, SpellsUnaryOp, SpellsBinaryOp, SpellsNamespace, SpellsType, SpellsKey, SpellsTree, SpellsTrees, SpellsMoreTrees, SpellsCases, SpellsMoreCases}
use Rattle.sj_trees.specs.declared.forms.Form as words
use Rattle.sj_trees.specs.declared.forms.Form.TheVariants as forms
use Rattle.sj_trees.specs.declared.forms.LeafForm.{LeafForm}
use Rattle.sj_trees.specs.declared.forms.LeafForm.TheVariants as leaves
use Rattle.sj_trees.specs.declared.forms.StatementForm.{StatementForm}
use Rattle.sj_trees.specs.declared.forms.StatementForm.TheVariants as statements
use Rattle.sj_trees.specs.declared.forms.BranchForm.{BranchForm}
use Rattle.sj_trees.specs.declared.forms.BranchForm.TheVariants as branches
use Rattle.sj_trees.specs.declared.forms.CallForm.{CallForm}
use Rattle.sj_trees.specs.declared.forms.CallForm.TheVariants as calls
use Rattle.sj_trees.specs.declared.forms.OperationForm.{OperationForm}
use Rattle.sj_trees.specs.declared.forms.OperationForm.TheVariants as operations
use Rattle.sj_text_spec.proofs.Fields.{Field, Close, part, last, field_of, close_of}
use Rattle.sj_text_spec.proofs.Values.{form_text, IsForm}

-- ---- lists of trees and of cases

abbrev pub Trees_form : Terms → Grammar
Trees_form es = Bracketed (SpellsTrees es)

abbrev pub Cases_form : Cases → Grammar
Cases_form cs = Bracketed (SpellsCases cs)

-- a case: its keys and its tree
abbrev pub Case_form : Case → Grammar
Case_form c = Is (codes "(") ● SpellsList SpellsKey c.0 ● (SpellsTree c.1 ▪ End)

more_trees_to : (es : List Term) (text : List ℕ) → More (codes " ") SpellsTree es text → SpellsMoreTrees (terms_of es) text
unfolding More SpellsMoreTrees
more_trees_to [] text s = s
more_trees_to (e ∷ es) text s = record { front = s.front; back = s.back; first = s.first; second = record { front = s.second.front; back = s.second.back; first = s.second.first; second = more_trees_to es s.second.back s.second.second; parts = s.second.parts }; parts = s.parts }

more_trees_from : (es : List Term) (text : List ℕ) → SpellsMoreTrees (terms_of es) text → More (codes " ") SpellsTree es text
unfolding More SpellsMoreTrees
more_trees_from [] text s = s
more_trees_from (e ∷ es) text s = record { front = s.front; back = s.back; first = s.first; second = record { front = s.second.front; back = s.second.back; first = s.second.first; second = more_trees_from es s.second.back s.second.second; parts = s.second.parts }; parts = s.parts }

trees_to : (es : List Term) (text : List ℕ) → Separated (codes " ") SpellsTree es text → SpellsTrees (terms_of es) text
unfolding Separated SpellsTrees
trees_to [] text s = s
trees_to (e ∷ es) text s = record { front = s.front; back = s.back; first = s.first; second = more_trees_to es s.back s.second; parts = s.parts }

trees_from : (es : List Term) (text : List ℕ) → SpellsTrees (terms_of es) text → Separated (codes " ") SpellsTree es text
unfolding Separated SpellsTrees
trees_from [] text s = s
trees_from (e ∷ es) text s = record { front = s.front; back = s.back; first = s.first; second = more_trees_from es s.back s.second; parts = s.parts }

-- the trees as a list
items_of : Terms → List Term
items_of no_terms = []
items_of (more_terms e es) = e ∷ items_of es

items_are : (es : Terms) → es ≡ terms_of (items_of es)
unfolding items_of
items_are no_terms = refl
items_are (more_terms e es) = ap (λ (t : Terms). more_terms e t) (items_are es)

pub trees_level_to : (es : Terms) (text : List ℕ) → IsMapped (λ es. terms_of es) (SpellsList SpellsTree) es text → Trees_form es text
trees_level_to es text p =
    let s = p.first in
    rw p.is (record { front = s.front; back = s.back; first = s.first; second = record { front = s.second.front; back = s.second.back; first = trees_to p.value s.second.front s.second.first; second = s.second.second; parts = s.second.parts }; parts = s.parts })

pub trees_level_from : (es : Terms) (text : List ℕ) → Trees_form es text → IsMapped (λ es. terms_of es) (SpellsList SpellsTree) es text
trees_level_from es text s = record {
  value = items_of es;
  first = record { front = s.front; back = s.back; first = s.first; second = record { front = s.second.front; back = s.second.back; first = trees_from (items_of es) s.second.front (subst (λ (t : Terms). SpellsTrees t s.second.front) (items_are es) s.second.first); second = s.second.second; parts = s.second.parts }; parts = s.parts };
  is = items_are es;
}

more_cases_to : (cs : List Case) (text : List ℕ) → More (codes " ") Case_form cs text → SpellsMoreCases (cases_of cs) text
unfolding More SpellsMoreCases
more_cases_to [] text s = s
more_cases_to (c ∷ cs) text s = record { front = s.front; back = s.back; first = s.first; second = record { front = s.second.front; back = s.second.back; first = s.second.first; second = more_cases_to cs s.second.back s.second.second; parts = s.second.parts }; parts = s.parts }

more_cases_from : (cs : List Case) (text : List ℕ) → SpellsMoreCases (cases_of cs) text → More (codes " ") Case_form cs text
unfolding More SpellsMoreCases
more_cases_from [] text s = s
more_cases_from (c ∷ cs) text s = record { front = s.front; back = s.back; first = s.first; second = record { front = s.second.front; back = s.second.back; first = s.second.first; second = more_cases_from cs s.second.back s.second.second; parts = s.second.parts }; parts = s.parts }

cases_to : (cs : List Case) (text : List ℕ) → Separated (codes " ") Case_form cs text → SpellsCases (cases_of cs) text
unfolding Separated SpellsCases
cases_to [] text s = s
cases_to (c ∷ cs) text s = record { front = s.front; back = s.back; first = s.first; second = more_cases_to cs s.back s.second; parts = s.parts }

cases_from : (cs : List Case) (text : List ℕ) → SpellsCases (cases_of cs) text → Separated (codes " ") Case_form cs text
unfolding Separated SpellsCases
cases_from [] text s = s
cases_from (c ∷ cs) text s = record { front = s.front; back = s.back; first = s.first; second = more_cases_from cs s.back s.second; parts = s.parts }

-- the cases as a list
case_items_of : Cases → List Case
case_items_of no_cases = []
case_items_of (more_cases ks e cs) = (ks, e) ∷ case_items_of cs

case_items_are : (cs : Cases) → cs ≡ cases_of (case_items_of cs)
unfolding case_items_of
case_items_are no_cases = refl
case_items_are (more_cases ks e cs) = ap (λ (t : Cases). more_cases ks e t) (case_items_are cs)

pub cases_level_to : (cs : Cases) (text : List ℕ) → IsMapped (λ cs. cases_of cs) (SpellsList Case_form) cs text → Cases_form cs text
cases_level_to cs text p =
    let s = p.first in
    rw p.is (record { front = s.front; back = s.back; first = s.first; second = record { front = s.second.front; back = s.second.back; first = cases_to p.value s.second.front s.second.first; second = s.second.second; parts = s.second.parts }; parts = s.parts })

pub cases_level_from : (cs : Cases) (text : List ℕ) → Cases_form cs text → IsMapped (λ cs. cases_of cs) (SpellsList Case_form) cs text
cases_level_from cs text s = record {
  value = case_items_of cs;
  first = record { front = s.front; back = s.back; first = s.first; second = record { front = s.second.front; back = s.second.back; first = cases_from (case_items_of cs) s.second.front (subst (λ (t : Cases). SpellsCases t s.second.front) (case_items_are cs) s.second.first); second = s.second.second; parts = s.second.parts }; parts = s.parts };
  is = case_items_are cs;
}

-- ---- forms

abbrev pub Leaf_fields : LeafForm → Spelling Term
Leaf_fields leaves.Skip = Close (skip nowhere)
Leaf_fields leaves.LoadModule = Field SpellsClassName (λ c. Close (load_module nowhere c))
Leaf_fields leaves.SelectStatic = Field SpellsClassName (λ c. Field SpellsPlainName (λ f. Field SpellsType (λ t. Close (select_static nowhere c f t))))
Leaf_fields leaves.Undefined = Close (undefined_literal nowhere)
Leaf_fields leaves.Null = Close (null_literal nowhere)
Leaf_fields leaves.BooleanLiteral = Field SpellsMark (λ b. Close (boolean_literal nowhere b))
Leaf_fields leaves.CharLiteral = Field (SpellsNatural (2 ^ 16)) (λ v. Close (char_literal nowhere v))
Leaf_fields leaves.ByteLiteral = Field (SpellsInteger (2 ^ 7)) (λ v. Close (byte_literal nowhere v))
Leaf_fields leaves.ShortLiteral = Field (SpellsInteger (2 ^ 15)) (λ v. Close (short_literal nowhere v))
Leaf_fields leaves.IntLiteral = Field (SpellsInteger (2 ^ 31)) (λ v. Close (int_literal nowhere v))
Leaf_fields leaves.LongLiteral = Field (SpellsInteger (2 ^ 63)) (λ v. Close (long_literal nowhere v))
Leaf_fields leaves.StringLiteral = Field SpellsText (λ u. Close (string_literal nowhere u))
Leaf_fields leaves.VarRef = Field SpellsPlainName (λ x. Field SpellsType (λ t. Close (var_ref nowhere x t)))
Leaf_fields leaves.This = Field SpellsType (λ t. Close (this_ref nowhere t))

abbrev pub Statement_fields : StatementForm → Spelling Term
Statement_fields statements.VarDef = Field SpellsPlainName (λ x. Field SpellsType (λ t. Field SpellsMark (λ b. Field SpellsTree (λ e. Close (var_def nowhere x t b e)))))
Statement_fields statements.Block = Field Trees_form (λ es. Close (block_of nowhere es))
Statement_fields statements.Labeled = Field SpellsPlainName (λ l. Field SpellsType (λ t. Field SpellsTree (λ e. Close (labeled nowhere l t e))))
Statement_fields statements.Assign = Field SpellsTree (λ e. Field SpellsTree (λ d. Close (assign nowhere e d)))
Statement_fields statements.Return = Field SpellsTree (λ e. Field SpellsPlainName (λ l. Close (return_to nowhere e l)))
Statement_fields statements.Throw = Field SpellsTree (λ e. Close (throw nowhere e))
Statement_fields statements.StoreModule = Field SpellsClassName (λ c. Field SpellsTree (λ e. Close (store_module nowhere c e)))
Statement_fields statements.Log = Field SpellsTree (λ e. Close (log_line nowhere e))

abbrev pub Branch_fields : BranchForm → Spelling Term
Branch_fields branches.If = Field SpellsTree (λ c. Field SpellsTree (λ e. Field SpellsTree (λ d. Field SpellsType (λ t. Close (if_then nowhere c e d t)))))
Branch_fields branches.While = Field SpellsTree (λ c. Field SpellsTree (λ e. Close (while_loop nowhere c e)))
Branch_fields branches.DoWhile = Field SpellsTree (λ e. Field SpellsTree (λ c. Close (do_while nowhere e c)))
Branch_fields branches.TryCatch = Field SpellsTree (λ e. Field SpellsPlainName (λ x. Field SpellsTree (λ d. Field SpellsType (λ t. Close (try_catch nowhere e x d t)))))
Branch_fields branches.TryFinally = Field SpellsTree (λ e. Field SpellsTree (λ d. Close (try_finally nowhere e d)))
Branch_fields branches.Match = Field SpellsTree (λ e. Field Cases_form (λ cs. Field SpellsTree (λ d. Field SpellsType (λ t. Close (match_on nowhere e cs d t)))))

abbrev pub Call_fields : CallForm → Spelling Term
Call_fields calls.New = Field SpellsClassName (λ c. Field SpellsMethodName (λ g. Field Trees_form (λ es. Close (new_object nowhere c g es))))
Call_fields calls.Select = Field SpellsTree (λ e. Field SpellsClassName (λ c. Field SpellsPlainName (λ f. Field SpellsType (λ t. Close (select nowhere e c f t)))))
Call_fields calls.Apply = Field SpellsTree (λ e. Field SpellsMethodName (λ g. Field Trees_form (λ es. Field SpellsType (λ t. Close (apply nowhere e g es t)))))
Call_fields calls.ApplyStatically = Field SpellsTree (λ e. Field SpellsClassName (λ c. Field SpellsNamespace (λ s. Field SpellsMethodName (λ g. Field Trees_form (λ es. Field SpellsType (λ t. Close (apply_statically nowhere e c s g es t)))))))
Call_fields calls.ApplyStatic = Field SpellsClassName (λ c. Field SpellsNamespace (λ s. Field SpellsMethodName (λ g. Field Trees_form (λ es. Field SpellsType (λ t. Close (apply_static nowhere c s g es t))))))

abbrev pub Operation_fields : OperationForm → Spelling Term
Operation_fields operations.UnaryOp = Field SpellsUnaryOp (λ o. Field SpellsTree (λ e. Close (unary_op nowhere o e)))
Operation_fields operations.BinaryOp = Field SpellsBinaryOp (λ o. Field SpellsTree (λ e. Field SpellsTree (λ d. Close (binary_op nowhere o e d))))
Operation_fields operations.NewArray = Field SpellsArray (λ r. Field SpellsTree (λ e. Close (new_array nowhere r e)))
Operation_fields operations.ArrayValue = Field SpellsArray (λ r. Field Trees_form (λ es. Close (array_value nowhere r es)))
Operation_fields operations.ArrayLength = Field SpellsTree (λ e. Close (array_length nowhere e))
Operation_fields operations.ArraySelect = Field SpellsTree (λ e. Field SpellsTree (λ d. Field SpellsType (λ t. Close (array_select nowhere e d t))))
Operation_fields operations.IsInstanceOf = Field SpellsTree (λ e. Field SpellsType (λ t. Close (is_instance_of nowhere e t)))
Operation_fields operations.AsInstanceOf = Field SpellsTree (λ e. Field SpellsType (λ t. Close (as_instance_of nowhere e t)))

abbrev pub Fields_of : words.Form → Spelling Term
Fields_of (forms.Leaf f) = Leaf_fields f
Fields_of (forms.Statement f) = Statement_fields f
Fields_of (forms.Branch f) = Branch_fields f
Fields_of (forms.Call f) = Call_fields f
Fields_of (forms.Operation f) = Operation_fields f

abbrev pub Tree_form : Spelling Term
Tree_form = Leads (codes "(") (IsForm then Fields_of)

-- a form in parentheses, from its word and its fields
formed : {fields : Grammar} (word rest : List ℕ) {text back front : List ℕ} → text ≡ codes "(" ++ back → back ≡ front ++ rest → front ≡ word → fields rest → Form (nowhere ≡ nowhere) word fields text
formed word rest {back = back} {front = front} outer inner is f = record { blank = refl; spelled = led (codes "(") back outer (seq front rest inner (record { same = is }) f) }

leveled : {word text : List ℕ} {fields : Grammar} {t : Term} (f : words.Form) → form_text f ≡ word → (s : (Is (codes "(") ● Is word ● fields) text) → Fields_of f t s.second.back → Tree_form t text
leveled f is s q = record { back = s.back; second = record { value = f; front = s.second.front; back = s.second.back; first = record { same = s.second.first.same ∙ sym is }; second = q; parts = s.second.parts }; parts = lead_of s }

leaf_to : (f : LeafForm) (t : Term) (text back front rest : List ℕ) → text ≡ codes "(" ++ back → back ≡ front ++ rest → IsForm (forms.Leaf f) front → Leaf_fields f t rest → SpellsTree t text
unfolding SpellsTree
leaf_to leaves.Skip t text back front rest outer inner w p0 = rw p0.second.same (formed (codes "Skip") rest outer inner w.same (last p0))
leaf_to leaves.LoadModule t text back front rest outer inner w p0 = let p1 = p0.second in rw p1.second.same (formed (codes "LoadModule") rest outer inner w.same (part p0 (last p1)))
leaf_to leaves.SelectStatic t text back front rest outer inner w p0 = let p1 = p0.second in let p2 = p1.second in let p3 = p2.second in rw p3.second.same (formed (codes "SelectStatic") rest outer inner w.same (part p0 (part p1 (part p2 (last p3)))))
leaf_to leaves.Undefined t text back front rest outer inner w p0 = rw p0.second.same (formed (codes "Undefined") rest outer inner w.same (last p0))
leaf_to leaves.Null t text back front rest outer inner w p0 = rw p0.second.same (formed (codes "Null") rest outer inner w.same (last p0))
leaf_to leaves.BooleanLiteral t text back front rest outer inner w p0 = let p1 = p0.second in rw p1.second.same (formed (codes "BooleanLiteral") rest outer inner w.same (part p0 (last p1)))
leaf_to leaves.CharLiteral t text back front rest outer inner w p0 = let p1 = p0.second in rw p1.second.same (formed (codes "CharLiteral") rest outer inner w.same (part p0 (last p1)))
leaf_to leaves.ByteLiteral t text back front rest outer inner w p0 = let p1 = p0.second in rw p1.second.same (formed (codes "ByteLiteral") rest outer inner w.same (part p0 (last p1)))
leaf_to leaves.ShortLiteral t text back front rest outer inner w p0 = let p1 = p0.second in rw p1.second.same (formed (codes "ShortLiteral") rest outer inner w.same (part p0 (last p1)))
leaf_to leaves.IntLiteral t text back front rest outer inner w p0 = let p1 = p0.second in rw p1.second.same (formed (codes "IntLiteral") rest outer inner w.same (part p0 (last p1)))
leaf_to leaves.LongLiteral t text back front rest outer inner w p0 = let p1 = p0.second in rw p1.second.same (formed (codes "LongLiteral") rest outer inner w.same (part p0 (last p1)))
leaf_to leaves.StringLiteral t text back front rest outer inner w p0 = let p1 = p0.second in rw p1.second.same (formed (codes "StringLiteral") rest outer inner w.same (part p0 (last p1)))
leaf_to leaves.VarRef t text back front rest outer inner w p0 = let p1 = p0.second in let p2 = p1.second in rw p2.second.same (formed (codes "VarRef") rest outer inner w.same (part p0 (part p1 (last p2))))
leaf_to leaves.This t text back front rest outer inner w p0 = let p1 = p0.second in rw p1.second.same (formed (codes "This") rest outer inner w.same (part p0 (last p1)))

statement_to : (f : StatementForm) (t : Term) (text back front rest : List ℕ) → text ≡ codes "(" ++ back → back ≡ front ++ rest → IsForm (forms.Statement f) front → Statement_fields f t rest → SpellsTree t text
unfolding SpellsTree
statement_to statements.VarDef t text back front rest outer inner w p0 = let p1 = p0.second in let p2 = p1.second in let p3 = p2.second in let p4 = p3.second in rw p4.second.same (formed (codes "VarDef") rest outer inner w.same (part p0 (part p1 (part p2 (part p3 (last p4))))))
statement_to statements.Block t text back front rest outer inner w p0 = let p1 = p0.second in rw p1.second.same (formed (codes "Block") rest outer inner w.same (part p0 (last p1)))
statement_to statements.Labeled t text back front rest outer inner w p0 = let p1 = p0.second in let p2 = p1.second in let p3 = p2.second in rw p3.second.same (formed (codes "Labeled") rest outer inner w.same (part p0 (part p1 (part p2 (last p3)))))
statement_to statements.Assign t text back front rest outer inner w p0 = let p1 = p0.second in let p2 = p1.second in rw p2.second.same (formed (codes "Assign") rest outer inner w.same (part p0 (part p1 (last p2))))
statement_to statements.Return t text back front rest outer inner w p0 = let p1 = p0.second in let p2 = p1.second in rw p2.second.same (formed (codes "Return") rest outer inner w.same (part p0 (part p1 (last p2))))
statement_to statements.Throw t text back front rest outer inner w p0 = let p1 = p0.second in rw p1.second.same (formed (codes "Throw") rest outer inner w.same (part p0 (last p1)))
statement_to statements.StoreModule t text back front rest outer inner w p0 = let p1 = p0.second in let p2 = p1.second in rw p2.second.same (formed (codes "StoreModule") rest outer inner w.same (part p0 (part p1 (last p2))))
statement_to statements.Log t text back front rest outer inner w p0 = let p1 = p0.second in rw p1.second.same (formed (codes "Log") rest outer inner w.same (part p0 (last p1)))

branch_to : (f : BranchForm) (t : Term) (text back front rest : List ℕ) → text ≡ codes "(" ++ back → back ≡ front ++ rest → IsForm (forms.Branch f) front → Branch_fields f t rest → SpellsTree t text
unfolding SpellsTree
branch_to branches.If t text back front rest outer inner w p0 = let p1 = p0.second in let p2 = p1.second in let p3 = p2.second in let p4 = p3.second in rw p4.second.same (formed (codes "If") rest outer inner w.same (part p0 (part p1 (part p2 (part p3 (last p4))))))
branch_to branches.While t text back front rest outer inner w p0 = let p1 = p0.second in let p2 = p1.second in rw p2.second.same (formed (codes "While") rest outer inner w.same (part p0 (part p1 (last p2))))
branch_to branches.DoWhile t text back front rest outer inner w p0 = let p1 = p0.second in let p2 = p1.second in rw p2.second.same (formed (codes "DoWhile") rest outer inner w.same (part p0 (part p1 (last p2))))
branch_to branches.TryCatch t text back front rest outer inner w p0 = let p1 = p0.second in let p2 = p1.second in let p3 = p2.second in let p4 = p3.second in rw p4.second.same (formed (codes "TryCatch") rest outer inner w.same (part p0 (part p1 (part p2 (part p3 (last p4))))))
branch_to branches.TryFinally t text back front rest outer inner w p0 = let p1 = p0.second in let p2 = p1.second in rw p2.second.same (formed (codes "TryFinally") rest outer inner w.same (part p0 (part p1 (last p2))))
branch_to branches.Match t text back front rest outer inner w p0 = let p1 = p0.second in let p2 = p1.second in let p3 = p2.second in let p4 = p3.second in rw p4.second.same (formed (codes "Match") rest outer inner w.same (part p0 (part p1 (part p2 (part p3 (last p4))))))

call_to : (f : CallForm) (t : Term) (text back front rest : List ℕ) → text ≡ codes "(" ++ back → back ≡ front ++ rest → IsForm (forms.Call f) front → Call_fields f t rest → SpellsTree t text
unfolding SpellsTree
call_to calls.New t text back front rest outer inner w p0 = let p1 = p0.second in let p2 = p1.second in let p3 = p2.second in rw p3.second.same (formed (codes "New") rest outer inner w.same (part p0 (part p1 (part p2 (last p3)))))
call_to calls.Select t text back front rest outer inner w p0 = let p1 = p0.second in let p2 = p1.second in let p3 = p2.second in let p4 = p3.second in rw p4.second.same (formed (codes "Select") rest outer inner w.same (part p0 (part p1 (part p2 (part p3 (last p4))))))
call_to calls.Apply t text back front rest outer inner w p0 = let p1 = p0.second in let p2 = p1.second in let p3 = p2.second in let p4 = p3.second in rw p4.second.same (formed (codes "Apply") rest outer inner w.same (part p0 (part p1 (part p2 (part p3 (last p4))))))
call_to calls.ApplyStatically t text back front rest outer inner w p0 = let p1 = p0.second in let p2 = p1.second in let p3 = p2.second in let p4 = p3.second in let p5 = p4.second in let p6 = p5.second in rw p6.second.same (formed (codes "ApplyStatically") rest outer inner w.same (part p0 (part p1 (part p2 (part p3 (part p4 (part p5 (last p6))))))))
call_to calls.ApplyStatic t text back front rest outer inner w p0 = let p1 = p0.second in let p2 = p1.second in let p3 = p2.second in let p4 = p3.second in let p5 = p4.second in rw p5.second.same (formed (codes "ApplyStatic") rest outer inner w.same (part p0 (part p1 (part p2 (part p3 (part p4 (last p5)))))))

operation_to : (f : OperationForm) (t : Term) (text back front rest : List ℕ) → text ≡ codes "(" ++ back → back ≡ front ++ rest → IsForm (forms.Operation f) front → Operation_fields f t rest → SpellsTree t text
unfolding SpellsTree
operation_to operations.UnaryOp t text back front rest outer inner w p0 = let p1 = p0.second in let p2 = p1.second in rw p2.second.same (formed (codes "UnaryOp") rest outer inner w.same (part p0 (part p1 (last p2))))
operation_to operations.BinaryOp t text back front rest outer inner w p0 = let p1 = p0.second in let p2 = p1.second in let p3 = p2.second in rw p3.second.same (formed (codes "BinaryOp") rest outer inner w.same (part p0 (part p1 (part p2 (last p3)))))
operation_to operations.NewArray t text back front rest outer inner w p0 = let p1 = p0.second in let p2 = p1.second in rw p2.second.same (formed (codes "NewArray") rest outer inner w.same (part p0 (part p1 (last p2))))
operation_to operations.ArrayValue t text back front rest outer inner w p0 = let p1 = p0.second in let p2 = p1.second in rw p2.second.same (formed (codes "ArrayValue") rest outer inner w.same (part p0 (part p1 (last p2))))
operation_to operations.ArrayLength t text back front rest outer inner w p0 = let p1 = p0.second in rw p1.second.same (formed (codes "ArrayLength") rest outer inner w.same (part p0 (last p1)))
operation_to operations.ArraySelect t text back front rest outer inner w p0 = let p1 = p0.second in let p2 = p1.second in let p3 = p2.second in rw p3.second.same (formed (codes "ArraySelect") rest outer inner w.same (part p0 (part p1 (part p2 (last p3)))))
operation_to operations.IsInstanceOf t text back front rest outer inner w p0 = let p1 = p0.second in let p2 = p1.second in rw p2.second.same (formed (codes "IsInstanceOf") rest outer inner w.same (part p0 (part p1 (last p2))))
operation_to operations.AsInstanceOf t text back front rest outer inner w p0 = let p1 = p0.second in let p2 = p1.second in rw p2.second.same (formed (codes "AsInstanceOf") rest outer inner w.same (part p0 (part p1 (last p2))))

pub tree_to : (t : Term) (text : List ℕ) → Tree_form t text → SpellsTree t text
tree_to t text p = by p.second.value p.second.first p.second.second
  where
    by : (f : words.Form) → IsForm f p.second.front → Fields_of f t p.second.back → SpellsTree t text
    by (forms.Leaf f) w q = leaf_to f t text p.back p.second.front p.second.back p.parts p.second.parts w q
    by (forms.Statement f) w q = statement_to f t text p.back p.second.front p.second.back p.parts p.second.parts w q
    by (forms.Branch f) w q = branch_to f t text p.back p.second.front p.second.back p.parts p.second.parts w q
    by (forms.Call f) w q = call_to f t text p.back p.second.front p.second.back p.parts p.second.parts w q
    by (forms.Operation f) w q = operation_to f t text p.back p.second.front p.second.back p.parts p.second.parts w q

pub tree_from : (t : Term) (text : List ℕ) → SpellsTree t text → Tree_form t text
unfolding SpellsTree
tree_from (var_def p x t b e) text h = let s0 = h.spelled.second.second in let s1 = s0.second.second in let s2 = s1.second.second in let s3 = s2.second.second in let s4 = s3.second.second in rw h.blank (leveled (forms.Statement statements.VarDef) refl h.spelled (field_of x s0 (field_of t s1 (field_of b s2 (field_of e s3 (close_of _ s4))))))
tree_from (skip p) text h = let s0 = h.spelled.second.second in rw h.blank (leveled (forms.Leaf leaves.Skip) refl h.spelled (close_of _ s0))
tree_from (block_of p es) text h = let s0 = h.spelled.second.second in let s1 = s0.second.second in rw h.blank (leveled (forms.Statement statements.Block) refl h.spelled (field_of es s0 (close_of _ s1)))
tree_from (labeled p l t e) text h = let s0 = h.spelled.second.second in let s1 = s0.second.second in let s2 = s1.second.second in let s3 = s2.second.second in rw h.blank (leveled (forms.Statement statements.Labeled) refl h.spelled (field_of l s0 (field_of t s1 (field_of e s2 (close_of _ s3)))))
tree_from (assign p e d) text h = let s0 = h.spelled.second.second in let s1 = s0.second.second in let s2 = s1.second.second in rw h.blank (leveled (forms.Statement statements.Assign) refl h.spelled (field_of e s0 (field_of d s1 (close_of _ s2))))
tree_from (return_to p e l) text h = let s0 = h.spelled.second.second in let s1 = s0.second.second in let s2 = s1.second.second in rw h.blank (leveled (forms.Statement statements.Return) refl h.spelled (field_of e s0 (field_of l s1 (close_of _ s2))))
tree_from (if_then p c e d t) text h = let s0 = h.spelled.second.second in let s1 = s0.second.second in let s2 = s1.second.second in let s3 = s2.second.second in let s4 = s3.second.second in rw h.blank (leveled (forms.Branch branches.If) refl h.spelled (field_of c s0 (field_of e s1 (field_of d s2 (field_of t s3 (close_of _ s4))))))
tree_from (while_loop p c e) text h = let s0 = h.spelled.second.second in let s1 = s0.second.second in let s2 = s1.second.second in rw h.blank (leveled (forms.Branch branches.While) refl h.spelled (field_of c s0 (field_of e s1 (close_of _ s2))))
tree_from (do_while p e c) text h = let s0 = h.spelled.second.second in let s1 = s0.second.second in let s2 = s1.second.second in rw h.blank (leveled (forms.Branch branches.DoWhile) refl h.spelled (field_of e s0 (field_of c s1 (close_of _ s2))))
tree_from (try_catch p e x d t) text h = let s0 = h.spelled.second.second in let s1 = s0.second.second in let s2 = s1.second.second in let s3 = s2.second.second in let s4 = s3.second.second in rw h.blank (leveled (forms.Branch branches.TryCatch) refl h.spelled (field_of e s0 (field_of x s1 (field_of d s2 (field_of t s3 (close_of _ s4))))))
tree_from (try_finally p e d) text h = let s0 = h.spelled.second.second in let s1 = s0.second.second in let s2 = s1.second.second in rw h.blank (leveled (forms.Branch branches.TryFinally) refl h.spelled (field_of e s0 (field_of d s1 (close_of _ s2))))
tree_from (throw p e) text h = let s0 = h.spelled.second.second in let s1 = s0.second.second in rw h.blank (leveled (forms.Statement statements.Throw) refl h.spelled (field_of e s0 (close_of _ s1)))
tree_from (match_on p e cs d t) text h = let s0 = h.spelled.second.second in let s1 = s0.second.second in let s2 = s1.second.second in let s3 = s2.second.second in let s4 = s3.second.second in rw h.blank (leveled (forms.Branch branches.Match) refl h.spelled (field_of e s0 (field_of cs s1 (field_of d s2 (field_of t s3 (close_of _ s4))))))
tree_from (new_object p c g es) text h = let s0 = h.spelled.second.second in let s1 = s0.second.second in let s2 = s1.second.second in let s3 = s2.second.second in rw h.blank (leveled (forms.Call calls.New) refl h.spelled (field_of c s0 (field_of g s1 (field_of es s2 (close_of _ s3)))))
tree_from (load_module p c) text h = let s0 = h.spelled.second.second in let s1 = s0.second.second in rw h.blank (leveled (forms.Leaf leaves.LoadModule) refl h.spelled (field_of c s0 (close_of _ s1)))
tree_from (store_module p c e) text h = let s0 = h.spelled.second.second in let s1 = s0.second.second in let s2 = s1.second.second in rw h.blank (leveled (forms.Statement statements.StoreModule) refl h.spelled (field_of c s0 (field_of e s1 (close_of _ s2))))
tree_from (select p e c f t) text h = let s0 = h.spelled.second.second in let s1 = s0.second.second in let s2 = s1.second.second in let s3 = s2.second.second in let s4 = s3.second.second in rw h.blank (leveled (forms.Call calls.Select) refl h.spelled (field_of e s0 (field_of c s1 (field_of f s2 (field_of t s3 (close_of _ s4))))))
tree_from (select_static p c f t) text h = let s0 = h.spelled.second.second in let s1 = s0.second.second in let s2 = s1.second.second in let s3 = s2.second.second in rw h.blank (leveled (forms.Leaf leaves.SelectStatic) refl h.spelled (field_of c s0 (field_of f s1 (field_of t s2 (close_of _ s3)))))
tree_from (apply p e g es t) text h = let s0 = h.spelled.second.second in let s1 = s0.second.second in let s2 = s1.second.second in let s3 = s2.second.second in let s4 = s3.second.second in rw h.blank (leveled (forms.Call calls.Apply) refl h.spelled (field_of e s0 (field_of g s1 (field_of es s2 (field_of t s3 (close_of _ s4))))))
tree_from (apply_statically p e c s g es t) text h = let s0 = h.spelled.second.second in let s1 = s0.second.second in let s2 = s1.second.second in let s3 = s2.second.second in let s4 = s3.second.second in let s5 = s4.second.second in let s6 = s5.second.second in rw h.blank (leveled (forms.Call calls.ApplyStatically) refl h.spelled (field_of e s0 (field_of c s1 (field_of s s2 (field_of g s3 (field_of es s4 (field_of t s5 (close_of _ s6))))))))
tree_from (apply_static p c s g es t) text h = let s0 = h.spelled.second.second in let s1 = s0.second.second in let s2 = s1.second.second in let s3 = s2.second.second in let s4 = s3.second.second in let s5 = s4.second.second in rw h.blank (leveled (forms.Call calls.ApplyStatic) refl h.spelled (field_of c s0 (field_of s s1 (field_of g s2 (field_of es s3 (field_of t s4 (close_of _ s5)))))))
tree_from (unary_op p o e) text h = let s0 = h.spelled.second.second in let s1 = s0.second.second in let s2 = s1.second.second in rw h.blank (leveled (forms.Operation operations.UnaryOp) refl h.spelled (field_of o s0 (field_of e s1 (close_of _ s2))))
tree_from (binary_op p o e d) text h = let s0 = h.spelled.second.second in let s1 = s0.second.second in let s2 = s1.second.second in let s3 = s2.second.second in rw h.blank (leveled (forms.Operation operations.BinaryOp) refl h.spelled (field_of o s0 (field_of e s1 (field_of d s2 (close_of _ s3)))))
tree_from (new_array p r e) text h = let s0 = h.spelled.second.second in let s1 = s0.second.second in let s2 = s1.second.second in rw h.blank (leveled (forms.Operation operations.NewArray) refl h.spelled (field_of r s0 (field_of e s1 (close_of _ s2))))
tree_from (array_value p r es) text h = let s0 = h.spelled.second.second in let s1 = s0.second.second in let s2 = s1.second.second in rw h.blank (leveled (forms.Operation operations.ArrayValue) refl h.spelled (field_of r s0 (field_of es s1 (close_of _ s2))))
tree_from (array_length p e) text h = let s0 = h.spelled.second.second in let s1 = s0.second.second in rw h.blank (leveled (forms.Operation operations.ArrayLength) refl h.spelled (field_of e s0 (close_of _ s1)))
tree_from (array_select p e d t) text h = let s0 = h.spelled.second.second in let s1 = s0.second.second in let s2 = s1.second.second in let s3 = s2.second.second in rw h.blank (leveled (forms.Operation operations.ArraySelect) refl h.spelled (field_of e s0 (field_of d s1 (field_of t s2 (close_of _ s3)))))
tree_from (is_instance_of p e t) text h = let s0 = h.spelled.second.second in let s1 = s0.second.second in let s2 = s1.second.second in rw h.blank (leveled (forms.Operation operations.IsInstanceOf) refl h.spelled (field_of e s0 (field_of t s1 (close_of _ s2))))
tree_from (as_instance_of p e t) text h = let s0 = h.spelled.second.second in let s1 = s0.second.second in let s2 = s1.second.second in rw h.blank (leveled (forms.Operation operations.AsInstanceOf) refl h.spelled (field_of e s0 (field_of t s1 (close_of _ s2))))
tree_from (undefined_literal p) text h = let s0 = h.spelled.second.second in rw h.blank (leveled (forms.Leaf leaves.Undefined) refl h.spelled (close_of _ s0))
tree_from (null_literal p) text h = let s0 = h.spelled.second.second in rw h.blank (leveled (forms.Leaf leaves.Null) refl h.spelled (close_of _ s0))
tree_from (boolean_literal p b) text h = let s0 = h.spelled.second.second in let s1 = s0.second.second in rw h.blank (leveled (forms.Leaf leaves.BooleanLiteral) refl h.spelled (field_of b s0 (close_of _ s1)))
tree_from (char_literal p v) text h = let s0 = h.spelled.second.second in let s1 = s0.second.second in rw h.blank (leveled (forms.Leaf leaves.CharLiteral) refl h.spelled (field_of v s0 (close_of _ s1)))
tree_from (byte_literal p v) text h = let s0 = h.spelled.second.second in let s1 = s0.second.second in rw h.blank (leveled (forms.Leaf leaves.ByteLiteral) refl h.spelled (field_of v s0 (close_of _ s1)))
tree_from (short_literal p v) text h = let s0 = h.spelled.second.second in let s1 = s0.second.second in rw h.blank (leveled (forms.Leaf leaves.ShortLiteral) refl h.spelled (field_of v s0 (close_of _ s1)))
tree_from (int_literal p v) text h = let s0 = h.spelled.second.second in let s1 = s0.second.second in rw h.blank (leveled (forms.Leaf leaves.IntLiteral) refl h.spelled (field_of v s0 (close_of _ s1)))
tree_from (long_literal p v) text h = let s0 = h.spelled.second.second in let s1 = s0.second.second in rw h.blank (leveled (forms.Leaf leaves.LongLiteral) refl h.spelled (field_of v s0 (close_of _ s1)))
tree_from (string_literal p u) text h = let s0 = h.spelled.second.second in let s1 = s0.second.second in rw h.blank (leveled (forms.Leaf leaves.StringLiteral) refl h.spelled (field_of u s0 (close_of _ s1)))
tree_from (var_ref p x t) text h = let s0 = h.spelled.second.second in let s1 = s0.second.second in let s2 = s1.second.second in rw h.blank (leveled (forms.Leaf leaves.VarRef) refl h.spelled (field_of x s0 (field_of t s1 (close_of _ s2))))
tree_from (this_ref p t) text h = let s0 = h.spelled.second.second in let s1 = s0.second.second in rw h.blank (leveled (forms.Leaf leaves.This) refl h.spelled (field_of t s0 (close_of _ s1)))
tree_from (log_line p e) text h = let s0 = h.spelled.second.second in let s1 = s0.second.second in rw h.blank (leveled (forms.Statement statements.Log) refl h.spelled (field_of e s0 (close_of _ s1)))
