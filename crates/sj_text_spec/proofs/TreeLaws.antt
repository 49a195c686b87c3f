-- The law of the reader of trees.
use Rattle.std.proofs.Common.{ℕ, zero, suc, ℤ, ◌≤◌, ◌^◌, Bool, eqb, List, [], refl, arith, codes}
use Rattle.js_read_spec.proofs.Parts.{seq, led, lead_of}
use Rattle.exact_place.specs.Reading.{Reading}
use Rattle.exact_place.specs.Grammar.{Spelling, ◌then◌, Leads}
use Rattle.exact_place.specs.Place.{Begins, Law}
use Rattle.exact_place.proofs.Basic.{law_zero, law_map, law_same, law_narrow}
use Rattle.exact_place.proofs.Sequence.{Starts, law_after, law_lead, law_behind}
use Rattle.exact_place.proofs.First.{starts_leads}
use Rattle.sj_trees.specs.Erase.{nowhere}
use Rattle.sj_trees.specs.Term.{Term, var_def, skip, block_of, labeled, assign, return_to, if_then, while_loop, do_while, try_catch, try_finally, throw, match_on, new_object, load_module, store_module, select, select_static, apply, apply_statically, apply_static, unary_op, binary_op, new_array, array_value, array_length, array_select, is_instance_of, as_instance_of, undefined_literal, null_literal, boolean_literal, char_literal, byte_literal, short_literal, int_literal, long_literal, string_literal, var_ref, this_ref, log_line}
use Rattle.sj_trees.specs.View.{Case, terms_of, cases_of}
use Rattle.sj_text_spec.specs.Spelling.{Form, SpellsList, SpellsKey, SpellsTree}
use Rattle.sj_text_spec.specs.Words.{ends_word}
use Rattle.sj_text_spec.specs.Reading.{field_at, close_at, trees_at, case_at, cases_at, leaf_at, statement_at, branch_at, call_at, operation_at, fields_at, tree_level, tree_at}
use Rattle.sj_trees.specs.declared.forms.Form as words
use Rattle.sj_trees.specs.declared.forms.Form.TheVariants as forms
use Rattle.sj_trees.specs.declared.forms.LeafForm.{LeafForm}
use Rattle.sj_trees.specs.declared.forms.LeafForm.TheVariants as leaves
use Rattle.sj_trees.specs.declared.forms.StatementForm.{StatementForm}
use Rattle.sj_trees.specs.declared.forms.StatementForm.TheVariants as statements
use Rattle.sj_trees.specs.declared.forms.BranchForm.{BranchForm}
use Rattle.sj_trees.specs.declared.forms.BranchForm.TheVariants as branches
use Rattle.sj_trees.specs.declared.forms.CallForm.{CallForm}
use Rattle.sj_trees.specs.declared.forms.CallForm.TheVariants as calls
use Rattle.sj_trees.specs.declared.forms.OperationForm.{OperationForm}
use Rattle.sj_trees.specs.declared.forms.OperationForm.TheVariants as operations
use Rattle.sj_text_spec.proofs.Fields.{anything, fits, in_brackets, Row, field, close, Field, Close, part, last, field_of, close_of, law_bracketed}
use Rattle.sj_text_spec.proofs.Values.{law_mark, law_natural, law_integer, law_key, is_number_start, starts_key, law_namespace, law_unary, law_binary, IsForm, law_form}
use Rattle.sj_text_spec.proofs.Literals.{law_plain_name, law_class_name, law_method_name, law_array, law_type, law_text}
use Rattle.sj_text_spec.proofs.TreeForms.{Trees_form, Cases_form, Case_form, trees_level_to, trees_level_from, cases_level_to, cases_level_from, Leaf_fields, Statement_fields, Branch_fields, Call_fields, Operation_fields, Fields_of, tree_to, tree_from}

pub is_parenthesis : ℕ → Bool
is_parenthesis c = eqb c 40

pub starts_tree : Starts (λ c. eqb c 40) SpellsTree
starts_tree t text p = starts_leads (λ c. eqb c 40) 40 [] (IsForm then Fields_of) refl t text (tree_from t text p)

-- a case, as the reader takes it
abbrev Case_level : Spelling Case
Case_level = Leads (codes "(") (SpellsList SpellsKey then λ ks. Field SpellsTree (λ e. Close {A = Case} (ks, e)))

case_to : (c : Case) (text : List ℕ) → Case_level c text → Case_form c text
case_to c text p =
    let q = p.second in
    let r = q.second.second in
    rw r.second.same (led (codes "(") p.back p.parts (seq q.front q.back q.parts q.first (part q.second (last r))))

case_from : (c : Case) (text : List ℕ) → Case_form c text → Case_level c text
case_from c text s = record { back = s.back; second = record { value = c.0; front = s.second.front; back = s.second.back; first = s.second.first; second = field_of c.1 s.second.second (close_of {A = Case} (c.0, c.1) s.second.second.second.second); parts = s.second.parts }; parts = lead_of s }

starts_case : Starts (λ c. eqb c 40) Case_form
starts_case c text p = starts_leads (λ c. eqb c 40) 40 [] _ refl c text (case_from c text p)

module _ (n m : ℕ) (le : n ≤ m) (read again : List ℕ → Reading Term) (whole : Law n anything read again SpellsTree) where
  inner : Law n ends_word read again SpellsTree
  inner = law_narrow ends_word (λ c e. refl) whole

  law_trees : Law n ends_word (trees_at read n) (trees_at again m) Trees_form
  unfolding trees_at
  law_trees = law_same trees_level_to trees_level_from (law_map (λ es. terms_of es) (law_narrow ends_word (λ c e. refl) (law_bracketed n m le SpellsTree (λ c. eqb c 40) starts_tree refl (law_narrow in_brackets (λ c e. refl) whole))))

  case_row : (ks : List ℤ) → Row {A = Case} n (field_at read (λ e. close_at {A = Case} (ks, e))) (field_at again (λ e. close_at {A = Case} (ks, e))) (Field SpellsTree (λ e. Close {A = Case} (ks, e)))
  case_row ks = field inner (λ e. close {A = Case} (ks, e))

  law_case : Law n anything (case_at read n) (case_at again m) Case_form
  unfolding case_at
  law_case = law_same case_to case_from (law_lead (codes "(") (law_after n n ends_word anything (fits n _) (λ ks. (case_row ks).follows) (law_narrow ends_word (λ c e. refl) (law_bracketed n m le SpellsKey is_number_start starts_key refl law_key)) (λ ks text p. (case_row ks).law)))

  law_cases : Law n ends_word (cases_at read n) (cases_at again m) Cases_form
  unfolding cases_at
  law_cases = law_same cases_level_to cases_level_from (law_map (λ cs. cases_of cs) (law_narrow ends_word (λ c e. refl) (law_bracketed n m le Case_form (λ c. eqb c 40) starts_case refl (law_narrow in_brackets (λ c e. refl) law_case))))

  leaf_row : (f : LeafForm) → Row n (leaf_at read n f) (leaf_at again m f) (Leaf_fields f)
  unfolding leaf_at
  leaf_row leaves.Skip = close (skip nowhere)
  leaf_row leaves.LoadModule = field (law_class_name n m le) (λ c. close (load_module nowhere c))
  leaf_row leaves.SelectStatic = field (law_class_name n m le) (λ c. field (law_plain_name n m le) (λ f. field (law_type n m le) (λ t. close (select_static nowhere c f t))))
  leaf_row leaves.Undefined = close (undefined_literal nowhere)
  leaf_row leaves.Null = close (null_literal nowhere)
  leaf_row leaves.BooleanLiteral = field law_mark (λ b. close (boolean_literal nowhere b))
  leaf_row leaves.CharLiteral = field (law_natural (2 ^ 16) (omega arith) (omega arith)) (λ v. close (char_literal nowhere v))
  leaf_row leaves.ByteLiteral = field (law_integer (2 ^ 7) (omega arith) (omega arith)) (λ v. close (byte_literal nowhere v))
  leaf_row leaves.ShortLiteral = field (law_integer (2 ^ 15) (omega arith) (omega arith)) (λ v. close (short_literal nowhere v))
  leaf_row leaves.IntLiteral = field (law_integer (2 ^ 31) (omega arith) (omega arith)) (λ v. close (int_literal nowhere v))
  leaf_row leaves.LongLiteral = field (law_integer (2 ^ 63) (omega arith) (omega arith)) (λ v. close (long_literal nowhere v))
  leaf_row leaves.StringLiteral = field (law_text n m le) (λ u. close (string_literal nowhere u))
  leaf_row leaves.VarRef = field (law_plain_name n m le) (λ x. field (law_type n m le) (λ t. close (var_ref nowhere x t)))
  leaf_row leaves.This = field (law_type n m le) (λ t. close (this_ref nowhere t))

  statement_row : (f : StatementForm) → Row n (statement_at read n f) (statement_at again m f) (Statement_fields f)
  unfolding statement_at
  statement_row statements.VarDef = field (law_plain_name n m le) (λ x. field (law_type n m le) (λ t. field law_mark (λ b. field inner (λ e. close (var_def nowhere x t b e)))))
  statement_row statements.Block = field law_trees (λ es. close (block_of nowhere es))
  statement_row statements.Labeled = field (law_plain_name n m le) (λ l. field (law_type n m le) (λ t. field inner (λ e. close (labeled nowhere l t e))))
  statement_row statements.Assign = field inner (λ e. field inner (λ d. close (assign nowhere e d)))
  statement_row statements.Return = field inner (λ e. field (law_plain_name n m le) (λ l. close (return_to nowhere e l)))
  statement_row statements.Throw = field inner (λ e. close (throw nowhere e))
  statement_row statements.StoreModule = field (law_class_name n m le) (λ c. field inner (λ e. close (store_module nowhere c e)))
  statement_row statements.Log = field inner (λ e. close (log_line nowhere e))

  branch_row : (f : BranchForm) → Row n (branch_at read n f) (branch_at again m f) (Branch_fields f)
  unfolding branch_at
  branch_row branches.If = field inner (λ c. field inner (λ e. field inner (λ d. field (law_type n m le) (λ t. close (if_then nowhere c e d t)))))
  branch_row branches.While = field inner (λ c. field inner (λ e. close (while_loop nowhere c e)))
  branch_row branches.DoWhile = field inner (λ e. field inner (λ c. close (do_while nowhere e c)))
  branch_row branches.TryCatch = field inner (λ e. field (law_plain_name n m le) (λ x. field inner (λ d. field (law_type n m le) (λ t. close (try_catch nowhere e x d t)))))
  branch_row branches.TryFinally = field inner (λ e. field inner (λ d. close (try_finally nowhere e d)))
  branch_row branches.Match = field inner (λ e. field law_cases (λ cs. field inner (λ d. field (law_type n m le) (λ t. close (match_on nowhere e cs d t)))))

  call_row : (f : CallForm) → Row n (call_at read n f) (call_at again m f) (Call_fields f)
  unfolding call_at
  call_row calls.New = field (law_class_name n m le) (λ c. field (law_method_name n m le) (λ g. field law_trees (λ es. close (new_object nowhere c g es))))
  call_row calls.Select = field inner (λ e. field (law_class_name n m le) (λ c. field (law_plain_name n m le) (λ f. field (law_type n m le) (λ t. close (select nowhere e c f t)))))
  call_row calls.Apply = field inner (λ e. field (law_method_name n m le) (λ g. field law_trees (λ es. field (law_type n m le) (λ t. close (apply nowhere e g es t)))))
  call_row calls.ApplyStatically = field inner (λ e. field (law_class_name n m le) (λ c. field law_namespace (λ s. field (law_method_name n m le) (λ g. field law_trees (λ es. field (law_type n m le) (λ t. close (apply_statically nowhere e c s g es t)))))))
  call_row calls.ApplyStatic = field (law_class_name n m le) (λ c. field law_namespace (λ s. field (law_method_name n m le) (λ g. field law_trees (λ es. field (law_type n m le) (λ t. close (apply_static nowhere c s g es t))))))

  operation_row : (f : OperationForm) → Row n (operation_at read n f) (operation_at again m f) (Operation_fields f)
  unfolding operation_at
  operation_row operations.UnaryOp = field law_unary (λ o. field inner (λ e. close (unary_op nowhere o e)))
  operation_row operations.BinaryOp = field law_binary (λ o. field inner (λ e. field inner (λ d. close (binary_op nowhere o e d))))
  operation_row operations.NewArray = field (law_array n m le) (λ r. field inner (λ e. close (new_array nowhere r e)))
  operation_row operations.ArrayValue = field (law_array n m le) (λ r. field law_trees (λ es. close (array_value nowhere r es)))
  operation_row operations.ArrayLength = field inner (λ e. close (array_length nowhere e))
  operation_row operations.ArraySelect = field inner (λ e. field inner (λ d. field (law_type n m le) (λ t. close (array_select nowhere e d t))))
  operation_row operations.IsInstanceOf = field inner (λ e. field (law_type n m le) (λ t. close (is_instance_of nowhere e t)))
  operation_row operations.AsInstanceOf = field inner (λ e. field (law_type n m le) (λ t. close (as_instance_of nowhere e t)))

  fields_row : (f : words.Form) → Row n (fields_at read n f) (fields_at again m f) (Fields_of f)
  unfolding fields_at
  fields_row (forms.Leaf f) = leaf_row f
  fields_row (forms.Statement f) = statement_row f
  fields_row (forms.Branch f) = branch_row f
  fields_row (forms.Call f) = call_row f
  fields_row (forms.Operation f) = operation_row f

  pub law_level : Law (suc n) anything (tree_level read n) (tree_level again m) SpellsTree
  unfolding tree_level
  law_level = law_same tree_to tree_from (law_behind 40 [] (law_after n n ends_word anything (fits n _) (λ f. (fields_row f).follows) law_form (λ f text p. (fields_row f).law)))

some_tree : Begins SpellsTree []
unfolding SpellsTree
some_tree = record { value = skip nowhere; more = codes "(Skip)"; spelled = record { blank = refl; spelled = led (codes "(") (codes "Skip)") refl (seq (codes "Skip") (codes ")") refl (record { same = refl }) (record { same = refl })) } }

pub law_tree : (n m : ℕ) → n ≤ m → Law n anything (tree_at n) (tree_at m) SpellsTree
unfolding tree_at
law_tree zero m le = law_zero some_tree
law_tree (suc n) zero le = absurd (omega arith)
law_tree (suc n) (suc m) le = law_level n m (omega arith) (tree_at n) (tree_at m) (law_tree n m (omega arith))
