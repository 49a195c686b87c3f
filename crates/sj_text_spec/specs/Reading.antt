-- The readers of listings, from marks and numbers to whole classes.
use Rattle.std.specs.Prelude.{ℕ, ℤ, pos, negsuc, zero, suc, ◌+◌, ◌-◌, ◌^◌, Bool, true, false, cond, not, List, [], ◌∷◌, ◌==◌, Option, Some, None, codes}
use Rattle.exact_place.specs.Reading.{Reading, stopped, value_at, one_at, run_at, after_at, lead_at, map_at, either_at, list_at, end_at}
use Rattle.exact_place.specs.Tokens.{begins_entry, entry_of, begins_number, number_of}
use Rattle.js_read_spec.specs.Tokens as units
use Rattle.sj_names.specs.declared.method_names.Namespace.{Namespace}
use Rattle.std.specs.Option.{unwrap_or}
use Rattle.sj_trees.specs.Erase.{nowhere}
use Rattle.sj_trees.specs.Operators.{unary_with, binary_with}
use Rattle.sj_trees.specs.declared.operators.BinaryOp.TheVariants.{StrictEqual}
use Rattle.sj_trees.specs.declared.operators.UnaryOp.TheVariants.{BooleanNot}
use Rattle.sj_trees.specs.Term.{Term, Terms, Cases, var_def, skip, block_of, labeled, assign, return_to, if_then, while_loop, do_while, try_catch, try_finally, throw, match_on, new_object, load_module, store_module, select, select_static, apply, apply_statically, apply_static, unary_op, binary_op, new_array, array_value, array_length, array_select, is_instance_of, as_instance_of, undefined_literal, null_literal, boolean_literal, char_literal, byte_literal, short_literal, int_literal, long_literal, string_literal, var_ref, this_ref, log_line}
use Rattle.sj_trees.specs.View.{Case, terms_of, cases_of}
use Rattle.sj_trees.specs.declared.classes.ClassKind.{ClassKind}
use Rattle.sj_trees.specs.declared.classes.ParamDef.{ParamDef}
use Rattle.sj_trees.specs.declared.classes.FieldDef.{FieldDef}
use Rattle.sj_trees.specs.declared.classes.MethodDef.{MethodDef}
use Rattle.sj_trees.specs.declared.classes.ClassDef.{ClassDef}
use Rattle.sj_trees.specs.declared.operators.BinaryOp.{BinaryOp}
use Rattle.sj_trees.specs.declared.operators.UnaryOp.{UnaryOp}
use Rattle.sj_trees.specs.declared.types.IrType.{IrType}
use Rattle.sj_trees.specs.declared.types.IrType.TheVariants as types
use Rattle.sj_text_spec.specs.Words.{form_words, type_words, namespace_words, kind_words}
use Rattle.sj_text_spec.specs.Names.{plain_name_at, class_name_at, type_class_at, method_name_at, array_at}
use Rattle.sj_trees.specs.declared.forms.Form.{Form}
use Rattle.sj_trees.specs.declared.forms.Form.TheVariants as forms
use Rattle.sj_trees.specs.declared.forms.LeafForm.{LeafForm}
use Rattle.sj_trees.specs.declared.forms.LeafForm.TheVariants as leaves
use Rattle.sj_trees.specs.declared.forms.StatementForm.{StatementForm}
use Rattle.sj_trees.specs.declared.forms.StatementForm.TheVariants as statements
use Rattle.sj_trees.specs.declared.forms.BranchForm.{BranchForm}
use Rattle.sj_trees.specs.declared.forms.BranchForm.TheVariants as branches
use Rattle.sj_trees.specs.declared.forms.CallForm.{CallForm}
use Rattle.sj_trees.specs.declared.forms.CallForm.TheVariants as calls
use Rattle.sj_trees.specs.declared.forms.OperationForm.{OperationForm}
use Rattle.sj_trees.specs.declared.forms.OperationForm.TheVariants as operations

-- ---- marks, numbers and words

abbrev pub mark_of : ℕ → Option Bool
mark_of c = cond (c == 48) (Some false) (cond (c == 49) (Some true) None)

unfoldable pub mark_at : List ℕ → Reading Bool
mark_at = one_at mark_of

-- a number below the limit
unfoldable pub natural_at : ℕ → List ℕ → Reading ℕ
natural_at limit bytes = run_at (begins_number true limit) (number_of true limit) [] bytes

-- a number from 1 to the limit, the limit left out
unfoldable pub code_at : ℕ → List ℕ → Reading ℕ
code_at limit bytes = run_at (begins_number false limit) (number_of false limit) [] bytes

-- a number from -limit to limit - 1
unfoldable pub integer_at : ℕ → List ℕ → Reading ℤ
integer_at limit = either_at (λ c. c == 45) (lead_at (codes "-") (map_at (λ v. negsuc (v - 1)) (code_at (limit + 1)))) (map_at (λ v. pos v) (natural_at limit))

-- the operators, by their codes
abbrev pub unary_of : ℕ → UnaryOp
unary_of code = unwrap_or (unary_with code) BooleanNot

abbrev pub binary_of : ℕ → BinaryOp
binary_of code = unwrap_or (binary_with code) StrictEqual

unfoldable pub unary_op_at : List ℕ → Reading UnaryOp
unary_op_at = map_at unary_of (code_at 10)

unfoldable pub binary_op_at : List ℕ → Reading BinaryOp
binary_op_at = map_at binary_of (code_at 42)

unfoldable pub namespace_at : List ℕ → Reading Namespace
namespace_at bytes = run_at (begins_entry namespace_words) (entry_of namespace_words) [] bytes

unfoldable pub kind_at : List ℕ → Reading ClassKind
kind_at bytes = run_at (begins_entry kind_words) (entry_of kind_words) [] bytes

unfoldable pub form_at : List ℕ → Reading Form
form_at bytes = run_at (begins_entry form_words) (entry_of form_words) [] bytes

unfoldable pub type_word_at : List ℕ → Reading IrType
type_word_at bytes = run_at (begins_entry type_words) (entry_of type_words) [] bytes

-- behind `(` of a type
unfoldable pub long_type_at : ℕ → List ℕ → Reading IrType
long_type_at n = either_at (λ c. c == 76)
    (lead_at (codes "L ") (after_at (type_class_at n) (λ c. lead_at (codes ")") (value_at (types.Class c)))))
    (lead_at (codes "A ") (after_at (array_at n) (λ r. lead_at (codes ")") (value_at (types.Array r)))))

unfoldable pub type_at : ℕ → List ℕ → Reading IrType
type_at n = either_at (λ c. c == 40) (lead_at (codes "(") (long_type_at n)) type_word_at

-- a text of 16-bit units
unfoldable pub text_at : ℕ → List ℕ → Reading (List ℕ)
text_at n = lead_at (codes "\"") (after_at (list_at n (λ c. not (c == 34)) units.unit_at) (λ us. lead_at (codes "\"") (value_at us)))

-- ---- how parts stand together

-- a part behind a space, and what follows it
abbrev pub field_at : {A B : Type 0} → (List ℕ → Reading A) → (A → List ℕ → Reading B) → List ℕ → Reading B
field_at read next = after_at (lead_at (codes " ") read) next

-- the end of what stands in parentheses
abbrev pub close_at : {A : Type 0} → A → List ℕ → Reading A
close_at x = lead_at (codes ")") (value_at x)

-- parts in brackets, with a space between each two
unfoldable pub bracketed_at : {A : Type 0} → ℕ → (List ℕ → Reading A) → List ℕ → Reading (List A)
bracketed_at n item = lead_at (codes "[") (either_at (λ c. c == 93) (lead_at (codes "]") (value_at []))
    (after_at item (λ x. after_at (list_at n (λ c. c == 32) (lead_at (codes " ") item)) (λ xs. lead_at (codes "]") (value_at (x ∷ xs))))))

-- ---- trees: one level, over the reader of the trees inside and the same fuel for lists

module _ (inner : List ℕ → Reading Term) (n : ℕ) where
  unfoldable pub trees_at : List ℕ → Reading Terms
  trees_at = map_at (λ es. terms_of es) (bracketed_at n inner)

  -- a case: its keys and its tree
  unfoldable pub case_at : List ℕ → Reading Case
  case_at = lead_at (codes "(") (after_at (bracketed_at n (integer_at (2 ^ 31))) (λ ks. field_at inner (λ e. close_at (ks, e))))

  unfoldable pub cases_at : List ℕ → Reading Cases
  cases_at = map_at (λ cs. cases_of cs) (bracketed_at n case_at)

  unfoldable pub leaf_at : LeafForm → List ℕ → Reading Term
  leaf_at leaves.Skip = close_at (skip nowhere)
  leaf_at leaves.LoadModule = field_at (class_name_at n) (λ c. close_at (load_module nowhere c))
  leaf_at leaves.SelectStatic = field_at (class_name_at n) (λ c. field_at (plain_name_at n) (λ f. field_at (type_at n) (λ t. close_at (select_static nowhere c f t))))
  leaf_at leaves.Undefined = close_at (undefined_literal nowhere)
  leaf_at leaves.Null = close_at (null_literal nowhere)
  leaf_at leaves.BooleanLiteral = field_at mark_at (λ b. close_at (boolean_literal nowhere b))
  leaf_at leaves.CharLiteral = field_at (natural_at (2 ^ 16)) (λ v. close_at (char_literal nowhere v))
  leaf_at leaves.ByteLiteral = field_at (integer_at (2 ^ 7)) (λ v. close_at (byte_literal nowhere v))
  leaf_at leaves.ShortLiteral = field_at (integer_at (2 ^ 15)) (λ v. close_at (short_literal nowhere v))
  leaf_at leaves.IntLiteral = field_at (integer_at (2 ^ 31)) (λ v. close_at (int_literal nowhere v))
  leaf_at leaves.LongLiteral = field_at (integer_at (2 ^ 63)) (λ v. close_at (long_literal nowhere v))
  leaf_at leaves.StringLiteral = field_at (text_at n) (λ u. close_at (string_literal nowhere u))
  leaf_at leaves.VarRef = field_at (plain_name_at n) (λ x. field_at (type_at n) (λ t. close_at (var_ref nowhere x t)))
  leaf_at leaves.This = field_at (type_at n) (λ t. close_at (this_ref nowhere t))

  unfoldable pub statement_at : StatementForm → List ℕ → Reading Term
  statement_at statements.VarDef = field_at (plain_name_at n) (λ x. field_at (type_at n) (λ t. field_at mark_at (λ b. field_at inner (λ e. close_at (var_def nowhere x t b e)))))
  statement_at statements.Block = field_at trees_at (λ es. close_at (block_of nowhere es))
  statement_at statements.Labeled = field_at (plain_name_at n) (λ l. field_at (type_at n) (λ t. field_at inner (λ e. close_at (labeled nowhere l t e))))
  statement_at statements.Assign = field_at inner (λ e. field_at inner (λ d. close_at (assign nowhere e d)))
  statement_at statements.Return = field_at inner (λ e. field_at (plain_name_at n) (λ l. close_at (return_to nowhere e l)))
  statement_at statements.Throw = field_at inner (λ e. close_at (throw nowhere e))
  statement_at statements.StoreModule = field_at (class_name_at n) (λ c. field_at inner (λ e. close_at (store_module nowhere c e)))
  statement_at statements.Log = field_at inner (λ e. close_at (log_line nowhere e))

  unfoldable pub branch_at : BranchForm → List ℕ → Reading Term
  branch_at branches.If = field_at inner (λ c. field_at inner (λ e. field_at inner (λ d. field_at (type_at n) (λ t. close_at (if_then nowhere c e d t)))))
  branch_at branches.While = field_at inner (λ c. field_at inner (λ e. close_at (while_loop nowhere c e)))
  branch_at branches.DoWhile = field_at inner (λ e. field_at inner (λ c. close_at (do_while nowhere e c)))
  branch_at branches.TryCatch = field_at inner (λ e. field_at (plain_name_at n) (λ x. field_at inner (λ d. field_at (type_at n) (λ t. close_at (try_catch nowhere e x d t)))))
  branch_at branches.TryFinally = field_at inner (λ e. field_at inner (λ d. close_at (try_finally nowhere e d)))
  branch_at branches.Match = field_at inner (λ e. field_at cases_at (λ cs. field_at inner (λ d. field_at (type_at n) (λ t. close_at (match_on nowhere e cs d t)))))

  unfoldable pub call_at : CallForm → List ℕ → Reading Term
  call_at calls.New = field_at (class_name_at n) (λ c. field_at (method_name_at n) (λ g. field_at trees_at (λ es. close_at (new_object nowhere c g es))))
  call_at calls.Select = field_at inner (λ e. field_at (class_name_at n) (λ c. field_at (plain_name_at n) (λ f. field_at (type_at n) (λ t. close_at (select nowhere e c f t)))))
  call_at calls.Apply = field_at inner (λ e. field_at (method_name_at n) (λ g. field_at trees_at (λ es. field_at (type_at n) (λ t. close_at (apply nowhere e g es t)))))
  call_at calls.ApplyStatically = field_at inner (λ e. field_at (class_name_at n) (λ c. field_at namespace_at (λ s. field_at (method_name_at n) (λ g. field_at trees_at (λ es. field_at (type_at n) (λ t. close_at (apply_statically nowhere e c s g es t)))))))
  call_at calls.ApplyStatic = field_at (class_name_at n) (λ c. field_at namespace_at (λ s. field_at (method_name_at n) (λ g. field_at trees_at (λ es. field_at (type_at n) (λ t. close_at (apply_static nowhere c s g es t))))))

  unfoldable pub operation_at : OperationForm → List ℕ → Reading Term
  operation_at operations.UnaryOp = field_at unary_op_at (λ o. field_at inner (λ e. close_at (unary_op nowhere o e)))
  operation_at operations.BinaryOp = field_at binary_op_at (λ o. field_at inner (λ e. field_at inner (λ d. close_at (binary_op nowhere o e d))))
  operation_at operations.NewArray = field_at (array_at n) (λ r. field_at inner (λ e. close_at (new_array nowhere r e)))
  operation_at operations.ArrayValue = field_at (array_at n) (λ r. field_at trees_at (λ es. close_at (array_value nowhere r es)))
  operation_at operations.ArrayLength = field_at inner (λ e. close_at (array_length nowhere e))
  operation_at operations.ArraySelect = field_at inner (λ e. field_at inner (λ d. field_at (type_at n) (λ t. close_at (array_select nowhere e d t))))
  operation_at operations.IsInstanceOf = field_at inner (λ e. field_at (type_at n) (λ t. close_at (is_instance_of nowhere e t)))
  operation_at operations.AsInstanceOf = field_at inner (λ e. field_at (type_at n) (λ t. close_at (as_instance_of nowhere e t)))

  -- behind the name of a form
  unfoldable pub fields_at : Form → List ℕ → Reading Term
  fields_at (forms.Leaf f) = leaf_at f
  fields_at (forms.Statement f) = statement_at f
  fields_at (forms.Branch f) = branch_at f
  fields_at (forms.Call f) = call_at f
  fields_at (forms.Operation f) = operation_at f

  unfoldable pub tree_level : List ℕ → Reading Term
  tree_level = lead_at (codes "(") (after_at form_at fields_at)

unfoldable pub tree_at : ℕ → List ℕ → Reading Term
tree_at zero bytes = stopped bytes
tree_at (suc n) bytes = tree_level (tree_at n) n bytes

-- ---- classes

module _ (n : ℕ) where
  unfoldable pub param_at : List ℕ → Reading ParamDef
  param_at = lead_at (codes "(param") (field_at (plain_name_at n) (λ x. field_at mark_at (λ b. field_at (type_at n) (λ t. close_at (record { name = x; mutable = b; tpe = t })))))

  unfoldable pub member_field_at : List ℕ → Reading FieldDef
  member_field_at = lead_at (codes "(field") (field_at mark_at (λ s. field_at mark_at (λ b. field_at (plain_name_at n) (λ x. field_at (type_at n) (λ t. close_at (record { pos = nowhere; is_static = s; mutable = b; name = x; tpe = t }))))))

  -- a body, or `-` where there is none
  unfoldable pub body_at : List ℕ → Reading (Option Term)
  body_at = either_at (λ c. c == 45) (lead_at (codes "-") (value_at None)) (map_at (λ t. Some t) (tree_at n))

  unfoldable pub method_at : List ℕ → Reading MethodDef
  method_at = lead_at (codes "(method") (field_at namespace_at (λ s. field_at (method_name_at n) (λ m. field_at (bracketed_at n param_at) (λ ps. field_at (type_at n) (λ t. field_at body_at (λ b.
      close_at (record { pos = nowhere; namespace = s; name = m; params = ps; result = t; body = b; hash = None })))))))

  -- a superclass, or `-` where there is none
  unfoldable pub superclass_at : List ℕ → Reading (Option (List ℕ))
  superclass_at = either_at (λ c. c == 45) (lead_at (codes "-") (value_at None)) (map_at (λ c. Some c) (class_name_at n))

  unfoldable pub class_at : List ℕ → Reading ClassDef
  class_at = lead_at (codes "(class") (field_at (class_name_at n) (λ x. field_at kind_at (λ k. field_at superclass_at (λ s. field_at (bracketed_at n (class_name_at n)) (λ is. field_at (bracketed_at n member_field_at) (λ fs. field_at (bracketed_at n method_at) (λ ms.
      close_at (record { pos = nowhere; files = [] ∷ []; name = x; kind = k; superclass = s; interfaces = is; fields = fs; methods = ms }))))))))

-- a listing, to the end of the bytes
unfoldable pub listing_at : ℕ → List ℕ → Reading ClassDef
listing_at n = after_at (class_at n) (λ c. map_at (λ u. c) end_at)
