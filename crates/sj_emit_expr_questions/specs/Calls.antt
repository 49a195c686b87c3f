-- What has to be asked where a body calls something on a receiver.
use Rattle.std.specs.Prelude.{List, [], ◌∷◌, ◌++◌}
use Rattle.sj_emit_expr_questions.specs.declared.Inquiry.{Inquiry}
use Rattle.sj_emit_expr_questions.specs.declared.Inquiry.TheVariants as inquiries
use Rattle.sj_emit_expr_spec.specs.Callee.{Callee}
use Rattle.sj_emit_expr_spec.specs.CalleeVariants as callees
use Rattle.sj_emit_expr_spec.specs.Terms.{Expression, boxed_char, char_text, value_text, choice_of, static_call, field_of, checked_value, made_of, receiver_call, test_of, cast_of, new_array_of, array_of, length_of, element_of, unary_of, binary_of, Expressions, no_expressions, expression, Statement, constant_of, define_of, declare_of, assign_to, evaluate_of, return_of, log_of, assign_field, assign_static, assign_element, store_module_of, throw_of, leave_label, break_nearest, if_of, while_of, loop_of, labeled_of, switch_of, try_of, finally_of, Statements, no_statements, statement, Cases, no_cases, switch_case}
use Rattle.sj_names.specs.declared.method_names.Member.{Member}
use Rattle.sj_names.specs.declared.method_names.Namespace.{Namespace}
use Rattle.sj_names.specs.declared.method_names.Namespace.TheVariants.{Public}

-- a public member may be one that the class inherits; another is the class's own
abbrev pub if_public : Namespace → Member → List Inquiry
if_public Public m = inquiries.Target m ∷ []
if_public _ m = []

-- what has to be asked for what is called: the target of a public member; and of a method that is looked up, whether a primitive value may be the receiver
abbrev pub own_call : Callee → List Inquiry
own_call (callees.Member m) = if_public m.namespace m
own_call (callees.LookedUp c m) = inquiries.Hijacked c ∷ []
own_call (callees.OfArray m) = []
own_call (callees.Reflective m) = []

abbrev mutual
  -- what is asked for the calls of an expression, in the order of the text: for those in the receiver and in the arguments before the call
  pub calls_in : Expression → List Inquiry
  calls_in (boxed_char e) = calls_in e
  calls_in (char_text e) = calls_in e
  calls_in (value_text e) = calls_in e
  calls_in (choice_of c e g) = calls_in c ++ calls_in e ++ calls_in g
  calls_in (static_call m es) = calls_in_all es
  calls_in (field_of e c f) = calls_in e
  calls_in (checked_value e) = calls_in e
  calls_in (made_of m es) = calls_in_all es
  calls_in (receiver_call k e es) = calls_in e ++ calls_in_all es ++ own_call k
  calls_in (test_of t e) = calls_in e
  calls_in (cast_of t e) = calls_in e
  calls_in (new_array_of r e) = calls_in e
  calls_in (array_of r es) = calls_in_all es
  calls_in (length_of e) = calls_in e
  calls_in (element_of e i) = calls_in e ++ calls_in i
  calls_in (unary_of o e) = calls_in e
  calls_in (binary_of o e g) = calls_in e ++ calls_in g
  calls_in _ = []

  pub calls_in_all : Expressions → List Inquiry
  calls_in_all no_expressions = []
  calls_in_all (expression e es) = calls_in e ++ calls_in_all es

abbrev mutual
  pub calls_of : Statement → List Inquiry
  calls_of (constant_of p x e) = calls_in e
  calls_of (define_of p x e) = calls_in e
  calls_of (declare_of p x) = []
  calls_of (assign_to p x e) = calls_in e
  calls_of (evaluate_of p e) = calls_in e
  calls_of (return_of p e) = calls_in e
  calls_of (log_of p e) = calls_in e
  calls_of (assign_field p e c f g) = calls_in e ++ calls_in g
  calls_of (assign_static p c f e) = calls_in e
  calls_of (assign_element p t e i g) = calls_in e ++ calls_in i ++ calls_in g
  calls_of (store_module_of p c e) = calls_in e
  calls_of (throw_of p e) = calls_in e
  calls_of (leave_label p l) = []
  calls_of (break_nearest p) = []
  calls_of (if_of p c ss ts) = calls_in c ++ calls_of_all ss ++ calls_of_all ts
  calls_of (while_of p c ss) = calls_in c ++ calls_of_all ss
  calls_of (loop_of p ss) = calls_of_all ss
  calls_of (labeled_of p l ss) = calls_of_all ss
  calls_of (switch_of p e cs ss) = calls_in e ++ calls_of_cases cs ++ calls_of_all ss
  calls_of (try_of p ss x ts) = calls_of_all ss ++ calls_of_all ts
  calls_of (finally_of p ss ts) = calls_of_all ss ++ calls_of_all ts

  pub calls_of_all : Statements → List Inquiry
  calls_of_all no_statements = []
  calls_of_all (statement s ss) = calls_of s ++ calls_of_all ss

  pub calls_of_cases : Cases → List Inquiry
  calls_of_cases no_cases = []
  calls_of_cases (switch_case ks ss cs) = calls_of_all ss ++ calls_of_cases cs
