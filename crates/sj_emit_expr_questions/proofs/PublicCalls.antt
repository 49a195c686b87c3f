-- The calls of a body whose targets are asked for are public.
use Rattle.std.proofs.Common.{◌≡◌, List, [], ◌++◌, refl}
use Rattle.std.specs.List.{All}
use Rattle.std.proofs.lemmas.List.Elements.{All-nil, All-cons, All-append}
use Rattle.sj_emit_expr_questions.specs.declared.Inquiry.{Inquiry}
use Rattle.sj_emit_expr_questions.specs.declared.Inquiry.TheVariants as inquiries
use Rattle.sj_emit_expr_spec.specs.Callee.{Callee}
use Rattle.sj_emit_expr_spec.specs.CalleeVariants as callees
use Rattle.sj_emit_expr_spec.specs.Terms.{Expression, boxed_char, char_text, value_text, choice_of, static_call, field_of, checked_value, made_of, receiver_call, test_of, cast_of, new_array_of, array_of, length_of, element_of, unary_of, binary_of, Expressions, no_expressions, expression, Statement, constant_of, define_of, declare_of, assign_to, evaluate_of, return_of, log_of, assign_field, assign_static, assign_element, store_module_of, throw_of, leave_label, break_nearest, if_of, while_of, loop_of, labeled_of, switch_of, try_of, finally_of, Statements, no_statements, statement, Cases, no_cases, switch_case}
use Rattle.sj_names.specs.declared.method_names.Member.{Member}
use Rattle.sj_names.specs.declared.method_names.Namespace.{Namespace}
use Rattle.sj_names.specs.declared.method_names.Namespace.TheVariants.{Public}
use Rattle.sj_emit_expr_questions.specs.Calls.{if_public, own_call, calls_in, calls_in_all, calls_of, calls_of_all, calls_of_cases}

-- a target is asked of public members alone
abbrev pub IsPublic : Inquiry → Type 0
IsPublic (inquiries.Target k) = k.namespace ≡ Public
IsPublic (inquiries.Hijacked c) = Unit {0}

abbrev pub ArePublic : List Inquiry → Type 0
ArePublic qs = All IsPublic qs

none : ArePublic []
none = All-nil IsPublic

both : (xs ys : List Inquiry) → ArePublic xs → ArePublic ys → ArePublic (xs ++ ys)
both xs ys h k = All-append IsPublic xs ys h k

one_of : (k : Member) (n : Namespace) → k.namespace ≡ n → ArePublic (if_public n k)
one_of k Public e = All-cons IsPublic (inquiries.Target k) [] e none
one_of k _ e = none

own_public : (k : Callee) → ArePublic (own_call k)
own_public (callees.Member m) = one_of m m.namespace refl
own_public (callees.LookedUp c m) = All-cons IsPublic (inquiries.Hijacked c) [] tt none
own_public (callees.OfArray m) = none
own_public (callees.Reflective m) = none

mutual
  pub public_in : (e : Expression) → ArePublic (calls_in e)
  public_in (boxed_char e) = public_in e
  public_in (char_text e) = public_in e
  public_in (value_text e) = public_in e
  public_in (choice_of c e g) = both (calls_in c ++ calls_in e) (calls_in g) (both (calls_in c) (calls_in e) (public_in c) (public_in e)) (public_in g)
  public_in (static_call m es) = public_in_all es
  public_in (field_of e c f) = public_in e
  public_in (checked_value e) = public_in e
  public_in (made_of m es) = public_in_all es
  public_in (receiver_call m e es) = both (calls_in e ++ calls_in_all es) (own_call m) (both (calls_in e) (calls_in_all es) (public_in e) (public_in_all es)) (own_public m)
  public_in (test_of t e) = public_in e
  public_in (cast_of t e) = public_in e
  public_in (new_array_of r e) = public_in e
  public_in (array_of r es) = public_in_all es
  public_in (length_of e) = public_in e
  public_in (element_of e i) = both (calls_in e) (calls_in i) (public_in e) (public_in i)
  public_in (unary_of o e) = public_in e
  public_in (binary_of o e g) = both (calls_in e) (calls_in g) (public_in e) (public_in g)
  public_in _ = none

  pub public_in_all : (es : Expressions) → ArePublic (calls_in_all es)
  public_in_all no_expressions = none
  public_in_all (expression e es) = both (calls_in e) (calls_in_all es) (public_in e) (public_in_all es)

mutual
  pub public_of : (s : Statement) → ArePublic (calls_of s)
  public_of (constant_of p x e) = public_in e
  public_of (define_of p x e) = public_in e
  public_of (declare_of p x) = none
  public_of (assign_to p x e) = public_in e
  public_of (evaluate_of p e) = public_in e
  public_of (return_of p e) = public_in e
  public_of (log_of p e) = public_in e
  public_of (assign_field p e c f g) = both (calls_in e) (calls_in g) (public_in e) (public_in g)
  public_of (assign_static p c f e) = public_in e
  public_of (assign_element p t e i g) = both (calls_in e ++ calls_in i) (calls_in g) (both (calls_in e) (calls_in i) (public_in e) (public_in i)) (public_in g)
  public_of (store_module_of p c e) = public_in e
  public_of (throw_of p e) = public_in e
  public_of (leave_label p l) = none
  public_of (break_nearest p) = none
  public_of (if_of p c ss ts) = both (calls_in c ++ calls_of_all ss) (calls_of_all ts) (both (calls_in c) (calls_of_all ss) (public_in c) (public_of_all ss)) (public_of_all ts)
  public_of (while_of p c ss) = both (calls_in c) (calls_of_all ss) (public_in c) (public_of_all ss)
  public_of (loop_of p ss) = public_of_all ss
  public_of (labeled_of p l ss) = public_of_all ss
  public_of (try_of p ss x ts) = both (calls_of_all ss) (calls_of_all ts) (public_of_all ss) (public_of_all ts)
  public_of (finally_of p ss ts) = both (calls_of_all ss) (calls_of_all ts) (public_of_all ss) (public_of_all ts)
  public_of (switch_of p e cs ss) = both (calls_in e ++ calls_of_cases cs) (calls_of_all ss) (both (calls_in e) (calls_of_cases cs) (public_in e) (public_of_cases cs)) (public_of_all ss)

  pub public_of_all : (ss : Statements) → ArePublic (calls_of_all ss)
  public_of_all no_statements = none
  public_of_all (statement s ss) = both (calls_of s) (calls_of_all ss) (public_of s) (public_of_all ss)

  pub public_of_cases : (cs : Cases) → ArePublic (calls_of_cases cs)
  public_of_cases no_cases = none
  public_of_cases (switch_case ks ss cs) = both (calls_of_all ss) (calls_of_cases cs) (public_of_all ss) (public_of_cases cs)
