-- Where calls run the same, the texts of expressions and statements are the same, and use the same.
use Rattle.std.proofs.Common.{◌≡◌, false, List, [], ◌∷◌, ◌++◌, Contains, refl, arith, codes}
use Rattle.std.proofs.lemmas.List.Elements.{Contains-append_left, Contains-append_right}
use Rattle.js_tree.specs.Terms as js
use Rattle.js_tree.specs.Terms.{property_of, call_of, new_of, conditional_of, host_call, const_of, let_of, expression_statement, assign_name, assign_property, do_forever, switch_on}
use Rattle.js_tree.specs.declared.operators.HostFunction.TheVariants.{StringFromCharCode, ConsoleLog}
use Rattle.sj_emit_expr_spec.specs.Lookup.{Lookup}
use Rattle.sj_emit_expr_spec.specs.Callee.{Callee}
use Rattle.sj_emit_expr_spec.specs.CalleeVariants as callees
use Rattle.sj_emit_expr_spec.specs.Terms.{Expression, boxed_char, char_text, value_text, choice_of, static_call, field_of, checked_value, made_of, receiver_call, test_of, cast_of, new_array_of, array_of, length_of, element_of, unary_of, binary_of, Expressions, no_expressions, expression, Statement, constant_of, define_of, declare_of, assign_to, evaluate_of, return_of, log_of, assign_field, assign_static, assign_element, store_module_of, throw_of, leave_label, break_nearest, if_of, while_of, loop_of, labeled_of, switch_of, try_of, finally_of, Statements, no_statements, statement, Cases, no_cases, switch_case, Method}
use Rattle.sj_emit_expr_spec.specs.Members.{function_parameters}
use Rattle.sj_emit_expr_spec.specs.Names.{variable_name, label_name}
use Rattle.sj_emit_expr_spec.specs.Templates.{called_member, looked_up_template, call_template, as_text, unary_template, binary_template, is_nonzero_literal, member_name, class_name, property_name, setter_name, store_name, check_name, zero_template, element_setter, choice_template, expression_template, expression_templates, statement_template, statement_templates, case_templates}
use Rattle.sj_emit_expr_spec.specs.Tests.{of_array, test_template, cast_template}
use Rattle.sj_emit_expr_spec.specs.Uses.{looked_up_uses, call_uses, object_binding, function_binding, class_use, setter_use, store_use, helper_of, test_uses, cast_uses, base_uses, type_uses, uses_in, uses_in_all, uses_of, uses_of_all, uses_of_cases, once_each}
use Rattle.sj_mangling.specs.Bindings.{method_binding}
use Rattle.sj_mangling.specs.declared.bindings.MethodBinding.TheVariants.{Reflective}
use Rattle.sj_names.specs.declared.method_names.Member.{Member}
use Rattle.sj_names.specs.declared.method_names.Namespace.{Namespace}
use Rattle.sj_names.specs.declared.method_names.Namespace.TheVariants.{Public}
use Rattle.sj_trees.specs.Types.{element_type}
use Rattle.sj_emit_expr_questions.specs.declared.Inquiry.{Inquiry}
use Rattle.sj_emit_expr_questions.specs.declared.Inquiry.TheVariants as inquiries
use Rattle.sj_emit_expr_questions.specs.Calls.{if_public, own_call, calls_in, calls_in_all, calls_of, calls_of_all, calls_of_cases}
use Rattle.sj_emit_expr_questions.specs.Task.{emitted}

-- what is known by the one and by the other
module _ (f g : Lookup) where
  -- both answer it in the same way
  abbrev pub IsSame : Inquiry → Type 0
  IsSame (inquiries.Target k) = f.target k ≡ g.target k
  IsSame (inquiries.Hijacked c) = f.has_hijacked c ≡ g.has_hijacked c

  abbrev pub Agree : List Inquiry → Type 0
  Agree qs = (q : Inquiry) → Contains qs q → IsSame q

  front : (xs ys : List Inquiry) → Agree (xs ++ ys) → Agree xs
  front xs ys h k i = h k (Contains-append_left xs ys k i)

  back : (xs ys : List Inquiry) → Agree (xs ++ ys) → Agree ys
  back xs ys h k i = h k (Contains-append_right xs ys k i)

  own_agrees : (n : Namespace) (k : Member) → Agree (if_public n k) → called_member f n k ≡ called_member g n k
  own_agrees Public k h = h (inquiries.Target k) (0, omega arith, refl)
  own_agrees _ k h = refl

  -- a call is written in the same way, and names the same
  same_call : (k : Callee) → Agree (own_call k) → (e d : js.Expression) (es ds : js.Expressions) → e ≡ d → es ≡ ds → call_template f k e es ≡ call_template g k d ds
  same_call (callees.Member m) h e d es ds a b = let z = own_agrees m.namespace m h in λ i. call_of (member_name (z i)) (js.expression (a i) (b i))
  same_call (callees.LookedUp c m) h e d es ds a b = let z = h (inquiries.Hijacked c) (0, omega arith, refl) in λ i. looked_up_template (z i) m (a i) (b i)
  same_call (callees.OfArray m) h e d es ds a b = λ i. looked_up_template false m (a i) (b i)
  same_call (callees.Reflective m) h e d es ds a b = λ i. call_of (method_binding Reflective m) (js.expression (a i) (b i))

  same_names : (k : Callee) → Agree (own_call k) → call_uses f k ≡ call_uses g k
  same_names (callees.Member m) h = let z = own_agrees m.namespace m h in λ i. function_binding (z i) ∷ []
  same_names (callees.LookedUp c m) h = let z = h (inquiries.Hijacked c) (0, omega arith, refl) in λ i. looked_up_uses (z i) m
  same_names (callees.OfArray m) h = refl
  same_names (callees.Reflective m) h = refl

  abbrev SameExpression : Expression → Type 0
  SameExpression e = (expression_template variable_name label_name f e ≡ expression_template variable_name label_name g e) × (uses_in f e ≡ uses_in g e)

  abbrev SameExpressions : Expressions → Type 0
  SameExpressions es = (expression_templates variable_name label_name f es ≡ expression_templates variable_name label_name g es) × (uses_in_all f es ≡ uses_in_all g es)

  mutual
    same_in : (e : Expression) → Agree (calls_in e) → SameExpression e
    same_in (boxed_char e) h = let a = same_in e h in (λ i. new_of (codes "$C") (js.expression (a.0 i) js.no_expressions), λ i. object_binding (codes "$C") ∷ a.1 i)
    same_in (char_text e) h = let a = same_in e h in (λ i. host_call StringFromCharCode (a.0 i), a.1)
    same_in (value_text e) h = let a = same_in e h in (λ i. as_text (a.0 i), a.1)
    same_in (choice_of c e d) h =
        let former = front (calls_in c ++ calls_in e) (calls_in d) h in
        let x = same_in c (front (calls_in c) (calls_in e) former) in
        let y = same_in e (back (calls_in c) (calls_in e) former) in
        let z = same_in d (back (calls_in c ++ calls_in e) (calls_in d) h) in
        (λ i. conditional_of (x.0 i) (y.0 i) (z.0 i), λ i. x.1 i ++ y.1 i ++ z.1 i)
    same_in (static_call m es) h = let a = same_in_all es h in (λ i. call_of (member_name m) (a.0 i), λ i. function_binding m ∷ a.1 i)
    same_in (field_of e c x) h = let a = same_in e h in (λ i. property_of (a.0 i) (property_name c x), a.1)
    same_in (checked_value e) h = let a = same_in e h in (λ i. call_of check_name (js.expression (a.0 i) js.no_expressions), λ i. object_binding check_name ∷ a.1 i)
    same_in (made_of m es) h = let a = same_in_all es h in (λ i. call_of (member_name m) (js.expression (new_of (class_name m.class) js.no_expressions) (a.0 i)), λ i. function_binding m ∷ class_use m.class ∷ a.1 i)
    same_in (receiver_call k e es) h =
        let former = front (calls_in e ++ calls_in_all es) (own_call k) h in
        let own = back (calls_in e ++ calls_in_all es) (own_call k) h in
        let x = same_in e (front (calls_in e) (calls_in_all es) former) in
        let y = same_in_all es (back (calls_in e) (calls_in_all es) former) in
        let z = same_names k own in
        (same_call k own _ _ _ _ x.0 y.0, λ i. z i ++ x.1 i ++ y.1 i)
    same_in (test_of t e) h = let a = same_in e h in (λ i. test_template t (a.0 i), λ i. test_uses t ++ a.1 i ++ type_uses t)
    same_in (cast_of t e) h = let a = same_in e h in (λ i. cast_template t (a.0 i), λ i. cast_uses t ++ a.1 i ++ type_uses t)
    same_in (new_array_of r e) h = let a = same_in e h in (λ i. call_of (codes "$mk") (of_array r (js.expression (a.0 i) (js.expression (zero_template (element_type r)) js.no_expressions))), λ i. object_binding (codes "$mk") ∷ base_uses r.base ++ a.1 i)
    same_in (array_of r es) h = let a = same_in_all es h in (λ i. new_of (codes "$A") (of_array r (js.expression (js.list_of (a.0 i)) js.no_expressions)), λ i. object_binding (codes "$A") ∷ base_uses r.base ++ a.1 i)
    same_in (length_of e) h = let a = same_in e h in (λ i. property_of (property_of (a.0 i) (codes "a")) (codes "length"), a.1)
    same_in (element_of e d) h =
        let x = same_in e (front (calls_in e) (calls_in d) h) in
        let y = same_in d (back (calls_in e) (calls_in d) h) in
        (λ i. call_of (codes "$get") (js.expression (x.0 i) (js.expression (y.0 i) js.no_expressions)), λ i. object_binding (codes "$get") ∷ x.1 i ++ y.1 i)
    same_in (unary_of o e) h = let a = same_in e h in (λ i. unary_template o (a.0 i), a.1)
    same_in (binary_of o e d) h =
        let x = same_in e (front (calls_in e) (calls_in d) h) in
        let y = same_in d (back (calls_in e) (calls_in d) h) in
        (λ i. binary_template (is_nonzero_literal d) o (x.0 i) (y.0 i), λ i. helper_of (is_nonzero_literal d) o ++ x.1 i ++ y.1 i)
    same_in _ h = (refl, refl)

    same_in_all : (es : Expressions) → Agree (calls_in_all es) → SameExpressions es
    same_in_all no_expressions h = (refl, refl)
    same_in_all (expression e es) h =
        let x = same_in e (front (calls_in e) (calls_in_all es) h) in
        let y = same_in_all es (back (calls_in e) (calls_in_all es) h) in
        (λ i. js.expression (x.0 i) (y.0 i), λ i. x.1 i ++ y.1 i)

  abbrev SameStatement : Statement → Type 0
  SameStatement s = (statement_template variable_name label_name f s ≡ statement_template variable_name label_name g s) × (uses_of f s ≡ uses_of g s)

  abbrev SameStatements : Statements → Type 0
  SameStatements ss = (statement_templates variable_name label_name f ss ≡ statement_templates variable_name label_name g ss) × (uses_of_all f ss ≡ uses_of_all g ss)

  abbrev SameCases : Cases → Type 0
  SameCases cs = (case_templates variable_name label_name f cs ≡ case_templates variable_name label_name g cs) × (uses_of_cases f cs ≡ uses_of_cases g cs)

  mutual
    same_of : (s : Statement) → Agree (calls_of s) → SameStatement s
    same_of (constant_of p x e) h = let a = same_in e h in (λ i. const_of (variable_name x) (a.0 i), a.1)
    same_of (define_of p x e) h = let a = same_in e h in (λ i. let_of (variable_name x) (a.0 i), a.1)
    same_of (declare_of p x) h = (refl, refl)
    same_of (assign_to p x e) h = let a = same_in e h in (λ i. assign_name (variable_name x) (a.0 i), a.1)
    same_of (evaluate_of p e) h = let a = same_in e h in (λ i. expression_statement (a.0 i), a.1)
    same_of (return_of p e) h = let a = same_in e h in (λ i. js.return_of (a.0 i), a.1)
    same_of (log_of p e) h = let a = same_in e h in (λ i. expression_statement (host_call ConsoleLog (a.0 i)), a.1)
    same_of (assign_field p e c x d) h =
        let a = same_in e (front (calls_in e) (calls_in d) h) in
        let b = same_in d (back (calls_in e) (calls_in d) h) in
        (λ i. assign_property (a.0 i) (property_name c x) (b.0 i), λ i. a.1 i ++ b.1 i)
    same_of (assign_static p c x e) h = let a = same_in e h in (λ i. expression_statement (call_of (setter_name c x) (js.expression (a.0 i) js.no_expressions)), λ i. setter_use c x ∷ a.1 i)
    same_of (assign_element p t e d g) h =
        let former = front (calls_in e ++ calls_in d) (calls_in g) h in
        let x = same_in e (front (calls_in e) (calls_in d) former) in
        let y = same_in d (back (calls_in e) (calls_in d) former) in
        let z = same_in g (back (calls_in e ++ calls_in d) (calls_in g) h) in
        (λ i. expression_statement (call_of (element_setter t) (js.expression (x.0 i) (js.expression (y.0 i) (js.expression (z.0 i) js.no_expressions)))), λ i. object_binding (element_setter t) ∷ x.1 i ++ y.1 i ++ z.1 i)
    same_of (store_module_of p c e) h = let a = same_in e h in (λ i. expression_statement (call_of (store_name c) (js.expression (a.0 i) js.no_expressions)), λ i. store_use c ∷ a.1 i)
    same_of (throw_of p e) h = let a = same_in e h in (λ i. js.throw_of (a.0 i), a.1)
    same_of (leave_label p l) h = (refl, refl)
    same_of (break_nearest p) h = (refl, refl)
    same_of (if_of p c ss ts) h =
        let former = front (calls_in c ++ calls_of_all ss) (calls_of_all ts) h in
        let x = same_in c (front (calls_in c) (calls_of_all ss) former) in
        let y = same_of_all ss (back (calls_in c) (calls_of_all ss) former) in
        let z = same_of_all ts (back (calls_in c ++ calls_of_all ss) (calls_of_all ts) h) in
        (λ i. choice_template (x.0 i) (y.0 i) (z.0 i), λ i. x.1 i ++ y.1 i ++ z.1 i)
    same_of (while_of p c ss) h =
        let x = same_in c (front (calls_in c) (calls_of_all ss) h) in
        let y = same_of_all ss (back (calls_in c) (calls_of_all ss) h) in
        (λ i. js.while_of (x.0 i) (y.0 i), λ i. x.1 i ++ y.1 i)
    same_of (loop_of p ss) h = let a = same_of_all ss h in (λ i. do_forever (a.0 i), a.1)
    same_of (labeled_of p l ss) h = let a = same_of_all ss h in (λ i. js.labeled_of (label_name l) (a.0 i), a.1)
    same_of (try_of p ss x ts) h =
        let y = same_of_all ss (front (calls_of_all ss) (calls_of_all ts) h) in
        let z = same_of_all ts (back (calls_of_all ss) (calls_of_all ts) h) in
        (λ i. js.try_catch (y.0 i) (variable_name x) (z.0 i), λ i. y.1 i ++ z.1 i)
    same_of (finally_of p ss ts) h =
        let y = same_of_all ss (front (calls_of_all ss) (calls_of_all ts) h) in
        let z = same_of_all ts (back (calls_of_all ss) (calls_of_all ts) h) in
        (λ i. js.try_finally (y.0 i) (z.0 i), λ i. y.1 i ++ z.1 i)
    same_of (switch_of p e cs ss) h =
        let former = front (calls_in e ++ calls_of_cases cs) (calls_of_all ss) h in
        let x = same_in e (front (calls_in e) (calls_of_cases cs) former) in
        let y = same_of_cases cs (back (calls_in e) (calls_of_cases cs) former) in
        let z = same_of_all ss (back (calls_in e ++ calls_of_cases cs) (calls_of_all ss) h) in
        (λ i. switch_on (x.0 i) (y.0 i) (z.0 i), λ i. x.1 i ++ y.1 i ++ z.1 i)

    same_of_all : (ss : Statements) → Agree (calls_of_all ss) → SameStatements ss
    same_of_all no_statements h = (refl, refl)
    same_of_all (statement s ss) h =
        let x = same_of s (front (calls_of s) (calls_of_all ss) h) in
        let y = same_of_all ss (back (calls_of s) (calls_of_all ss) h) in
        (λ i. js.statement (x.0 i) (y.0 i), λ i. x.1 i ++ y.1 i)

    same_of_cases : (cs : Cases) → Agree (calls_of_cases cs) → SameCases cs
    same_of_cases no_cases h = (refl, refl)
    same_of_cases (switch_case ks ss cs) h =
        let x = same_of_all ss (front (calls_of_all ss) (calls_of_cases cs) h) in
        let y = same_of_cases cs (back (calls_of_all ss) (calls_of_cases cs) h) in
        (λ i. js.switch_case ks (x.0 i) (y.0 i), λ i. x.1 i ++ y.1 i)

  -- the emitted function is the same
  pub same_emitted : (m : Method) → Agree (calls_of_all m.body) → emitted f m ≡ emitted g m
  same_emitted m h = let a = same_of_all m.body h in λ i. record { params = function_parameters m; body = a.0 i; uses = once_each [] (a.1 i) }
