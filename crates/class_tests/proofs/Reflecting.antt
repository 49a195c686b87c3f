-- What the functions of reflective names do, and the entries of objects that they call.
use Rattle.std.proofs.Common.{◌≡◌, ℕ, suc, Bool, true, false, List, [], ◌∷◌, length, Option, Some, None, refl, ap, ◌∙◌, cond}
use mathlib.Core.Path.{fun_ext}
use Rattle.std.specs.Prelude.{codes, if◌then◌else◌}
use Rattle.js_tree.specs.Names.{is_same_text}
use Rattle.js_tree.specs.Terms.{Name, Expression, expression, no_expressions, text_literal, this_use, call_of, method_call_of, binary_of, no_statements, statement, expression_statement}
use Rattle.js_tree.specs.declared.operators.BinaryOperator.TheVariants.{In, StrictEqual}
use Rattle.outcomes.specs.Outcome.{Out, done, going, then_do}
use Rattle.outcomes.proofs.Sequence.{then_do-associative}
use Rattle.sj_names.specs.declared.method_names.MethodName.{MethodName}
use Rattle.class_code.specs.Bridges.{IsTopFunction}
use Rattle.class_code.specs.Dispatch.{Reflected, reflected_body, has_entry}
use Rattle.class_code.specs.Kind.{Kind}
use Rattle.class_code.specs.KindVariants.{Undefined, Boolean, Char, Byte, Short, Int, Long, Text}
use Rattle.class_code.specs.Objects.{call_found}
use Rattle.class_code.specs.Pieces.{boxed, boxed_result, is_char}
use Rattle.class_code.specs.Words.{uses, is_name, entry_name, public_function, parameter, parameters_of, only_return, call1, x}
use Rattle.class_code.proofs.Bridge.{Hold, parameters_hold, parameters_leave, name_held, name_at_top, names_given, call_given, return_hands_on}
use Rattle.class_code.proofs.Parameters.{no_parameter}
use Rattle.js_mean.specs.Files.{owner}
use Rattle.js_mean.specs.Objects.{callee, Callee}
use Rattle.js_mean.specs.Proper.{is_among, are_distinct}
use Rattle.js_mean.specs.States.{Value, boolean, text, object, function, class, ClassLink, this_is, Cell, absent, holds, Scope, State, ExpressionEnd, gives, throws, StatementEnd, with_value, in_statement, next_statement, Program}
use Rattle.js_mean.specs.Meaning.{Low, Code, below, top_cell, or_outer, typed_name, name_value, code_of, code_call, method_call, call, call_property, call_with_this, class_bindings, member_scope, function_scope, bind_declared, arguments, binary, both_of, construct_value, in_order, evaluate, execute_all, in_block, taken, nothing, returned, truth_or_wrong}
use Rattle.js_mean.specs.Meaning as js_meaning
use Rattle.class_tests.specs.Kinds.{is_of, BoxesStand}
use Rattle.class_tests.specs.Tests.{TestStands}
use Rattle.class_tests.specs.Reflecting.{reflective_code, proxy_code, boxed_outcome, ReflectedStands, AllReflected, reflected_none, reflected_more, reflected_outcome, own_body, ReflectionTells, HasEntry, on_object, on_undefined, on_boolean, on_number, on_big_int, on_text, given_up, own_outcome, OwnLinesRun, ProxiesHandOn, ShortReflectionsGo}
use Rattle.class_tests.proofs.Telling.{test_runs, block_returns, apart, at_head, behind_head}

test_differs : (k : Kind) → ((i : ℕ) → is_same_text (is_name k) (parameter i) ≡ false) × (is_same_text (is_name k) (codes "x") ≡ false)
test_differs Undefined = (λ i. refl, refl)
test_differs Boolean = (λ i. refl, refl)
test_differs Char = (λ i. refl, refl)
test_differs Byte = (λ i. refl, refl)
test_differs Short = (λ i. refl, refl)
test_differs Int = (λ i. refl, refl)
test_differs Long = (λ i. refl, refl)
test_differs Text = (λ i. refl, refl)

module _ (p : Program) where
  -- an expression, a char as an object that holds it
  boxed_given : (low : Low) (boxes : List ClassLink) (g : Name) (t : MethodName) (e : Expression) (o : Out ExpressionEnd) (sc : Scope) (s : State) → sc.file ≡ g → sc.bindings (codes "$C") ≡ absent → (is_char t.result ≡ true → BoxesStand p g boxes s) → evaluate p low e sc s ≡ o → evaluate p low (boxed_result t e) sc s ≡ boxed_outcome p low boxes (is_char t.result) o
  boxed_given low boxes g t e o sc s file free stand given = by (is_char t.result) stand
    where
      by : (b : Bool) → (b ≡ true → BoxesStand p g boxes s) → evaluate p low (if b then boxed e else e) sc s ≡ boxed_outcome p low boxes b o
      by false stand = given
      by true stand =
          ap (λ (q : Out ExpressionEnd). then_do q (with_value (λ f. in_order (evaluate p low e ∷ []) (construct_value p low f) sc))) (name_at_top p (codes "$C") (stand refl).const (class boxes) sc s free (ap (λ (f : Name). top_cell (owner p f (codes "$C")) (codes "$C") s) file ∙ (stand refl).cell_is))
          ∙ ap (λ (q : Out ExpressionEnd). then_do q (with_value (λ v. construct_value p low (class boxes) (v ∷ []) sc))) given

  -- a call that isn't handed on, at the end of a function
  call_given_up : (low : Low) (e : Expression) (sc : Scope) (s : State) → then_do (then_do (then_do (evaluate p low e sc s) (in_statement sc (λ v. nothing sc))) (next_statement (execute_all p low no_statements))) returned ≡ then_do (evaluate p low e sc s) given_up
  call_given_up low e sc s =
      ap (λ (o : Out StatementEnd). then_do o returned) (then_do-associative (evaluate p low e sc s) (in_statement sc (λ v. nothing sc)) (next_statement (execute_all p low no_statements)))
      ∙ then_do-associative (evaluate p low e sc s) (λ k. then_do (in_statement sc (λ v. nothing sc) k) (next_statement (execute_all p low no_statements))) returned
      ∙ ap (then_do (evaluate p low e sc s)) (fun_ext each)
    where
      each : (k : ExpressionEnd) → then_do (then_do (in_statement sc (λ v. nothing sc) k) (next_statement (execute_all p low no_statements))) returned ≡ given_up k
      each (gives v t) = refl
      each (throws v t) = refl

  -- whether the value has an entry of the name
  entry_asked : (low : Low) (m : MethodName) (sc : Scope) (s : State) (v : Value) (b : Bool) → sc.bindings (codes "x") ≡ holds false v → HasEntry p s m v b → evaluate p low (has_entry m) sc s ≡ done (gives (boolean b) s)
  entry_asked low m sc s v b held has = ap asked held ∙ by v b held has
    where
      asked : Cell → Out ExpressionEnd
      asked c = then_do (then_do (typed_name (codes "x") (or_outer c (top_cell (owner p sc.file (codes "x")) (codes "x") s)) s) (with_value (λ w. in_order (evaluate p low (text_literal (codes "object")) ∷ []) (λ ws. binary StrictEqual (w ∷ ws)) sc))) (with_value (λ w. both_of (evaluate p low (binary_of (text_literal (entry_name m)) In x)) w sc))

      by : (v : Value) (b : Bool) → sc.bindings (codes "x") ≡ holds false v → HasEntry p s m v b → asked (holds false v) ≡ done (gives (boolean b) s)
      by _ _ held (on_object a b e) = ap (λ (o : Out ExpressionEnd). then_do o (with_value (λ w. js_meaning.has p (text (entry_name m) ∷ w ∷ []) sc))) (name_held p (codes "x") false (object a) sc s held) ∙ ap (λ (o : Option Bool). truth_or_wrong o sc s) e
      by _ _ held on_undefined = refl
      by _ _ held (on_boolean b) = refl
      by _ _ held (on_number z) = refl
      by _ _ held (on_big_int z) = refl
      by _ _ held (on_text us) = refl

  module _ (n : ℕ) (g : Name) (home : Reflected → Name) (boxes : List ClassLink) (m : MethodName) (message : List ℕ) (v : Value) (vs : List Value) (s : State) (sc : Scope) (file_is : sc.file ≡ g) (x_held : sc.bindings (codes "x") ≡ holds false v) (held : Hold sc.bindings (parameters_of m) vs) (free : (f : Name) → is_same_text f (codes "x") ≡ false → is_among (parameters_of m) f ≡ false → sc.bindings f ≡ absent) where
    abbrev low : Low
    low = below p (suc n)

    top_in : (f h : Name) → (t : IsTopFunction p g f h s) → top_cell (owner p sc.file f) f s ≡ holds t.const (function h f)
    top_in f h t = ap (λ (z : Name). top_cell (owner p z f) f s) file_is ∙ t.cell_is

    x_given : name_value p (codes "x") sc s ≡ done (gives v s)
    x_given = name_held p (codes "x") false v sc s x_held

    test_given : (k : Kind) → TestStands p g boxes s k → evaluate p low (call1 (is_name k) x) sc s ≡ done (gives (boolean (is_of s boxes k v)) s)
    test_given k st =
        call_given p low (is_name k) st.home st.test.const (expression x no_expressions) sc s (free (is_name k) (test_differs k).1 (no_parameter (is_name k) (length m.params) (test_differs k).0)) (top_in (is_name k) st.home st.test)
        ∙ ap (λ (o : Out ExpressionEnd). then_do o (with_value (λ w. call p low (function st.home (is_name k)) (w ∷ []) sc))) x_given
        ∙ ap (λ (c : Option Code). code_call low st.home c (v ∷ []) s) st.test_is
        ∙ test_runs p n st.home boxes s k v st.kind_told st.boxes_stand

    -- a call of a function at the top with the receiver and the arguments
    called_given : (f h : Name) → is_same_text f (codes "x") ≡ false → ((i : ℕ) → is_same_text f (parameter i) ≡ false) → IsTopFunction p g f h s → evaluate p low (call_of f (expression x (uses (parameters_of m)))) sc s ≡ code_call low h (code_of p h f) (v ∷ vs) s
    called_given f h other others top =
        call_given p low f h top.const (expression x (uses (parameters_of m))) sc s (free f other (no_parameter f (length m.params) others)) (top_in f h top)
        ∙ ap (λ (o : Out ExpressionEnd). then_do o (with_value (λ w. in_order (arguments p low (uses (parameters_of m))) (λ ws. call p low (function h f) (w ∷ ws)) sc))) x_given
        ∙ names_given p low (parameters_of m) vs sc s (λ ws. call p low (function h f) (v ∷ ws)) held

    abbrev case_call : Reflected → Expression
    case_call t = boxed_result t.method (call_of (public_function t.owner t.method) (expression x (uses (parameters_of m))))

    abbrev case_outcome : Reflected → Out ExpressionEnd
    case_outcome t = boxed_outcome p low boxes (is_char t.method.result) (code_call low (home t) (code_of p (home t) (public_function t.owner t.method)) (v ∷ vs) s)

    case_given : (t : Reflected) → ReflectedStands p g home boxes s t → evaluate p low (case_call t) sc s ≡ case_outcome t
    case_given t st = boxed_given low boxes g t.method (call_of (public_function t.owner t.method) (expression x (uses (parameters_of m)))) (code_call low (home t) (code_of p (home t) (public_function t.owner t.method)) (v ∷ vs) s) sc s file_is (free (codes "$C") refl (no_parameter (codes "$C") (length m.params) (λ i. refl))) st.boxed (called_given (public_function t.owner t.method) (home t) refl (λ i. refl) st.called)

    abbrev last : Out ExpressionEnd
    last = then_do (execute_all p low (own_body m message) sc s) returned

    case_runs : (t : Reflected) (ts : List Reflected) → ReflectedStands p g home boxes s t → (b : Bool) → then_do (execute_all p low (reflected_body m message ts) sc s) returned ≡ reflected_outcome p (suc n) home boxes ts v vs last s → then_do (then_do (taken (in_block (only_return (case_call t)) (execute_all p low (only_return (case_call t)))) nothing (boolean b) sc s) (next_statement (execute_all p low (reflected_body m message ts)))) returned ≡ cond b (case_outcome t) (reflected_outcome p (suc n) home boxes ts v vs last s)
    case_runs t ts st true next = block_returns p low (case_call t) (execute_all p low (reflected_body m message ts)) sc s ∙ case_given t st
    case_runs t ts st false next = next

    cases_run : (ts : List Reflected) → AllReflected p g home boxes s ts → then_do (execute_all p low (reflected_body m message ts) sc s) returned ≡ reflected_outcome p (suc n) home boxes ts v vs last s
    cases_run [] reflected_none = refl
    cases_run (t ∷ ts) (reflected_more _ _ st rest) =
        ap (λ (o : Out ExpressionEnd). then_do (then_do (then_do o (in_statement sc (λ w. taken (in_block (only_return (case_call t)) (execute_all p low (only_return (case_call t)))) nothing w sc))) (next_statement (execute_all p low (reflected_body m message ts)))) returned) (test_given t.kind st.test)
        ∙ case_runs t ts st (is_of s boxes t.kind v) (cases_run ts rest)

  module _ (n : ℕ) (g h : Name) (m : MethodName) (message : List ℕ) (v : Value) (vs : List Value) (s : State) (sc : Scope) (file_is : sc.file ≡ g) (x_held : sc.bindings (codes "x") ≡ holds false v) (held : Hold sc.bindings (parameters_of m) vs) (free : (f : Name) → is_same_text f (codes "x") ≡ false → is_among (parameters_of m) f ≡ false → sc.bindings f ≡ absent) (top : IsTopFunction p g (codes "$nme") h s) where
    abbrev own_low : Low
    own_low = below p n

    abbrev entry_call : Expression
    entry_call = method_call_of x (entry_name m) (uses (parameters_of m))

    property_called : (o : Option Callee) → call_property p own_low (arguments p own_low (uses (parameters_of m))) v o sc s ≡ call_found p own_low v o vs sc s
    property_called None = refl
    property_called (Some c) = names_given p own_low (parameters_of m) vs sc s (call_with_this p own_low v c) held

    entry_called : evaluate p own_low entry_call sc s ≡ call_found p own_low v (callee p s v (entry_name m)) vs sc s
    entry_called =
        ap (λ (o : Out ExpressionEnd). then_do o (with_value (λ w t. call_property p own_low (arguments p own_low (uses (parameters_of m))) w (callee p t w (entry_name m)) sc t))) (name_held p (codes "x") false v sc s x_held)
        ∙ property_called (callee p s v (entry_name m))

    abbrev throws_it : Expression
    throws_it = call1 (codes "$nme") (text_literal message)

    thrown_given : evaluate p own_low throws_it sc s ≡ code_call own_low h (code_of p h (codes "$nme")) (text message ∷ []) s
    thrown_given = call_given p own_low (codes "$nme") h top.const (expression (text_literal message) no_expressions) sc s (free (codes "$nme") refl (no_parameter (codes "$nme") (length m.params) (λ i. refl))) (ap (λ (z : Name). top_cell (owner p z (codes "$nme")) (codes "$nme") s) file_is ∙ top.cell_is)

    chosen : (b : Bool) → then_do (then_do (taken (in_block (only_return entry_call) (execute_all p own_low (only_return entry_call))) nothing (boolean b) sc s) (next_statement (execute_all p own_low (statement (expression_statement throws_it) no_statements)))) returned ≡ own_outcome p own_low m message h v vs sc s b
    chosen true = block_returns p own_low entry_call (execute_all p own_low (statement (expression_statement throws_it) no_statements)) sc s ∙ entry_called
    chosen false = call_given_up own_low throws_it sc s ∙ ap (λ (o : Out ExpressionEnd). then_do o given_up) thrown_given

    own_run : (b : Bool) → HasEntry p s m v b → then_do (execute_all p own_low (own_body m message) sc s) returned ≡ own_outcome p own_low m message h v vs sc s b
    own_run b has =
        ap (λ (o : Out ExpressionEnd). then_do (then_do (then_do o (in_statement sc (λ w. taken (in_block (only_return entry_call) (execute_all p own_low (only_return entry_call))) nothing w sc))) (next_statement (execute_all p own_low (statement (expression_statement throws_it) no_statements)))) returned) (entry_asked own_low m sc s v b x_held has)
        ∙ chosen b

-- the function declares nothing
declares_nothing : (m : MethodName) (message : List ℕ) (ts : List Reflected) (bs : Name → Cell) → bind_declared (reflected_body m message ts) bs ≡ bs
declares_nothing m message [] bs = refl
declares_nothing m message (t ∷ ts) bs = declares_nothing m message ts bs

module _ (g : Name) (m : MethodName) (message : List ℕ) (ts : List Reflected) (v : Value) (vs : List Value) (distinct : are_distinct (codes "x" ∷ parameters_of m) ≡ true) (same_length : length (parameters_of m) ≡ length vs) where
  abbrev scope : Scope
  scope = function_scope g (reflective_code m message ts) (v ∷ vs)

  all_held : Hold scope.bindings (codes "x" ∷ parameters_of m) (v ∷ vs)
  all_held = parameters_hold (codes "x" ∷ parameters_of m) (v ∷ vs) (bind_declared (reflected_body m message ts) (λ y. absent)) distinct (ap suc same_length)

  x_there : scope.bindings (codes "x") ≡ holds false v
  x_there = at_head scope.bindings (codes "x") v (parameters_of m) vs all_held

  others_held : Hold scope.bindings (parameters_of m) vs
  others_held = behind_head scope.bindings (codes "x") v (parameters_of m) vs all_held

  left_free : (f : Name) → is_same_text f (codes "x") ≡ false → is_among (parameters_of m) f ≡ false → scope.bindings f ≡ absent
  left_free f other among = apart m vs v f (bind_declared (reflected_body m message ts) (λ y. absent)) other among ∙ ap (λ (k : Name → Cell). k f) (declares_nothing m message ts (λ y. absent))

pub reflection_tells : ReflectionTells
reflection_tells p n g home boxes m message ts v vs s all distinct same_length = cases_run p n g home boxes m message v vs s (scope g m message ts v vs distinct same_length) refl (x_there g m message ts v vs distinct same_length) (others_held g m message ts v vs distinct same_length) (left_free g m message ts v vs distinct same_length) ts all

pub short_reflections_go : ShortReflectionsGo
short_reflections_go p g boxes m message t ts v vs s st distinct same_length = ap (λ (o : Out ExpressionEnd). then_do (then_do (then_do o (in_statement sc (λ w. taken (in_block (only_return e) (execute_all p (below p 0) (only_return e))) nothing w sc))) (next_statement (execute_all p (below p 0) (reflected_body m message ts)))) returned) test_goes
  where
    sc : Scope
    sc = scope g m message (t ∷ ts) v vs distinct same_length

    e : Expression
    e = boxed_result t.method (call_of (public_function t.owner t.method) (expression x (uses (parameters_of m))))

    test_goes : evaluate p (below p 0) (call1 (is_name t.kind) x) sc s ≡ going
    test_goes =
        call_given p (below p 0) (is_name t.kind) st.home st.test.const (expression x no_expressions) sc s (left_free g m message (t ∷ ts) v vs distinct same_length (is_name t.kind) (test_differs t.kind).1 (no_parameter (is_name t.kind) (length m.params) (test_differs t.kind).0)) st.test.cell_is
        ∙ ap (λ (o : Out ExpressionEnd). then_do o (with_value (λ w. call p (below p 0) (function st.home (is_name t.kind)) (w ∷ []) sc))) (name_held p (codes "x") false v sc s (x_there g m message (t ∷ ts) v vs distinct same_length))
        ∙ ap (λ (c : Option Code). code_call (below p 0) st.home c (v ∷ []) s) st.test_is

pub own_lines_run : OwnLinesRun
own_lines_run p n g h m message ts v vs s b top has distinct same_length = own_run p n g h m message v vs s (scope g m message ts v vs distinct same_length) refl (x_there g m message ts v vs distinct same_length) (others_held g m message ts v vs distinct same_length) (left_free g m message ts v vs distinct same_length) top b has

module _ (p : Program) (n : ℕ) (l : ClassLink) (ls : List ClassLink) (xs : List Name) (t : MethodName) (boxes : List ClassLink) (this : Value) (vs : List Value) (s : State) (distinct : are_distinct xs ≡ true) (same_length : length xs ≡ length vs) (free : is_among xs (codes "$C") ≡ false) (other : is_same_text (codes "$C") l.name ≡ false) (stand : is_char t.result ≡ true → BoxesStand p l.file boxes s) where
  abbrev member : Scope
  member = member_scope l ls (this_is this) (proxy_code t xs) vs

  abbrev proxy_low : Low
  proxy_low = below p n

  unboxed : member.bindings (codes "$C") ≡ absent
  unboxed = parameters_leave xs vs (class_bindings l ls) (codes "$C") free ∙ ap (λ (b : Bool). cond b (holds true (class (l ∷ ls))) absent) other

  called_on : (o : Option Callee) → call_property p proxy_low (arguments p proxy_low (uses xs)) this o member s ≡ call_found p proxy_low this o vs member s
  called_on None = refl
  called_on (Some c) = names_given p proxy_low xs vs member s (call_with_this p proxy_low this c) (parameters_hold xs vs (class_bindings l ls) distinct same_length)

  handed_on : method_call (below p (suc n)) l ls (Some (proxy_code t xs)) this vs s ≡ boxed_outcome p proxy_low boxes (is_char t.result) (call_found p proxy_low this (callee p s this (entry_name t)) vs member s)
  handed_on =
      return_hands_on p proxy_low (boxed_result t (method_call_of this_use (entry_name t) (uses xs))) no_statements member s
      ∙ boxed_given p proxy_low boxes l.file t (method_call_of this_use (entry_name t) (uses xs)) (call_found p proxy_low this (callee p s this (entry_name t)) vs member s) member s refl unboxed stand (called_on (callee p s this (entry_name t)))

pub proxies_hand_on : ProxiesHandOn
proxies_hand_on p n l ls xs t boxes this vs s distinct same_length free other stand = handed_on p n l ls xs t boxes this vs s distinct same_length free other stand
