-- Tests of kinds, and dispatch on them.
use Rattle.std.proofs.lemmas.List.Elements.{Contains-push_cases}
use Rattle.class_code.proofs.Searches.{contains_at}
use Rattle.std.proofs.Common.{◌<◌, arith, ◌++◌, ⊎_elim, Contains, subst, sym, ◌≡◌, ℕ, suc, Bool, true, false, List, [], ◌∷◌, length, slice_get, Option, Some, None, refl, ap, ◌∙◌, cond, ◌||◌}
use Rattle.std.specs.Prelude.{codes}
use Rattle.js_tree.specs.Names.{is_same_text}
use Rattle.js_tree.specs.Terms.{Name, Expression, expression, no_expressions, call_of, method_call_of, Statements, no_statements}
use Rattle.outcomes.specs.Outcome.{Out, done, then_do}
use Rattle.outcomes.proofs.Sequence.{then_do-associative}
use Rattle.sj_names.specs.declared.method_names.MethodName.{MethodName}
use Rattle.class_code.specs.Fact.{Fact}
use Rattle.class_code.specs.Known.{Classes}
use Rattle.class_code.specs.Resolution.{target}
use Rattle.class_code.proofs.Once.{resolves_once}
use Rattle.class_code.specs.Dispatch.{IsReachedTarget, Told, dispatch_body, AreTold, told_none, told, untold}
use Rattle.js_mean.specs.Objects.{is_instance, callee, Callee}
use Rattle.js_mean.specs.Files.{owner}
use Rattle.js_mean.specs.Proper.{is_among}
use Rattle.js_mean.specs.States.{Value, undefined, null, boolean, number, big_int, text, object, function, class, method, ClassLink, Cell, absent, holds, Scope, State, Execution, ExpressionEnd, gives, throws, StatementEnd, ends, returns, with_value, in_statement, next_statement, Program}
use Rattle.js_mean.specs.Meaning.{Low, Code, below, top_cell, cell_value, code_of, code_call, call, call_with_this, call_property, function_scope, bind_declared, bind_parameters, arguments, in_order, evaluate, execute_all, in_block, leaving, taken, nothing, returned, name_value, instance, truth_or_wrong}
use Rattle.class_code.specs.Bridges.{IsTopFunction}
use Rattle.class_code.specs.Words.{uses, kind_class, is_name, told_kinds, entry_name, public_function, parameter, parameters_of, only_return, call1, x}
use Rattle.class_code.proofs.Bridge.{handed_on, Hold, hold_more, parameters_hold, parameters_leave, name_held, names_given, call_given, return_hands_on}
use Rattle.class_code.specs.Kind.{Kind}
use Rattle.class_code.specs.KindVariants.{Undefined, Boolean, Char, Byte, Short, Int, Long, Text}
use Rattle.class_code.specs.Helpers.{kind_condition}
use Rattle.class_code.proofs.Parameters.{no_parameter}
use Rattle.class_code.specs.Objects.{call_found}
use Rattle.class_tests.specs.Kinds.{is_box, is_of, is_told, test_code, BoxesStand, TestsTell, CaseStands, CasesStand, cases_none, cases_more, dispatch_code, told_outcome, DispatchTells, KindsRunTargets, OthersCallMethods}

module _ (p : Program) where
  module _ (n : ℕ) (g : Name) (boxes : List ClassLink) (s : State) where
    abbrev scope_of : Kind → Value → Scope
    scope_of k v = function_scope g (test_code k) (v ∷ [])

    abbrev comes_to : Kind → Value → Bool → Type 0
    comes_to k v b = evaluate p (below p n) (kind_condition k) (scope_of k v) s ≡ done (gives (boolean b) s)

    undefined_tells : (v : Value) → comes_to Undefined v (is_of s boxes Undefined v)
    undefined_tells undefined = refl
    undefined_tells null = refl
    undefined_tells (boolean b) = refl
    undefined_tells (number z) = refl
    undefined_tells (big_int z) = refl
    undefined_tells (text us) = refl
    undefined_tells (object a) = refl
    undefined_tells (function f y) = refl
    undefined_tells (class ls) = refl
    undefined_tells (method ls y) = refl

    boolean_tells : (v : Value) → comes_to Boolean v (is_of s boxes Boolean v)
    boolean_tells undefined = refl
    boolean_tells null = refl
    boolean_tells (boolean b) = refl
    boolean_tells (number z) = refl
    boolean_tells (big_int z) = refl
    boolean_tells (text us) = refl
    boolean_tells (object a) = refl
    boolean_tells (function f y) = refl
    boolean_tells (class ls) = refl
    boolean_tells (method ls y) = refl

    int_tells : (v : Value) → comes_to Int v (is_of s boxes Int v)
    int_tells undefined = refl
    int_tells null = refl
    int_tells (boolean b) = refl
    int_tells (number z) = refl
    int_tells (big_int z) = refl
    int_tells (text us) = refl
    int_tells (object a) = refl
    int_tells (function f y) = refl
    int_tells (class ls) = refl
    int_tells (method ls y) = refl

    long_tells : (v : Value) → comes_to Long v (is_of s boxes Long v)
    long_tells undefined = refl
    long_tells null = refl
    long_tells (boolean b) = refl
    long_tells (number z) = refl
    long_tells (big_int z) = refl
    long_tells (text us) = refl
    long_tells (object a) = refl
    long_tells (function f y) = refl
    long_tells (class ls) = refl
    long_tells (method ls y) = refl

    text_tells : (v : Value) → comes_to Text v (is_of s boxes Text v)
    text_tells undefined = refl
    text_tells null = refl
    text_tells (boolean b) = refl
    text_tells (number z) = refl
    text_tells (big_int z) = refl
    text_tells (text us) = refl
    text_tells (object a) = refl
    text_tells (function f y) = refl
    text_tells (class ls) = refl
    text_tells (method ls y) = refl

    box_of : (v : Value) (sc : Scope) → truth_or_wrong (is_instance s v (class boxes)) sc s ≡ done (gives (boolean (is_box s boxes v)) s)
    box_of undefined sc = refl
    box_of null sc = refl
    box_of (boolean b) sc = refl
    box_of (number z) sc = refl
    box_of (big_int z) sc = refl
    box_of (text us) sc = refl
    box_of (object a) sc = refl
    box_of (function f y) sc = refl
    box_of (class ls) sc = refl
    box_of (method ls y) sc = refl

    char_tells : (v : Value) → BoxesStand p g boxes s → comes_to Char v (is_of s boxes Char v)
    char_tells v stand = ap (λ (o : Out ExpressionEnd). then_do o (with_value (λ k. instance (v ∷ k ∷ []) (scope_of Char v)))) (ap (λ (c : Cell). cell_value c s) stand.cell_is) ∙ box_of v (scope_of Char v)

    tells : (k : Kind) (v : Value) → is_told k ≡ true → (k ≡ Char → BoxesStand p g boxes s) → comes_to k v (is_of s boxes k v)
    tells Undefined v among stand = undefined_tells v
    tells Boolean v among stand = boolean_tells v
    tells Char v among stand = char_tells v (stand refl)
    tells Int v among stand = int_tells v
    tells Long v among stand = long_tells v
    tells Text v among stand = text_tells v
    tells Byte v among stand = cc
    tells Short v among stand = cc

  pub test_runs : (n : ℕ) (g : Name) (boxes : List ClassLink) (s : State) (k : Kind) (v : Value) → is_told k ≡ true → (k ≡ Char → BoxesStand p g boxes s) → code_call (below p (suc n)) g (Some (test_code k)) (v ∷ []) s ≡ done (gives (boolean (is_of s boxes k v)) s)
  test_runs n g boxes s k v among stand = return_hands_on p (below p n) (kind_condition k) no_statements (function_scope g (test_code k) (v ∷ [])) s ∙ tells n g boxes s k v among stand

  abbrev ret : Scope → ExpressionEnd → Out StatementEnd
  ret sc = in_statement sc (λ v s. done (ends (returns v) sc s))

  abbrev after_return : Low → Scope → ExpressionEnd → Out StatementEnd
  after_return low sc k = then_do (ret sc k) (next_statement (execute_all p low no_statements))

  abbrev after_block : Low → Expression → Scope → ExpressionEnd → Out StatementEnd
  after_block low e sc k = then_do (after_return low sc k) (leaving (only_return e) sc)

  abbrev after_rest : Low → Expression → Execution → Scope → ExpressionEnd → Out StatementEnd
  after_rest low e rest sc k = then_do (after_block low e sc k) (next_statement rest)

  each_returned : (low : Low) (e : Expression) (rest : Execution) (sc : Scope) (k : ExpressionEnd) → then_do (after_rest low e rest sc k) returned ≡ done k
  each_returned low e rest sc (gives v t) = refl
  each_returned low e rest sc (throws v t) = refl

  -- a block that only returns, behind it other statements, at the end of a function
  pub block_returns : (low : Low) (e : Expression) (rest : Execution) (sc : Scope) (s : State) → then_do (then_do (in_block (only_return e) (execute_all p low (only_return e)) sc s) (next_statement rest)) returned ≡ evaluate p low e sc s
  block_returns low e rest sc s =
      ap (λ (o : Out StatementEnd). then_do (then_do (then_do o (leaving (only_return e) sc)) (next_statement rest)) returned) (then_do-associative (evaluate p low e sc s) (ret sc) (next_statement (execute_all p low no_statements)))
      ∙ ap (λ (o : Out StatementEnd). then_do (then_do o (next_statement rest)) returned) (then_do-associative (evaluate p low e sc s) (after_return low sc) (leaving (only_return e) sc))
      ∙ ap (λ (o : Out StatementEnd). then_do o returned) (then_do-associative (evaluate p low e sc s) (after_block low e sc) (next_statement rest))
      ∙ then_do-associative (evaluate p low e sc s) (after_rest low e rest sc) returned
      ∙ handed_on (evaluate p low e sc s) (λ k. then_do (after_rest low e rest sc k) returned) (each_returned low e rest sc)

  module _ (n : ℕ) (g : Name) (home : Name → Name) (boxes : List ClassLink) (m : MethodName) (v : Value) (vs : List Value) (s : State) (sc : Scope) (file_is : sc.file ≡ g) (x_held : sc.bindings (codes "x") ≡ holds false v) (held : Hold sc.bindings (parameters_of m) vs) (free : (f : Name) → is_same_text f (codes "x") ≡ false → is_among (parameters_of m) f ≡ false → sc.bindings f ≡ absent) where
    abbrev low : Low
    low = below p (suc n)

    abbrev last : Out ExpressionEnd
    last = call_found p low v (callee p s v (entry_name m)) vs sc s

    top_in : (f h : Name) → (t : IsTopFunction p g f h s) → top_cell (owner p sc.file f) f s ≡ holds t.const (function h f)
    top_in f h t = ap (λ (z : Name). top_cell (owner p z f) f s) file_is ∙ t.cell_is

    x_given : name_value p (codes "x") sc s ≡ done (gives v s)
    x_given = name_held p (codes "x") false v sc s x_held

    test_given : (t : Told) → CaseStands p g home boxes m s t → is_among (parameters_of m) (is_name t.kind) ≡ false → is_same_text (is_name t.kind) (codes "x") ≡ false → evaluate p low (call1 (is_name t.kind) x) sc s ≡ done (gives (boolean (is_of s boxes t.kind v)) s)
    test_given t st apart other =
        call_given p low (is_name t.kind) st.test_home st.test.const (expression x no_expressions) sc s (free (is_name t.kind) other apart) (top_in (is_name t.kind) st.test_home st.test)
        ∙ ap (λ (o : Out ExpressionEnd). then_do o (with_value (λ w. call p low (function st.test_home (is_name t.kind)) (w ∷ []) sc))) x_given
        ∙ ap (λ (c : Option Code). code_call low st.test_home c (v ∷ []) s) st.test_is
        ∙ test_runs n st.test_home boxes s t.kind v st.kind_told st.boxes_stand

    called_given : (t : Told) → CaseStands p g home boxes m s t → is_among (parameters_of m) (public_function t.owner m) ≡ false → evaluate p low (call_of (public_function t.owner m) (expression x (uses (parameters_of m)))) sc s ≡ code_call low (home t.owner) (code_of p (home t.owner) (public_function t.owner m)) (v ∷ vs) s
    called_given t st apart =
        call_given p low (public_function t.owner m) (home t.owner) st.called.const (expression x (uses (parameters_of m))) sc s (free (public_function t.owner m) refl apart) (top_in (public_function t.owner m) (home t.owner) st.called)
        ∙ ap (λ (o : Out ExpressionEnd). then_do o (with_value (λ w. in_order (arguments p low (uses (parameters_of m))) (λ ws. call p low (function (home t.owner) (public_function t.owner m)) (w ∷ ws)) sc))) x_given
        ∙ names_given p low (parameters_of m) vs sc s (λ ws. call p low (function (home t.owner) (public_function t.owner m)) (v ∷ ws)) held

    property_called : (o : Option Callee) → call_property p low (arguments p low (uses (parameters_of m))) v o sc s ≡ call_found p low v o vs sc s
    property_called None = refl
    property_called (Some c) = names_given p low (parameters_of m) vs sc s (call_with_this p low v c) held

    last_given : evaluate p low (method_call_of x (entry_name m) (uses (parameters_of m))) sc s ≡ last
    last_given =
        ap (λ (o : Out ExpressionEnd). then_do o (with_value (λ w t. call_property p low (arguments p low (uses (parameters_of m))) w (callee p t w (entry_name m)) sc t))) x_given
        ∙ property_called (callee p s v (entry_name m))

    test_apart : (k : Kind) → ((i : ℕ) → is_same_text (is_name k) (parameter i) ≡ false) × (is_same_text (is_name k) (codes "x") ≡ false)
    test_apart Undefined = (λ i. refl, refl)
    test_apart Boolean = (λ i. refl, refl)
    test_apart Char = (λ i. refl, refl)
    test_apart Byte = (λ i. refl, refl)
    test_apart Short = (λ i. refl, refl)
    test_apart Int = (λ i. refl, refl)
    test_apart Long = (λ i. refl, refl)
    test_apart Text = (λ i. refl, refl)

    abbrev case_body : Told → Statements
    case_body t = only_return (call_of (public_function t.owner m) (expression x (uses (parameters_of m))))

    case_runs : (t : Told) (ts : List Told) → CaseStands p g home boxes m s t → (b : Bool) → then_do (execute_all p low (dispatch_body m ts) sc s) returned ≡ told_outcome p (suc n) home boxes m ts v vs last s → then_do (then_do (taken (in_block (case_body t) (execute_all p low (case_body t))) nothing (boolean b) sc s) (next_statement (execute_all p low (dispatch_body m ts)))) returned ≡ cond b (code_call low (home t.owner) (code_of p (home t.owner) (public_function t.owner m)) (v ∷ vs) s) (told_outcome p (suc n) home boxes m ts v vs last s)
    case_runs t ts st true next = block_returns low (call_of (public_function t.owner m) (expression x (uses (parameters_of m)))) (execute_all p low (dispatch_body m ts)) sc s ∙ called_given t st (no_parameter (public_function t.owner m) (length m.params) (λ i. refl))
    case_runs t ts st false next = next

    cases_run : (ts : List Told) → CasesStand p g home boxes m s ts → then_do (execute_all p low (dispatch_body m ts) sc s) returned ≡ told_outcome p (suc n) home boxes m ts v vs last s
    cases_run [] cases_none = return_hands_on p low (method_call_of x (entry_name m) (uses (parameters_of m))) no_statements sc s ∙ last_given
    cases_run (t ∷ ts) (cases_more _ _ st rest) =
        ap (λ (o : Out ExpressionEnd). then_do (then_do (then_do o (in_statement sc (λ w. taken (in_block (case_body t) (execute_all p low (case_body t))) nothing w sc))) (next_statement (execute_all p low (dispatch_body m ts)))) returned) (test_given t st (no_parameter (is_name t.kind) (length m.params) (test_apart t.kind).0) (test_apart t.kind).1)
        ∙ case_runs t ts st (is_of s boxes t.kind v) (cases_run ts rest)

pub tests_tell : TestsTell
tests_tell p n g boxes s k v among stand = test_runs p n g boxes s k v among stand

-- a name that is no parameter of a dispatch, and what its parameters hold
pub apart : (m : MethodName) (vs : List Value) (v : Value) (f : Name) (bs : Name → Cell) → is_same_text f (codes "x") ≡ false → is_among (parameters_of m) f ≡ false → bind_parameters (codes "x" ∷ parameters_of m) (v ∷ vs) bs f ≡ bs f
apart m vs v f bs other among = parameters_leave (codes "x" ∷ parameters_of m) (v ∷ vs) bs f (ap (λ (b : Bool). b || is_among (parameters_of m) f) other ∙ among)

pub behind_head : (bs : Name → Cell) (y : Name) (w : Value) (ys : List Name) (ws : List Value) → Hold bs (y ∷ ys) (w ∷ ws) → Hold bs ys ws
behind_head bs y w ys ws (hold_more _ _ _ _ e rest) = rest

pub at_head : (bs : Name → Cell) (y : Name) (w : Value) (ys : List Name) (ws : List Value) → Hold bs (y ∷ ys) (w ∷ ws) → bs y ≡ holds false w
at_head bs y w ys ws (hold_more _ _ _ _ e rest) = e

-- a dispatch declares nothing
pub declares_nothing : (m : MethodName) (ts : List Told) (bs : Name → Cell) → bind_declared (dispatch_body m ts) bs ≡ bs
declares_nothing m [] bs = refl
declares_nothing m (t ∷ ts) bs = declares_nothing m ts bs

pub dispatch_tells : DispatchTells
dispatch_tells p n g home boxes m ts v vs s cases distinct same_length =
    cases_run p n g home boxes m v vs s (function_scope g (dispatch_code m ts) (v ∷ vs)) refl (at_head bs (codes "x") v (parameters_of m) vs held) (behind_head bs (codes "x") v (parameters_of m) vs held) (λ f other among. apart m vs v f (bind_declared (dispatch_body m ts) (λ y. absent)) other among ∙ ap (λ (k : Name → Cell). k f) (declares_nothing m ts (λ y. absent))) ts cases
  where
    bs : Name → Cell
    bs = (function_scope g (dispatch_code m ts) (v ∷ vs)).bindings

    held : Hold bs (codes "x" ∷ parameters_of m) (v ∷ vs)
    held = parameters_hold (codes "x" ∷ parameters_of m) (v ∷ vs) (bind_declared (dispatch_body m ts) (λ y. absent)) distinct (ap suc same_length)

-- the kind that a value is of
kind_of : Value → Option Kind
kind_of undefined = Some Undefined
kind_of null = None
kind_of (boolean b) = Some Boolean
kind_of (number z) = Some Int
kind_of (big_int z) = Some Long
kind_of (text us) = Some Text
kind_of (object a) = Some Char
kind_of (function f y) = None
kind_of (class ls) = None
kind_of (method ls y) = None

kind_is : (s : State) (boxes : List ClassLink) (v : Value) (k : Kind) → is_of s boxes k v ≡ true → kind_of v ≡ Some k
unfolding kind_of
kind_is s boxes undefined Undefined e = refl
kind_is s boxes undefined Boolean e = cc
kind_is s boxes undefined Char e = cc
kind_is s boxes undefined Byte e = cc
kind_is s boxes undefined Short e = cc
kind_is s boxes undefined Int e = cc
kind_is s boxes undefined Long e = cc
kind_is s boxes undefined Text e = cc
kind_is s boxes null Undefined e = cc
kind_is s boxes null Boolean e = cc
kind_is s boxes null Char e = cc
kind_is s boxes null Byte e = cc
kind_is s boxes null Short e = cc
kind_is s boxes null Int e = cc
kind_is s boxes null Long e = cc
kind_is s boxes null Text e = cc
kind_is s boxes (boolean b) Undefined e = cc
kind_is s boxes (boolean b) Boolean e = refl
kind_is s boxes (boolean b) Char e = cc
kind_is s boxes (boolean b) Byte e = cc
kind_is s boxes (boolean b) Short e = cc
kind_is s boxes (boolean b) Int e = cc
kind_is s boxes (boolean b) Long e = cc
kind_is s boxes (boolean b) Text e = cc
kind_is s boxes (number z) Undefined e = cc
kind_is s boxes (number z) Boolean e = cc
kind_is s boxes (number z) Char e = cc
kind_is s boxes (number z) Byte e = cc
kind_is s boxes (number z) Short e = cc
kind_is s boxes (number z) Int e = refl
kind_is s boxes (number z) Long e = cc
kind_is s boxes (number z) Text e = cc
kind_is s boxes (big_int z) Undefined e = cc
kind_is s boxes (big_int z) Boolean e = cc
kind_is s boxes (big_int z) Char e = cc
kind_is s boxes (big_int z) Byte e = cc
kind_is s boxes (big_int z) Short e = cc
kind_is s boxes (big_int z) Int e = cc
kind_is s boxes (big_int z) Long e = refl
kind_is s boxes (big_int z) Text e = cc
kind_is s boxes (text us) Undefined e = cc
kind_is s boxes (text us) Boolean e = cc
kind_is s boxes (text us) Char e = cc
kind_is s boxes (text us) Byte e = cc
kind_is s boxes (text us) Short e = cc
kind_is s boxes (text us) Int e = cc
kind_is s boxes (text us) Long e = cc
kind_is s boxes (text us) Text e = refl
kind_is s boxes (object a) Undefined e = cc
kind_is s boxes (object a) Boolean e = cc
kind_is s boxes (object a) Char e = refl
kind_is s boxes (object a) Byte e = cc
kind_is s boxes (object a) Short e = cc
kind_is s boxes (object a) Int e = cc
kind_is s boxes (object a) Long e = cc
kind_is s boxes (object a) Text e = cc
kind_is s boxes (function f y) Undefined e = cc
kind_is s boxes (function f y) Boolean e = cc
kind_is s boxes (function f y) Char e = cc
kind_is s boxes (function f y) Byte e = cc
kind_is s boxes (function f y) Short e = cc
kind_is s boxes (function f y) Int e = cc
kind_is s boxes (function f y) Long e = cc
kind_is s boxes (function f y) Text e = cc
kind_is s boxes (class ls) Undefined e = cc
kind_is s boxes (class ls) Boolean e = cc
kind_is s boxes (class ls) Char e = cc
kind_is s boxes (class ls) Byte e = cc
kind_is s boxes (class ls) Short e = cc
kind_is s boxes (class ls) Int e = cc
kind_is s boxes (class ls) Long e = cc
kind_is s boxes (class ls) Text e = cc
kind_is s boxes (method ls y) Undefined e = cc
kind_is s boxes (method ls y) Boolean e = cc
kind_is s boxes (method ls y) Char e = cc
kind_is s boxes (method ls y) Byte e = cc
kind_is s boxes (method ls y) Short e = cc
kind_is s boxes (method ls y) Int e = cc
kind_is s boxes (method ls y) Long e = cc
kind_is s boxes (method ls y) Text e = cc

pub one_kind : (s : State) (boxes : List ClassLink) (v : Value) (j k : Kind) → is_of s boxes j v ≡ true → is_of s boxes k v ≡ true → j ≡ k
one_kind s boxes v j k e f = let t : Some j ≡ Some k = sym (kind_is s boxes v j e) ∙ kind_is s boxes v k f in cc

pub nothing_in : {A : Type 0} {X : Type 0} {x : X} → Contains [] x → A
nothing_in h = let p : h.0 < 0 = h.1 in absurd (omega arith)

told_index : (k : Kind) → is_told k ≡ true → (i : ℕ) × (slice_get told_kinds i ≡ Some k)
told_index Undefined e = (0, refl)
told_index Boolean e = (1, refl)
told_index Char e = (2, refl)
told_index Int e = (3, refl)
told_index Long e = (4, refl)
told_index Text e = (5, refl)
told_index Byte e = cc
told_index Short e = cc

module _ (w : Classes) (facts : List Fact) (p : Program) (n : ℕ) (home : Name → Name) (boxes : List ClassLink) (m : MethodName) (v : Value) (vs : List Value) (s : State) (k : Kind) (owner : Name) (of_k : is_of s boxes k v ≡ true) (t : IsReachedTarget w facts (kind_class k) m owner) where
  abbrev run : Name → Out ExpressionEnd
  run o = code_call (below p n) (home o) (code_of p (home o) (public_function o m)) (v ∷ vs) s

  same_owner : (o : Name) → IsReachedTarget w facts (kind_class k) m o → o ≡ owner
  same_owner o h = let e : target h.is_target.body o ≡ target t.is_target.body owner = resolves_once w (kind_class k) m (target h.is_target.body o) (target t.is_target.body owner) h.is_target.resolves t.is_target.resolves in cc

  chosen : (j : Kind) (o : Name) → IsReachedTarget w facts (kind_class j) m o → (rest : Out ExpressionEnd) → rest ≡ run owner → (b : Bool) → is_of s boxes j v ≡ b → cond b (run o) rest ≡ run owner
  chosen j o h rest e true f = ap run (same_owner o (subst (λ (z : Kind). IsReachedTarget w facts (kind_class z) m o) (one_kind s boxes v j k f of_k) h))
  chosen j o h rest e false f = e

  outcome : List Told → Out ExpressionEnd → Out ExpressionEnd
  outcome ts last = told_outcome p n home boxes m ts v vs last s

  -- a case behind others is the last that they leave
  one_more : (ts : List Told) (u : Told) (last : Out ExpressionEnd) → outcome (ts ++ u ∷ []) last ≡ outcome ts (cond (is_of s boxes u.kind v) (run u.owner) last)
  unfolding outcome
  one_more [] u last = refl
  one_more (t ∷ ts) u last = ap (λ (o : Out ExpressionEnd). cond (is_of s boxes t.kind v) (run t.owner) o) (one_more ts u last)

  -- cases that are passed over, or that run the same
  passed : (ks : List Kind) (ts : List Told) → AreTold w facts m ks ts → (final : Out ExpressionEnd) → final ≡ run owner → outcome ts final ≡ run owner
  unfolding outcome
  passed _ _ told_none final e = e
  passed _ _ (told j ks o us rest h) final e = one_more us (record { kind = j; owner = o }) final ∙ passed ks us rest (cond (is_of s boxes j v) (run o) final) (chosen j o h final e (is_of s boxes j v) refl)
  passed _ _ (untold j ks us rest not) final e = passed ks us rest final e

  runs_at : (ks : List Kind) (ts : List Told) → AreTold w facts m ks ts → Contains ks k → (final : Out ExpressionEnd) → outcome ts final ≡ run owner
  runs_at _ _ told_none i final = nothing_in i
  runs_at _ _ (told j ks o us rest h) i final = one_more us (record { kind = j; owner = o }) final ∙ ⊎_elim (λ c. runs_at ks us rest c (cond (is_of s boxes j v) (run o) final)) (λ e. passed ks us rest (cond (is_of s boxes j v) (run o) final) (here j o h final e)) (Contains-push_cases ks j k i)
    where
      here : (j : Kind) (o : Name) → IsReachedTarget w facts (kind_class j) m o → (final : Out ExpressionEnd) → j ≡ k → cond (is_of s boxes j v) (run o) final ≡ run owner
      here j o h final e = ap (λ (b : Bool). cond b (run o) final) (ap (λ (z : Kind). is_of s boxes z v) e ∙ of_k) ∙ ap run (same_owner o (subst (λ (z : Kind). IsReachedTarget w facts (kind_class z) m o) e h))
  runs_at _ _ (untold j ks us rest not) i final = ⊎_elim (λ c. runs_at ks us rest c final) (λ e. absurd (not owner (subst (λ (z : Kind). IsReachedTarget w facts (kind_class z) m owner) (sym e) t))) (Contains-push_cases ks j k i)

pub kinds_run_targets : KindsRunTargets
unfolding outcome
kinds_run_targets w facts p n home boxes m ts v vs last s k owner are told_k of_k t = let i = told_index k told_k in runs_at w facts p n home boxes m v vs s k owner of_k t told_kinds ts are (contains_at told_kinds i.0 k i.1) last

pub object_is_none : (s : State) (boxes : List ClassLink) (a : ℕ) (k : Kind) → is_box s boxes (object a) ≡ false → is_of s boxes k (object a) ≡ false
object_is_none s boxes a Undefined e = refl
object_is_none s boxes a Boolean e = refl
object_is_none s boxes a Char e = e
object_is_none s boxes a Byte e = refl
object_is_none s boxes a Short e = refl
object_is_none s boxes a Int e = refl
object_is_none s boxes a Long e = refl
object_is_none s boxes a Text e = refl

pub others_call_methods : OthersCallMethods
others_call_methods p n a home boxes m [] vs otherwise s e = refl
others_call_methods p n a home boxes m (t ∷ ts) vs otherwise s e = ap (λ (b : Bool). cond b (code_call (below p n) (home t.owner) (code_of p (home t.owner) (public_function t.owner m)) (object a ∷ vs) s) (told_outcome p n home boxes m ts (object a) vs otherwise s)) (object_is_none s boxes a t.kind e) ∙ others_call_methods p n a home boxes m ts vs otherwise s e
