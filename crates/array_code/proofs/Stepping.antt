-- Steps that the helpers of arrays have in common.
use Rattle.std.proofs.Common.{◌≡◌, ℕ, Bool, true, false, List, [], ◌∷◌, Option, Some, refl, ap, ◌∙◌, cond, ◌&&◌, ◌||◌, append-nil}
use mathlib.Core.Path.{fun_ext}
use Rattle.std.specs.Prelude.{not, slice_get, codes}
use Rattle.js_tree.specs.Terms.{Name, Expression, Expressions, name_use, property_of, index_of, call_of, binary_of, unary_of, Statements, no_statements, statement, expression_statement, assign_index, if_only}
use Rattle.js_tree.specs.declared.operators.BinaryOperator.{BinaryOperator}
use Rattle.js_tree.specs.declared.operators.BinaryOperator.TheVariants.{InstanceOf}
use Rattle.js_tree.specs.declared.operators.UnaryOperator.TheVariants.{Not}
use Rattle.outcomes.specs.Outcome.{Lines, End, Done, Going, Wrong, Out, done, then_do}
use Rattle.outcomes.proofs.Sequence.{then_do-associative}
use Rattle.js_mean.specs.Objects.{property, stored_property, or_value, method_on, value_on, set_element, is_instance}
use Rattle.js_mean.specs.Operators.{binary_value}
use Rattle.js_mean.specs.States.{Value, undefined, null, boolean, number, big_int, text, object, function, class, method, ClassLink, absent, holds, Stored, plain, Scope, State, Evaluation, Execution, ExpressionEnd, gives, throws, StatementEnd, with_value, in_statement, next_statement, Program}
use Rattle.js_mean.specs.Meaning.{Low, code_of, code_call, call, evaluate, execute, execute_all, arguments, in_order, in_block, leaving, taken, nothing, returned, read_property, value_or_wrong, binary, both_of, one_of, negated, instance, truth_or_wrong, unless_missing, with_expression, with_state}
use Rattle.class_casts.specs.Bridges.{IsTopFunction}
use Rattle.class_casts.specs.ClassTestsKinds.{is_box}
use Rattle.class_casts.specs.Helpers.{helper_name}
use Rattle.class_casts.specs.HelperVariants.{ArrayClass}
use Rattle.class_casts.specs.Words.{both, either, only_return}
use Rattle.class_casts.proofs.Bridge.{name_held, name_at_top, call_given}
use Rattle.class_casts.proofs.Telling.{block_returns}
use Rattle.array_code.specs.Arrays.{ArraysStand}
use Rattle.array_code.specs.Codes.{is_value, GivesNone}

-- nothing comes behind an outcome that is no value
pub nothing_behind : (o : Out ExpressionEnd) (f : Value → State → Out ExpressionEnd) → GivesNone o → then_do o (with_value f) ≡ o
nothing_behind o f none = go o.lines o.end none
  where
    go : (l : Lines) (e : End ExpressionEnd) → is_value e ≡ false → then_do (record { lines = l; end = e }) (with_value f) ≡ record { lines = l; end = e }
    go l (Done (gives v t)) h = cc
    go l (Done (throws v t)) h = ap (λ (m : Lines). record { lines = m; end = Done (throws v t) }) (append-nil l)
    go l Going h = refl
    go l Wrong h = refl

module _ (p : Program) where
  -- an own property
  pub own_property : (s : State) (a : ℕ) (links : List ClassLink) (own : Name → Option Value) (y : Name) (w : Value) → slice_get s.heap a ≡ Some (plain links own) → own y ≡ Some w → property p s (object a) y ≡ Some w
  own_property s a links own y w stored h =
      ap (λ (o : Option Stored). stored_property p o y) stored
      ∙ ap (λ (o : Option Value). value_on (or_value o (method_on p links y)) y) h

  -- one more argument
  pub one_more : (e : Evaluation) (es : List Evaluation) (act : List Value → Evaluation) (v : Value) (sc : Scope) (s : State) → e sc s ≡ done (gives v s) → in_order (e ∷ es) act sc s ≡ in_order es (λ vs. act (v ∷ vs)) sc s
  one_more e es act v sc s h = ap (λ (o : Out ExpressionEnd). then_do o (with_value (λ w. in_order es (λ vs. act (w ∷ vs)) sc))) h

  module _ (low : Low) (sc : Scope) (s : State) where
    abbrev Comes : Expression → Value → Type 0
    Comes e v = evaluate p low e sc s ≡ done (gives v s)

    pub property_comes : (e : Expression) (y : Name) (v w : Value) → Comes e v → property p s v y ≡ Some w → Comes (property_of e y) w
    property_comes e y v w h k = ap (λ (o : Out ExpressionEnd). then_do o (with_value (λ u. read_property p y (u ∷ []) sc))) h ∙ ap (λ (o : Option Value). value_or_wrong o sc s) k

    -- an operator on two operands
    pub operands_come : (op : BinaryOperator) (e f : Expression) (v w u : Value) → Comes e v → Comes f w → binary_value op v w ≡ Some u → in_order (evaluate p low e ∷ evaluate p low f ∷ []) (binary op) sc s ≡ done (gives u s)
    operands_come op e f v w u h k i =
        one_more (evaluate p low e) (evaluate p low f ∷ []) (binary op) v sc s h
        ∙ one_more (evaluate p low f) [] (λ vs. binary op (v ∷ vs)) w sc s k
        ∙ ap (λ (o : Option Value). value_or_wrong o sc s) i

    pub both_come : (e f : Expression) (b : Bool) (o : Out ExpressionEnd) → Comes e (boolean b) → (b ≡ true → evaluate p low f sc s ≡ o) → evaluate p low (both e f) sc s ≡ cond b o (done (gives (boolean false) s))
    both_come e f b o h k = ap (λ (q : Out ExpressionEnd). then_do q (with_value (λ w. both_of (evaluate p low f) w sc))) h ∙ go b k
      where
        go : (b : Bool) → (b ≡ true → evaluate p low f sc s ≡ o) → both_of (evaluate p low f) (boolean b) sc s ≡ cond b o (done (gives (boolean false) s))
        go true k = k refl
        go false k = refl

    pub and_comes : (e f : Expression) (a b : Bool) → Comes e (boolean a) → Comes f (boolean b) → Comes (both e f) (boolean (a && b))
    and_comes e f a b h k = ap (λ (q : Out ExpressionEnd). then_do q (with_value (λ w. both_of (evaluate p low f) w sc))) h ∙ go a
      where
        go : (a : Bool) → both_of (evaluate p low f) (boolean a) sc s ≡ done (gives (boolean (a && b)) s)
        go true = k
        go false = refl

    pub either_comes : (e f : Expression) (a b : Bool) → Comes e (boolean a) → Comes f (boolean b) → Comes (either e f) (boolean (a || b))
    either_comes e f a b h k = ap (λ (q : Out ExpressionEnd). then_do q (with_value (λ w. one_of (evaluate p low f) w sc))) h ∙ go a
      where
        go : (a : Bool) → one_of (evaluate p low f) (boolean a) sc s ≡ done (gives (boolean (a || b)) s)
        go true = refl
        go false = k

    pub not_comes : (e : Expression) (b : Bool) → Comes e (boolean b) → Comes (unary_of Not e) (boolean (not b))
    not_comes e b h = one_more (evaluate p low e) [] negated (boolean b) sc s h

    -- whether a value is an array
    pub instance_comes : (y : Name) (v : Value) (links : List ClassLink) → sc.bindings y ≡ holds false v → sc.bindings (helper_name ArrayClass) ≡ absent → ArraysStand p sc.file links s → Comes (binary_of (name_use y) InstanceOf (name_use (helper_name ArrayClass))) (boolean (is_box s links v))
    instance_comes y v links held free st =
        one_more (evaluate p low (name_use y)) (evaluate p low (name_use (helper_name ArrayClass)) ∷ []) instance v sc s (name_held p y false v sc s held)
        ∙ one_more (evaluate p low (name_use (helper_name ArrayClass))) [] (λ vs. instance (v ∷ vs)) (class links) sc s (name_at_top p (helper_name ArrayClass) st.const (class links) sc s free st.cell_is)
        ∙ go v
      where
        go : (v : Value) → truth_or_wrong (is_instance s v (class links)) sc s ≡ done (gives (boolean (is_box s links v)) s)
        go undefined = refl
        go null = refl
        go (boolean b) = refl
        go (number z) = refl
        go (big_int z) = refl
        go (text us) = refl
        go (object a) = refl
        go (function f x) = refl
        go (class ls) = refl
        go (method ls x) = refl

    -- a call of a function at the top, with arguments that come to these values
    pub call_comes : (f home : Name) (es : Expressions) (vs : List Value) → sc.bindings f ≡ absent → IsTopFunction p sc.file f home s → ((act : List Value → Evaluation) → in_order (arguments p low es) act sc s ≡ act vs sc s) → evaluate p low (call_of f es) sc s ≡ code_call low home (code_of p home f) vs s
    call_comes f home es vs free top given = call_given p low f home top.const es sc s free top.cell_is ∙ given (call p low (function home f))

    -- an item is set
    pub set_comes : (e i g : Expression) (b : ℕ) (k w : Value) → Comes e (object b) → Comes i k → Comes g w → execute p low (assign_index e i g) sc s ≡ with_state (set_element (object b) k w s) sc s
    set_comes e i g b k w h j l =
        ap (λ (o : Out ExpressionEnd). then_do o (in_statement sc (λ u. with_expression p low i (λ q. unless_missing u (with_expression p low g (λ r sc s. with_state (set_element u q r s) sc s))) sc))) h
        ∙ ap (λ (o : Out ExpressionEnd). then_do o (in_statement sc (λ q. unless_missing (object b) (with_expression p low g (λ r sc s. with_state (set_element (object b) q r s) sc s)) sc))) j
        ∙ ap (λ (o : Out ExpressionEnd). then_do o (in_statement sc (λ r s. with_state (set_element (object b) k r s) sc s))) l

    abbrev pub rest_of : Statements → Value → State → Out ExpressionEnd
    rest_of rest v t = then_do (execute_all p low rest sc t) returned

    -- an expression whose value isn't used, in front of other statements
    pub in_front : (e : Expression) (rest : Statements) → then_do (execute_all p low (statement (expression_statement e) rest) sc s) returned ≡ then_do (evaluate p low e sc s) (with_value (rest_of rest))
    in_front e rest =
        ap (λ (o : Out StatementEnd). then_do o returned) (then_do-associative (evaluate p low e sc s) (in_statement sc (λ v. nothing sc)) (next_statement (execute_all p low rest)))
        ∙ then_do-associative (evaluate p low e sc s) (λ k. then_do (in_statement sc (λ v. nothing sc) k) (next_statement (execute_all p low rest))) returned
        ∙ ap (then_do (evaluate p low e sc s)) (fun_ext each)
      where
        each : (k : ExpressionEnd) → then_do (then_do (in_statement sc (λ v. nothing sc) k) (next_statement (execute_all p low rest))) returned ≡ with_value (rest_of rest) k
        each (gives v t) = refl
        each (throws v t) = refl

    abbrev only_call : Expression → Statements
    only_call e = statement (expression_statement e) no_statements

    -- a call under a condition, in front of other statements
    pub passed_by : (c e : Expression) (rest : Statements) → Comes c (boolean false) → then_do (execute_all p low (statement (if_only c (only_call e)) rest) sc s) returned ≡ then_do (execute_all p low rest sc s) returned
    passed_by c e rest h = ap (λ (o : Out ExpressionEnd). then_do (then_do (then_do o (in_statement sc (λ w. taken (in_block (only_call e) (execute_all p low (only_call e))) nothing w sc))) (next_statement (execute_all p low rest))) returned) h

    abbrev behind_call : Expression → ExpressionEnd → Out StatementEnd
    behind_call e k = then_do (then_do (in_statement sc (λ v. nothing sc) k) (next_statement (execute_all p low no_statements))) (leaving (only_call e) sc)

    pub called_first : (c e : Expression) (rest : Statements) → Comes c (boolean true) → then_do (execute_all p low (statement (if_only c (only_call e)) rest) sc s) returned ≡ then_do (evaluate p low e sc s) (with_value (rest_of rest))
    called_first c e rest h =
        ap (λ (o : Out ExpressionEnd). then_do (then_do (then_do o (in_statement sc (λ w. taken (in_block (only_call e) (execute_all p low (only_call e))) nothing w sc))) (next_statement (execute_all p low rest))) returned) h
        ∙ ap (λ (o : Out StatementEnd). then_do (then_do (then_do o (leaving (only_call e) sc)) (next_statement (execute_all p low rest))) returned) (then_do-associative (evaluate p low e sc s) (in_statement sc (λ v. nothing sc)) (next_statement (execute_all p low no_statements)))
        ∙ ap (λ (o : Out StatementEnd). then_do (then_do o (next_statement (execute_all p low rest))) returned) (then_do-associative (evaluate p low e sc s) (λ k. then_do (in_statement sc (λ v. nothing sc) k) (next_statement (execute_all p low no_statements))) (leaving (only_call e) sc))
        ∙ ap (λ (o : Out StatementEnd). then_do o returned) (then_do-associative (evaluate p low e sc s) (behind_call e) (next_statement (execute_all p low rest)))
        ∙ then_do-associative (evaluate p low e sc s) (λ k. then_do (behind_call e k) (next_statement (execute_all p low rest))) returned
        ∙ ap (then_do (evaluate p low e sc s)) (fun_ext each)
      where
        each : (k : ExpressionEnd) → then_do (then_do (behind_call e k) (next_statement (execute_all p low rest))) returned ≡ with_value (rest_of rest) k
        each (gives v t) = refl
        each (throws v t) = refl

    -- a value that is returned under a condition, in front of other statements
    pub returned_first : (c e : Expression) (rest : Statements) (b : Bool) → Comes c (boolean b) → then_do (execute_all p low (statement (if_only c (only_return e)) rest) sc s) returned ≡ cond b (evaluate p low e sc s) (then_do (execute_all p low rest sc s) returned)
    returned_first c e rest b h = ap (λ (o : Out ExpressionEnd). then_do (then_do (then_do o (in_statement sc (λ w. taken (in_block (only_return e) (execute_all p low (only_return e))) nothing w sc))) (next_statement (execute_all p low rest))) returned) h ∙ go b
      where
        go : (b : Bool) → then_do (then_do (taken (in_block (only_return e) (execute_all p low (only_return e))) nothing (boolean b) sc s) (next_statement (execute_all p low rest))) returned ≡ cond b (evaluate p low e sc s) (then_do (execute_all p low rest sc s) returned)
        go true = block_returns p low e (execute_all p low rest) sc s
        go false = refl
