use Rattle.std.proofs.Common.{◌≡◌, ◌∷◌, [], ◌++◌, codes, map, sym, ap, ◌∙◌, arith}
use Rattle.std.proofs.lemmas.Result.{err_from_is_err_and}
use Rattle.std.proofs.lemmas.List.{map_push}
use Rattle.exact_place.specs.Reading.{lead_at, value_at}
use Rattle.js_tree.specs.Terms.{Expression}
use Rattle.js_tree.specs.Views.{expression_view, expression_step}
use Rattle.js_tree.specs.declared.expressions.JsExpr.TheOpen.{JsExpr-F}
use Rattle.js_tree.specs.declared.expressions.JsExpr.TheFolds.{fold-roll-JsExpr}
use Rattle.js_tree.specs.declared.expressions.JsExpr.TheVariants.{rolls-Index, rolls-NewArray, rolls-Binary, rolls-Unary, rolls-Conditional, rolls-Host, rolls-HostOfTwo}
use Rattle.js_read_spec.specs.Expressions.{is_comma, is_suffix, expression_at, more_at, suffix_at, suffixes_at}
use Rattle.text_scan.proofs.Loops.{list_goes, list_fails, list_stops, list_out}
use Rattle.js_read_expressions.proofs.BetweenSteps.{host_read, host_of_two_read, unary_read, array_read, array_missed, operator_read, choice_read, index_read, index_missed}
use Rattle.js_read_expressions.proofs.SuffixLoop.{suffix_goes, suffix_fails, suffix_stops, suffix_out}
use Rattle.js_read_expressions.proofs.ExpressionSteps.{expression_word, expression_word_fails, expression_wordless, wordless_number, wordless_object, wordless_fails}
use Rattle.js_read_expressions.proofs.expressions.+expression.Goals as goal

pub more_of-returns-then-not-next_is : goal.more_of-returns-then-not-next_is
more_of-returns-then-not-next_is t c = list_stops is_comma (lead_at (codes ", ") (expression_at c.args.fuel)) (map expression_view c.loop.expressions.items) c.args.fuel c.loop.counter c.loop.rest.now (more_at (expression_at c.args.fuel) c.args.fuel c.args.bytes.now) (omega arith) (sym c.if-not-next_is.ensures) c.loop.invariant

pub more_of-returns-in_err-expression : goal.more_of-returns-in_err-expression
more_of-returns-in_err-expression t c =
    let p = err_from_is_err_and c.from_residual.result c.from_residual.ensures.1 in
    rw (p.1, p.2) (list_fails is_comma (lead_at (codes ", ") (expression_at c.args.fuel)) c.in_err-expression.field-0.0 (map expression_view c.loop.expressions.items) c.args.fuel c.loop.counter c.loop.rest.now (more_at (expression_at c.args.fuel) c.args.fuel c.args.bytes.now) c.loop-test.true (sym c.if-not-next_is.ensures) c.in_err-expression.ensures c.loop.invariant)

pub more_of-loop-preserved : goal.more_of-loop-preserved
more_of-loop-preserved t c =
    let n = c.in_ok-expression.expression in
    let e : map expression_view c.push.new.self.items ≡ map expression_view c.loop.expressions.items ++ expression_view n ∷ [] = rw c.in_ok-push.ensures.items (map_push _ c.loop.expressions.items n) in
    rw e (list_goes is_comma (lead_at (codes ", ") (expression_at c.args.fuel)) (map expression_view c.loop.expressions.items) c.args.fuel c.loop.counter c.loop.rest.now (expression_view n) c.in_ok-expression.after.now (more_at (expression_at c.args.fuel) c.args.fuel c.args.bytes.now) c.loop-test.true (sym c.if-not-next_is.ensures) c.in_ok-expression.ensures c.loop.invariant)

pub more_of-returns : goal.more_of-returns
more_of-returns t c = list_out is_comma (lead_at (codes ", ") (expression_at c.args.fuel)) (map expression_view c.loop.expressions.items) c.args.fuel c.loop.counter c.loop.rest.now (more_at (expression_at c.args.fuel) c.args.fuel c.args.bytes.now) (omega arith) c.loop.invariant

pub suffixes_of-returns-then-not-next_is_suffix : goal.suffixes_of-returns-then-not-next_is_suffix
suffixes_of-returns-then-not-next_is_suffix t c = suffix_stops is_suffix (suffix_at (expression_at c.args.fuel) c.args.fuel) (expression_view c.loop.object) c.args.fuel c.loop.counter c.loop.rest.now (suffixes_at (expression_at c.args.fuel) c.args.fuel (expression_view c.args.first) c.args.bytes.now) (omega arith) (sym c.if-not-next_is_suffix.ensures) c.loop.invariant

pub suffixes_of-returns-in_err-whole : goal.suffixes_of-returns-in_err-whole
suffixes_of-returns-in_err-whole t c =
    let p = err_from_is_err_and c.from_residual.result c.from_residual.ensures.1 in
    rw (p.1, p.2) (suffix_fails is_suffix (suffix_at (expression_at c.args.fuel) c.args.fuel) c.in_err-whole.field-0.0 (expression_view c.loop.object) c.args.fuel c.loop.counter c.loop.rest.now (suffixes_at (expression_at c.args.fuel) c.args.fuel (expression_view c.args.first) c.args.bytes.now) c.loop-test.true (sym c.if-not-next_is_suffix.ensures) c.in_err-whole.ensures c.loop.invariant)

pub suffixes_of-loop-preserved : goal.suffixes_of-loop-preserved
suffixes_of-loop-preserved t c = suffix_goes is_suffix (suffix_at (expression_at c.args.fuel) c.args.fuel) (expression_view c.loop.object) (expression_view c.in_ok-whole.whole) c.args.fuel c.loop.counter c.loop.rest.now c.in_ok-whole.after.now (suffixes_at (expression_at c.args.fuel) c.args.fuel (expression_view c.args.first) c.args.bytes.now) c.loop-test.true (sym c.if-not-next_is_suffix.ensures) c.in_ok-whole.ensures c.loop.invariant

pub suffixes_of-returns : goal.suffixes_of-returns
suffixes_of-returns t c = suffix_out is_suffix (suffix_at (expression_at c.args.fuel) c.args.fuel) (expression_view c.loop.object) c.args.fuel c.loop.counter c.loop.rest.now (suffixes_at (expression_at c.args.fuel) c.args.fuel (expression_view c.args.first) c.args.bytes.now) (omega arith) c.loop.invariant

pub expression_of-returns-in_err-head : goal.expression_of-returns-in_err-head
expression_of-returns-in_err-head t c =
    let p = err_from_is_err_and c.from_residual.result c.from_residual.ensures.1 in
    rw (p.1, p.2) (expression_word_fails c.in_err-head.field-0.0 c.args.fuel c.args.bytes.now c.if-fuel-eq0.false (sym c.if-next_is_word_start.ensures) c.in_err-head.ensures)

pub expression_of-returns-in_ok-head : goal.expression_of-returns-in_ok-head
expression_of-returns-in_ok-head t c = rw (expression_word c.args.fuel c.args.bytes.now c.in_ok-head.head c.in_ok-head.rest.now c.if-fuel-eq0.false (sym c.if-next_is_word_start.ensures) c.in_ok-head.ensures) c.expression_after.ensures

pub expression_of-returns-else-next_is_word_start : goal.expression_of-returns-else-next_is_word_start
expression_of-returns-else-next_is_word_start t c = rw (expression_wordless c.args.fuel c.args.bytes.now c.if-fuel-eq0.false (sym c.if-next_is_word_start.ensures)) c.wordless_of.ensures

pub wordless_of-returns-then-next_is_digit : goal.wordless_of-returns-then-next_is_digit
wordless_of-returns-then-next_is_digit t c = rw (wordless_number c.args.fuel c.args.bytes.now c.if-fuel-eq0.false (sym c.if-next_is_digit.ensures)) c.number_of.ensures

pub wordless_of-returns-in_err-object : goal.wordless_of-returns-in_err-object
wordless_of-returns-in_err-object t c =
    let p = err_from_is_err_and c.from_residual.result c.from_residual.ensures.1 in
    rw (p.1, p.2) (wordless_fails c.in_err-object.field-0.0 c.args.fuel c.args.bytes.now c.if-fuel-eq0.false (sym c.if-next_is_digit.ensures) c.in_err-object.ensures)

pub wordless_of-returns-in_ok-object : goal.wordless_of-returns-in_ok-object
wordless_of-returns-in_ok-object t c = rw (wordless_object c.args.fuel c.args.bytes.now (expression_view c.in_ok-object.object) c.in_ok-object.rest.now c.if-fuel-eq0.false (sym c.if-next_is_digit.ensures) c.in_ok-object.ensures) c.suffixes_of.ensures

pub host_of-returns : goal.host_of-returns
host_of-returns t c =
    let v = ap expression_view (sym (rolls-Host c.args.function c.in_ok-argument.argument)) ∙ fold-roll-JsExpr Expression expression_step (JsExpr-F.Host c.args.function c.in_ok-argument.argument) in
    host_read (expression_at c.args.fuel) c.args.fuel c.args.bytes.now c.args.lead.now c.args.function (expression_view c.in_ok-argument.argument.value) c.in_ok-argument.rest.now c.in_ok-argument.ensures ∙ ap (λ (e : Expression). value_at e c.in_ok-argument.rest.now) (sym v)

pub unary_of-returns : goal.unary_of-returns
unary_of-returns t c =
    let v = ap expression_view (sym (rolls-Unary c.args.operator c.in_ok-operand.operand)) ∙ fold-roll-JsExpr Expression expression_step (JsExpr-F.Unary c.args.operator c.in_ok-operand.operand) in
    unary_read (expression_at c.args.fuel) c.args.fuel c.args.bytes.now c.args.lead.now c.args.operator (expression_view c.in_ok-operand.operand.value) c.in_ok-operand.rest.now c.in_ok-operand.ensures ∙ ap (λ (e : Expression). value_at e c.in_ok-operand.rest.now) (sym v)

pub new_after-returns-in_ok-length-in-Array : goal.new_after-returns-in_ok-length-in-Array
new_after-returns-in_ok-length-in-Array t c =
    let v = ap expression_view (sym (rolls-NewArray c.in_ok-length-in-Array.length)) ∙ fold-roll-JsExpr Expression expression_step (JsExpr-F.NewArray c.in_ok-length-in-Array.length) in
    rw c.in-Array.is (array_read (expression_at c.args.fuel) c.args.fuel c.args.bytes.now (expression_view c.in_ok-length-in-Array.length.value) c.in_ok-length-in-Array.rest.now c.in_ok-length-in-Array.ensures ∙ ap (λ (e : Expression). value_at e c.in_ok-length-in-Array.rest.now) (sym v))

pub new_after-returns-in_err-length-in-Array : goal.new_after-returns-in_err-length-in-Array
new_after-returns-in_err-length-in-Array t c =
    let p = err_from_is_err_and c.from_residual-in_err-length-in-Array.result c.from_residual-in_err-length-in-Array.ensures.1 in
    rw (p.1, p.2, c.in-Array.is) (array_missed (expression_at c.args.fuel) c.args.fuel c.args.bytes.now c.in_err-length-in-Array.field-0.0 c.in_err-length-in-Array.ensures)

pub index_suffix_of-returns : goal.index_suffix_of-returns
index_suffix_of-returns t c =
    let v = ap expression_view (sym (rolls-Index c.args.object c.in_ok-index.index)) ∙ fold-roll-JsExpr Expression expression_step (JsExpr-F.Index c.args.object c.in_ok-index.index) in
    index_read (expression_at c.args.fuel) c.args.fuel (expression_view c.args.object.value) c.args.bytes.now (expression_view c.in_ok-index.index.value) c.in_ok-index.rest.now c.in_ok-index.ensures ∙ ap (λ (e : Expression). value_at e c.in_ok-index.rest.now) (sym v)

pub index_suffix_of-returns-in_err-index : goal.index_suffix_of-returns-in_err-index
index_suffix_of-returns-in_err-index t c =
    let p = err_from_is_err_and c.from_residual.result c.from_residual.ensures.1 in
    rw (p.1, p.2) (index_missed (expression_at c.args.fuel) c.args.fuel (expression_view c.args.object.value) c.args.bytes.now c.in_err-index.field-0.0 c.in_err-index.ensures)

pub infix_after-returns-in_ok-right-in-Operator : goal.infix_after-returns-in_ok-right-in-Operator
infix_after-returns-in_ok-right-in-Operator t c =
    let v = ap expression_view (sym (rolls-Binary c.in_ok-left-in-Operator.left c.in-Operator.operator c.in_ok-right-in-Operator.right)) ∙ fold-roll-JsExpr Expression expression_step (JsExpr-F.Binary c.in_ok-left-in-Operator.left c.in-Operator.operator c.in_ok-right-in-Operator.right) in
    rw (c.in-Operator.is, ← c.in_ok-left-in-Operator.ensures.ok) (operator_read (expression_at c.args.fuel) c.args.fuel c.args.bytes.now (expression_view c.in_ok-left-in-Operator.left.value) c.in-Operator.operator (expression_view c.in_ok-right-in-Operator.right.value) c.in_ok-right-in-Operator.rest.now c.in_ok-right-in-Operator.ensures ∙ ap (λ (e : Expression). value_at e c.in_ok-right-in-Operator.rest.now) (sym v))

pub host_of_two-returns : goal.host_of_two-returns
host_of_two-returns t c =
    let v = ap expression_view (sym (rolls-HostOfTwo c.args.function c.in_ok-first.first c.in_ok-second.second)) ∙ fold-roll-JsExpr Expression expression_step (JsExpr-F.HostOfTwo c.args.function c.in_ok-first.first c.in_ok-second.second) in
    host_of_two_read (expression_at c.args.fuel) c.args.fuel c.args.bytes.now c.args.lead.now c.args.function (expression_view c.in_ok-first.first.value) (expression_view c.in_ok-second.second.value) c.in_ok-first.rest.now c.in_ok-second.rest.now c.in_ok-first.ensures c.in_ok-second.ensures ∙ ap (λ (e : Expression). value_at e c.in_ok-second.rest.now) (sym v)

pub choice_of-returns : goal.choice_of-returns
choice_of-returns t c =
    let v = ap expression_view (sym (rolls-Conditional c.in_ok-test.test c.in_ok-yes.yes c.in_ok-no.no)) ∙ fold-roll-JsExpr Expression expression_step (JsExpr-F.Conditional c.in_ok-test.test c.in_ok-yes.yes c.in_ok-no.no) in
    rw (← c.in_ok-test.ensures.ok) (choice_read (expression_at c.args.fuel) c.args.fuel c.args.bytes.now (expression_view c.in_ok-test.test.value) (expression_view c.in_ok-yes.yes.value) (expression_view c.in_ok-no.no.value) c.in_ok-yes.rest.now c.in_ok-no.rest.now c.in_ok-yes.ensures c.in_ok-no.ensures ∙ ap (λ (e : Expression). value_at e c.in_ok-no.rest.now) (sym v))
