use Rattle.std.proofs.Common.{◌≡◌, ◌∷◌, [], ◌++◌, map, eqb, sym, arith}
use Rattle.std.proofs.lemmas.Result.{err_from_is_err_and}
use Rattle.std.proofs.lemmas.List.{map_push}
use Rattle.js_tree.specs.Views.{expression_view, statement_view, case_view}
use Rattle.js_read_spec.specs.Statements.{statement_at, line_at, lines_at, case_at, cases_at}
use Rattle.text_scan.proofs.Loops.{list_goes, list_fails, list_stops, list_out}
use Rattle.js_read_statements.proofs.StatementSteps.{statement_word, statement_word_fails, statement_wordless, statement_wordless_fails}
use Rattle.js_read_statements.proofs.statements.+statement.Goals as goal

pub lines_of-returns-then-not-next_is : goal.lines_of-returns-then-not-next_is
lines_of-returns-then-not-next_is t c = list_stops (λ b. eqb b 32) (line_at (statement_at c.args.fuel) c.args.fuel c.args.level) (map statement_view c.loop.statements.items) c.args.fuel c.loop.counter c.loop.rest.now (lines_at (statement_at c.args.fuel) c.args.fuel c.args.level c.args.bytes.now) (omega arith) (sym c.if-not-next_is.ensures) c.loop.invariant

pub lines_of-returns-in_err-statement : goal.lines_of-returns-in_err-statement
lines_of-returns-in_err-statement t c =
    let p = err_from_is_err_and c.from_residual.result c.from_residual.ensures.1 in
    rw (p.1, p.2) (list_fails (λ b. eqb b 32) (line_at (statement_at c.args.fuel) c.args.fuel c.args.level) c.in_err-statement.field-0.0 (map statement_view c.loop.statements.items) c.args.fuel c.loop.counter c.loop.rest.now (lines_at (statement_at c.args.fuel) c.args.fuel c.args.level c.args.bytes.now) c.loop-test.true (sym c.if-not-next_is.ensures) c.in_err-statement.ensures c.loop.invariant)

pub lines_of-loop-preserved : goal.lines_of-loop-preserved
lines_of-loop-preserved t c =
    let n = c.in_ok-statement.statement in
    let e : map statement_view c.push.new.self.items ≡ map statement_view c.loop.statements.items ++ statement_view n ∷ [] = rw c.in_ok-push.ensures.items (map_push _ c.loop.statements.items n) in
    rw e (list_goes (λ b. eqb b 32) (line_at (statement_at c.args.fuel) c.args.fuel c.args.level) (map statement_view c.loop.statements.items) c.args.fuel c.loop.counter c.loop.rest.now (statement_view n) c.in_ok-statement.after.now (lines_at (statement_at c.args.fuel) c.args.fuel c.args.level c.args.bytes.now) c.loop-test.true (sym c.if-not-next_is.ensures) c.in_ok-statement.ensures c.loop.invariant)

pub lines_of-returns : goal.lines_of-returns
lines_of-returns t c = list_out (λ b. eqb b 32) (line_at (statement_at c.args.fuel) c.args.fuel c.args.level) (map statement_view c.loop.statements.items) c.args.fuel c.loop.counter c.loop.rest.now (lines_at (statement_at c.args.fuel) c.args.fuel c.args.level c.args.bytes.now) (omega arith) c.loop.invariant

pub cases_of-returns-then-not-next_is : goal.cases_of-returns-then-not-next_is
cases_of-returns-then-not-next_is t c = list_stops (λ b. eqb b 99) (case_at (statement_at c.args.fuel) c.args.fuel c.args.level) (map case_view c.loop.cases.items) c.args.fuel c.loop.counter c.loop.rest.now (cases_at (statement_at c.args.fuel) c.args.fuel c.args.level c.args.bytes.now) (omega arith) (sym c.if-not-next_is.ensures) c.loop.invariant

pub cases_of-returns-in_err-case : goal.cases_of-returns-in_err-case
cases_of-returns-in_err-case t c =
    let p = err_from_is_err_and c.from_residual.result c.from_residual.ensures.1 in
    rw (p.1, p.2) (list_fails (λ b. eqb b 99) (case_at (statement_at c.args.fuel) c.args.fuel c.args.level) c.in_err-case.field-0.0 (map case_view c.loop.cases.items) c.args.fuel c.loop.counter c.loop.rest.now (cases_at (statement_at c.args.fuel) c.args.fuel c.args.level c.args.bytes.now) c.loop-test.true (sym c.if-not-next_is.ensures) c.in_err-case.ensures c.loop.invariant)

pub cases_of-loop-preserved : goal.cases_of-loop-preserved
cases_of-loop-preserved t c =
    let n = c.in_ok-case.case in
    let e : map case_view c.push.new.self.items ≡ map case_view c.loop.cases.items ++ case_view n ∷ [] = rw c.in_ok-push.ensures.items (map_push _ c.loop.cases.items n) in
    rw e (list_goes (λ b. eqb b 99) (case_at (statement_at c.args.fuel) c.args.fuel c.args.level) (map case_view c.loop.cases.items) c.args.fuel c.loop.counter c.loop.rest.now (case_view n) c.in_ok-case.after.now (cases_at (statement_at c.args.fuel) c.args.fuel c.args.level c.args.bytes.now) c.loop-test.true (sym c.if-not-next_is.ensures) c.in_ok-case.ensures c.loop.invariant)

pub cases_of-returns : goal.cases_of-returns
cases_of-returns t c = list_out (λ b. eqb b 99) (case_at (statement_at c.args.fuel) c.args.fuel c.args.level) (map case_view c.loop.cases.items) c.args.fuel c.loop.counter c.loop.rest.now (cases_at (statement_at c.args.fuel) c.args.fuel c.args.level c.args.bytes.now) (omega arith) c.loop.invariant

pub statement_of-returns-in_err-head : goal.statement_of-returns-in_err-head
statement_of-returns-in_err-head t c =
    let p = err_from_is_err_and c.from_residual.result c.from_residual.ensures.1 in
    rw (p.1, p.2) (statement_word_fails c.in_err-head.field-0.0 c.args.fuel c.args.level c.args.bytes.now c.if-fuel-eq0.false (sym c.if-next_is_word_start.ensures) c.in_err-head.ensures)

pub statement_of-returns-in_ok-head : goal.statement_of-returns-in_ok-head
statement_of-returns-in_ok-head t c = rw (statement_word c.args.fuel c.args.level c.args.bytes.now c.in_ok-head.head c.in_ok-head.rest.now c.if-fuel-eq0.false (sym c.if-next_is_word_start.ensures) c.in_ok-head.ensures) c.statement_after.ensures

pub statement_of-returns-in_err-first : goal.statement_of-returns-in_err-first
statement_of-returns-in_err-first t c =
    let p = err_from_is_err_and c.from_residual-in_err-first.result c.from_residual-in_err-first.ensures.1 in
    rw (p.1, p.2) (statement_wordless_fails c.in_err-first.field-0.0 c.args.fuel c.args.level c.args.bytes.now c.if-fuel-eq0.false (sym c.if-next_is_word_start.ensures) c.in_err-first.ensures)

pub statement_of-returns-in_ok-first : goal.statement_of-returns-in_ok-first
statement_of-returns-in_ok-first t c = rw (statement_wordless c.args.fuel c.args.level c.args.bytes.now (expression_view c.in_ok-first.first) c.in_ok-first.rest.now c.if-fuel-eq0.false (sym c.if-next_is_word_start.ensures) c.in_ok-first.ensures) c.target_of.ensures
