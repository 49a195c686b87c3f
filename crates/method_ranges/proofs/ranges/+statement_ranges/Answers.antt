use Rattle.sj_core.specs.Views.{statement_view}
use Rattle.sj_emit_expr_pieces.specs.Ranges.{FitsStatement}
use Rattle.sj_emit_expr_pieces.proofs.Lists.{each-more, each-whole}
use Rattle.method_ranges.proofs.Each.{each-statement, FitsCase, each-case}
use Rattle.method_ranges.proofs.ranges.+statement_ranges.Goals as goal

pub statements_fit-loop-each-preserved : goal.statements_fit-loop-each-preserved
statements_fit-loop-each-preserved t c = each-more (λ s. FitsStatement (statement_view s)) c.args.statements.now c.loop-each.each-index c.each-item.result c.loop-each-test.true c.each-item.is c.loop-each.invariant c.statement_fits.ensures

pub statements_fit-returns : goal.statements_fit-returns
statements_fit-returns t c = each-statement c.args.statements.now (each-whole (λ s. FitsStatement (statement_view s)) c.args.statements.now c.loop-each.each-index c.loop-each-test.false c.loop-each.invariant)

pub cases_fit-loop-each-preserved : goal.cases_fit-loop-each-preserved
cases_fit-loop-each-preserved t c = each-more FitsCase c.args.cases.now c.loop-each.each-index c.each-item.result c.loop-each-test.true c.each-item.is c.loop-each.invariant c.case_fits.ensures

pub cases_fit-returns : goal.cases_fit-returns
cases_fit-returns t c = each-case c.args.cases.now (each-whole FitsCase c.args.cases.now c.loop-each.each-index c.loop-each-test.false c.loop-each.invariant)
