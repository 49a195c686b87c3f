use Rattle.std.proofs.lemmas.Result.{err_from_is_err_and}
use Rattle.js_read_scan.proofs.Indents.{break_goes, break_fails}
use Rattle.js_read_statements.proofs.statements.next_line.Goals as goal

pub returns-in_err-rest : goal.returns-in_err-rest
returns-in_err-rest c =
    let p = err_from_is_err_and c.from_residual.result c.from_residual.ensures.1 in
    rw (p.1, p.2) (break_fails c.in_err-rest.field-0.0 c.args.level c.args.bytes.now c.in_err-rest.ensures)

pub returns : goal.returns
returns c = rw (break_goes c.args.level c.args.bytes.now c.in_ok-rest.rest.now c.in_ok-rest.ensures) c.indentation.ensures.gives
