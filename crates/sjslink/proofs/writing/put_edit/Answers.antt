use Rattle.std.proofs.Common.{List, map, subst}
use Rattle.std.proofs.lemmas.List.{take_all}
use Rattle.std.proofs.lemmas.Result.{err_from_is_err_and}
use Rattle.sj_session.specs.Modules.{as_file}
use Rattle.sj_session.specs.ModuleFile.{ModuleFile}
use Rattle.sj_outside.specs.Faults.{Rose}
use Rattle.sj_outside.specs.Writing.{Appends}
use Rattle.sjslink.specs.Puts.{put_of}
use Rattle.sjslink.proofs.Puts.{puts_cut, puts_then_line}
use Rattle.sjslink.proofs.writing.put_edit.Goals as goal

pub returns-in_err-put_file-clause-written : goal.returns-in_err-put_file-clause-written
returns-in_err-put_file-clause-written g c =
    let p = err_from_is_err_and c.from_residual.result c.from_residual.ensures.1 in
    rw (p.1, p.2) (puts_cut _ _ _ _ c.args.out.now c.args.number c.args.files.now c.loop-file.file-index c.args.text.now _ _ _ (Rose (g.L.Lines.faults c.args.lines.now) (g.L.Lines.faults c.args.lines.now)) c.in_err-put_file.field-0.0 c.loop-file.invariant.put c.loop-file.invariant.faults c.in_err-put_file.ensures.written)

pub returns-clause-written : goal.returns-clause-written
returns-clause-written g c =
    let all = take_all c.loop-file.file-index c.args.files.now c.loop-file-test.false in
    let here = subst (λ (fs : List ModuleFile). Appends (g.O.Outputs.puts c.args.outputs.now) (g.O.Outputs.puts c.loop-file.outputs) (map (put_of c.args.out.now c.args.number) (map as_file fs))) all c.loop-file.invariant.put in
    puts_then_line _ _ _ _ c.args.out.now c.args.number (map as_file c.args.files.now) c.args.text.now _ _ c.print_line.result here c.print_line.ensures.written
