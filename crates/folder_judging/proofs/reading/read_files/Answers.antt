use Rattle.std.proofs.Common.{◌+◌, refl, arith, sym, subst}
use Rattle.std.proofs.lemmas.Option.{slice_get_read}
use Rattle.std.proofs.lemmas.Result.{err_from_is_err_and}
use Rattle.folder_judging.specs.Counts.{HasRead}
use Rattle.folder_judging.proofs.Files.{AreFirstRead, none_read, more_read, fault_told}
use Rattle.folder_judging.proofs.Counted.{reads_on}
use Rattle.folder_judging.proofs.reading.read_files.Goals as goal

pub loop-file-init : goal.loop-file-init
loop-file-init g c = record { read = subst (AreFirstRead c.args.files.now 0) (sym c.new-classes.ensures.items) (none_read c.args.files.now); counted = refl }

pub returns-in_err-class-clause-read : goal.returns-in_err-class-clause-read
returns-in_err-class-clause-read g c =
    let p = err_from_is_err_and c.from_residual.result c.from_residual.ensures.1 in
    rw (p.1, p.2) (fault_told c.args.files.now c.loop-file.file-index c.loop-file.classes.items c.file-item.result c.in_err-class.field-0.0 c.loop-file.invariant.read (slice_get_read c.args.files.now _ c.loop-file.file-index c.file-item.result refl (omega arith) c.file-item.is) (rw (c.as_str.ensures, c.as_slice.ensures) at c.in_err-class.ensures.read))

pub returns-in_err-class-clause-counted : goal.returns-in_err-class-clause-counted
returns-in_err-class-clause-counted g c =
    let p = err_from_is_err_and c.from_residual.result c.from_residual.ensures.1 in
    subst (λ r. HasRead c.args.files.now r (g.W.Workers.meter c.args.work.now) (g.W.Workers.meter c.read_file.new.work)) (sym p.1) (record { reads = c.loop-file.file-index + 1; most = omega arith; counted = reads_on c.loop-file.file-index (g.W.Workers.meter c.args.work.now) _ _ c.loop-file.invariant.counted c.in_err-class.ensures.counted })

pub returns-in_err-push-clause-counted : goal.returns-in_err-push-clause-counted
returns-in_err-push-clause-counted g c =
    let p = err_from_is_err_and c.from_residual-in_err-push.result c.from_residual-in_err-push.ensures.1 in
    subst (λ r. HasRead c.args.files.now r (g.W.Workers.meter c.args.work.now) (g.W.Workers.meter c.read_file.new.work)) (sym p.1) (record { reads = c.loop-file.file-index + 1; most = omega arith; counted = reads_on c.loop-file.file-index (g.W.Workers.meter c.args.work.now) _ _ c.loop-file.invariant.counted c.in_ok-class.ensures.counted })

pub loop-file-preserved : goal.loop-file-preserved
loop-file-preserved g c = record {
  read = subst (AreFirstRead c.args.files.now (c.loop-file.file-index + 1)) (sym c.in_ok-push.ensures.items) (more_read c.args.files.now c.loop-file.file-index c.loop-file.classes.items c.file-item.result c.in_ok-class.class c.loop-file.invariant.read (slice_get_read c.args.files.now _ c.loop-file.file-index c.file-item.result refl (omega arith) c.file-item.is) (rw c.as_slice.ensures at c.in_ok-class.ensures.read));
  counted = reads_on c.loop-file.file-index (g.W.Workers.meter c.args.work.now) _ _ c.loop-file.invariant.counted c.in_ok-class.ensures.counted;
}
