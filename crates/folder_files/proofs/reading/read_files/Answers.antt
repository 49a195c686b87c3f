use Rattle.std.proofs.Common.{◌∙◌, refl, ap, length, arith}
use Rattle.folder_files.proofs.SoFar.{next, read_on, fits_on, reads_to, reads_all}
use Rattle.folder_files.proofs.reading.read_files.Goals as goal

pub returns-in_err-file-clause-missing : goal.returns-in_err-file-clause-missing
returns-in_err-file-clause-missing g c contents tells are =
    let n = next contents c.args.folder.now c.args.paths.now are c.loop-path.path-index c.path-item.result c.loop-path-test.true c.path-item.is in
    c.in_err-file.ensures.missing contents n.file (c.loop-path.invariant.same ∙ tells) n.path_is n.held ∙ c.loop-path.invariant.missing contents tells are

pub returns-in_err-push-clause-missing : goal.returns-in_err-push-clause-missing
returns-in_err-push-clause-missing g c contents tells are =
    let n = next contents c.args.folder.now c.args.paths.now are c.loop-path.path-index c.path-item.result c.loop-path-test.true c.path-item.is in
    c.in_ok-file.ensures.missing contents n.file (c.loop-path.invariant.same ∙ tells) n.path_is n.held ∙ c.loop-path.invariant.missing contents tells are

pub returns-then-is_last-clause-told : goal.returns-then-is_last-clause-told
returns-then-is_last-clause-told g c contents tells are =
    let n = next contents c.args.folder.now c.args.paths.now are c.loop-path.path-index c.path-item.result c.loop-path-test.true c.path-item.is in
    let so_far = c.loop-path.invariant.told contents tells are in
    let file_is = c.in_ok-file.ensures.told contents n.file (c.loop-path.invariant.same ∙ tells) n.path_is n.held in
    reads_to are.files c.loop-path.path-index c.loop-path.files.items c.push.new.self.items c.in_ok-file.file c.len.result c.loop-path.total (length c.as_slice.result.now) n.below so_far (read_on are.files c.loop-path.path-index c.loop-path.files.items c.push.new.self.items n.file c.in_ok-file.file n.below n.at so_far file_is c.in_ok-push.ensures.items) c.in_ok-push.ensures.items (omega (arith, c.len.ensures, c.loop-path.files.ok.0)) (ap length c.as_slice.ensures) c.loop-path.invariant.fits (c.if-is_last.ensures.0 refl)

pub returns-then-is_last-clause-missing : goal.returns-then-is_last-clause-missing
returns-then-is_last-clause-missing g c contents tells are =
    let n = next contents c.args.folder.now c.args.paths.now are c.loop-path.path-index c.path-item.result c.loop-path-test.true c.path-item.is in
    c.in_ok-file.ensures.missing contents n.file (c.loop-path.invariant.same ∙ tells) n.path_is n.held ∙ c.loop-path.invariant.missing contents tells are

pub loop-path-preserved : goal.loop-path-preserved
loop-path-preserved g c = record {
  same = c.in_ok-file.ensures.same ∙ c.loop-path.invariant.same;
  fits = fits_on c.loop-path.files.items c.push.new.self.items c.in_ok-file.file c.len.result c.loop-path.total (length c.as_slice.result.now) (omega (arith, c.len.ensures, c.loop-path.files.ok.0)) (ap length c.as_slice.ensures) c.loop-path.invariant.fits (λ over. let b = c.if-is_last.ensures.1 over in cc) c.in_ok-push.ensures.items;
  told = λ contents tells are.
      let n = next contents c.args.folder.now c.args.paths.now are c.loop-path.path-index c.path-item.result c.loop-path-test.true c.path-item.is in
      read_on are.files c.loop-path.path-index c.loop-path.files.items c.push.new.self.items n.file c.in_ok-file.file n.below n.at (c.loop-path.invariant.told contents tells are) (c.in_ok-file.ensures.told contents n.file (c.loop-path.invariant.same ∙ tells) n.path_is n.held) c.in_ok-push.ensures.items;
  faults = omega (arith, c.in_ok-file.ensures.cause.never_falls, c.loop-path.invariant.faults);
  missing = λ contents tells are.
      let n = next contents c.args.folder.now c.args.paths.now are c.loop-path.path-index c.path-item.result c.loop-path-test.true c.path-item.is in
      c.in_ok-file.ensures.missing contents n.file (c.loop-path.invariant.same ∙ tells) n.path_is n.held ∙ c.loop-path.invariant.missing contents tells are;
}

pub returns-clause-told : goal.returns-clause-told
returns-clause-told g c contents tells are = reads_all contents c.args.folder.now c.args.paths.now are c.loop-path.files.items c.loop-path.path-index c.loop-path.total c.loop-path-test.false (c.loop-path.invariant.told contents tells are) c.loop-path.invariant.fits
