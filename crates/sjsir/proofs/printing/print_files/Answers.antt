use Rattle.std.proofs.Common.{refl, arith, ap, ◌∙◌, sym, Bool}
use Rattle.std.specs.Prelude.{◌&&◌, string_bytes}
use Rattle.sjsir.proofs.Lines.{has_none, goes_on, stops_early, lacks_none, has_all}
use Rattle.sjsir.proofs.printing.print_files.Goals as goal
use Rattle.sjsir.proofs.printing.print_files.Goals.{then-all_listed, else-all_listed}

pub loop-file-init : goal.loop-file-init
loop-file-init g c = record { same = refl; printed = λ contents tells. has_none contents _; reads = omega arith; writes = omega arith; missing = λ contents tells held. refl }

pub returns-in-Err-clause-told : goal.returns-in-Err-clause-told
returns-in-Err-clause-told g c contents tells = stops_early string_bytes _ _ contents c.args.files.now c.loop-file.file-index c.as_str.result.now c.loop-file.all_listed c.in-Err.stop c.status.result _ _ _ _ _ _ _ _ _ tells c.loop-file.invariant c.in-Err.ensures.told c.status.ensures

pub returns-in-Err-clause-missing : goal.returns-in-Err-clause-missing
returns-in-Err-clause-missing g c contents tells held = lacks_none string_bytes _ _ contents c.args.files.now c.loop-file.file-index c.file-item.result c.as_str.result.now c.loop-file.all_listed _ _ _ _ _ _ _ _ _ c.loop-file-test.true c.file-item.is c.as_str.ensures.value tells held c.loop-file.invariant c.in-Err.ensures.missing

pub loop-file-preserved : goal.loop-file-preserved
loop-file-preserved g c = goes_on string_bytes _ _ _ c.args.files.now c.loop-file.file-index c.file-item.result c.as_str.result.now c.loop-file.all_listed c.if-all_listed.all_listed c.in-Ok.is_listed _ _ _ _ _ _ _ _ _ _ _ _ c.loop-file-test.true c.file-item.is c.as_str.ensures.value (elim c.if-all_listed.branch [ then-all_listed w ↦ w.all_listed-is ∙ ap (λ (b : Bool). b && c.in-Ok.is_listed) (sym w.if-all_listed.true) | else-all_listed w ↦ w.all_listed-is ∙ w.if-all_listed.false ∙ ap (λ (b : Bool). b && c.in-Ok.is_listed) (sym w.if-all_listed.false) ]) c.loop-file.invariant c.in-Ok.ensures.same c.in-Ok.ensures.told c.in-Ok.ensures.read_fault.never_falls c.in-Ok.ensures.write_fault.never_falls c.in-Ok.ensures.missing

pub returns-clause-told : goal.returns-clause-told
returns-clause-told g c contents tells = has_all string_bytes _ _ contents c.args.files.now c.loop-file.file-index c.loop-file.all_listed c.status_of.result _ _ _ _ _ _ _ _ (omega (arith, c.loop-file-test.false)) tells c.loop-file.invariant c.status_of.ensures
