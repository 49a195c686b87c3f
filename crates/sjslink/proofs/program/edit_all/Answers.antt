use Rattle.std.proofs.Common.{refl, true, false}
use Rattle.std.specs.Prelude.{Ok, Err}
use Rattle.sjslink.specs.declared.answers.Status.TheVariants.{Done, SomeRefused, ReadFault, WriteFault, NoMemory}
use Rattle.sjslink.specs.declared.editing.Fault.TheVariants as fault
use Rattle.sjslink.proofs.Ends.{in_style, session_style, same_entries, all_end, cut_ends, read_fault_is_no_edit, fault_is_no_edit, memory_is_no_edit}
use Rattle.sjslink.proofs.program.edit_all.Goals as goal

pub returns-in-Ok-true-clause-ends : goal.returns-in-Ok-true-clause-ends
returns-in-Ok-true-clause-ends g c words contents is tells has = all_end words contents _ _ _ _ c.args.link.now is c.new-session.result.entries (same_entries contents _ _ _ c.new-session.ensures has) true Done refl (λ P p. p) (in_style contents _ _ _ _ _ _ _ _ _ (Ok true) (session_style c.new-session.ensures c.planned_style.ensures) (rw c.in-Ok-true.field-0-test at (c.in-Ok-true.ensures.ends contents tells)))

pub returns-in-Ok-false-clause-ends : goal.returns-in-Ok-false-clause-ends
returns-in-Ok-false-clause-ends g c words contents is tells has = all_end words contents _ _ _ _ c.args.link.now is c.new-session.result.entries (same_entries contents _ _ _ c.new-session.ensures has) false SomeRefused refl (λ P p. p) (in_style contents _ _ _ _ _ _ _ _ _ (Ok false) (session_style c.new-session.ensures c.planned_style.ensures) (rw c.in-Ok-false.field-0-test at (c.in-Ok-false.ensures.ends contents tells)))

pub returns-in-Err-Read-clause-ends : goal.returns-in-Err-Read-clause-ends
returns-in-Err-Read-clause-ends g c words contents is tells has = cut_ends words contents _ _ _ _ c.args.link.now is c.new-session.result.entries (same_entries contents _ _ _ c.new-session.ensures has) ReadFault tt read_fault_is_no_edit (in_style contents _ _ _ _ _ _ _ _ _ (Err fault.Read) (session_style c.new-session.ensures c.planned_style.ensures) (c.in-Err-Read.ensures.ends contents tells))

pub returns-in-Err-Write-clause-ends : goal.returns-in-Err-Write-clause-ends
returns-in-Err-Write-clause-ends g c words contents is tells has = cut_ends words contents _ _ _ _ c.args.link.now is c.new-session.result.entries (same_entries contents _ _ _ c.new-session.ensures has) WriteFault tt fault_is_no_edit (in_style contents _ _ _ _ _ _ _ _ _ (Err fault.Write) (session_style c.new-session.ensures c.planned_style.ensures) (c.in-Err-Write.ensures.ends contents tells))

pub returns-clause-ends : goal.returns-clause-ends
returns-clause-ends g c words contents is tells has = cut_ends words contents _ _ _ _ c.args.link.now is c.new-session.result.entries (same_entries contents _ _ _ c.new-session.ensures has) NoMemory tt memory_is_no_edit (in_style contents _ _ _ _ _ _ _ _ _ (Err fault.NoMemory) (session_style c.new-session.ensures c.planned_style.ensures) (c.in-Err-NoMemory.ensures.ends contents tells))
