use Rattle.std.proofs.Common.{List, ℕ, subst, ◌∙◌}
use Rattle.std.specs.Prelude.{Ok, Err}
use Rattle.sjslink.specs.Input.{HasEntries}
use Rattle.sjslink.specs.Output.{bad_entries, entries_line}
use Rattle.sjslink.specs.declared.answers.Status.TheVariants.{BadEntries}
use Rattle.sjslink.proofs.Ends.{line_ends_run, bad_is_no_edit, bad_line}
use Rattle.sjslink.proofs.program.run_link.Goals as goal

pub returns-in-Ok-clause-ends : goal.returns-in-Ok-clause-ends
returns-in-Ok-clause-ends g c words contents is tells =
    let has = subst (λ (path : List ℕ). HasEntries contents path (Ok c.in-Ok.entries)) c.as_str.ensures (c.in-Ok.ensures.told contents tells) in
    c.edit_all.ensures.ends words contents is (c.in-Ok.ensures.same ∙ tells) has

pub returns-in-Err-BadLine-clause-ends : goal.returns-in-Err-BadLine-clause-ends
returns-in-Err-BadLine-clause-ends g c words contents is tells =
    let told = rw c.in-Err-BadLine.field-0-is at (c.in-Err-BadLine.ensures.told contents tells) in
    let has = subst (λ (path : List ℕ). HasEntries contents path (Err c.in-Err-BadLine.number)) c.as_str.ensures told in
    line_ends_run words contents _ _ _ (BadEntries c.in-Err-BadLine.number) (entries_line c.in-Err-BadLine.number) _ c.tell_bad_line.result (bad_entries c.args.link.now c.in-Err-BadLine.number is has) (λ P p. p) (bad_is_no_edit c.in-Err-BadLine.number) c.tell_bad_line.ensures.ends

pub returns-in-Err-BadLine-clause-bad_entries : goal.returns-in-Err-BadLine-clause-bad_entries
returns-in-Err-BadLine-clause-bad_entries g c number e = bad_line _ _ _ _ c.in-Err-BadLine.number c.tell_bad_line.result number c.tell_bad_line.ensures.ends e
