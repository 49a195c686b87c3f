use Rattle.std.proofs.Common.{refl, ◌∙◌}
use Rattle.std.proofs.lemmas.Result.{err_from_is_err_and}
use Rattle.sj_outside.proofs.Laws.{Writes-line}
use Rattle.sjslink.proofs.OneEdit.{taken, taken_edit, refused_edit, refuses_edit, edit_cut}
use Rattle.sjslink.proofs.editing.edit_folder.Goals as goal

pub returns-in_ok-put_edit-in-Ok-clause-ends : goal.returns-in_ok-put_edit-in-Ok-clause-ends
returns-in_ok-put_edit-in-Ok-clause-ends g c = record {
  edited = taken_edit c.args.out.now c.args.number c.args.session.now c.edit.new.self c.args.files.items c.files.result.now c.as_str.result.now;
  is_edit = taken c.args.out.now c.args.number c.args.session.now c.edit.new.self c.args.files.items c.files.result.now c.as_str.result.now (record { files = c.from_vec.result }) c.in-Ok.report c.from_vec.ensures c.files.ensures (c.as_str.ensures.value ∙ c.in_ok-text-in-Ok.ensures) c.in-Ok.ensures.edited c.in-Ok.ensures.agrees;
  accepted = refl;
  written = c.in_ok-put_edit-in-Ok.ensures.written;
}

pub returns-in_err-put_edit-in-Ok-clause-ends : goal.returns-in_err-put_edit-in-Ok-clause-ends
returns-in_err-put_edit-in-Ok-clause-ends g c =
    let p = err_from_is_err_and c.from_residual-in_err-put_edit-in-Ok.result c.from_residual-in_err-put_edit-in-Ok.ensures.1 in
    let is_edit = taken c.args.out.now c.args.number c.args.session.now c.edit.new.self c.args.files.items c.files.result.now c.as_str.result.now (record { files = c.from_vec.result }) c.in-Ok.report c.from_vec.ensures c.files.ensures (c.as_str.ensures.value ∙ c.in_ok-text-in-Ok.ensures) c.in-Ok.ensures.edited c.in-Ok.ensures.agrees in
    rw (p.1, p.2) (edit_cut _ _ _ _ _ _ _ _ _ _ _ c.in_err-put_edit-in-Ok.field-0.0 is_edit c.in_err-put_edit-in-Ok.ensures.written)

pub returns-in_ok-print_line-in-Err-Refused-clause-ends : goal.returns-in_ok-print_line-in-Err-Refused-clause-ends
returns-in_ok-print_line-in-Err-Refused-clause-ends g c =
    let verdict = rw c.in-Err-Refused.field-0-is at c.in-Err-Refused.ensures.edited in
    record {
      edited = refused_edit c.args.out.now c.args.session.now.entries c.args.session.now.options.style c.args.number c.args.files.items c.as_str-in-Err-Refused-2.result.now;
      is_edit = refuses_edit c.args.out.now c.args.session.now.entries c.args.session.now.options.style c.args.number c.args.files.items c.from_vec.result c.in-Err-Refused.code c.in-Err-Refused.place c.as_str-in-Err-Refused.result.now c.as_str-in-Err-Refused-2.result.now c.from_vec.ensures c.as_str-in-Err-Refused.ensures (c.as_str-in-Err-Refused-2.ensures.value ∙ c.in_ok-text-in-Err-Refused.ensures) verdict.0;
      accepted = refl;
      written = Writes-line _ _ _ _ c.in_ok-print_line-in-Err-Refused.ensures.written;
    }
