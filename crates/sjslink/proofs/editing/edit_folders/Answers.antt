use Rattle.std.proofs.Common.{◌≡◌, ◌<◌, ◌∙◌, ap, sym, refl, arith, length, subst, ℕ}
use Rattle.std.specs.Prelude.{◌&&◌}
use Rattle.std.proofs.lemmas.Result.{err_from_is_err_and}
use Rattle.sj_session.specs.declared.options.Options.{Options}
use Rattle.sjslink.specs.Editing.{AreWritten}
use Rattle.sjslink.proofs.Edits.{none_written, written_cut, folder_at_place, among_folders, folder_written, folder_cut}
use Rattle.sjslink.proofs.editing.edit_folders.Goals.{then-all_accepted, else-all_accepted}
use Rattle.sjslink.proofs.editing.edit_folders.Goals as goal

pub loop-place-init : goal.loop-place-init
loop-place-init g c = record {
  same = refl;
  same_options = refl;
  holds = refl;
  written = λ contents tells. none_written contents c.args.link.now.out c.args.session.now.entries c.args.session.now.options.style c.args.link.now.folders _ _;
  missing = λ contents tells held. refl;
  read_faults = omega arith;
  output_faults = omega arith;
  line_faults = omega arith;
}

pub returns-in_err-files-clause-ends : goal.returns-in_err-files-clause-ends
returns-in_err-files-clause-ends g c contents tells =
    let p = err_from_is_err_and c.from_residual.result c.from_residual.ensures.1 in
    rw p.1 (written_cut _ _ _ _ _ _ _ _ _ _ _ (c.loop-place.invariant.written contents tells))

pub returns-in_err-is_accepted-clause-ends : goal.returns-in_err-is_accepted-clause-ends
returns-in_err-is_accepted-clause-ends g c contents tells =
    let p = err_from_is_err_and c.from_residual-in_err-is_accepted.result c.from_residual-in_err-is_accepted.ensures.1 in
    let within : c.loop-place.place < length c.as_slice-paths.result.now = omega arith in
    let at = folder_at_place c.as_slice-paths.result.now c.args.link.now.folders c.loop-place.place c.index-paths-place.result c.as_str.result.now c.as_slice-paths.ensures within c.index-paths-place.is c.as_str.ensures in
    rw p.1 (folder_cut contents c.args.link.now.out c.args.session.now.entries c.args.session.now.options.style c.args.link.now.folders c.loop-place.place c.as_str.result.now at c.in_ok-files.files.items (c.in_ok-files.ensures.told contents (c.loop-place.invariant.holds ∙ tells)) c.as_str-in-loop-place.result.now c.as_str-in-loop-place.ensures c.loop-place.session.entries c.loop-place.invariant.same c.loop-place.session.options.style (ap (λ (o : Options). o.style) c.loop-place.invariant.same_options) _ _ _ _ _ _ c.loop-place.all_accepted (c.loop-place.invariant.written contents tells) c.in_err-is_accepted.field-0.0 c.in_err-is_accepted.ensures.ends)

pub loop-place-preserved : goal.loop-place-preserved
loop-place-preserved g c =
    let within : c.loop-place.place < length c.as_slice-paths.result.now = omega arith in
    let at = folder_at_place c.as_slice-paths.result.now c.args.link.now.folders c.loop-place.place c.index-paths-place.result c.as_str.result.now c.as_slice-paths.ensures within c.index-paths-place.is c.as_str.ensures in
    let flag : (c.loop-place.all_accepted && c.in_ok-is_accepted.is_accepted) ≡ c.if-all_accepted.all_accepted = elim c.if-all_accepted.branch [ then-all_accepted w ↦ ap (λ t. t && c.in_ok-is_accepted.is_accepted) w.if-all_accepted.true ∙ sym w.all_accepted-is | else-all_accepted w ↦ ap (λ t. t && c.in_ok-is_accepted.is_accepted) w.if-all_accepted.false ∙ sym (w.all_accepted-is ∙ w.if-all_accepted.false) ] in
    record {
      same = c.in_ok-is_accepted.ensures.same ∙ c.loop-place.invariant.same;
      same_options = c.in_ok-is_accepted.ensures.same_options ∙ c.loop-place.invariant.same_options;
      holds = c.in_ok-files.ensures.same ∙ c.loop-place.invariant.holds;
      written = λ contents tells. folder_written contents c.args.link.now.out c.args.session.now.entries c.args.session.now.options.style c.args.link.now.folders c.loop-place.place c.as_str.result.now at c.in_ok-files.files.items (c.in_ok-files.ensures.told contents (c.loop-place.invariant.holds ∙ tells)) c.as_str-in-loop-place.result.now c.as_str-in-loop-place.ensures c.loop-place.session.entries c.loop-place.invariant.same c.loop-place.session.options.style (ap (λ (o : Options). o.style) c.loop-place.invariant.same_options) _ _ _ _ _ _ c.loop-place.all_accepted (c.loop-place.invariant.written contents tells) c.in_ok-is_accepted.is_accepted c.if-all_accepted.all_accepted flag c.in_ok-is_accepted.ensures.ends;
      missing = λ contents tells held. c.in_ok-files.ensures.missing contents (c.loop-place.invariant.holds ∙ tells) (held c.as_str.result.now (among_folders c.args.link.now.folders c.loop-place.place c.as_str.result.now at)) ∙ c.loop-place.invariant.missing contents tells held;
      read_faults = omega arith;
      output_faults = omega arith;
      line_faults = omega arith;
    }

pub returns-clause-ends : goal.returns-clause-ends
returns-clause-ends g c contents tells =
    let all : c.loop-place.place ≡ length c.args.link.now.folders = omega (arith, ap length c.as_slice-paths.ensures) in
    subst (λ (n : ℕ). AreWritten contents c.args.link.now.out c.args.session.now.entries c.args.session.now.options.style c.args.link.now.folders (g.O.Outputs.puts c.args.outputs.now) (g.O.Outputs.puts c.loop-place.outputs) (g.L.Lines.printed c.args.lines.now) (g.L.Lines.printed c.loop-place.lines) n c.loop-place.all_accepted) all (c.loop-place.invariant.written contents tells)
