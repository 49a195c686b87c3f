use Rattle.std.proofs.Common.{arith, List, ◌∷◌, [], ◌++◌, ◌≡◌, ◌<◌, ◌+◌, ◌-◌, ◌∙◌, ap, sym, subst, length}
use Rattle.std.proofs.lemmas.Result.{err_from_is_err_and}
use Rattle.sj_names.specs.declared.entry_points.EntryPoint.{EntryPoint}
use Rattle.entries_file.specs.Lines.{lines}
use Rattle.entries_file.specs.EntriesFile.{said, most_entries}
use Rattle.entries_file.proofs.Steps.{after, refused, entry_line, shorter, length-one_more}
use Rattle.entries_file.proofs.reading.listed.Goals as goal

pub returns-in_err-next_entry : goal.returns-in_err-next_entry
returns-in_err-next_entry c =
    let p = err_from_is_err_and c.from_residual.result c.from_residual.ensures.1 in
    rw (p.1, p.2) (refused (c.loop-rest.number + 1) c.loop-rest.list.items c.loop-rest.rest.now c.first_line.result.0.now c.first_line.result.1.now (said 1 most_entries (lines c.args.text.now)) c.in_err-next_entry.field-0.0 c.loop-rest.invariant.0 c.first_line.ensures (grind arith) c.len.result (omega (arith, c.len.ensures, c.loop-rest.list.ok.0)) c.in_err-next_entry.ensures)

pub loop-rest-preserved : goal.loop-rest-preserved
loop-rest-preserved c =
    let taken = c.loop-rest.list.items in
    let e = c.in_ok-next_entry.field-0 in
    let room : length taken < most_entries = omega (arith, c.len.ensures, c.loop-rest.list.ok.0, c.in_ok-next_entry.ensures.0) in
    let step = entry_line (c.loop-rest.number + 1) taken c.loop-rest.rest.now c.first_line.result.0.now c.first_line.result.1.now e c.first_line.ensures (grind arith) room c.in_ok-next_entry.ensures.1 in
    let pushed : c.push.new.self.items ≡ taken ++ e ∷ [] = c.in_ok-push.ensures.items in (
      subst (λ (l : List EntryPoint). after l (said (c.loop-rest.number + 1 + 1) (most_entries - length l) (lines c.first_line.result.1.now)) ≡ said 1 most_entries (lines c.args.text.now)) (sym pushed) (sym step ∙ c.loop-rest.invariant.0),
      omega (arith, ap length pushed, length-one_more taken e, room),
      omega (arith, shorter c.loop-rest.rest.now c.first_line.result.0.now c.first_line.result.1.now c.first_line.ensures (grind arith), c.loop-rest.invariant.2),
    )
