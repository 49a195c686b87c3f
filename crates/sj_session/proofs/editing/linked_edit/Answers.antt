use Rattle.std.proofs.Common.{ap}
use Rattle.std.proofs.lemmas.Result.{err_from_is_err_and}
use Rattle.sj_session.proofs.Edited.{counts_refused, linkable, counts_unlinked, counts_all, edited, counts_edited}
use Rattle.sj_session.proofs.editing.linked_edit.Goals as goal

pub returns-in_err-linked-clause-edit : goal.returns-in_err-linked-clause-edit
returns-in_err-linked-clause-edit g c =
    let p = err_from_is_err_and c.from_residual.result c.from_residual.ensures.1 in
    rw (p.1, p.2) c.in_err-linked.ensures.verdict

pub returns-in_err-linked-clause-counted : goal.returns-in_err-linked-clause-counted
returns-in_err-linked-clause-counted g c =
    let p = err_from_is_err_and c.from_residual.result c.from_residual.ensures.1 in
    rw (p.1, p.2) (counts_refused c.args.entries.now c.args.files.now c.in_err-linked.field-0.0 (g.W.Workers.meter c.args.work.now) (g.W.Workers.meter c.judge.new.work) c.in_err-linked.ensures.counted)

pub link-requires : goal.link-requires
link-requires g c = let known = c.in_ok-linked.ensures in linkable c.args.entries.now c.args.files.now c.in_ok-linked.linked known.verdict

pub returns-in_err-links-clause-counted : goal.returns-in_err-links-clause-counted
returns-in_err-links-clause-counted g c =
    let p = err_from_is_err_and c.from_residual-in_err-links.result c.from_residual-in_err-links.ensures.1 in
    let known = c.in_ok-linked.ensures in
    rw (p.1, p.2) (counts_unlinked c.args.entries.now c.args.files.now c.in_ok-linked.linked known.verdict (g.W.Workers.meter c.args.work.now) (g.W.Workers.meter c.judge.new.work) (g.W.Workers.meter c.link.new.work) known.counted c.in_err-links.ensures.counted)

pub returns-clause-edit : goal.returns-clause-edit
returns-clause-edit g c =
    let known = c.in_ok-linked.ensures in
    edited c.args.entries.now c.args.files.now c.in_ok-linked.linked known.verdict c.args.style c.in_ok-links.links.items c.in_ok-links.ensures.link c.in_ok-edit_of.field-0 (ap (λ v. v.items) c.in_ok-edit_of.ensures.files) c.in_ok-edit_of.ensures.report

pub returns-clause-counted : goal.returns-clause-counted
returns-clause-counted g c =
    let known = c.in_ok-linked.ensures in
    counts_edited c.args.entries.now c.args.files.now c.in_ok-linked.linked known.verdict c.args.style c.in_ok-links.links.items c.in_ok-links.ensures.link c.in_ok-edit_of.field-0 (g.W.Workers.meter c.args.work.now) (g.W.Workers.meter c.judge.new.work) (g.W.Workers.meter c.link.new.work) c.in_ok-edit_of.ensures.report known.counted c.in_ok-links.ensures.counted

pub returns-in_err-edit_of-clause-counted : goal.returns-in_err-edit_of-clause-counted
returns-in_err-edit_of-clause-counted g c =
    let p = err_from_is_err_and c.from_residual-in_err-edit_of.result c.from_residual-in_err-edit_of.ensures.1 in
    let known = c.in_ok-linked.ensures in
    rw (p.1, p.2) (counts_all c.args.entries.now c.args.files.now c.in_ok-linked.linked known.verdict (g.W.Workers.meter c.args.work.now) (g.W.Workers.meter c.judge.new.work) (g.W.Workers.meter c.link.new.work) known.counted c.in_ok-links.ensures.counted)
