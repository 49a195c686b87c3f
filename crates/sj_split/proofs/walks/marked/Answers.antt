use Rattle.std.proofs.Common.{◌+◌, ◌<◌, false, take, length, List, Some, Contains, sym, ap, ◌∙◌, subst, arith}
use Rattle.std.specs.Prelude.{◌↔◌, Vec}
use Rattle.std.specs.Global.{Global}
use Rattle.std.proofs.lemmas.Option.{slice_get-get_or}
use Rattle.number_graphs.specs.Graphs.{At}
use Rattle.sj_split.specs.Walks.{Name}
use Rattle.sj_split.specs.Steps.{IsMarked}
use Rattle.sj_split.proofs.Marking.{marked_put, marked_skip, marked_none, marked_all}
use Rattle.sj_split.proofs.walks.marked.Goals.{then-marks-number+in_ok-copied+in_ok-push, else-marks-number}
use Rattle.sj_split.proofs.walks.marked.Goals as goal

pub loop-number-init : goal.loop-number-init
loop-number-init c class = marked_none c.args.numbers.now.classes.keys c.args.marks.now c.new-list.result.items c.new-list.ensures.items class

pub loop-number-preserved : goal.loop-number-preserved
loop-number-preserved c class =
    let low : c.loop-number.number < length c.args.marks.now = omega (arith, c.requires, c.len-number-end.ensures) in
    let read = slice_get-get_or c.args.marks.now c.loop-number.number false low in
    elim c.if-marks-number.branch [
      | then-marks-number+in_ok-copied+in_ok-push w ↦ subst (λ (l : List Name). Contains l class ↔ IsMarked (take (c.loop-number.number + 1) c.args.numbers.now.classes.keys) c.args.marks.now class) (sym (ap (λ (v : Vec Name Global). v.items) w.list-is)) (marked_put c.args.numbers.now.classes.keys c.args.marks.now c.loop-number.number c.loop-number.list.items w.push.new.self.items w.in_ok-copied.field-0 c.loop-number.invariant (read ∙ ap Some w.if-marks-number.true) (subst (λ (n : Name). At c.args.numbers.now.classes.keys c.loop-number.number n) (sym w.in_ok-copied.ensures) w.class.ensures) w.in_ok-push.ensures.items class)
      | else-marks-number w ↦ subst (λ (l : List Name). Contains l class ↔ IsMarked (take (c.loop-number.number + 1) c.args.numbers.now.classes.keys) c.args.marks.now class) (sym (ap (λ (v : Vec Name Global). v.items) w.list-is)) (marked_skip c.args.numbers.now.classes.keys c.args.marks.now c.loop-number.number c.loop-number.list.items c.loop-number.invariant (read ∙ ap Some w.if-marks-number.false) class)
    ]

pub returns : goal.returns
returns c class = marked_all c.args.numbers.now.classes.keys c.args.marks.now c.loop-number.number c.loop-number.list.items c.loop-number.invariant (omega (arith, c.len-number-end.ensures)) class
