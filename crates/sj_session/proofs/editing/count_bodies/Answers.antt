use Rattle.std.proofs.Common.{◌≡◌, take, refl, arith}
use Rattle.std.proofs.lemmas.Option.{slice_get_read}
use Rattle.folder_judging.specs.Counts.{bodies_among}
use Rattle.sj_session.proofs.Counted.{few_taken, counted_body, counted_other}
use Rattle.sj_session.proofs.editing.count_bodies.Goals as goal
use Rattle.sj_session.proofs.editing.count_bodies.Goals.{in-Body, in_default}

pub overflow_add-count : goal.overflow_add-count
overflow_add-count c =
    let few = few_taken c.args.facts.now c.loop-fact.fact-index in
    let is : c.loop-fact.count ≡ bodies_among (take c.loop-fact.fact-index c.args.facts.now) = c.loop-fact.invariant in
    omega arith

pub loop-fact-preserved : goal.loop-fact-preserved
loop-fact-preserved c =
    let at = slice_get_read c.args.facts.now _ c.loop-fact.fact-index c.fact-item.result refl (omega arith) c.fact-item.is in
    elim c.match-fact.branch [
      | in-Body w ↦ counted_body c.args.facts.now c.loop-fact.fact-index c.fact-item.result w.in-Body.field-0 c.loop-fact.count c.match-fact.count at w.in-Body.is c.loop-fact.invariant w.count-is
      | in_default w ↦ counted_other c.args.facts.now c.loop-fact.fact-index c.fact-item.result c.loop-fact.count c.match-fact.count at w.in_default.not-Body c.loop-fact.invariant w.count-is
    ]
