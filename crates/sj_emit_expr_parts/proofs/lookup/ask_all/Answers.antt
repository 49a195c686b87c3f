use Rattle.std.proofs.Common.{refl, ◌∙◌, arith}
use Rattle.sj_ask.specs.Answers.{IsAnswer}
use Rattle.sj_emit_expr_parts.proofs.Asked.{asks-first, asks-next, asks-all}
use Rattle.sj_emit_expr_parts.proofs.lookup.ask_all.Goals as goal

pub loop-inquiry-init : goal.loop-inquiry-init
loop-inquiry-init g c = record { stand = refl; asked = asks-first (IsAnswer (g.O.Oracle.stand c.args.oracle.now)) c.args.inquiries.now _ _ c.new-known.ensures }

pub loop-inquiry-preserved : goal.loop-inquiry-preserved
loop-inquiry-preserved g c =
    let l = c.loop-inquiry in
    let f = c.in_ok-answer in
    let ran = rw l.invariant.stand at f.ensures.ran in
    record { stand = f.ensures.stand ∙ l.invariant.stand; asked = asks-next (IsAnswer (g.O.Oracle.stand c.args.oracle.now)) c.args.inquiries.now l.inquiry-index c.inquiry-item.result f.answer l.known c.put.new.self _ _ _ (omega arith) c.inquiry-item.is l.invariant.asked ran c.in_ok-put.ensures }

pub returns-clause-asked : goal.returns-clause-asked
returns-clause-asked g c = asks-all (IsAnswer (g.O.Oracle.stand c.args.oracle.now)) c.args.inquiries.now c.loop-inquiry.inquiry-index _ _ _ (omega arith) c.loop-inquiry.invariant.asked
