use Rattle.std.proofs.Common.{◌≡◌, drop}
use Rattle.sj_ask.specs.Answers.{IsAnswer}
use Rattle.sj_emit_expr_parts.proofs.Asked.{LeadsOn}
use Rattle.sj_emit_expr_parts.proofs.lookup.ask_all.Given as goal

abbrev pub invariant-loop-inquiry : goal.invariant-loop-inquiry
invariant-loop-inquiry g l =
    record {
      stand : g.O.Oracle.stand l.oracle ≡ g.O.Oracle.stand l.fn.oracle;
      asked : LeadsOn (IsAnswer (g.O.Oracle.stand l.fn.oracle)) l.inquiries (drop l.inquiry-index l.inquiries) l.known (g.O.Oracle.told l.fn.oracle) (g.O.Oracle.told l.oracle);
    }
