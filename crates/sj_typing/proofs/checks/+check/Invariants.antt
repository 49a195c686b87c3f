use Rattle.std.proofs.Common.{◌≡◌, Bool, Result, drop}
use Rattle.sj_trees.specs.View.{terms_view, cases_view}
use Rattle.sj_ask.specs.declared.errors.TypeError.{TypeError}
use Rattle.sj_ask.specs.Answers.{IsAnswer}
use Rattle.sj_ask.specs.Sizes.{counted_all, counted_cases}
use Rattle.sj_ask.specs.Told.{Told}
use Rattle.sj_typing_spec.specs.Checks.{all_of, cases_of}
use Rattle.sj_typing_spec.specs.Answered.{AsRun}
use Rattle.sj_typing.proofs.checks.+check.Given as goal

abbrev pub invariant-check_all-loop-each : goal.invariant-check_all-loop-each
invariant-check_all-loop-each g l =
    record {
      stand : g.O.Oracle.stand l.oracle ≡ g.O.Oracle.stand l.fn.oracle;
      labels : l.labels.items ≡ l.fn.labels.items;
      next : counted_all (terms_view (drop l.each-index l.trees)) l.next ≡ counted_all (terms_view l.trees) l.place;
      ran : (r : Result Bool TypeError) (u : Told) → AsRun (IsAnswer (g.O.Oracle.stand l.fn.oracle)) (all_of l.namespace l.fn.labels.items l.next (terms_view (drop l.each-index l.trees))) r (g.O.Oracle.told l.oracle) u → AsRun (IsAnswer (g.O.Oracle.stand l.fn.oracle)) (all_of l.namespace l.fn.labels.items l.place (terms_view l.trees)) r (g.O.Oracle.told l.fn.oracle) u;
    }

abbrev pub invariant-check_cases-loop-each : goal.invariant-check_cases-loop-each
invariant-check_cases-loop-each g l =
    record {
      stand : g.O.Oracle.stand l.oracle ≡ g.O.Oracle.stand l.fn.oracle;
      labels : l.labels.items ≡ l.fn.labels.items;
      next : counted_cases (cases_view (drop l.each-index l.cases)) l.next ≡ counted_cases (cases_view l.cases) l.place;
      ran : (r : Result Bool TypeError) (u : Told) → AsRun (IsAnswer (g.O.Oracle.stand l.fn.oracle)) (cases_of l.namespace l.fn.labels.items l.next (cases_view (drop l.each-index l.cases))) r (g.O.Oracle.told l.oracle) u → AsRun (IsAnswer (g.O.Oracle.stand l.fn.oracle)) (cases_of l.namespace l.fn.labels.items l.place (cases_view l.cases)) r (g.O.Oracle.told l.fn.oracle) u;
    }
