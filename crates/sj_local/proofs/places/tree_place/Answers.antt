use Rattle.std.proofs.Common.{Some, None, sym, subst}
use Rattle.sj_local.specs.declared.rules.Where.{Where}
use Rattle.sj_local.specs.Broken.{FirstTree}
use Rattle.sj_local.specs.WalkParts.{no_findings}
use Rattle.sj_local.proofs.TreeSteps.{tree_hit, tree_miss, tree_end, pairs_behind}
use Rattle.sj_local.proofs.places.tree_place.Goals as goal

pub returns-in-Some : goal.returns-in-Some
returns-in-Some c = subst (λ (w : Where). FirstTree c.args.rule c.args.class.now (Some (record { member = w.member; tree = c.in-Some.tree }))) (sym c.at_method-member.ensures) (tree_hit c.args.rule c.args.class.now c.args.findings.now c.loop-index.index _ c.in-Some.tree c.loop-index.invariant.leads c.loop-index.invariant.pairs c.loop-index-test.true c.in-Some.ensures)

pub loop-index-preserved : goal.loop-index-preserved
loop-index-preserved c =
    record {
      leads = tree_miss c.args.rule c.args.class.now c.args.findings.now c.loop-index.index _ c.loop-index.invariant.leads c.loop-index.invariant.pairs c.loop-index-test.true c.in_default.ensures;
      pairs = pairs_behind c.args.class.now c.args.findings.now c.loop-index.index (record { declared_twice = None; findings = no_findings }) c.loop-index.invariant.pairs c.loop-index-test.true;
    }

pub returns : goal.returns
returns c = tree_end c.args.rule c.args.class.now c.args.findings.now c.loop-index.index c.loop-index.invariant.leads c.loop-index.invariant.pairs c.loop-index-test.false
