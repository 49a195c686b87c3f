use Rattle.std.proofs.Common.{get_or, refl, subst}
use Rattle.sj_local.specs.declared.rules.Rule.TheVariants.{Superclass}
use Rattle.sj_local.specs.Broken.{Breaks, all_rules}
use Rattle.sj_local.proofs.RuleSteps.{rule_hit, rule_miss, rule_end}
use Rattle.sj_local.proofs.places.check_class.Goals as goal

pub returns-in-Some : goal.returns-in-Some
returns-in-Some c = rule_hit c.args.class.now c.loop-rule.rule-index (get_or all_rules c.loop-rule.rule-index Superclass) Superclass c.in-Some.place c.loop-rule.invariant c.loop-rule-test.true refl (subst (Breaks c.args.class.now (get_or all_rules c.loop-rule.rule-index Superclass)) c.in-Some.is c.in_ok-place.ensures)

pub loop-rule-preserved : goal.loop-rule-preserved
loop-rule-preserved c = rule_miss c.args.class.now c.loop-rule.rule-index (get_or all_rules c.loop-rule.rule-index Superclass) Superclass c.loop-rule.invariant c.loop-rule-test.true refl (subst (Breaks c.args.class.now (get_or all_rules c.loop-rule.rule-index Superclass)) c.in_default.is c.in_ok-place.ensures)

pub returns : goal.returns
returns c = rule_end c.args.class.now c.loop-rule.rule-index c.loop-rule.invariant c.loop-rule-test.false
