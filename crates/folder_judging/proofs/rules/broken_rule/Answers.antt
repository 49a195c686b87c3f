use Rattle.folder_judging.proofs.Ruled.{broken_at}
use Rattle.folder_judging.proofs.rules.broken_rule.Goals as goal

pub returns-in-Err-Broken : goal.returns-in-Err-Broken
returns-in-Err-Broken c = broken_at c.args.class.now c.in-Err-Broken.field-0 c.in-Err-Broken.rule c.in-Err-Broken.field-0-1 c.number.result c.in-Err-Broken.field-0-is c.in-Err-Broken.ensures c.number.ensures
