use Rattle.std.proofs.Common.{◌∙◌, arith}
use Rattle.sj_ask.specs.Sizes.{counted_cases}
use Rattle.tree_parts.proofs.Items.{size_of_item, size_of_case, case_taken}
use Rattle.sj_ask.proofs.sizes.+count.Goals as goal

pub count_all-count-counted-requires : goal.count_all-count-counted-requires
count_all-count-counted-requires t c = (omega (arith, c.decreases, size_of_item c.args.trees.now c.loop-each.each-index c.each-item.result c.loop-each-test.true c.each-item.is), tt)

pub count_cases-count-counted-requires : goal.count_cases-count-counted-requires
count_cases-count-counted-requires t c = (omega (arith, c.decreases, size_of_case c.args.cases.now c.loop-each.each-index c.each-item.result c.loop-each-test.true c.each-item.is), tt)

pub count_cases-loop-each-preserved : goal.count_cases-loop-each-preserved
count_cases-loop-each-preserved t c = rw c.count-counted.ensures (case_taken (λ cs. counted_cases cs c.loop-each.counted) c.args.cases.now c.loop-each.each-index c.each-item.result c.loop-each-test.true c.each-item.is) ∙ c.loop-each.invariant
