use Rattle.std.proofs.Common.{◌≡◌, ◌∙◌, ◌-◌, ap, sym, arith, List, [], length, drop}
use Rattle.std.proofs.Math.ListN.{take}
use Rattle.std.proofs.lemmas.List.{take_rest, drop_all}
use Rattle.sj_trees.specs.Term.{Cases}
use Rattle.sj_trees.specs.View.{cases_view}
use Rattle.sj_trees.specs.declared.trees.MatchCase.{MatchCase}
use Rattle.tree_fields.proofs.Items.{size_of_one, case_put}
use Rattle.sj_text_spec.specs.Texts.{put_cases, put_more_cases}
use Rattle.sj_text_print.proofs.Items.{size_of_other_tree, size_of_other_case}
use Rattle.sj_text_print.proofs.trees.+trees.Goals as goal

pub append_cases-append_case-requires-in-loop-each : goal.append_cases-append_case-requires-in-loop-each
append_cases-append_case-requires-in-loop-each t c = (omega (arith, c.decreases, size_of_other_case c.args.cases.now c.loop-each.each-index c.each-item.result c.loop-each-test.true c.each-item.is), tt)

pub append_fields-append_field-requires : goal.append_fields-append_field-requires
append_fields-append_field-requires t c = (omega (arith, c.decreases, size_of_one c.args.fields.now c.loop-field.field-index c.field-item.result c.loop-field-test.true c.field-item.is), tt)

pub append_trees-tree_part-requires : goal.append_trees-tree_part-requires
append_trees-tree_part-requires t c = (omega (arith, c.decreases, size_of_other_tree c.args.trees.now c.loop-each.each-index c.each-item.result c.loop-each-test.true c.each-item.is), tt)

pub append_cases-loop-each-preserved : goal.append_cases-loop-each-preserved
append_cases-loop-each-preserved t c =
    let others = take (length c.args.cases.now - 1) (drop 1 c.args.cases.now) in
    let one = case_put (λ (cs : Cases). put_more_cases cs c.loop-each.out.items) others c.loop-each.each-index c.each-item.result c.loop-each-test.true c.each-item.is in
    rw (c.in_ok-append_case-in-len1-up-2.ensures, c.in_ok-append-in-len1-up.ensures) (one ∙ c.loop-each.invariant)

pub append_cases-returns-after-loop-each : goal.append_cases-returns-after-loop-each
append_cases-returns-after-loop-each t c =
    let cs = c.args.cases.now in
    let one = case_put (λ (ds : Cases). put_cases ds c.args.out.now.items) cs 0 c.first-item.result (omega (arith, c.in-len1-up.len_at_least)) c.first-item.is in
    let done : drop c.loop-each.each-index (take (length cs - 1) (drop 1 cs)) ≡ [] = drop_all c.loop-each.each-index (take (length cs - 1) (drop 1 cs)) (omega (arith, c.loop-each-test.false)) in
    let all = ap (λ (ds : List MatchCase). put_more_cases (cases_view ds) c.loop-each.out.items) (sym done) ∙ c.loop-each.invariant in
    let behind = ap (λ (ds : List MatchCase). put_more_cases (cases_view ds) c.append_case.new.out.items) (take_rest cs 1) in
    all ∙ behind ∙ ap (put_more_cases (cases_view (drop 1 cs))) c.in_ok-append_case-in-len1-up.ensures ∙ one
