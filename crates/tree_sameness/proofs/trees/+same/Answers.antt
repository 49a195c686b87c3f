use Rattle.std.proofs.Common.{◌≡◌, ◌∙◌, sym, ap, subst, ◌<◌, ℕ, arith, length}
use Rattle.sj_trees.specs.View.{view}
use Rattle.tree_parts.specs.Parts.{erased_parts}
use Rattle.tree_parts.proofs.Items.{size_of_item, size_of_case}
use Rattle.tree_parts.proofs.Sameness.{same_term, same_own, same_parts}
use Rattle.tree_sameness.proofs.Cases.{same_step}
use Rattle.tree_sameness.proofs.trees.+same.Goals as goal

pub are_same_cases-is_same_case-requires : goal.are_same_cases-is_same_case-requires
are_same_cases-is_same_case-requires t c = (omega (arith, c.decreases, size_of_case c.args.cases.now c.loop-i.i c.index-cases-i.result c.loop-i-test.true c.index-cases-i.is), tt)

pub are_same_cases-returns-then-not-is_same_case : goal.are_same_cases-returns-then-not-is_same_case
are_same_cases-returns-then-not-is_same_case t c =
    let there : c.loop-i.i < length c.args.others.now = subst (λ (n : ℕ). c.loop-i.i < n) c.if-cases-others.false c.loop-i-test.true in
    let step = same_step c.args.cases.now c.args.others.now c.loop-i.i c.index-cases-i.result c.index-others-i.result c.loop-i-test.true there c.index-cases-i.is c.index-others-i.is in
    (λ h. cc, λ e. let rest = step.0 (c.loop-i.invariant.1.1 e) in sym c.if-not-is_same_case.true ∙ c.is_same_case.ensures.1 (rest.0, rest.1))

pub are_same_cases-loop-i-preserved : goal.are_same_cases-loop-i-preserved
are_same_cases-loop-i-preserved t c =
    let there : c.loop-i.i < length c.args.others.now = subst (λ (n : ℕ). c.loop-i.i < n) c.if-cases-others.false c.loop-i-test.true in
    let step = same_step c.args.cases.now c.args.others.now c.loop-i.i c.index-cases-i.result c.index-others-i.result c.loop-i-test.true there c.index-cases-i.is c.index-others-i.is in
    let same = c.is_same_case.ensures.0 c.if-not-is_same_case.false in
    (c.if-cases-others.false, (λ e. c.loop-i.invariant.1.0 (step.1 (same.0, same.1, e)), λ e. (step.0 (c.loop-i.invariant.1.1 e)).2))

pub are_same_trees-is_same_tree-requires : goal.are_same_trees-is_same_tree-requires
are_same_trees-is_same_tree-requires t c = (omega (arith, c.decreases, size_of_item c.args.trees.now c.loop-i.i c.index-trees-i.result c.loop-i-test.true c.index-trees-i.is), tt)

pub is_same_tree-returns-then-is_same_own : goal.is_same_tree-returns-then-is_same_own
is_same_tree-returns-then-is_same_own t c =
    let own = sym c.own_in.ensures ∙ c.is_same_own.ensures.0 c.if-is_same_own.true ∙ c.own_in-2.ensures in
    let one = ap erased_parts c.parts_in.ensures.parts in
    let other = ap erased_parts c.parts_in-then-is_same_own.ensures.parts in
    (λ r. same_term (view c.args.tree.now) (view c.args.other.now) own (sym one ∙ c.are_same_parts.ensures.0 r ∙ other), λ e. c.are_same_parts.ensures.1 (one ∙ same_parts (view c.args.tree.now) (view c.args.other.now) e ∙ sym other))

pub is_same_tree-returns-else-is_same_own : goal.is_same_tree-returns-else-is_same_own
is_same_tree-returns-else-is_same_own t c = (λ r. cc, λ e. c.is_same_own.ensures.1 (c.own_in.ensures ∙ same_own (view c.args.tree.now) (view c.args.other.now) e ∙ sym c.own_in-2.ensures))
