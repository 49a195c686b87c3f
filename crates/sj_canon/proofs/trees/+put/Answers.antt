use Rattle.std.proofs.Common.{◌≡◌, ◌++◌, ◌+◌, drop, ◌∷◌, List, ℕ, sym, ap, ◌∙◌, subst, append_assoc, arith, OnOk}
use Rattle.sj_trees.specs.View.{view, cases_view}
use Rattle.tree_parts.proofs.Items.{size_of_item, size_of_case}
use Rattle.tree_parts.specs.Own.{own_seen}
use Rattle.tree_parts.specs.Parts.{seen}
use Rattle.sj_canon.specs.Numbers.{list_bytes, signed_bytes}
use Rattle.sj_canon.specs.Own.{own_bytes}
use Rattle.sj_canon.specs.Terms.{term_bytes, cases_bytes, parts_bytes}
use Rattle.sj_canon.proofs.Cases.{case_step_taken}
use Rattle.sj_canon.proofs.TermsExact.{term_is}
use Rattle.sj_canon.proofs.trees.+put.Goals as goal

pub put_cases-put_case-requires : goal.put_cases-put_case-requires
put_cases-put_case-requires t c = (omega (arith, c.decreases, size_of_case c.args.cases.now c.loop-i.i c.index-cases-i.result c.loop-i-test.true c.index-cases-i.is), tt)

pub put_cases-loop-i-preserved : goal.put_cases-loop-i-preserved
put_cases-loop-i-preserved t c =
    let step = case_step_taken c.args.cases.now c.loop-i.i c.index-cases-i.result c.loop-i-test.true c.index-cases-i.is in
    let rest : List ℕ = cases_bytes (cases_view (drop (c.loop-i.i + 1) c.args.cases.now)) in
    let case : List ℕ = 1 ∷ list_bytes signed_bytes c.index-cases-i.result.keys ++ term_bytes (view c.index-cases-i.result.body) in
    ap (λ (x : List ℕ). x ++ rest) (c.in_ok-put_case.ensures ∙ append_assoc c.loop-i.out.items (1 ∷ list_bytes signed_bytes c.index-cases-i.result.keys) (term_bytes (view c.index-cases-i.result.body))) ∙ append_assoc c.loop-i.out.items case rest ∙ ap (λ (x : List ℕ). c.loop-i.out.items ++ x) step ∙ c.loop-i.invariant

pub put_tree-returns : goal.put_tree-returns
put_tree-returns t c =
    let own = ap own_bytes c.own_in.ensures in
    let parts = ap parts_bytes c.parts_in.ensures.parts in
    let whole : c.put_own.new.out.items ++ parts_bytes (seen c.parts_in.result) ≡ c.args.out.now.items ++ term_bytes (view c.args.tree.now) = ap (λ (x : List ℕ). x ++ parts_bytes (seen c.parts_in.result)) c.in_ok-put_own.ensures ∙ append_assoc c.args.out.now.items (own_bytes (own_seen c.own_in.result)) (parts_bytes (seen c.parts_in.result)) ∙ (λ i. c.args.out.now.items ++ (own i ++ parts i)) ∙ ap (λ (x : List ℕ). c.args.out.now.items ++ x) (sym (term_is (view c.args.tree.now))) in
    let P : List ℕ → Type 0 = λ x. OnOk c.put_parts.result (c.put_parts.new.out.items ≡ x) in
    subst P whole c.put_parts.ensures

pub put_trees-put_tree-requires : goal.put_trees-put_tree-requires
put_trees-put_tree-requires t c = (omega (arith, c.decreases, size_of_item c.args.trees.now c.loop-i.i c.index-trees-i.result c.loop-i-test.true c.index-trees-i.is), tt)
