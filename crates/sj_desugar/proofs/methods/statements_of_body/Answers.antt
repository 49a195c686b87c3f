use Rattle.std.proofs.Common.{◌≡◌, ◌∙◌, [], ap}
use Rattle.sj_desugar_spec.specs.Desugar.{into}
use Rattle.sj_desugar_spec.specs.Plain.{is_among, mutable_in, mutable_params}
use Rattle.sj_desugar_spec.specs.Spill.{Code}
use Rattle.sj_desugar.proofs.methods.statements_of_body.Goals as goal
use Rattle.sj_trees.specs.View.{view}
use Rattle.sure_receivers.specs.Sure.{sure_locals}

pub returns : goal.returns
returns c =
    let e = view c.args.tree.now in
    let names : c.deref.result.now ≡ mutable_params c.args.m.now.params (mutable_in e []) = c.deref.ensures.value ∙ c.in_ok-mutable.ensures ∙ ap (λ ps. mutable_params ps (mutable_in e [])) c.as_slice.ensures in
    let sure : is_among c.deref-2.result.now ≡ sure_locals e = ap is_among c.deref-2.ensures.value ∙ c.in_ok-sure.ensures in
    ap (λ (w : Code). w.statements) (c.in_ok-written.ensures ∙ (λ i. into (is_among (names i)) (sure i) [] (c.in_ok-destination.ensures i) 1 e))
