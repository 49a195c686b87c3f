use Rattle.std.proofs.Common.{◌≡◌, ◌∙◌, IfOk, ap, sym, subst}
use Rattle.sj_core.specs.Views.{statements_view}
use Rattle.sj_desugar_spec.specs.Desugar.{body_code, is_mutable_in, completed}
use Rattle.sj_desugar.proofs.methods.body_of.Goals as goal
use Rattle.sj_desugar.specs.Methods.{desugared_with}

pub returns-in_ok-statements-in-Some : goal.returns-in_ok-statements-in-Some
returns-in_ok-statements-in-Some c =
    let m = c.args.m.now in
    subst (λ x. IfOk c.completed.result (λ ss. statements_view ss.items ≡ x)) (ap (completed m.namespace) (c.in_ok-statements-in-Some.ensures ∙ ap (λ e. body_code (is_mutable_in m e) m.result e) c.tree.ensures) ∙ sym (ap (λ o. (desugared_with m o).body) c.in-Some.is)) c.completed.ensures
