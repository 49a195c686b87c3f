use Rattle.std.proofs.Common.{◌∙◌, None, ap, sym}
use Rattle.sj_core.specs.Terms.{Statement, if_of}
use Rattle.sj_core.specs.Views.{Case, statement_view, statements_view, statement_step, case_step}
use Rattle.sj_core.specs.declared.statements.CoreStatement.TheFolds.{fold-roll-CoreStatement}
use Rattle.sj_core.specs.declared.statements.CoreStatement.TheOpen.{CoreStatement-F}
use Rattle.sj_core.specs.declared.statements.CoreStatement.TheVariants.{rolls-If}
use Rattle.sj_desugar_forms.proofs.forms.break_unless.Goals as goal

pub returns : goal.returns
returns c =
    ap statement_view (sym (rolls-If None c.in_ok-test.test c.in_ok-leaving.leaving c.new.result))
    ∙ fold-roll-CoreStatement Statement Case statement_step case_step (CoreStatement-F.If None c.in_ok-test.test c.in_ok-leaving.leaving c.new.result)
    ∙ (λ i. if_of None (c.in_ok-test.ensures i) (c.in_ok-leaving.ensures i) (statements_view (c.new.ensures.items i)))
