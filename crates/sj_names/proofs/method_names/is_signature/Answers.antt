use Rattle.std.proofs.Common.{rules, ◌∙◌, sym}
use Rattle.sj_names.proofs.Signatures.{is_some-goes_on, is_some-ends}
use Rattle.sj_names.proofs.method_names.is_signature.Goals as goal

pub returns-then-not-is_parameter : goal.returns-then-not-is_parameter
returns-then-not-is_parameter c =
    is_some-ends c.loop-parameter.rest.now c.in-Some.parameter.now c.in-Some.behind.now _ c.in-Some.ensures.0
    (sym c.is_parameter.ensures ∙ c.if-not-is_parameter.true) c.loop-parameter.invariant.0

pub loop-parameter-preserved : goal.loop-parameter-preserved
loop-parameter-preserved c = (
  is_some-goes_on c.loop-parameter.rest.now c.in-Some.parameter.now c.in-Some.behind.now _ c.in-Some.ensures.0
      (sym c.is_parameter.ensures ∙ c.if-not-is_parameter.false) c.loop-parameter.invariant.0,
  search rules,
)
