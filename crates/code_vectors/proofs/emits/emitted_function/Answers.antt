use Rattle.std.proofs.Common.{ap, ◌∙◌}
use Rattle.sj_ask.specs.Stands.{Stand}
use Rattle.sj_core.specs.Views.{method_view}
use Rattle.code_vectors.proofs.Untargeted.{as-named}
use Rattle.code_vectors.proofs.emits.emitted_function.Goals as goal

pub returns : goal.returns
returns c = as-named _ (ap (λ (s : Stand). s.classes) c.new-oracle.ensures ∙ c.in_ok-world.ensures) (method_view c.args.core.now) _ _ _ c.emit_member.ensures.told
