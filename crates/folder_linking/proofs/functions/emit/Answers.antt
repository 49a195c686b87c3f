use Rattle.std.proofs.Common.{◌∙◌}
use Rattle.sj_ask.specs.Stands.{stand_of}
use Rattle.sj_core.specs.Views.{method_view}
use Rattle.folder_linking.proofs.Counted.{emits_one}
use Rattle.folder_linking.proofs.Emission.{function_found}
use Rattle.folder_linking.proofs.functions.emit.Goals as goal

pub returns-clause-counted : goal.returns-clause-counted
returns-clause-counted g c = emits_one c.emit_member.result (g.W.Workers.meter c.args.work.now) (g.W.Workers.meter c.emit_member.new.self) c.emit_member.ensures.counted

pub returns-clause-emitted : goal.returns-clause-emitted
returns-clause-emitted g c = function_found _ (stand_of c.args.linked.now c.args.member.now) (c.new-recorder.ensures.stand ∙ c.new.ensures) c.requires (method_view c.args.core.now) c.emit_member.result _ _ c.emit_member.ensures.told
