use Rattle.std.proofs.Common.{◌∙◌, subst, sym}
use Rattle.std.specs.Prelude.{All}
use Rattle.sj_ask.specs.Stands.{Stand, stand_of}
use Rattle.world_vectors.proofs.Targets.{IsNamed, emitted_there}
use Rattle.world_vectors.proofs.functions.emitted_function.Goals as goal

pub returns : goal.returns
returns c =
    let names : All IsNamed c.args.linked.now.world = subst (All IsNamed) (c.classes.ensures.all ∙ c.world.ensures) c.class_names_fit.ensures in
    let there : All IsNamed (stand_of c.new-oracle.result.world.now c.new-oracle.result.member.now).classes = subst (λ (s : Stand). All IsNamed s.classes) (sym c.new-oracle.ensures) names in
    emitted_there (stand_of c.new-oracle.result.world.now c.new-oracle.result.member.now) there _ c.emit_member.result _ _ c.emit_member.ensures.told
