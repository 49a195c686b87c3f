use Rattle.std.proofs.Common.{refl, arith}
use Rattle.std.proofs.lemmas.Option.{slice_get_read}
use Rattle.sj_world.proofs.Bodies.{none_from}
use Rattle.sj_world.proofs.Targets.{first_chosen_found, no_more_chosen, have_none_named}
use Rattle.sj_world.proofs.worlds.World.first_chosen.Goals as goal

pub returns-in-Some : goal.returns-in-Some
returns-in-Some c = first_chosen_found c.args.self.now c.args.proxy.now c.name-item.result c.args.names.now c.loop-name.name-index c.in-Some.found.owner.now c.in-Some.found.method.now c.loop-name.invariant (slice_get_read c.args.names.now _ c.loop-name.name-index c.name-item.result refl (omega arith) c.name-item.is) c.in-Some.ensures.0 c.in-Some.ensures.1

pub loop-name-preserved : goal.loop-name-preserved
loop-name-preserved c = no_more_chosen c.args.self.now c.args.proxy.now c.name-item.result c.args.names.now c.loop-name.name-index c.loop-name.invariant (slice_get_read c.args.names.now _ c.loop-name.name-index c.name-item.result refl (omega arith) c.name-item.is) (none_from c.chosen_at.result _ _ c.chosen_at.ensures c.in_default.not-Some)

pub returns : goal.returns
returns c = have_none_named c.args.self.now c.args.proxy.now c.args.names.now c.loop-name.name-index c.loop-name.invariant (omega arith)
