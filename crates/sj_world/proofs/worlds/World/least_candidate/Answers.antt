use Rattle.std.proofs.Common.{refl, arith}
use Rattle.std.proofs.lemmas.Option.{slice_get_read}
use Rattle.sj_world.proofs.Bodies.{least_candidate_found, no_more_candidate, has_no_candidate, none_from}
use Rattle.sj_world.proofs.worlds.World.least_candidate.Goals as goal

pub returns-in-Some : goal.returns-in-Some
returns-in-Some c = least_candidate_found c.args.self.now c.args.method.now c.name-item.result c.args.ancestors.now c.loop-name.name-index c.in-Some.found.owner.now c.in-Some.found.method.now c.requires c.loop-name.invariant (slice_get_read c.args.ancestors.now _ c.loop-name.name-index c.name-item.result refl (omega arith) c.name-item.is) c.in-Some.ensures.0 c.in-Some.ensures.1

pub loop-name-preserved : goal.loop-name-preserved
loop-name-preserved c = no_more_candidate c.args.self.now c.args.method.now c.name-item.result c.args.ancestors.now c.loop-name.name-index c.loop-name.invariant (slice_get_read c.args.ancestors.now _ c.loop-name.name-index c.name-item.result refl (omega arith) c.name-item.is) (none_from c.candidate.result _ _ c.candidate.ensures c.in_default.not-Some)

pub returns : goal.returns
returns c = has_no_candidate c.args.self.now c.args.method.now c.args.ancestors.now c.loop-name.name-index c.loop-name.invariant (omega arith)
