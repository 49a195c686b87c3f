use Rattle.std.proofs.Common.{Contains, refl, arith}
use Rattle.std.proofs.lemmas.Option.{slice_get_read}
use Rattle.sj_baselink.proofs.Putting.{begins_empty, each_goes_on, only_these}
use Rattle.sj_mangling.specs.declared.bindings.MethodBinding.TheVariants.{Reflective}
use Rattle.world_pieces.specs.Told.{IsUsedMethod}
use Rattle.world_pieces.proofs.reflected.used_among.Goals as goal

pub loop-name-init : goal.loop-name-init
loop-name-init c = begins_empty _ _ _ c.new-used.ensures.empty

pub loop-name-preserved : goal.loop-name-preserved
loop-name-preserved c = each_goes_on Contains _ c.args.names.now c.loop-name.name-index c.name-item.result _ _ _ (slice_get_read c.args.names.now _ c.loop-name.name-index c.name-item.result refl (omega arith) c.name-item.is) c.loop-name.invariant c.in_ok-put_used.ensures

pub returns : goal.returns
returns c = only_these (IsUsedMethod Reflective c.args.words.now.keys) c.args.names.now c.loop-name.name-index _ (omega arith) c.loop-name.invariant
