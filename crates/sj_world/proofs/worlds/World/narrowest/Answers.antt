use Rattle.std.proofs.Common.{refl, arith}
use Rattle.std.proofs.lemmas.Option.{slice_get_read}
use Rattle.sj_world.proofs.Searches.{none_more}
use Rattle.sj_world.proofs.Subtyped.{failed}
use Rattle.sj_world.proofs.Targets.{IsNarrow, narrowest_found, no_narrowest}
use Rattle.sj_world.proofs.worlds.World.narrowest.Goals.{else-is_named_by-via-then-is_named_by+else-is_below_all, else-is_named_by-via-else-is_named_by}
use Rattle.sj_world.proofs.worlds.World.narrowest.Goals as goal

pub returns-then-is_below_all : goal.returns-then-is_below_all
returns-then-is_below_all c = narrowest_found c.args.self.now c.args.proxy.now c.args.methods.now c.loop-method.method-index c.method-item.result (slice_get_read c.args.methods.now _ c.loop-method.method-index c.method-item.result refl (omega arith) c.method-item.is) (c.is_named_by.ensures.0 c.if-is_named_by.true) (c.is_below_all.ensures.0 c.if-is_below_all.true)

pub loop-method-preserved : goal.loop-method-preserved
loop-method-preserved c =
    let more = none_more (IsNarrow c.args.self.now c.args.proxy.now c.args.methods.now) c.args.methods.now c.loop-method.method-index c.method-item.result c.loop-method.invariant (slice_get_read c.args.methods.now _ c.loop-method.method-index c.method-item.result refl (omega arith) c.method-item.is) in
    elim c.else-is_named_by.branch [
      | else-is_named_by-via-then-is_named_by+else-is_below_all w ↦ more (λ k. failed w.is_below_all.result w.is_below_all.ensures w.if-is_below_all.false k.narrow)
      | else-is_named_by-via-else-is_named_by w ↦ more (λ k. failed c.is_named_by.result c.is_named_by.ensures w.if-is_named_by.false k.named)
    ]

pub returns : goal.returns
returns c = no_narrowest c.args.self.now c.args.proxy.now c.args.methods.now c.loop-method.method-index c.loop-method.invariant (omega arith)
