use Rattle.std.proofs.Common.{refl, arith, rules}
use Rattle.std.proofs.lemmas.Option.{slice_get_read}
use Rattle.sj_world.proofs.Searches.{all_more}
use Rattle.sj_world.proofs.Subtyped.{failed}
use Rattle.sj_world.proofs.Targets.{StandsBelow, below_all, not_below_all}
use Rattle.proxy_targets.proofs.proxies.is_below_all.Goals.{else-is_named_by-via-then-is_named_by+else-not-is_sub, else-is_named_by-via-else-is_named_by}
use Rattle.proxy_targets.proofs.proxies.is_below_all.Goals as goal

pub returns-then-not-is_sub : goal.returns-then-not-is_sub
returns-then-not-is_sub c = (λ h. cc, λ all. absurd (not_below_all c.args.world.now c.args.proxy.now c.args.methods.now c.args.tpe.now c.loop-method.method-index c.method-item.result (slice_get_read c.args.methods.now _ c.loop-method.method-index c.method-item.result refl (omega arith) c.method-item.is) (c.is_named_by.ensures.0 c.if-is_named_by.true) (failed c.is_sub.result c.is_sub.ensures (search rules)) all))

pub loop-method-preserved : goal.loop-method-preserved
loop-method-preserved c =
    let more = all_more (StandsBelow c.args.world.now c.args.proxy.now c.args.tpe.now) c.args.methods.now c.loop-method.method-index c.method-item.result c.loop-method.invariant (slice_get_read c.args.methods.now _ c.loop-method.method-index c.method-item.result refl (omega arith) c.method-item.is) in
    elim c.else-is_named_by.branch [
      | else-is_named_by-via-then-is_named_by+else-not-is_sub w ↦ more (λ named. w.is_sub.ensures.0 (search rules))
      | else-is_named_by-via-else-is_named_by w ↦ more (λ named. absurd (failed c.is_named_by.result c.is_named_by.ensures w.if-is_named_by.false named))
    ]

pub returns : goal.returns
returns c = (λ h. below_all c.args.world.now c.args.proxy.now c.args.methods.now c.args.tpe.now c.loop-method.method-index c.loop-method.invariant (omega arith), λ all. refl)
