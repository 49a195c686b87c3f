use Rattle.std.proofs.Common.{Contains, refl, arith}
use Rattle.std.proofs.lemmas.Option.{slice_get_read}
use Rattle.sj_baselink.proofs.Putting.{each_begins, each_goes_on, each_ends}
use Rattle.sj_baselink.proofs.proxies.put_proxies_of.Goals as goal

pub loop-proxy-init : goal.loop-proxy-init
loop-proxy-init c = each_begins Contains _ _ _

pub loop-proxy-preserved : goal.loop-proxy-preserved
loop-proxy-preserved c = each_goes_on Contains _ c.args.proxies.now c.loop-proxy.proxy-index c.proxy-item.result _ _ _ (slice_get_read c.args.proxies.now _ c.loop-proxy.proxy-index c.proxy-item.result refl (omega arith) c.proxy-item.is) c.loop-proxy.invariant c.in_ok-put_proxy.ensures

pub returns : goal.returns
returns c = each_ends Contains _ c.args.proxies.now c.loop-proxy.proxy-index _ _ (omega arith) c.loop-proxy.invariant
