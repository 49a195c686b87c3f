use Rattle.std.proofs.Common.{refl, sym, subst, arith}
use Rattle.std.proofs.lemmas.Option.{slice_get_read}
use Rattle.proxy_targets.proofs.Named.{NamesFirst, names_begin, names_go_on, named_least}
use Rattle.proxy_targets.proofs.proxies.names_of_least.Goals as goal

pub loop-method-init : goal.loop-method-init
loop-method-init c = subst (NamesFirst _ c.args.methods.now 0) (sym c.new-names.ensures.items) (names_begin _ _)

pub loop-method-preserved : goal.loop-method-preserved
loop-method-preserved c = names_go_on _ c.args.methods.now c.loop-method.method-index c.method-item.result _ _ (slice_get_read c.args.methods.now _ c.loop-method.method-index c.method-item.result refl (omega arith) c.method-item.is) c.loop-method.invariant c.in_ok-put_if_least.ensures

pub returns : goal.returns
returns c = named_least c.args.proxy.now c.args.methods.now c.loop-method.method-index c.loop-method.names.items (omega arith) c.loop-method.invariant
