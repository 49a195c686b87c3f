use Rattle.std.proofs.Common.{◌+◌, refl, arith, sym, subst, Option, Bor, option_map}
use Rattle.std.proofs.lemmas.Option.{slice_get_read}
use Rattle.sj_trees.specs.declared.classes.MethodDef.{MethodDef}
use Rattle.sj_world.proofs.Subtyped.{failed}
use Rattle.sj_world.proofs.Targets.{LeastYet, IsLeastYet, least_goes_on, least_stays, least_ends, through}
use Rattle.sj_world.proofs.reflective.least_named.Goals.{then-is_named_by, else-is_named_by}
use Rattle.sj_world.proofs.reflective.least_named.Goals as goal

pub loop-method-preserved : goal.loop-method-preserved
loop-method-preserved c =
    let at = (slice_get_read c.args.methods.now _ c.loop-method.method-index c.method-item.result refl (omega arith) c.method-item.is) in
    let before = option_map (λ (d : Bor MethodDef). d.now) c.loop-method.least in
    elim c.if-is_named_by.branch [
      | then-is_named_by w ↦ subst (λ (o : Option (Bor MethodDef)). LeastYet c.args.proxy.now c.args.methods.now (c.loop-method.method-index + 1) (option_map (λ (d : Bor MethodDef). d.now) o)) (sym w.least-is) (subst (IsLeastYet c.args.proxy.now c.args.methods.now (c.loop-method.method-index + 1)) (sym w.lesser.ensures) (least_goes_on c.args.proxy.now c.args.methods.now c.loop-method.method-index c.method-item.result at before c.loop-method.invariant (c.is_named_by.ensures.0 w.if-is_named_by.true)))
      | else-is_named_by w ↦ subst (λ (o : Option (Bor MethodDef)). LeastYet c.args.proxy.now c.args.methods.now (c.loop-method.method-index + 1) (option_map (λ (d : Bor MethodDef). d.now) o)) (sym w.least-is) (least_stays c.args.proxy.now c.args.methods.now c.loop-method.method-index c.method-item.result at before c.loop-method.invariant (failed c.is_named_by.result c.is_named_by.ensures w.if-is_named_by.false))
    ]

pub returns : goal.returns
returns c = through (λ (d : Bor MethodDef). d.now) c.loop-method.least _ _ (least_ends c.args.proxy.now c.args.methods.now c.loop-method.method-index (option_map (λ (d : Bor MethodDef). d.now) c.loop-method.least) c.loop-method.invariant (omega arith))
