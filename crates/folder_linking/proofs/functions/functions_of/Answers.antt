use Rattle.std.proofs.Common.{◌+◌, ◌∙◌, ap, arith, length, map, refl, sym, subst}
use Rattle.std.specs.Prelude.{option_map}
use Rattle.std.proofs.lemmas.Option.{slice_get-map, slice_get_read}
use Rattle.std.proofs.lemmas.Result.{err_from_is_err_and}
use Rattle.sj_world.proofs.Searches.{contains_at}
use Rattle.folder_linking.specs.Counts.{Emits}
use Rattle.folder_linking.proofs.Bodies.{more_functions}
use Rattle.folder_linking.proofs.Counted.{emits_on, emits_end, emits_some}
use Rattle.folder_linking.proofs.functions.functions_of.Goals as goal

pub returns-in_err-function-clause-counted : goal.returns-in_err-function-clause-counted
returns-in_err-function-clause-counted g c =
    let p = err_from_is_err_and c.from_residual.result c.from_residual.ensures.1 in
    subst (λ r. Emits (length c.args.members.now) r (g.W.Workers.meter c.args.work.now) (g.W.Workers.meter c.function_of.new.work)) (sym p.1) (emits_end c.loop-member.member-index (length c.args.members.now) (g.W.Workers.meter c.args.work.now) _ _ (omega arith) c.loop-member.invariant.counted c.in_err-function.ensures.counted)

pub returns-in_err-push-clause-counted : goal.returns-in_err-push-clause-counted
returns-in_err-push-clause-counted g c =
    let p = err_from_is_err_and c.from_residual-in_err-push.result c.from_residual-in_err-push.ensures.1 in
    subst (λ r. Emits (length c.args.members.now) r (g.W.Workers.meter c.args.work.now) (g.W.Workers.meter c.function_of.new.work)) (sym p.1) (emits_some (c.loop-member.member-index + 1) (length c.args.members.now) (g.W.Workers.meter c.args.work.now) _ (omega arith) (emits_on c.loop-member.member-index (g.W.Workers.meter c.args.work.now) _ _ c.loop-member.invariant.counted c.in_ok-function.ensures.counted))

pub function_of-requires : goal.function_of-requires
function_of-requires g c = record { defined = c.requires.defined c.member-item.result.now (contains_at (map (λ m. m.now) c.args.members.now) c.loop-member.member-index c.member-item.result.now (slice_get-map (λ m. m.now) c.args.members.now c.loop-member.member-index ∙ ap (option_map (λ m. m.now)) (slice_get_read c.args.members.now _ c.loop-member.member-index c.member-item.result refl (omega arith) c.member-item.is))); in_order = c.requires.in_order; listed = c.requires.listed }

pub loop-member-preserved : goal.loop-member-preserved
loop-member-preserved g c = record {
  functions = more_functions c.args.linked.now.world (map (λ m. m.now) c.args.members.now) c.loop-member.member-index c.member-item.result.now c.in_ok-function.function _ _ (slice_get-map (λ m. m.now) c.args.members.now c.loop-member.member-index ∙ ap (option_map (λ m. m.now)) (slice_get_read c.args.members.now _ c.loop-member.member-index c.member-item.result refl (omega arith) c.member-item.is)) c.in_ok-function.ensures.function.0 c.in_ok-function.ensures.function.1 c.in_ok-push.ensures.items c.loop-member.invariant.functions;
  counted = emits_on c.loop-member.member-index (g.W.Workers.meter c.args.work.now) _ _ c.loop-member.invariant.counted c.in_ok-function.ensures.counted;
}
