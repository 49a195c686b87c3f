use Rattle.std.proofs.Common.{sym, subst, arith, Contains, take, refl}
use Rattle.std.proofs.lemmas.Option.{slice_get_read}
use Rattle.sj_world.proofs.Names.{Names, taken_more, taken_whole}
use Rattle.sj_world.proofs.Lined.{Lined, lined_more, lined_whole, named_is_known}
use Rattle.sj_world.proofs.lines.all_lines.Goals as goal

pub add_line-requires-clause-known : goal.add_line-requires-clause-known
add_line-requires-clause-known c = named_is_known c.args.classes.now c.name-item.result (subst (λ (l : Names). Contains l c.name-item.result) c.requires.known (c.loop-name.name-index, omega arith, sym c.name-item.is))

pub loop-name-preserved : goal.loop-name-preserved
loop-name-preserved c = subst (λ (l : Names). Lined c.args.classes.now l c.add_line.new.lines) (sym (taken_more c.args.names.now c.loop-name.name-index c.name-item.result (slice_get_read c.args.names.now _ c.loop-name.name-index c.name-item.result refl (omega arith) c.name-item.is))) (lined_more c.args.classes.now (take c.loop-name.name-index c.args.names.now) c.name-item.result c.loop-name.lines c.add_line.new.lines c.loop-name.invariant (named_is_known c.args.classes.now c.name-item.result (subst (λ (l : Names). Contains l c.name-item.result) c.requires.known (c.loop-name.name-index, omega arith, sym c.name-item.is))) c.in_ok-add_line.ensures)

pub returns : goal.returns
returns c = lined_whole c.args.classes.now c.loop-name.lines (subst (λ (l : Names). Lined c.args.classes.now l c.loop-name.lines) c.requires.known (subst (λ (l : Names). Lined c.args.classes.now l c.loop-name.lines) (taken_whole c.args.names.now c.loop-name.name-index (omega arith) (omega arith)) c.loop-name.invariant))
