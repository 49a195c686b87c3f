use Rattle.std.proofs.lemmas.Result.{on_ok_weaker}
use Rattle.std.proofs.Common.{sym}
use Rattle.sj_reach.specs.Steps.{OfSeenInfo}
use Rattle.sj_reach.proofs.Adding.{adds_at}
use Rattle.sj_reach.proofs.infos.go_through_info.Goals as goal

pub returns-in-New : goal.returns-in-New
returns-in-New c = on_ok_weaker _ (adds_at (OfSeenInfo c.args.world.now c.args.seen.now) _ _ _ _ (sym c.in-New.is)) c.construct.ensures

pub returns-in-Load : goal.returns-in-Load
returns-in-Load c = on_ok_weaker _ (adds_at (OfSeenInfo c.args.world.now c.args.seen.now) _ _ _ _ (sym c.in-Load.is)) c.load.ensures

pub returns-in-Field : goal.returns-in-Field
returns-in-Field c = on_ok_weaker _ (adds_at (OfSeenInfo c.args.world.now c.args.seen.now) _ _ _ _ (sym c.in-Field.is)) c.use_field.ensures

pub returns-in-Static : goal.returns-in-Static
returns-in-Static c = on_ok_weaker _ (adds_at (OfSeenInfo c.args.world.now c.args.seen.now) _ _ _ _ (sym c.in-Static.is)) c.call_member.ensures

pub returns-in-Throws : goal.returns-in-Throws
returns-in-Throws c = on_ok_weaker _ (adds_at (OfSeenInfo c.args.world.now c.args.seen.now) _ _ _ _ (sym c.in-Throws.is)) c.throw.ensures
