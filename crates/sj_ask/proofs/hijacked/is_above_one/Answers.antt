use Rattle.std.proofs.Common.{refl}
use Rattle.sj_ask.specs.Hijacked.{void, boolean, character, integer, long}
use Rattle.sj_ask.proofs.Above.{last_tested}
use Rattle.sj_ask.proofs.hijacked.is_above_one.Goals as goal

pub returns-then-is_above : goal.returns-then-is_above
returns-then-is_above c = (λ t. void (c.is_above.ensures.0 c.if-is_above.true), λ o. refl)

pub returns-then-is_above-2 : goal.returns-then-is_above-2
returns-then-is_above-2 c = (λ t. boolean (c.is_above-2.ensures.0 c.if-is_above-2.true), λ o. refl)

pub returns-then-is_above-3 : goal.returns-then-is_above-3
returns-then-is_above-3 c = (λ t. character (c.is_above-3.ensures.0 c.if-is_above-3.true), λ o. refl)

pub returns-then-is_above-4 : goal.returns-then-is_above-4
returns-then-is_above-4 c = (λ t. integer (c.is_above-4.ensures.0 c.if-is_above-4.true), λ o. refl)

pub returns-then-is_above-5 : goal.returns-then-is_above-5
returns-then-is_above-5 c = (λ t. long (c.is_above-5.ensures.0 c.if-is_above-5.true), λ o. refl)

pub returns : goal.returns
returns c = last_tested c.args.world.now c.args.class.now c.is_above.result c.is_above-2.result c.is_above-3.result c.is_above-4.result c.is_above-5.result c.is_above-6.result c.is_above.ensures c.is_above-2.ensures c.is_above-3.ensures c.is_above-4.ensures c.is_above-5.ensures c.is_above-6.ensures c.if-is_above.false c.if-is_above-2.false c.if-is_above-3.false c.if-is_above-4.false c.if-is_above-5.false
