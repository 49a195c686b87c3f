use Rattle.std.proofs.Common.{refl, sym, ◌∙◌}
use Rattle.sj_ask.proofs.Above.{by_name, by_object, rest_tested}
use Rattle.sj_ask.proofs.hijacked.has_hijacked.Goals as goal

pub returns-then-is_hijacked : goal.returns-then-is_hijacked
returns-then-is_hijacked c = (λ t. by_name c.args.world.now c.args.class.now c.text.result.now c.text.ensures.text (sym c.is_hijacked.ensures ∙ c.if-is_hijacked.true), λ a. refl)

pub returns-then-eq : goal.returns-then-eq
returns-then-eq c = (λ t. by_object c.args.world.now c.args.class.now c.text-2.result.now c.text-2.ensures.text (sym c.eq.ensures ∙ c.if-eq.true), λ a. refl)

pub returns : goal.returns
returns c = rest_tested c.args.world.now c.args.class.now c.text.result.now c.text-2.result.now c.is_above_one.result c.text.ensures.text c.text-2.ensures.text (sym c.is_hijacked.ensures ∙ c.if-is_hijacked.false) (sym c.eq.ensures ∙ c.if-eq.false) c.is_above_one.ensures
