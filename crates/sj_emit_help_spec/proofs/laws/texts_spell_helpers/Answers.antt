use Rattle.sj_emit_help_spec.proofs.Read.{text_spells}
use Rattle.sj_emit_help_spec.proofs.laws.texts_spell_helpers.Goals as goal

pub returns : goal.returns
returns c = text_spells
