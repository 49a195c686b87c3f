use Rattle.std.proofs.Common.{◌∙◌}
use Rattle.sj_emit_help_spec.specs.Helpers.{helper_name}
use Rattle.world_pieces.proofs.UsedWords.{word_among}
use Rattle.world_pieces.proofs.helpers.is_named.Goals as goal

pub returns : goal.returns
returns c = word_among c.args.words.now.keys (helper_name c.args.helper) c.in_ok-name.name c.contains.result (c.in_ok-name.ensures ∙ c.helper_name.ensures) c.contains.ensures
