use Rattle.std.proofs.Common.{◌∙◌, sym}
use Rattle.sj_emit_help_spec.specs.Words.{object_class}
use Rattle.sj_baselink.proofs.Putting.{puts_key}
use Rattle.sj_world.proofs.Orders.{same_name}
use Rattle.sj_world.specs.Known.{is_same}
use Rattle.world_pieces.proofs.UsedWords.{own_word}
use Rattle.world_pieces.proofs.words.put_use.Goals as goal

pub returns-in_ok-insert : goal.returns-in_ok-insert
returns-in_ok-insert c = own_word c.args.binding.now c.args.words.now.keys _ (same_name c.args.binding.now.owner object_class (sym c.is_object.ensures ∙ c.if-is_object.true)) (puts_key is_same same_name c.args.words.now.keys _ c.in_ok-copied.field-0 c.args.binding.now.name c.in_ok-copied.ensures c.in_ok-insert.ensures.keys)
