use Rattle.sj_mangling.specs.Bindings.{method_binding}
use Rattle.world_pieces.proofs.UsedWords.{word_among}
use Rattle.world_pieces.proofs.method_names.is_used.Goals as goal

pub returns : goal.returns
returns c = word_among c.args.words.now.keys (method_binding c.args.binding c.args.method.now) c.in_ok-name.name c.contains.result c.in_ok-name.ensures c.contains.ensures
