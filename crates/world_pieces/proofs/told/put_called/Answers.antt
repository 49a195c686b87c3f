use Rattle.std.proofs.lemmas.Result.{on_ok_weaker}
use Rattle.world_pieces.proofs.ToldPieces.{puts_called}
use Rattle.world_pieces.proofs.told.put_called.Goals as goal

pub returns-in-Called : goal.returns-in-Called
returns-in-Called c = on_ok_weaker _ (puts_called c.args.words.now.keys c.args.fact.now c.in-Called.field-0 c.in-Called.method _ _ c.in-Called.is) c.put_used.ensures
