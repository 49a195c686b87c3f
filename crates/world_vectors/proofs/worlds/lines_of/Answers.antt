use Rattle.world_vectors.proofs.Kept.{each_kept}
use Rattle.world_vectors.proofs.worlds.lines_of.Goals as goal

pub line_of-requires : goal.line_of-requires
line_of-requires c = each_kept c.args.pieces.now c.loop-piece.piece-index c.piece-item.result c.loop-piece-test.true c.piece-item.is c.requires
