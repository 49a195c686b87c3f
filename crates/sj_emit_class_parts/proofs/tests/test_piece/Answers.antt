use Rattle.sj_emit_class_parts.proofs.tests.test_piece.Goals as goal

pub returns : goal.returns
returns c = rw c.kind_of_class.ensures at c.test_piece_of.ensures
