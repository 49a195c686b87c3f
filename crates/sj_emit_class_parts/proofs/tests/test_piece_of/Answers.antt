use Rattle.sj_emit_class_parts.proofs.tests.test_piece_of.Goals as goal

pub returns : goal.returns
returns c = c.piece.ensures _ _ _ _ (c.bound.ensures _ c.class_binding.ensures) c.test_uses.ensures (c.function.ensures _ _ _ c.class_binding-2.ensures c.one_parameter.ensures (c.only_return.ensures _ c.instance_test.ensures))
