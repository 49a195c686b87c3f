use Rattle.sj_emit_class_parts.proofs.tests.cast_piece.Goals as goal

pub returns : goal.returns
returns c = c.piece.ensures _ _ _ _ (c.bound.ensures _ c.class_binding.ensures) (c.two_bindings.ensures _ _ (c.bound-2.ensures _ c.class_binding-2.ensures) c.helper_binding.ensures) (c.function.ensures _ _ _ c.class_binding-3.ensures c.one_parameter.ensures (c.only_return.ensures _ c.cast_value.ensures))
