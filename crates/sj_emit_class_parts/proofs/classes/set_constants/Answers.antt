use Rattle.sj_emit_class_parts.proofs.classes.set_constants.Goals as goal

pub returns : goal.returns
returns c = c.set_property.ensures _ _ c.text.ensures (c.name_of.ensures _ c.class_binding.ensures)
