-- A tree is of objects where it is one of an object by its form, and its parts are of objects.
use Rattle.sj_emit_expr_pieces.specs.Owners.{OnObjects}
use Rattle.sj_trees.specs.Term.{Term, assign, select, select_static, array_length, array_select, var_ref}
use Rattle.tree_parts.specs.Parts.{parts_of}
use Rattle.world_vectors.specs.Objects.{IsOfObject, PartsOnObjects}

pub on_objects : (t : Term) → IsOfObject t → PartsOnObjects (parts_of t) → OnObjects t
on_objects (assign p (var_ref q x t) e) own h = h.1
on_objects (assign p (select q d c f t) e) own h = (h.0.0, h.0.1, h.1)
on_objects (assign p (select_static q c f t) e) own h = h.1
on_objects (assign p (array_select q d i t) e) own h = (h.0.0, h.0.1, h.0.2, h.1)
on_objects (assign p d e) own h = tt
on_objects (select p e c f t) own h = (own, h)
on_objects (array_length p e) own h = (own, h)
on_objects (array_select p e i t) own h = (own, h.0, h.1)
on_objects t own h = h
