-- The parts of a class that the code is handed, as the definitions see them.
use Rattle.std.specs.Prelude.{map}
use Rattle.sj_emit_class_spec.specs.Pieces.{Parts}
use Rattle.sj_emit_class_parts.specs.declared.parts.ClassParts.{ClassParts}

abbrev pub parts_view : ClassParts → Parts
parts_view p = record {
  class = p.class.now;
  ancestors = p.ancestors.now;
  entries = map (λ e. e.now) p.entries.items;
  fields = map (λ f. f.now) p.fields.items;
  statics = map (λ f. f.now) p.statics.items;
  instances = p.instances.items;
  is_live = p.is_live;
  is_base = p.is_base;
  is_loaded = p.is_loaded;
  is_stored = p.is_stored;
  is_tested = p.is_tested;
  is_cast = p.is_cast;
}
