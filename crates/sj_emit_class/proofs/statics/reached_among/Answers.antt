use Rattle.std.proofs.Common.{List, [], map, sym, subst}
use Rattle.sj_emit_class_spec.specs.Classes as classes
use Rattle.sj_emit_class_spec.specs.Classes.{AreReached}
use Rattle.sj_emit_class.proofs.Parts.{field_of}
use Rattle.sj_trees.specs.declared.classes.FieldDef.{FieldDef}
use denote.Ref.{Bor}
use Rattle.sj_emit_class.proofs.statics.reached_among.Goals as goal

pub loop-field-init : goal.loop-field-init
loop-field-init c = subst (λ (fs : List (Bor FieldDef)). AreReached c.args.w.now.facts c.args.class.now [] (map field_of fs)) (sym c.new-reached.ensures.items) classes.AreReached.none_yet
