-- What the types of the parts of a class say: names are texts of bytes.
use Rattle.std.specs.Prelude.{All, IfSome}
use Rattle.sj_emit_class_spec.specs.Dispatch as dispatch
use Rattle.sj_emit_class_spec.specs.Pieces.{Parts}
use Rattle.sj_emit_expr_pieces.specs.Ranges.{AreBytes, FitsMethodName, FitsMember}
use Rattle.sj_trees.specs.declared.classes.FieldDef.{FieldDef}
use Rattle.sj_world.specs.declared.linked.MethodEntry.{MethodEntry}

abbrev pub FitsEntry : MethodEntry → Type 0
FitsEntry e = FitsMethodName e.name × FitsMember e.target

abbrev pub FitsField : FieldDef → Type 0
FitsField f = AreBytes f.name

pub record FitParts (p : Parts) : Type 0 where
  pub class : AreBytes p.class.name
  pub superclass : IfSome p.class.superclass AreBytes
  pub ancestors : All AreBytes p.ancestors
  pub entries : All FitsEntry p.entries
  pub fields : All FitsField p.fields
  pub statics : All FitsField p.statics

abbrev pub FitTold : dispatch.Told → Type 0
FitTold t = AreBytes t.owner

abbrev pub FitReflected : dispatch.Reflected → Type 0
FitReflected t = AreBytes t.owner × FitsMethodName t.method
