-- The cases that the code is handed, as the definitions see them.
use Rattle.sj_emit_class_spec.specs.Dispatch as rules
use Rattle.sj_emit_class_parts.specs.declared.dispatch.Told.{Told}
use Rattle.sj_emit_class_parts.specs.declared.dispatch.Reflected.{Reflected}

abbrev pub told_view : Told → rules.Told
told_view t = record { kind = t.kind; owner = t.owner }

abbrev pub reflected_view : Reflected → rules.Reflected
reflected_view t = record { kind = t.kind; owner = t.owner; method = t.method }
