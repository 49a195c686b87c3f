use Rattle.std.proofs.Common.{◌≡◌, drop}
use Rattle.sj_write_spec.specs.Fields.{each}
use Rattle.sj_write_spec.specs.References.{method_name_fields}
use Rattle.sj_write.specs.Writing.{put}
use Rattle.sj_write.proofs.writer.ClassWriter.method_names.Given as goal

abbrev pub invariant-loop-each : goal.invariant-loop-each
invariant-loop-each l = put (each method_name_fields (drop l.each-index l.methods)) l.self ≡ put (each method_name_fields l.methods) l.initial.self
