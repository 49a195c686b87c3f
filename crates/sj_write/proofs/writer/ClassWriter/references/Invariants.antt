use Rattle.std.proofs.Common.{◌≡◌, drop}
use Rattle.sj_write_spec.specs.Fields.{each}
use Rattle.sj_write_spec.specs.References.{reference_fields}
use Rattle.sj_write.specs.Writing.{put}
use Rattle.sj_write.proofs.writer.ClassWriter.references.Given as goal

abbrev pub invariant-loop-each : goal.invariant-loop-each
invariant-loop-each l = put (each reference_fields (drop l.each-index l.references)) l.self ≡ put (each reference_fields l.references) l.initial.self
