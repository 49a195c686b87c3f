use Rattle.std.proofs.Common.{◌≡◌, drop}
use Rattle.sj_write_spec.specs.Fields.{each}
use Rattle.sj_write_spec.specs.Classes.{field_fields}
use Rattle.sj_write.specs.Writing.{put}
use Rattle.sj_write_spec.specs.Fields.{HasFiles}
use Rattle.sj_write.proofs.writer.ClassWriter.fields.Given as goal

abbrev pub invariant-loop-each : goal.invariant-loop-each
invariant-loop-each l = (put (each (field_fields l.files) (drop l.each-index l.fields)) l.self ≡ put (each (field_fields l.files) l.fields) l.initial.self) × HasFiles (each (field_fields l.files) (drop l.each-index l.fields))
