use Rattle.std.proofs.Common.{◌≡◌, drop}
use Rattle.sj_write_spec.specs.Fields.{each}
use Rattle.sj_write_spec.specs.Classes.{method_fields}
use Rattle.sj_write.specs.Writing.{put}
use Rattle.sj_write_spec.specs.Fields.{HasFiles}
use Rattle.sj_write.proofs.writer.ClassWriter.methods.Given as goal

abbrev pub invariant-loop-each : goal.invariant-loop-each
invariant-loop-each l = (put (each (method_fields l.files) (drop l.each-index l.methods)) l.self ≡ put (each (method_fields l.files) l.methods) l.initial.self) × HasFiles (each (method_fields l.files) (drop l.each-index l.methods))
