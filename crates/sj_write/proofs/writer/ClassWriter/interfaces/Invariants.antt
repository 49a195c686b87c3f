use Rattle.std.proofs.Common.{◌≡◌, drop}
use Rattle.sj_write_spec.specs.Fields.{each, name_field}
use Rattle.sj_write.specs.Writing.{put}
use Rattle.sj_write.proofs.writer.ClassWriter.interfaces.Given as goal

abbrev pub invariant-loop-each : goal.invariant-loop-each
invariant-loop-each l = put (each name_field (drop l.each-index l.interfaces)) l.self ≡ put (each name_field l.interfaces) l.initial.self
