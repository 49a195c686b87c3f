use Rattle.std.proofs.Common.{◌≡◌, drop}
use Rattle.std.specs.Int.{w32}
use Rattle.sj_write_spec.specs.Fields.{each, signed}
use Rattle.sj_write.specs.Writing.{put}
use Rattle.sj_write.proofs.writer.ClassWriter.keys.Given as goal

abbrev pub invariant-loop-each : goal.invariant-loop-each
invariant-loop-each l = put (each (signed w32 4) (drop l.each-index l.keys)) l.self ≡ put (each (signed w32 4) l.keys) l.initial.self
