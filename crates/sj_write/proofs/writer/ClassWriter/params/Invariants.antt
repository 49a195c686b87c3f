use Rattle.std.proofs.Common.{◌≡◌, drop}
use Rattle.sj_write_spec.specs.Fields.{each}
use Rattle.sj_write_spec.specs.Classes.{param_fields}
use Rattle.sj_write.specs.Writing.{put}
use Rattle.sj_write.proofs.writer.ClassWriter.params.Given as goal

abbrev pub invariant-loop-each : goal.invariant-loop-each
invariant-loop-each l = put (each param_fields (drop l.each-index l.params)) l.self ≡ put (each param_fields l.params) l.initial.self
