use Rattle.std.proofs.Common.{◌≡◌, drop}
use Rattle.std.specs.List.{flat_map}
use Rattle.sj_write_spec.specs.References.{names_in_reference}
use Rattle.sj_write.specs.Writing.{all_entered}
use Rattle.sj_write.proofs.writer.ClassWriter.enter_parameters.Given as goal

abbrev pub invariant-loop-each : goal.invariant-loop-each
invariant-loop-each l = all_entered (flat_map names_in_reference (drop l.each-index l.parameters)) l.self ≡ all_entered (flat_map names_in_reference l.parameters) l.initial.self
