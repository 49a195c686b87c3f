use Rattle.std.proofs.Common.{◌≡◌, ◌++◌, drop, map}
use Rattle.std.specs.List.{filter}
use Rattle.sj_emit_class_spec.specs.Classes.{is_own}
use Rattle.sj_emit_class.proofs.fields.of_instances.Given as goal

abbrev pub invariant-loop-field : goal.invariant-loop-field
invariant-loop-field l = map (λ f. f.now) l.own.items ++ filter is_own (drop l.field-index l.fields) ≡ filter is_own l.fields
