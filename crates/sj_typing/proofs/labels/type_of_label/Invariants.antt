use Rattle.std.proofs.Common.{◌≡◌, drop}
use Rattle.std.specs.Prelude.{option_map}
use Rattle.sj_typing_spec.specs.Labels.{label_type, type_of_label}
use Rattle.sj_typing.proofs.labels.type_of_label.Given as goal

abbrev pub invariant-loop-label : goal.invariant-loop-label
invariant-loop-label l = label_type (drop l.label-index l.labels) l.name (option_map (λ t. t.now) l.found) ≡ type_of_label l.labels l.name
