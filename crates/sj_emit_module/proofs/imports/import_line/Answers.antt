use Rattle.std.proofs.Common.{◌∙◌}
use Rattle.sj_emit_module_spec.specs.Modules.{names_in}
use Rattle.sj_emit_module.proofs.Held.{set_in_order}
use Rattle.sj_emit_module.specs.Groups.{names_at}
use Rattle.sj_emit_module.proofs.imports.import_line.Goals as goal

pub returns : goal.returns
returns c file_of bs held = λ i. record {
  names = (c.from_vec.ensures ∙ c.in_ok-names.ensures ∙ set_in_order (names_at c.args.groups.now c.args.source.now) (names_in file_of c.args.source.now bs) (held.names c.args.source.now)) i;
  file = c.in_ok-copied.ensures i;
}
