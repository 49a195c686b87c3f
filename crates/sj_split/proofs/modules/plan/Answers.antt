use Rattle.std.proofs.Common.{sym, ◌∙◌, ap}
use Rattle.module_names.specs.Names.{sha1_digest, names_of}
use Rattle.sj_split.proofs.Planned.{names_length}
use Rattle.sj_split.proofs.modules.plan.Goals as goal

pub add_internal_modules-requires : goal.add_internal_modules-requires
add_internal_modules-requires c = names_length sha1_digest c.deref-7.result.now c.deref-8.result.now (c.deref-8.ensures.value ∙ c.in_ok-names.ensures ∙ ap (λ l. names_of sha1_digest l) (c.deref-3.ensures.value ∙ sym c.deref-7.ensures.value))
