use Rattle.std.proofs.Common.{Err, ap, ◌∙◌, subst, sym, []}
use Rattle.js_tree.specs.Spelling.{Spells}
use Rattle.sj_emit_help_spec.specs.Helpers.{helper_item}
use Rattle.sj_emit_help_spec.specs.Texts.{only_item}
use Rattle.sj_emit_help_spec.proofs.Read.{text_spells}
use Rattle.sj_emit_help.proofs.Fixed.{was_read, one_item}
use Rattle.sj_emit_help.proofs.pieces.fixed_item.Goals as goal

pub only_item_of-requires : goal.only_item_of-requires
only_item_of-requires c =
    let spelled = subst (Spells (only_item (helper_item (λ k. []) c.args.helper))) (sym (c.as_bytes.ensures.value ∙ c.helper_text.ensures)) (text_spells (λ k. []) c.args.helper c.requires) in
    one_item c.in-Ok.module _ (was_read c.in-Ok.module _ _ (c.in-Ok.ensures.only _ spelled))

pub unreachable-requires : goal.unreachable-requires
unreachable-requires c =
    let spelled = subst (Spells (only_item (helper_item (λ k. []) c.args.helper))) (sym (c.as_bytes.ensures.value ∙ c.helper_text.ensures)) (text_spells (λ k. []) c.args.helper c.requires) in
    c.read_module.ensures.nothing _ _ (c.in-Err-BadJs.is ∙ ap (λ e. Err e) c.in-Err-BadJs.field-0-is) spelled

pub returns-in-Ok : goal.returns-in-Ok
returns-in-Ok c = λ above.
    let spelled = subst (Spells (only_item (helper_item above c.args.helper))) (sym (c.as_bytes.ensures.value ∙ c.helper_text.ensures)) (text_spells above c.args.helper c.requires) in
    c.only_item_of.ensures _ (was_read c.in-Ok.module _ _ (c.in-Ok.ensures.only _ spelled))
