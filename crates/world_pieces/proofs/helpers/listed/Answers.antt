use Rattle.std.proofs.Common.{◌∙◌, ap, get_or, sym}
use Rattle.std.proofs.lemmas.Option.{slice_get-get_or}
use Rattle.sj_emit_help_spec.specs.declared.kinds.Helper.{Helper}
use Rattle.sj_emit_help_spec.specs.declared.kinds.Kind.{Kind}
use Rattle.world_pieces.specs.Helpers.{is_found}
use Rattle.world_pieces.proofs.Used.{all_listed, one_listed, one_left_out}
use Rattle.world_pieces.proofs.helpers.listed.Goals as goal
use Rattle.world_pieces.proofs.helpers.listed.Goals.{then-contains+in_ok-push, else-contains}

pub loop-helper-init : goal.loop-helper-init
loop-helper-init c = c.new-helpers.ensures.items

pub loop-helper-preserved : goal.loop-helper-preserved
loop-helper-preserved c =
    let item = get_or c.all_helpers-all.result.now c.loop-helper.helper-index (Helper.TestOf Kind.Undefined) in
    let at = slice_get-get_or c.all_helpers-all.result.now c.loop-helper.helper-index (Helper.TestOf Kind.Undefined) c.loop-helper-test.true in
    elim c.if-contains.branch [
      | then-contains+in_ok-push w ↦ one_listed (is_found c.args.found.now.keys) c.all_helpers-all.result.now c.loop-helper.helper-index item c.loop-helper.helpers.items _ at (sym c.contains.ensures ∙ w.if-contains.true) c.loop-helper.invariant (ap (λ v. v.items) w.helpers-is ∙ w.in_ok-push.ensures.items)
      | else-contains w ↦ ap (λ v. v.items) w.helpers-is ∙ one_left_out (is_found c.args.found.now.keys) c.all_helpers-all.result.now c.loop-helper.helper-index item c.loop-helper.helpers.items at (sym c.contains.ensures ∙ w.if-contains.false) c.loop-helper.invariant
    ]

pub returns : goal.returns
returns c = all_listed (is_found c.args.found.now.keys) c.all_helpers-all.result.now _ c.loop-helper.helper-index _ c.loop-helper-test.false c.all_helpers-all.ensures c.loop-helper.invariant
