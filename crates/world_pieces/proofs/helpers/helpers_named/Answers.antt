use Rattle.std.proofs.Common.{◌≤◌, List, [], Contains, get_or, length, subst}
use Rattle.std.proofs.lemmas.Option.{slice_get-get_or}
use Rattle.sj_baselink.specs.Steps.{Puts}
use Rattle.sj_baselink.proofs.Putting.{OfFirst, begins_empty, each_goes_on}
use Rattle.sj_emit_help_spec.specs.declared.kinds.Helper.{Helper}
use Rattle.sj_emit_help_spec.specs.declared.kinds.Kind.{Kind}
use Rattle.world_pieces.specs.Helpers.{IsNamed}
use Rattle.world_pieces.proofs.UsedWords.{named_helpers}
use Rattle.world_pieces.proofs.helpers.helpers_named.Goals as goal

pub loop-helper-init : goal.loop-helper-init
loop-helper-init c = begins_empty _ _ _ c.new-found.ensures.empty

pub loop-helper-preserved : goal.loop-helper-preserved
loop-helper-preserved c = each_goes_on Contains (IsNamed c.args.words.now.keys) c.all_helpers-all.result.now c.loop-helper.helper-index (get_or c.all_helpers-all.result.now c.loop-helper.helper-index (Helper.TestOf Kind.Undefined)) _ _ _ (slice_get-get_or c.all_helpers-all.result.now c.loop-helper.helper-index (Helper.TestOf Kind.Undefined) c.loop-helper-test.true) c.loop-helper.invariant c.in_ok-put_named.ensures

pub returns : goal.returns
returns c = named_helpers c.args.words.now.keys c.loop-helper.helper-index c.loop-helper.found.keys (subst (λ (l : List Helper). length l ≤ c.loop-helper.helper-index) c.all_helpers-all.ensures c.loop-helper-test.false) (subst (λ (l : List Helper). Puts (OfFirst l c.loop-helper.helper-index (IsNamed c.args.words.now.keys)) [] c.loop-helper.found.keys) c.all_helpers-all.ensures c.loop-helper.invariant)
