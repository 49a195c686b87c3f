use Rattle.std.proofs.Common.{◌++◌, List, map, subst}
use Rattle.std.specs.List.{flat_map}
use Rattle.std.proofs.lemmas.Result.{IfOk-weaker}
use Rattle.js_tree.specs.Views.{piece_view}
use Rattle.sj_world.specs.Known.{Classes}
use Rattle.world_pieces.specs.Blocks.{pieces_in}
use Rattle.world_pieces.specs.Told.{HaveHelpers}
use Rattle.world_pieces.proofs.UsedWords.{words_with}
use Rattle.world_pieces.proofs.behind.behind_object.Goals as goal

pub returns-clause-pieces : goal.returns-clause-pieces
returns-clause-pieces c =
    let ps = flat_map pieces_in c.args.blocks.now in
    let told = map piece_view c.in_ok-told.told.items in
    let words = words_with ps told c.in_ok-words.words.keys c.put_words.new.words.keys c.in_ok-words.ensures (rw c.deref.ensures.value at c.in_ok-put_words.ensures) in
    IfOk-weaker c.with_helpers.result _ _ (λ qs have. record { told = told; are_told = c.in_ok-told.ensures.pieces ps c.in_ok-words.ensures; have_helpers = subst (λ (w : Classes). HaveHelpers w (ps ++ told) told (map piece_view qs.items)) c.world.ensures have }) (c.with_helpers.ensures.pieces (ps ++ told) words)

pub returns-clause-rules : goal.returns-clause-rules
returns-clause-rules c = c.with_helpers.ensures.rules c.in_ok-told.ensures.rules
