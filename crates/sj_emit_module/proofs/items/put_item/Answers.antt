use Rattle.std.proofs.Common.{ap, sym}
use Rattle.js_tree.specs.Views.{item_view, piece_view}
use Rattle.sj_emit_module.specs.Files.{file_in}
use Rattle.sj_emit_module.specs.Lists.{items_at}
use Rattle.sj_emit_module.proofs.Put.{item_put, no_item}
use Rattle.sj_emit_module.proofs.items.put_item.Goals as goal

pub returns-in_ok-put-in-Some : goal.returns-in_ok-put-in-Some
returns-in_ok-put-in-Some c f = item_put (file_in c.args.files.now) (piece_view c.args.piece.now) c.in-Some.file.now (sym c.in-Some.ensures) f (λ i. item_view i.value) c.in_ok-clone-in-Some.field-0 (items_at c.args.lists.now f) _ (ap item_view c.in_ok-clone-in-Some.ensures.cases) (c.in_ok-put-in-Some.ensures f)

pub returns-in-None : goal.returns-in-None
returns-in-None c f = no_item (file_in c.args.files.now) (piece_view c.args.piece.now) (sym c.in-None.ensures) f (λ i. item_view i.value) (items_at c.args.lists.now f)
