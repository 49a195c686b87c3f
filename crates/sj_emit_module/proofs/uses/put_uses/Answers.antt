use Rattle.std.proofs.Common.{◌++◌, ◌∙◌, ap, List, [], sym}
use Rattle.std.specs.Prelude.{if◌then◌else◌}
use Rattle.js_tree.specs.Views.{piece_view}
use Rattle.js_tree.specs.declared.items.Binding.{Binding}
use Rattle.sj_emit_module.specs.Files.{file_in}
use Rattle.sj_emit_module.specs.Lists.{items_at}
use Rattle.sj_split.specs.Orders.{is_same}
use Rattle.sj_emit_module.proofs.Put.{uses_put, no_uses}
use Rattle.sj_emit_module.proofs.uses.put_uses.Goals as goal

pub returns-in_ok-put_bindings-in-Some : goal.returns-in_ok-put_bindings-in-Some
returns-in_ok-put_bindings-in-Some c f = uses_put (file_in c.args.files.now) (piece_view c.args.piece.now) c.in-Some.file.now (sym c.in-Some.ensures) f (items_at c.args.lists.now f) _ (c.in_ok-put_bindings-in-Some.ensures f ∙ ap (λ (bs : List Binding). items_at c.args.lists.now f ++ (if is_same c.in-Some.file.now f then bs else [])) c.as_slice.ensures)

pub returns-in-None : goal.returns-in-None
returns-in-None c f = no_uses (file_in c.args.files.now) (piece_view c.args.piece.now) (sym c.in-None.ensures) f (items_at c.args.lists.now f)
