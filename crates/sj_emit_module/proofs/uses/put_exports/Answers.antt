use Rattle.std.proofs.Common.{◌++◌, filter, List, subst, sym}
use Rattle.js_tree.specs.Views.{piece_view}
use Rattle.js_tree.specs.declared.items.Binding.{Binding}
use Rattle.sj_emit_module_spec.specs.Modules.{is_bound_elsewhere}
use Rattle.sj_emit_module.specs.Files.{file_in}
use Rattle.sj_emit_module.specs.Groups.{HoldNames}
use Rattle.sj_emit_module.proofs.Put.{crossing_put, no_crossing}
use Rattle.sj_emit_module.proofs.uses.put_exports.Goals as goal

pub returns-in_ok-add_uses-in-Some : goal.returns-in_ok-add_uses-in-Some
returns-in_ok-add_uses-in-Some c bs held = crossing_put (file_in c.args.files.now) (piece_view c.args.piece.now) c.in-Some.file.now (sym c.in-Some.ensures) bs _ (subst (λ (l : List Binding). HoldNames (file_in c.args.files.now) (bs ++ filter (is_bound_elsewhere (file_in c.args.files.now) c.in-Some.file.now) l) c.add_uses.new.groups) c.as_slice.ensures (c.in_ok-add_uses-in-Some.ensures bs held))

pub returns-in-None : goal.returns-in-None
returns-in-None c bs held = no_crossing (file_in c.args.files.now) (piece_view c.args.piece.now) (sym c.in-None.ensures) bs _ held
