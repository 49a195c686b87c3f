use Rattle.std.proofs.Common.{map}
use Rattle.js_tree.specs.Views.{piece_view}
use Rattle.folder_linking.proofs.Printed.{first_files}
use Rattle.folder_linking.proofs.modules.printed_files.Goals as goal

pub printed_file-requires-clause-printable : goal.printed_file-requires-clause-printable
printed_file-requires-clause-printable c = record { pieces = map piece_view c.args.pieces.now; are = c.in_ok-shares.ensures; rules = c.requires }

pub loop-which-preserved : goal.loop-which-preserved
loop-which-preserved c = first_files c.args.plan.now (map piece_view c.args.pieces.now) c.loop-which.which _ _ c.in_ok-file.file c.in_ok-push.ensures.items c.loop-which.invariant (c.in_ok-file.ensures (map piece_view c.args.pieces.now) c.in_ok-shares.ensures)
