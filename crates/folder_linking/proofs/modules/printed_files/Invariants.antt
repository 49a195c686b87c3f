use Rattle.std.proofs.Common.{map, take}
use Rattle.js_tree.specs.Views.{piece_view}
use Rattle.linked_modules.specs.Files.{AreFilesOf}
use Rattle.folder_linking.specs.Modules.{as_file}
use Rattle.folder_linking.proofs.modules.printed_files.Given as goal

abbrev pub invariant-loop-which : goal.invariant-loop-which
invariant-loop-which l = AreFilesOf l.plan (map piece_view l.pieces) (take l.which l.plan) (map as_file l.files.items)
