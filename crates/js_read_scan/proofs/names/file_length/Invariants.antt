use Rattle.std.proofs.Common.{◌≡◌, take, true}
use Rattle.std.specs.List.{list_all}
use Rattle.js_tree.specs.Names.{is_file_character}
use Rattle.js_read_scan.proofs.names.file_length.Given as goal

abbrev pub invariant-loop-i : goal.invariant-loop-i
invariant-loop-i l = list_all is_file_character (take l.i l.bytes) ≡ true
