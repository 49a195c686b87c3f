use Rattle.std.proofs.Common.{◌≡◌, take, true}
use Rattle.std.specs.List.{list_all}
use Rattle.js_tree.specs.Names.{is_name_character}
use Rattle.js_read_scan.proofs.names.name_length.Given as goal

abbrev pub invariant-loop-i : goal.invariant-loop-i
invariant-loop-i l = list_all is_name_character (take l.i l.bytes) ≡ true
