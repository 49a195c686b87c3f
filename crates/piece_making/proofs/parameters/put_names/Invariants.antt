use Rattle.std.proofs.Common.{◌≡◌, ◌++◌, drop, map}
use Rattle.js_tree.specs.Terms.{name_use}
use Rattle.js_tree.specs.Views.{expression_view}
use Rattle.piece_making.proofs.parameters.put_names.Given as goal

abbrev pub invariant-loop-name : goal.invariant-loop-name
invariant-loop-name l = map expression_view l.arguments.items ++ map name_use (drop l.name-index l.names) ≡ map expression_view l.fn.arguments.items ++ map name_use l.names
