use Rattle.std.proofs.Common.{◌≡◌, [], drop, map}
use Rattle.indexmap.specs.IndexSet.{insert_all}
use Rattle.sj_split.specs.Orders.{is_same}
use Rattle.sj_split.specs.Steps.{entry_class}
use Rattle.sj_split.proofs.walks.entry_classes.Given as goal

abbrev pub invariant-loop-entry : goal.invariant-loop-entry
invariant-loop-entry l = insert_all is_same l.found.keys (map entry_class (drop l.entry-index l.entries)) ≡ insert_all is_same [] (map entry_class l.entries)
