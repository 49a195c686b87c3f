use Rattle.std.proofs.Common.{◌≡◌, [], drop}
use Rattle.indexmap.specs.IndexSet.{insert_all}
use Rattle.sj_split.specs.Orders.{is_same}
use Rattle.sj_split.specs.Steps.{first_classes}
use Rattle.sj_split.proofs.walks.module_classes.Given as goal

abbrev pub invariant-loop-entry : goal.invariant-loop-entry
invariant-loop-entry l = insert_all is_same l.found.keys (first_classes l.id (drop l.entry-index l.entries)) ≡ insert_all is_same [] (first_classes l.id l.entries)
