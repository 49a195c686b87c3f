use Rattle.std.proofs.Common.{◌≡◌, drop}
use Rattle.std.specs.List.{filter}
use Rattle.indexmap.specs.IndexSet.{insert_all}
use Rattle.sj_world.specs.Known.{is_same, is_known}
use Rattle.sj_world.proofs.above.add_all_known.Given as goal

abbrev pub invariant-loop-name : goal.invariant-loop-name
invariant-loop-name l = insert_all is_same l.found.keys (filter (is_known l.classes) (drop l.name-index l.names)) ≡ insert_all is_same l.fn.found.keys (filter (is_known l.classes) l.names)
