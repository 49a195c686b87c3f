use Rattle.std.proofs.Common.{◌≡◌, drop}
use Rattle.std.specs.List.{list_any}
use Rattle.sj_world.specs.Known.{is_same}
use Rattle.sj_world.proofs.worlds.name_in.Given as goal

abbrev pub invariant-loop-name : goal.invariant-loop-name
invariant-loop-name l = list_any (is_same l.text) (drop l.name-index l.names) ≡ list_any (is_same l.text) l.names
