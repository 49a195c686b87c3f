use Rattle.std.proofs.Common.{◌≡◌, List, map, Option, take}
use Rattle.js_tree.specs.Terms.{Name}
use Rattle.js_tree.specs.declared.items.Binding.{Binding as Bound}
use Rattle.sj_emit_module_spec.specs.Modules as rules
use Rattle.sj_emit_module.specs.Groups.{HoldNames}
use Rattle.sj_split.specs.Orders.{Bytes}
use Rattle.sj_emit_module.proofs.imports.lines.Given as goal

abbrev pub invariant-loop-source : goal.invariant-loop-source
invariant-loop-source l = (file_of : Name → Option Bytes) (bs : List Bound) → HoldNames file_of bs l.groups → l.lines.items ≡ map (rules.import_line file_of bs) (take l.source-index l.sources)
