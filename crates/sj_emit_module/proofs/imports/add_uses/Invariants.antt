use Rattle.std.proofs.Common.{◌++◌, filter, List, take}
use Rattle.js_tree.specs.declared.items.Binding.{Binding as Bound}
use Rattle.sj_emit_module_spec.specs.Modules.{is_bound_elsewhere}
use Rattle.sj_emit_module.specs.Files.{file_in}
use Rattle.sj_emit_module.specs.Groups.{HoldNames}
use Rattle.sj_emit_module.proofs.imports.add_uses.Given as goal

abbrev pub invariant-loop-binding : goal.invariant-loop-binding
invariant-loop-binding l = (bs : List Bound) → HoldNames (file_in l.files) bs l.fn.groups → HoldNames (file_in l.files) (bs ++ filter (is_bound_elsewhere (file_in l.files) l.file) (take l.binding-index l.bindings)) l.groups
