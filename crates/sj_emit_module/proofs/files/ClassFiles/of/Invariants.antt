use Rattle.std.proofs.Common.{◌≡◌, take}
use Rattle.js_tree.specs.Terms.{Name}
use Rattle.sj_emit_module_spec.specs.Modules.{file_with}
use Rattle.sj_emit_module.specs.Files.{file_in}
use Rattle.sj_emit_module.proofs.files.ClassFiles.of.Given as goal

abbrev pub invariant-loop-planned : goal.invariant-loop-planned
invariant-loop-planned l = (class : Name) → file_in l.files class ≡ file_with (take l.planned-index l.modules) class
