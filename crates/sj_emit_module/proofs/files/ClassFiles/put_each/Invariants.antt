use Rattle.std.proofs.Common.{◌≡◌, Some, None, take, if◌then◌else◌}
use Rattle.js_tree.specs.Terms.{Name}
use Rattle.sj_emit_module.specs.Files.{file_in, first_of}
use Rattle.sj_split.specs.Modules.{is_among}
use Rattle.sj_emit_module.proofs.files.ClassFiles.put_each.Given as goal

abbrev pub invariant-loop-class : goal.invariant-loop-class
invariant-loop-class l = (class : Name) → file_in l.self class ≡ first_of (file_in l.fn.self class) (if is_among (take l.class-index l.classes) class then Some l.file else None)
