use Rattle.std.proofs.Common.{◌∙◌, [], ap, filter, List, map}
use Rattle.std.proofs.lemmas.Result.{IfOk-weaker}
use Rattle.js_tree.specs.declared.items.Binding.{Binding as Bound}
use Rattle.sj_emit_module_spec.specs.Modules.{files_of, import_line, is_bound_elsewhere}
use Rattle.sj_emit_module.specs.Files.{file_in}
use Rattle.sj_emit_module.specs.Groups.{HoldNames}
use Rattle.sj_emit_module.proofs.Held.{holds_none, set_in_order}
use Rattle.sj_emit_module.proofs.imports.imports.Goals as goal

pub returns : goal.returns
returns c =
    let file_of = file_in c.args.files.now in
    let bs : List Bound = filter (is_bound_elsewhere file_of c.args.file.now) c.args.uses.now in
    let held : HoldNames file_of bs c.add_uses.new.groups = c.in_ok-add_uses.ensures [] (holds_none file_of _ c.new-groups.ensures.files c.new-groups.ensures.names) in
    IfOk-weaker c.lines.result _ _ (λ lines is. is file_of bs held ∙ ap (map (import_line file_of bs)) (c.deref.ensures.value ∙ c.in_ok-sources.ensures ∙ set_in_order c.add_uses.new.groups.files.keys (files_of file_of bs) held.files)) c.lines.ensures
