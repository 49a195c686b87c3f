use Rattle.std.proofs.Common.{◌≡◌, ◌∙◌, ap, Some, sym}
use Rattle.std.specs.Prelude.{not}
use Rattle.sj_emit_module_spec.specs.Modules.{is_another}
use Rattle.sj_emit_module.specs.Files.{file_in}
use Rattle.sj_emit_module.proofs.Held.{holds_one, holds_chosen}
use Rattle.sj_emit_module.proofs.imports.add_use.Goals as goal

pub returns-in_ok-put-in-Some : goal.returns-in_ok-put-in-Some
returns-in_ok-put-in-Some c bs held =
    let is : file_in c.args.files.now c.args.binding.now.owner ≡ Some c.in-Some.other.now = sym c.in-Some.ensures in
    holds_chosen (file_in c.args.files.now) c.args.file.now bs c.put.new.self c.args.binding.now (ap (is_another c.args.file.now) is ∙ ap not (sym c.is_same.ensures.value ∙ c.if-not-is_same.true)) (holds_one (file_in c.args.files.now) bs c.args.groups.now c.put.new.self c.args.binding.now c.in-Some.other.now is c.in_ok-put-in-Some.ensures.files c.in_ok-put-in-Some.ensures.names held)
