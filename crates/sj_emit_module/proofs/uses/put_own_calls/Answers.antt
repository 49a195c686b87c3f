use Rattle.std.proofs.Common.{◌≡◌, ◌++◌, ◌∙◌, ap, map}
use Rattle.std.specs.Prelude.{codes}
use Rattle.sj_emit_module_spec.specs.Calls.{called}
use Rattle.sj_emit_module.specs.Files.{file_in}
use Rattle.sj_emit_module.specs.Lists.{items_at}
use Rattle.sj_emit_module.proofs.Put.{calls_put, calls_cross}
use Rattle.sj_split.specs.Modules.{file}
use Rattle.sj_emit_module.proofs.uses.put_own_calls.Goals as goal

pub returns-clause-uses : goal.returns-clause-uses
returns-clause-uses c f =
    let file_is : c.in_ok-file.file ≡ file c.args.planned.now = c.in_ok-file.ensures ∙ ap (λ n. n ++ codes ".js") c.as_str.ensures in
    let are : c.deref.result.now ≡ map called c.args.planned.now.initializers = c.deref.ensures.value ∙ c.in_ok-add_called.ensures ∙ (λ i. c.new-calls.ensures.items i ++ map called (c.as_slice.ensures i)) in
    calls_put c.args.planned.now c.in_ok-file.file file_is c.deref.result.now are f (items_at c.args.uses.now f) _ (c.in_ok-put_bindings.ensures f)

pub returns-clause-exports : goal.returns-clause-exports
returns-clause-exports c bs held =
    let file_is : c.in_ok-file.file ≡ file c.args.planned.now = c.in_ok-file.ensures ∙ ap (λ n. n ++ codes ".js") c.as_str.ensures in
    let are : c.deref-2.result.now ≡ map called c.args.planned.now.initializers = c.deref-2.ensures.value ∙ c.in_ok-add_called.ensures ∙ (λ i. c.new-calls.ensures.items i ++ map called (c.as_slice.ensures i)) in
    calls_cross c.args.planned.now c.in_ok-file.file file_is c.deref-2.result.now are (file_in c.args.files.now) bs _ (c.in_ok-add_uses.ensures bs held)
