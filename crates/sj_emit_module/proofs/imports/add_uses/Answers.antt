use Rattle.std.proofs.Common.{◌++◌, arith, filter, List, refl, take}
use Rattle.std.proofs.lemmas.Option.{slice_get_read}
use Rattle.js_tree.specs.declared.items.Binding.{Binding}
use Rattle.sj_emit_module_spec.specs.Modules.{is_bound_elsewhere}
use Rattle.sj_emit_module.specs.Files.{file_in}
use Rattle.sj_emit_module.proofs.Added.{held_more, elsewhere_join}
use Rattle.sj_emit_module.proofs.imports.add_uses.Goals as goal

pub loop-binding-preserved : goal.loop-binding-preserved
loop-binding-preserved c bs held = held_more (λ (l : List Binding). filter (is_bound_elsewhere (file_in c.args.files.now) c.args.file.now) l) (elsewhere_join (file_in c.args.files.now) c.args.file.now) c.args.bindings.now c.loop-binding.binding-index c.binding-item.result (slice_get_read c.args.bindings.now _ c.loop-binding.binding-index c.binding-item.result refl (omega arith) c.binding-item.is) (file_in c.args.files.now) bs _ (c.in_ok-add_use.ensures (bs ++ filter (is_bound_elsewhere (file_in c.args.files.now) c.args.file.now) (take c.loop-binding.binding-index c.args.bindings.now)) (c.loop-binding.invariant bs held))
