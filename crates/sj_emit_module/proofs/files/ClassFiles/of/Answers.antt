use Rattle.std.proofs.Common.{◌++◌, ◌∙◌, arith, ap, refl, Some, None, if◌then◌else◌, List}
use Rattle.std.specs.Prelude.{codes}
use Rattle.std.proofs.lemmas.Option.{slice_get_read}
use Rattle.js_tree.specs.Terms.{Name}
use Rattle.sj_emit_module.proofs.Stored.{module_more}
use Rattle.sj_emit_module.specs.Files.{file_in, first_of}
use Rattle.sj_split.specs.Modules.{is_among}
use Rattle.sj_emit_module.proofs.files.ClassFiles.of.Goals as goal

pub loop-planned-preserved : goal.loop-planned-preserved
loop-planned-preserved c class = module_more c.args.modules.now c.loop-planned.planned-index c.planned-item.result class c.in_ok-file.file (file_in c.loop-planned.files class) (file_in c.put_each.new.self class) (slice_get_read c.args.modules.now _ c.loop-planned.planned-index c.planned-item.result refl (omega arith) c.planned-item.is) (c.in_ok-file.ensures ∙ ap (λ n. n ++ codes ".js") c.as_str.ensures) (c.loop-planned.invariant class) (c.in_ok-put_each.ensures class ∙ ap (λ (l : List Name). first_of (file_in c.loop-planned.files class) (if is_among l class then Some c.in_ok-file.file else None)) c.as_slice.ensures)
