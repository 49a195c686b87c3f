use Rattle.std.proofs.Common.{arith, refl}
use Rattle.std.proofs.lemmas.Option.{slice_get_read}
use Rattle.sj_emit_module.proofs.Stored.{none_put, class_more}
use Rattle.sj_emit_module.specs.Files.{file_in}
use Rattle.sj_emit_module.proofs.files.ClassFiles.put_each.Goals as goal

pub loop-class-init : goal.loop-class-init
loop-class-init c class = none_put (file_in c.args.self.now class)

pub loop-class-preserved : goal.loop-class-preserved
loop-class-preserved c class = class_more c.args.classes.now c.loop-class.class-index c.class-item.result class c.args.file.now _ _ _ (slice_get_read c.args.classes.now _ c.loop-class.class-index c.class-item.result refl (omega arith) c.class-item.is) (c.loop-class.invariant class) (c.in_ok-put.ensures class)
