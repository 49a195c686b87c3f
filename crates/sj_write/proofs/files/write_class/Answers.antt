use Rattle.std.proofs.Common.{◌∙◌, ap, []}
use Rattle.std.proofs.lemmas.Result.{IfOk-weaker}
use Rattle.sj_write.specs.Writing.{finished}
use Rattle.sj_write.proofs.Put.{finished_is}
use Rattle.sj_write.proofs.files.write_class.Goals as goal

pub returns : goal.returns
returns c = IfOk-weaker c.file_of.result _ _ (λ file e. e ∙ ap (finished []) c.in_ok-written.ensures ∙ finished_is c.args.c.now) c.file_of.ensures
