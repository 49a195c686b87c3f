use Rattle.judging_vectors.proofs.Files.{names_files}
use Rattle.judging_vectors.proofs.writes.add_written.Goals as goal

pub write_class-requires : goal.write_class-requires
write_class-requires c = names_files c.args.file.now c.in-Ok.class c.in-Ok.ensures.answer
