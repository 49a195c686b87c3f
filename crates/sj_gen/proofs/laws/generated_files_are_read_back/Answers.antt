use Rattle.sj_gen.proofs.Files.{class_back, object_back}
use Rattle.sj_gen.proofs.laws.generated_files_are_read_back.Goals as goal

pub returns : goal.returns
returns c = record { classes = class_back; object = object_back }
