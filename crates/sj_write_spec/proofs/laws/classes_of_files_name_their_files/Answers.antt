use Rattle.sj_units.proofs.Exact as units
use Rattle.sj_write_spec.proofs.WrittenFile as file
use Rattle.sj_write_spec.proofs.laws.classes_of_files_name_their_files.Goals as goal

pub returns : goal.returns
returns c = file.files_there units.reads_what_is_written
