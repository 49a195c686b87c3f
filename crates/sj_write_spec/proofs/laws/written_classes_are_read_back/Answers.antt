use Rattle.sj_units.proofs.Exact as units
use Rattle.sj_write_spec.proofs.WrittenFile as file
use Rattle.sj_write_spec.proofs.laws.written_classes_are_read_back.Goals as goal

pub returns : goal.returns
returns c = file.read_back units.reads_what_is_written
