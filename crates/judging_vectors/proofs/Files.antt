-- What is read is the class of a file.
use Rattle.std.proofs.Common.{ℕ, List, Ok}
use Rattle.sj_units.proofs.Exact as units
use Rattle.sj_trees.specs.declared.classes.ClassDef.{ClassDef}
use Rattle.sj_read_spec.specs.Answers.{Reads}
use Rattle.sj_write_spec.specs.Classes.{NamesItsFiles}
use Rattle.sj_write_spec.proofs.WrittenFile.{files_there}

-- each position of a class that is read names one of its source files
pub names_files : (file : List ℕ) (class : ClassDef) → Reads file (Ok class) → NamesItsFiles class
names_files file class reads = files_there units.reads_what_is_written class (record { file = file; is_file = reads.right })
