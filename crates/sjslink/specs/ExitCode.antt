-- The exit status of the program.
use Rattle.std.specs.Prelude.{ℕ}
use Rattle.sjslink.specs.declared.answers.Status.{Status}
use Rattle.sjslink.specs.declared.answers.Status.TheVariants.{Done, SomeRefused, Usage, ReadFault, WriteFault, NoMemory, BadEntries}

abbrev pub exit_code : Status → ℕ
exit_code Done = 0
exit_code SomeRefused = 1
exit_code Usage = 2
exit_code ReadFault = 3
exit_code WriteFault = 4
exit_code NoMemory = 5
exit_code (BadEntries line) = 6
