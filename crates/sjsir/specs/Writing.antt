-- How writing ends.
use Rattle.std.specs.Prelude.{ℕ, List, [], Option}
use Rattle.sj_outside.specs.Writing.{Appends}
use Rattle.sj_outside.specs.declared.answers.PutFile.{PutFile}
use Rattle.sjsir.specs.declared.answers.Status.{Status}
use Rattle.sjsir.specs.declared.answers.Status.TheVariants.{WriteFault, NoMemory}

-- How a call ended that writes something: with this status where all was written, or early, by a fault with a cause or for
-- want of memory.
pub data Ends (done : Status) (whole front cause : Type 0) : Status → Type 0 where
  all_written : whole → Ends done whole front cause done
  faulted : front → cause → Ends done whole front cause WriteFault
  out_of_memory : front → Ends done whole front cause NoMemory

-- how a run ended that puts nothing and prints one text
abbrev pub EndsWithLine : Status → Option (List PutFile) → Option (List PutFile) → Option (List ℕ) → Option (List ℕ) → List ℕ → Type 0 → Status → Type 0
EndsWithLine done puts_old puts_new text_old text_new text cause status = Ends done (Appends puts_old puts_new [] × Appends text_old text_new text) (Appends puts_old puts_new [] × Appends text_old text_new []) cause status
