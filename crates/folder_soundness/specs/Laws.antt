-- The law on what an accepted folder shows.
use Rattle.std.specs.Prelude.{ℕ, List}
use Rattle.declared_pieces.specs.Accepted.{IsAccepted}
use Rattle.ir_mean.specs.Shows.{ir_shows}
use Rattle.outcomes.specs.Agreement.{IsNotWrong}
use Rattle.sj_names.specs.declared.entry_points.EntryPoint.{EntryPoint}
use Rattle.sj_names.specs.declared.folders.SourceFile.{SourceFile}
use Rattle.sj_world.specs.Known.{Classes}

-- where a folder is accepted, what its classes show is wrong at no bound
abbrev pub AcceptedFoldersAreNeverWrong : Type 0
AcceptedFoldersAreNeverWrong = (entries : List EntryPoint) (files : List SourceFile) (w : Classes) (id : List ℕ) (n : ℕ)
    → IsAccepted entries files w
    → IsNotWrong (ir_shows w entries id n).end
