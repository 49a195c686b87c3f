-- How a refusal is told.
use Rattle.std.specs.Prelude.{◌≡◌, ℕ, List, Result, Ok, Err}
use Rattle.folder_judging.specs.declared.errors.JudgeError.{JudgeError}
use Rattle.folder_judging.specs.declared.errors.JudgeError.TheVariants.{Refused, NoMemory}
use Rattle.folder_judging_spec.specs.Verdicts.{Verdict, refused}

-- the refusal of a verdict is answered, or that no memory was left
abbrev pub IsRefusal : (Verdict → Type 0) → JudgeError → Type 0
IsRefusal By (Refused code place) = By (refused code place)
IsRefusal By NoMemory = Unit {0}

-- with this code, at this place
abbrev pub IsAt : ℕ → List ℕ → JudgeError → Type 0
IsAt code place = IsRefusal (λ v. v ≡ refused code place)

-- at the place that was made, if there was memory for it
abbrev pub IsMadeAt : {E : Type 0} → ℕ → Result (List ℕ) E → JudgeError → Type 0
IsMadeAt code (Ok place) e = e ≡ Refused code place
IsMadeAt code (Err m) e = e ≡ NoMemory
