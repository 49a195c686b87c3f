-- When calls fail.
use Rattle.std.specs.Prelude.{◌≡◌, ◌≢◌, ℕ, ◌<◌, ◌≤◌, ◌-◌, ◌^◌, Bool, true, false, Result, Ok, Err}
use Rattle.sj_names.specs.Counting.{raised}
use Rattle.sj_outside.specs.declared.answers.OutsideError.{OutsideError}
use Rattle.sj_outside.specs.declared.answers.OutsideError.TheVariants.{Failed, NoMemory}

-- A count rose. One that is kept in 64 bits and stands at their last value counts as risen.
pub record Rose (old new : ℕ) : Type 0 where
  pub never_falls : old ≤ new
  pub rose : old ≢ 2 ^ 64 - 1 → old < new

-- a count never falls, and rose where the call failed
pub record HasCause {T : Type 0} (old new : ℕ) (result : Result T OutsideError) : Type 0 where
  pub never_falls : old ≤ new
  pub failed : result ≡ Err Failed → Rose old new

-- the count of calls that failed for want of what they ask for: it rose where the call failed on a path that lacks it, and
-- else stays
abbrev pub IsMissing : {T : Type 0} → Bool → ℕ → ℕ → Result T OutsideError → Type 0
IsMissing true old new (Err Failed) = Rose old new
IsMissing true old new (Err NoMemory) = new ≡ old
IsMissing true old new (Ok value) = new ≡ old
IsMissing false old new result = new ≡ old

-- a count of faults after this error: one more where the call failed
abbrev pub raised_by : OutsideError → ℕ → ℕ
raised_by Failed count = raised count
raised_by NoMemory count = count

-- a count of faults after a call
abbrev pub faults_after : {T : Type 0} → Result T OutsideError → ℕ → ℕ
faults_after (Ok value) count = count
faults_after (Err error) count = raised_by error count
