-- What is counted while a folder is linked.
use Rattle.std.specs.Prelude.{◌≡◌, ℕ, ◌≤◌, Result, Ok, Err}
use Rattle.sj_names.specs.declared.counters.Meter.{Meter}
use Rattle.sj_names.specs.declared.memory.NoMemory.{NoMemory}
use Rattle.folder_judging.specs.Counts.{raised_by}

abbrev pub with_emits : ℕ → Meter → Meter
with_emits k m = record m { emitted = raised_by k m.emitted }

-- some are emitted, at most so many
pub record EmitsAtMost (most : ℕ) (old new : Meter) : Type 0 where
  pub emits : ℕ
  pub few : emits ≤ most
  pub counted : new ≡ with_emits emits old

-- so many are emitted; some of them where no memory was left
abbrev pub Emits : {A : Type 0} → ℕ → Result A NoMemory → Meter → Meter → Type 0
Emits n (Ok a) old new = new ≡ with_emits n old
Emits n (Err e) old new = EmitsAtMost n old new
