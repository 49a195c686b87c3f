-- The forms in memory, whose calls can be made to fail.
use Rattle.std.specs.Prelude.{Bool, nat_eq, Result, Ok, Err}
use Rattle.std.specs.List.{list_any}
use Rattle.sj_names.specs.Counting.{raised}
use Rattle.sj_outside.specs.declared.answers.OutsideError.{OutsideError}
use Rattle.sj_outside.specs.declared.answers.OutsideError.TheVariants.{Failed, NoMemory}
use Rattle.sj_outside.specs.declared.calls.Calls.{Calls}

-- the next call's number is among those that are to fail
abbrev pub is_due : Calls → Bool
is_due calls = list_any (λ number. nat_eq number (raised calls.made)) calls.failing

-- one more call
abbrev pub counted : Calls → Calls
counted calls = record calls { made = raised calls.made }

-- one more fault
abbrev pub failed : Calls → Calls
failed calls = record calls { faults = raised calls.faults }

-- a call is counted whatever it answers, and its fault where it failed
abbrev pub after_call : {T : Type 0} → Result T OutsideError → Calls → Calls
after_call (Ok value) calls = counted calls
after_call (Err Failed) calls = failed (counted calls)
after_call (Err NoMemory) calls = counted calls
