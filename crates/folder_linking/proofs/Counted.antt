-- What is counted while functions are emitted, one after the other.
use Rattle.std.proofs.Common.{◌≡◌, ◌≤◌, ◌<◌, ◌+◌, ℕ, suc, zero, Result, Ok, Err, ap, ◌∙◌, arith}
use Rattle.sj_names.specs.Counting.{raised}
use Rattle.sj_names.specs.declared.counters.Meter.{Meter}
use Rattle.sj_names.specs.declared.memory.NoMemory.{NoMemory}
use Rattle.folder_judging.specs.Counts.{raised_by}
use Rattle.folder_linking.specs.Counts.{with_emits, EmitsAtMost, Emits}

raised_twice : (a b n : ℕ) → raised_by a (raised_by b n) ≡ raised_by (a + b) n
raised_twice zero b n = ap (λ (k : ℕ). raised_by k n) (same b)
  where
    same : (b : ℕ) → b ≡ 0 + b
    same b = omega arith
raised_twice (suc a) b n = ap raised (raised_twice a b n) ∙ ap (λ (k : ℕ). raised_by k n) (next a b)
  where
    next : (a b : ℕ) → suc (a + b) ≡ suc a + b
    next a b = omega arith

emits_twice : (a b : ℕ) (m : Meter) → with_emits a (with_emits b m) ≡ with_emits (a + b) m
emits_twice a b m = ap (λ (n : ℕ). record m { emitted = n }) (raised_twice a b m.emitted)

-- one more is emitted
pub emits_on : (n : ℕ) (old middle new : Meter) → middle ≡ with_emits n old → new ≡ with_emits 1 middle → new ≡ with_emits (n + 1) old
emits_on n old middle new first next = next ∙ ap (with_emits 1) first ∙ emits_twice 1 n old ∙ ap (λ (k : ℕ). with_emits k old) (one_more n)
  where
    one_more : (n : ℕ) → 1 + n ≡ n + 1
    one_more n = omega arith

-- it ends where no memory was left for one more
pub emits_end : (n most : ℕ) (old middle new : Meter) → n < most → middle ≡ with_emits n old → EmitsAtMost 1 middle new → EmitsAtMost most old new
emits_end n most old middle new below first h = record { emits = h.emits + n; few = omega (arith, below, h.few); counted = h.counted ∙ ap (with_emits h.emits) first ∙ emits_twice h.emits n old }

pub emits_some : (n most : ℕ) (old new : Meter) → n ≤ most → new ≡ with_emits n old → EmitsAtMost most old new
emits_some n most old new few counted = record { emits = n; few = few; counted = counted }

-- a call that emits one, whatever it answers
pub emits_one : {A : Type 0} (r : Result A NoMemory) (old new : Meter) → new ≡ with_emits 1 old → Emits 1 r old new
emits_one (Ok a) old new h = h
emits_one (Err e) old new h = record { emits = 1; few = omega arith; counted = h }
