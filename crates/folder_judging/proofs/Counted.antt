-- What is counted, one after the other.
use Rattle.std.proofs.Common.{◌≡◌, ℕ, zero, suc, ◌+◌, ◌≤◌, true, List, Option, Some, None, Ok, ap, ◌∙◌, arith}
use Rattle.sj_names.specs.Counting.{raised}
use Rattle.sj_names.specs.declared.counters.Meter.{Meter}
use Rattle.sj_world.specs.declared.facts.Fact.{Fact}
use Rattle.sj_reach.specs.declared.findings.Report.{Report}
use Rattle.folder_judging.specs.Counts.{raised_by, with_reads, with_checks, bodies_among}
use Rattle.folder_judging.specs.Types.{ChecksAtMostOne, ChecksSome, ChecksBodies, is_told_before}

none_more : (k : ℕ) → k ≡ 0 + k
none_more k = omega arith

one_first : (j k : ℕ) → suc (j + k) ≡ suc j + k
one_first j k = omega arith

raised_twice : (j k n : ℕ) → raised_by j (raised_by k n) ≡ raised_by (j + k) n
raised_twice zero k n = ap (λ m. raised_by m n) (none_more k)
raised_twice (suc j) k n = ap raised (raised_twice j k n) ∙ ap (λ m. raised_by m n) (one_first j k)

swapped : (j k : ℕ) → j + k ≡ k + j
swapped j k = omega arith

pub more_checks : (j k : ℕ) (m : Meter) → with_checks j (with_checks k m) ≡ with_checks (k + j) m
more_checks j k m = ap (λ n. record m { checked = n }) (raised_twice j k m.checked ∙ ap (λ n. raised_by n m.checked) (swapped j k))

pub more_reads : (j k : ℕ) (m : Meter) → with_reads j (with_reads k m) ≡ with_reads (k + j) m
more_reads j k m = ap (λ n. record m { read = n }) (raised_twice j k m.read ∙ ap (λ n. raised_by n m.read) (swapped j k))

-- one more body is checked
pub checks_on : (n : ℕ) (first old new : Meter) → old ≡ with_checks n first → new ≡ with_checks 1 old → new ≡ with_checks (n + 1) first
checks_on n first old new e f = f ∙ ap (with_checks 1) e ∙ more_checks 1 n first

pub reads_on : (n : ℕ) (first old new : Meter) → old ≡ with_reads n first → new ≡ with_reads 1 old → new ≡ with_reads (n + 1) first
reads_on n first old new e f = f ∙ ap (with_reads 1) e ∙ more_reads 1 n first

-- a body at most, behind n others
pub checks_end : (n : ℕ) (facts : List Fact) (first old new : Meter) → n + 1 ≤ bodies_among facts → old ≡ with_checks n first → ChecksAtMostOne old new → ChecksSome facts first new
checks_end n facts first old new le e h = let m : h.checks ≤ 1 = h.most in record { checks = n + h.checks; most = omega arith; counted = h.counted ∙ ap (with_checks h.checks) e ∙ more_checks h.checks n first }

pub checks_stop : (n : ℕ) (facts : List Fact) (first now : Meter) (least : Option Report) (spelled : List ℕ) → n ≤ bodies_among facts → now ≡ with_checks n first → is_told_before least spelled ≡ true → ChecksBodies facts (Ok least) first now
checks_stop n facts first now None spelled le e told = cc
checks_stop n facts first now (Some r) spelled le e told = record { checks = n; most = le; counted = e }

pub checks_all : (n : ℕ) (facts : List Fact) (first now : Meter) (least : Option Report) → n ≡ bodies_among facts → now ≡ with_checks n first → ChecksBodies facts (Ok least) first now
checks_all n facts first now None same e = e ∙ ap (λ k. with_checks k first) same
checks_all n facts first now (Some r) same e = record { checks = n; most = omega (arith, same); counted = e }
