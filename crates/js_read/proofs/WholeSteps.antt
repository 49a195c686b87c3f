-- What the law of the reader on lists says at the fuel that the code gives it.
use Rattle.std.proofs.Common.{◌≡◌, ℕ, suc, ◌+◌, ◌-◌, ◌≤◌, List, [], length, Ok, Err, sym, ap, subst, ◌∙◌, arith, add-one}
use Rattle.exact_place.specs.Place.{Place}
use Rattle.exact_place.specs.Reading.{Reading}
use Rattle.exact_place.proofs.Steps.{good_is}
use Rattle.js_tree.specs.Terms.{Module}
use Rattle.js_tree.specs.Spelling.{Spells}
use Rattle.js_read_spec.specs.Modules.{module_at}
use Rattle.js_read_spec.proofs.WholeModules.{module_read, module_spelled, module_place, no_module}

at_fuel : (bytes : List ℕ) (total : Reading Module) → module_at (length bytes + 1) bytes ≡ total → module_at (suc (length bytes)) bytes ≡ total
at_fuel bytes total e = ap (λ (n : ℕ). module_at n bytes) (sym (add-one (length bytes))) ∙ e

pub whole_spelled : (m : Module) (bytes : List ℕ) → module_at (length bytes + 1) bytes ≡ Ok (m, []) → Spells m bytes
whole_spelled m bytes e = module_spelled m bytes (at_fuel bytes (Ok (m, [])) e)

pub whole_only : (m k : Module) (bytes : List ℕ) → module_at (length bytes + 1) bytes ≡ Ok (k, []) → Spells m bytes → k ≡ m
whole_only m k bytes e s = value_is (sym (at_fuel bytes (Ok (k, [])) e) ∙ module_read m bytes s)
  where
    value_is : ◌≡◌ {A = Reading Module} (Ok (k, [])) (Ok (m, [])) → k ≡ m
    value_is f = (good_is k m [] [] f).value

pub whole_none : (m : Module) (bytes : List ℕ) (left : ℕ) → module_at (length bytes + 1) bytes ≡ Err left → Spells m bytes → ⊥
whole_none m bytes left e s = no_module m bytes left (at_fuel bytes (Err left) e) s

pub whole_left : (bytes : List ℕ) (left : ℕ) → module_at (length bytes + 1) bytes ≡ Err left → left ≤ length bytes
whole_left bytes left e = let p = module_place bytes left (at_fuel bytes (Err left) e) in omega (arith, p.1)

pub whole_place : (bytes : List ℕ) (left p : ℕ) → module_at (length bytes + 1) bytes ≡ Err left → p ≡ length bytes - left → Place Spells bytes p
whole_place bytes left p e is =
    let q = module_place bytes left (at_fuel bytes (Err left) e) in
    let same : q.0 ≡ p = omega (arith, q.1, is) in
    subst (λ (n : ℕ). Place Spells bytes n) same q.2

pub ruleset whole_steps = (whole_spelled, whole_only, whole_none, whole_left, whole_place)
