-- What the law of the reader on lists says at the fuel that the code gives it.
use Rattle.std.proofs.Common.{◌≡◌, ℕ, suc, ◌+◌, ◌-◌, ◌≤◌, List, [], length, Ok, Err, sym, ap, subst, ◌∙◌, arith, add-one}
use Rattle.exact_place.specs.Place.{Place}
use Rattle.exact_place.specs.Reading.{Reading}
use Rattle.exact_place.proofs.Steps.{good_is}
use Rattle.sj_trees.specs.declared.classes.ClassDef.{ClassDef}
use Rattle.sj_text_spec.specs.Spelling.{Lists}
use Rattle.sj_text_spec.specs.Reading.{listing_at}
use Rattle.sj_text_spec.proofs.Whole.{listing_read, class_listed, listing_place, no_listing}

at_fuel : (bytes : List ℕ) (total : Reading ClassDef) → listing_at (length bytes + 1) bytes ≡ total → listing_at (suc (length bytes)) bytes ≡ total
at_fuel bytes total e = ap (λ (n : ℕ). listing_at n bytes) (sym (add-one (length bytes))) ∙ e

pub whole_spelled : (m : ClassDef) (bytes : List ℕ) → listing_at (length bytes + 1) bytes ≡ Ok (m, []) → Lists m bytes
whole_spelled m bytes e = class_listed m bytes (at_fuel bytes (Ok (m, [])) e)

pub whole_only : (m k : ClassDef) (bytes : List ℕ) → listing_at (length bytes + 1) bytes ≡ Ok (k, []) → Lists m bytes → k ≡ m
whole_only m k bytes e s = value_is (sym (at_fuel bytes (Ok (k, [])) e) ∙ listing_read m bytes s)
  where
    value_is : ◌≡◌ {A = Reading ClassDef} (Ok (k, [])) (Ok (m, [])) → k ≡ m
    value_is f = (good_is k m [] [] f).value

pub whole_none : (m : ClassDef) (bytes : List ℕ) (left : ℕ) → listing_at (length bytes + 1) bytes ≡ Err left → Lists m bytes → ⊥
whole_none m bytes left e s = no_listing m bytes left (at_fuel bytes (Err left) e) s

pub whole_left : (bytes : List ℕ) (left : ℕ) → listing_at (length bytes + 1) bytes ≡ Err left → left ≤ length bytes
whole_left bytes left e = let p = listing_place bytes left (at_fuel bytes (Err left) e) in omega (arith, p.1)

pub whole_place : (bytes : List ℕ) (left p : ℕ) → listing_at (length bytes + 1) bytes ≡ Err left → p ≡ length bytes - left → Place Lists bytes p
whole_place bytes left p e is =
    let q = listing_place bytes left (at_fuel bytes (Err left) e) in
    let same : q.0 ≡ p = omega (arith, q.1, is) in
    subst (λ (n : ℕ). Place Lists bytes n) same q.2

pub ruleset whole_steps = (whole_spelled, whole_only, whole_none, whole_left, whole_place)
