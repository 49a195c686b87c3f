-- The least of what is told, as more is told.
use Rattle.std.proofs.Common.{◌≡◌, Bool, true, false, Some, refl, sym, ◌∙◌, subst, inl, inr}
use Rattle.std.specs.Prelude.{◌⊎◌, if◌then◌else◌}
use Rattle.sj_reach.specs.Answers.{comes_first, first_told}
use Rattle.sj_reach.specs.declared.findings.Report.{Report}
use Rattle.sj_reach.proofs.Once.{first_trans, first_itself}

-- it is told, and nothing is before it
pub record IsLeast (Is : Report → Type 0) (r : Report) : Type 0 where
  pub is : Is r
  pub least : (o : Report) → Is o → comes_first o r ≡ false

not_true : (b : Bool) → (b ≡ true → ⊥) → b ≡ false
not_true true h = absurd (h refl)
not_true false h = refl

not_both : true ≡ false → ⊥
not_both e = cc

module _ (Is More : Report → Type 0) (x : Report) (into : (r : Report) → Is r → More r) (is : More x) (back : (r : Report) → More r → Is r ⊎ (r ≡ x)) where
  pub with_first : ((r : Report) → Is r → ⊥) → IsLeast More x
  with_first none = record { is = is; least = λ o h. go o (back o h) }
    where
      go : (o : Report) → Is o ⊎ (o ≡ x) → comes_first o x ≡ false
      go o (inl old) = absurd (none o old)
      go o (inr e) = subst (λ (r : Report). comes_first r x ≡ false) (sym e) (first_itself x)

  newer : (old : Report) → IsLeast Is old → comes_first x old ≡ true → IsLeast More x
  newer old h first = record { is = is; least = λ o k. go o (back o k) }
    where
      go : (o : Report) → Is o ⊎ (o ≡ x) → comes_first o x ≡ false
      go o (inl k) = not_true (comes_first o x) (λ e. not_both (sym (first_trans o x old e first) ∙ h.least o k))
      go o (inr e) = subst (λ (r : Report). comes_first r x ≡ false) (sym e) (first_itself x)

  older : (old : Report) → IsLeast Is old → comes_first x old ≡ false → IsLeast More old
  older old h later = record { is = into old h.is; least = λ o k. go o (back o k) }
    where
      go : (o : Report) → Is o ⊎ (o ≡ x) → comes_first o old ≡ false
      go o (inl k) = h.least o k
      go o (inr e) = subst (λ (r : Report). comes_first r old ≡ false) (sym e) later

  either : (old : Report) → IsLeast Is old → (b : Bool) → comes_first x old ≡ b → IsLeast More (if b then x else old)
  either old h true e = newer old h e
  either old h false e = older old h e

  pub with_more : (old : Report) → IsLeast Is old → IsLeast More (first_told (Some old) x)
  with_more old h = either old h (comes_first x old) refl
