-- Reading a list one item after the other, as a loop does.
use Rattle.std.proofs.Common.{◌≡◌, ℕ, suc, ◌+◌, ◌-◌, ◌<◌, ◌≤◌, Bool, true, false, List, [], ◌∷◌, ◌++◌, length, Ok, Err, refl, sym, ap, ◌∙◌, append_assoc, append-nil, arith}
use Rattle.exact_place.specs.Reading.{Reading, ◌>>=◌, passes, list_at}
use Rattle.text_scan.specs.declared.stop.Stop.{Stop}
use Rattle.text_scan.specs.declared.stop.Stop.TheVariants as stops
use Rattle.text_scan.specs.Gives.{Fails}

-- what was read before, and what is still read
abbrev pub with_front : {A : Type 0} → List A → Reading (List A) → Reading (List A)
with_front front read = read >>= λ x. Ok (front ++ x.0, x.1)

regroup : {A : Type 0} (front : List A) (x : A) (read : Reading (List A)) → with_front front (read >>= λ xs. Ok (x ∷ xs.0, xs.1)) ≡ with_front (front ++ x ∷ []) read
regroup {A} front x (Ok xs) = ap (λ (ys : List A). Ok (ys, xs.1)) (sym (append_assoc front (x ∷ []) xs.0))
regroup front x (Err e) = refl

module _ {A : Type 0} (test : ℕ → Bool) (read : List ℕ → Reading A) where
  pub list_goes : (front : List A) (count i : ℕ) (bytes : List ℕ) (x : A) (after : List ℕ) (total : Reading (List A)) → i < count → passes test bytes ≡ true → read bytes ≡ Ok (x, after)
      → with_front front (list_at (count - i) test read bytes) ≡ total → with_front (front ++ x ∷ []) (list_at (count - (i + 1)) test read after) ≡ total
  unfolding list_at
  list_goes front count i bytes x after total lt go is so_far =
      let k : count - i ≡ suc (count - (i + 1)) = omega arith in
      let one : with_front front (list_at (count - i) test read bytes) ≡ with_front (front ++ x ∷ []) (list_at (count - (i + 1)) test read after) = rw (k, go, is) (regroup front x (list_at (count - (i + 1)) test read after)) in
      sym one ∙ so_far

  pub list_fails : (e : Stop) (front : List A) (count i : ℕ) (bytes : List ℕ) (total : Reading (List A)) → i < count → passes test bytes ≡ true → Fails e (read bytes)
      → with_front front (list_at (count - i) test read bytes) ≡ total → Fails e total
  unfolding list_at
  list_fails stops.NoMemory front count i bytes total lt go is so_far = tt
  list_fails (stops.Bad left) front count i bytes total lt go is so_far =
      let k : count - i ≡ suc (count - (i + 1)) = omega arith in
      let one : with_front front (list_at (count - i) test read bytes) ≡ Err left = rw (k, go, is) refl in
      sym so_far ∙ one

  pub list_stops : (front : List A) (count i : ℕ) (bytes : List ℕ) (total : Reading (List A)) → i < count → passes test bytes ≡ false
      → with_front front (list_at (count - i) test read bytes) ≡ total → total ≡ Ok (front, bytes)
  unfolding list_at
  list_stops front count i bytes total lt go so_far =
      let k : count - i ≡ suc (count - (i + 1)) = omega arith in
      let one : with_front front (list_at (count - i) test read bytes) ≡ Ok (front, bytes) = rw (k, go) (ap (λ (ys : List A). Ok (ys, bytes)) (append-nil front)) in
      sym so_far ∙ one

  pub list_out : (front : List A) (count i : ℕ) (bytes : List ℕ) (total : Reading (List A)) → count ≤ i
      → with_front front (list_at (count - i) test read bytes) ≡ total → total ≡ Err (length bytes)
  unfolding list_at
  list_out front count i bytes total le so_far =
      let k : count - i ≡ 0 = omega arith in
      let one : with_front front (list_at (count - i) test read bytes) ≡ Err (length bytes) = rw k refl in
      sym so_far ∙ one
