-- Reading the suffixes of an expression one after the other, as a loop does.
use Rattle.std.proofs.Common.{◌≡◌, ℕ, suc, ◌+◌, ◌-◌, ◌<◌, ◌≤◌, Bool, true, false, List, ◌∷◌, length, Ok, Err, refl, sym, ◌∙◌, arith}
use Rattle.exact_place.specs.Reading.{Reading, ◌>>=◌, passes, list_at}
use Rattle.exact_place.proofs.Steps.{good_is}
use Rattle.js_tree.specs.Terms.{Expression}
use Rattle.js_read_spec.specs.Expressions.{Suffix, with_suffix, with_suffixes}
use Rattle.text_scan.specs.declared.stop.Stop.{Stop}
use Rattle.text_scan.specs.declared.stop.Stop.TheVariants as stops
use Rattle.text_scan.specs.Gives.{Fails}

-- what one suffix makes of an expression, and what the suffixes that are still read make of it
abbrev pub one_more : Expression → Reading Suffix → Reading Expression
one_more e read = read >>= λ x. Ok (with_suffix x.0 e, x.1)

abbrev pub all_more : Expression → Reading (List Suffix) → Reading Expression
all_more e read = read >>= λ x. Ok (with_suffixes x.0 e, x.1)

regroup : (e : Expression) (s : Suffix) (read : Reading (List Suffix)) → all_more e (read >>= λ xs. Ok (s ∷ xs.0, xs.1)) ≡ all_more (with_suffix s e) read
unfolding with_suffixes
regroup e s (Ok xs) = refl
regroup e s (Err k) = refl

module _ (test : ℕ → Bool) (read : List ℕ → Reading Suffix) where
  goes : (e f : Expression) (m : ℕ) (bytes after : List ℕ) (one : Reading Suffix) → passes test bytes ≡ true → read bytes ≡ one → one_more e one ≡ Ok (f, after)
      → all_more e (list_at (suc m) test read bytes) ≡ all_more f (list_at m test read after)
  unfolding list_at
  goes e f m bytes after (Err k) go is h = absurd (cc h)
  goes e f m bytes after (Ok x) go is h =
      let same = good_is (with_suffix x.0 e) f x.1 after h in
      rw (go, is, ← same.value, ← same.rest) (regroup e x.0 (list_at m test read x.1))

  fails : (e : Expression) (m left : ℕ) (bytes : List ℕ) (one : Reading Suffix) → passes test bytes ≡ true → read bytes ≡ one → one_more e one ≡ Err left
      → all_more e (list_at (suc m) test read bytes) ≡ Err left
  unfolding list_at
  fails e m left bytes (Ok x) go is h = absurd (cc h)
  fails e m left bytes (Err k) go is h = rw (go, is) h

  pub suffix_goes : (e f : Expression) (count i : ℕ) (bytes after : List ℕ) (total : Reading Expression) → i < count → passes test bytes ≡ true → one_more e (read bytes) ≡ Ok (f, after)
      → all_more e (list_at (count - i) test read bytes) ≡ total → all_more f (list_at (count - (i + 1)) test read after) ≡ total
  suffix_goes e f count i bytes after total lt go is so_far =
      let k : count - i ≡ suc (count - (i + 1)) = omega arith in
      sym (goes e f (count - (i + 1)) bytes after (read bytes) go refl is) ∙ (rw k at so_far)

  pub suffix_fails : (stop : Stop) (e : Expression) (count i : ℕ) (bytes : List ℕ) (total : Reading Expression) → i < count → passes test bytes ≡ true → Fails stop (one_more e (read bytes))
      → all_more e (list_at (count - i) test read bytes) ≡ total → Fails stop total
  suffix_fails stops.NoMemory e count i bytes total lt go is so_far = tt
  suffix_fails (stops.Bad left) e count i bytes total lt go is so_far =
      let k : count - i ≡ suc (count - (i + 1)) = omega arith in
      sym (rw k at so_far) ∙ fails e (count - (i + 1)) left bytes (read bytes) go refl is

  pub suffix_stops : (e : Expression) (count i : ℕ) (bytes : List ℕ) (total : Reading Expression) → i < count → passes test bytes ≡ false
      → all_more e (list_at (count - i) test read bytes) ≡ total → total ≡ Ok (e, bytes)
  unfolding list_at with_suffixes
  suffix_stops e count i bytes total lt go so_far =
      let k : count - i ≡ suc (count - (i + 1)) = omega arith in
      let one : all_more e (list_at (count - i) test read bytes) ≡ Ok (e, bytes) = rw (k, go) refl in
      sym so_far ∙ one

  pub suffix_out : (e : Expression) (count i : ℕ) (bytes : List ℕ) (total : Reading Expression) → count ≤ i
      → all_more e (list_at (count - i) test read bytes) ≡ total → total ≡ Err (length bytes)
  unfolding list_at
  suffix_out e count i bytes total le so_far =
      let k : count - i ≡ 0 = omega arith in
      let one : all_more e (list_at (count - i) test read bytes) ≡ Err (length bytes) = rw k refl in
      sym so_far ∙ one
