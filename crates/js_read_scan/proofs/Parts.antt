-- A part that is read by one call with the bytes in front of it or behind it, where a reader goes on from there.
use Rattle.std.proofs.Common.{◌≡◌, ℕ, List, Result, Ok, Err, refl, ◌∙◌}
use Rattle.exact_place.specs.Reading.{Reading, ◌>>=◌, literal_at, after_at, lead_at, map_at}
use Rattle.exact_place.proofs.Steps.{good_is}
use Rattle.text_scan.specs.declared.stop.Stop.{Stop}
use Rattle.text_scan.specs.declared.stop.Stop.TheVariants as stops
use Rattle.text_scan.specs.Gives.{Fails}
use Rattle.js_read_scan.specs.Parts.{before_at}

on : {A B C : Type 0} (m : Result A ℕ) (f : A → Result B ℕ) (g : B → Result C ℕ) (y : B) → (m >>= f) ≡ Ok y → (m >>= λ x. f x >>= g) ≡ g y
on (Ok x) f g y e = rw e refl
on (Err k) f g y e = absurd (cc e)

off : {A B C : Type 0} (stop : Stop) (m : Result A ℕ) (f : A → Result B ℕ) (g : B → Result C ℕ) → Fails stop (m >>= f) → Fails stop (m >>= λ x. f x >>= g)
off stops.NoMemory m f g e = tt
off (stops.Bad left) (Ok x) f g e = rw e refl
off (stops.Bad left) (Err k) f g e = let same : k ≡ left = cc e in rw same refl

-- a reader that reads as another one stops as that one does
pub fails_along : {A : Type 0} (stop : Stop) {one other : Result A ℕ} → one ≡ other → Fails stop other → Fails stop one
fails_along stops.NoMemory e h = tt
fails_along (stops.Bad left) e h = e ∙ h

module _ {A B : Type 0} (read : List ℕ → Reading A) (next : A → List ℕ → Reading B) (bytes : List ℕ) where
  -- the bytes behind it
  pub before_read : (end : List ℕ) (x : A) (rest : List ℕ) → before_at end read bytes ≡ Ok (x, rest) → after_at read (λ a. lead_at end (next a)) bytes ≡ next x rest
  unfolding before_at
  before_read end x rest e = whole (read bytes) e
    where
      ended : (a : A) (literal : Reading (Unit {0})) → (◌>>=◌ {B = A × List ℕ} literal (λ u. Ok (a, u.1))) ≡ Ok (x, rest) → (literal >>= λ u. next a u.1) ≡ next x rest
      ended a (Ok u) e = let same = good_is a x u.1 rest e in rw (same.value, same.rest) refl
      ended a (Err k) e = absurd (cc e)

      whole : (first : Reading A) → (first >>= λ a. map_at (λ u. a.0) (literal_at end) a.1) ≡ Ok (x, rest) → (first >>= λ a. literal_at end a.1 >>= λ u. next a.0 u.1) ≡ next x rest
      whole (Ok a) e = ended a.0 (literal_at end a.1) e
      whole (Err k) e = absurd (cc e)

  pub before_missed : (end : List ℕ) (stop : Stop) → Fails stop (before_at end read bytes) → Fails stop (after_at read (λ a. lead_at end (next a)) bytes)
  unfolding before_at
  before_missed end stops.NoMemory e = tt
  before_missed end (stops.Bad left) e = whole (read bytes) e
    where
      ended : (a : A) (literal : Reading (Unit {0})) → (◌>>=◌ {B = A × List ℕ} literal (λ u. Ok (a, u.1))) ≡ Err left → (literal >>= λ u. next a u.1) ≡ Err left
      ended a (Ok u) e = absurd (cc e)
      ended a (Err k) e = let same : k ≡ left = cc e in rw same refl

      whole : (first : Reading A) → (first >>= λ a. map_at (λ u. a.0) (literal_at end) a.1) ≡ Err left → (first >>= λ a. literal_at end a.1 >>= λ u. next a.0 u.1) ≡ Err left
      whole (Ok a) e = ended a.0 (literal_at end a.1) e
      whole (Err k) e = let same : k ≡ left = cc e in rw same refl

  -- the bytes in front of it
  pub lead_read : (lead : List ℕ) (x : A) (rest : List ℕ) → lead_at lead read bytes ≡ Ok (x, rest) → lead_at lead (after_at read next) bytes ≡ next x rest
  lead_read lead x rest e = on (literal_at lead bytes) (λ u. read u.1) (λ a. next a.0 a.1) (x, rest) e

  pub lead_missed : (lead : List ℕ) (stop : Stop) → Fails stop (lead_at lead read bytes) → Fails stop (lead_at lead (after_at read next) bytes)
  lead_missed lead stop e = off stop (literal_at lead bytes) (λ u. read u.1) (λ a. next a.0 a.1) e

module _ {A B : Type 0} (read : List ℕ → Reading A) (next : A → List ℕ → Reading B) (lead end bytes : List ℕ) where
  -- both
  pub between_read : (x : A) (rest : List ℕ) → lead_at lead (before_at end read) bytes ≡ Ok (x, rest) → lead_at lead (after_at read (λ a. lead_at end (next a))) bytes ≡ next x rest
  between_read x rest e = whole (literal_at lead bytes) e
    where
      whole : (first : Reading (Unit {0})) → (first >>= λ u. before_at end read u.1) ≡ Ok (x, rest) → (first >>= λ u. after_at read (λ a. lead_at end (next a)) u.1) ≡ next x rest
      whole (Ok u) e = before_read read next u.1 end x rest e
      whole (Err k) e = absurd (cc e)

  pub between_missed : (stop : Stop) → Fails stop (lead_at lead (before_at end read) bytes) → Fails stop (lead_at lead (after_at read (λ a. lead_at end (next a))) bytes)
  between_missed stops.NoMemory e = tt
  between_missed (stops.Bad left) e = whole (literal_at lead bytes) e
    where
      whole : (first : Reading (Unit {0})) → (first >>= λ u. before_at end read u.1) ≡ Err left → (first >>= λ u. after_at read (λ a. lead_at end (next a)) u.1) ≡ Err left
      whole (Ok u) e = before_missed read next u.1 end (stops.Bad left) e
      whole (Err k) e = let same : k ≡ left = cc e in rw same refl
