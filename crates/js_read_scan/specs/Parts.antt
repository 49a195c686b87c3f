-- A part and the bytes that end it, read by one call.
use Rattle.std.specs.Prelude.{ℕ, List}
use Rattle.exact_place.specs.Reading.{Reading, literal_at, after_at, map_at}

-- what is read, and these bytes behind it
unfoldable pub before_at : {A : Type 0} → List ℕ → (List ℕ → Reading A) → List ℕ → Reading A
before_at end read = after_at read (λ x. map_at (λ u. x) (literal_at end))
