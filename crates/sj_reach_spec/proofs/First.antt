-- The first item of a list is the first with its properties.
use Rattle.std.proofs.Common.{◌<◌, List, ◌∷◌, refl, arith}
use Rattle.sj_ask.specs.Paths.{IsFirst}

pub first_of : {X : Type 0} (Has : X → Type 0) (x : X) (xs : List X) → Has x → IsFirst Has (x ∷ xs) x
first_of Has x xs h = record { place = 0; stands = refl; has = h; none_before = λ i y l. absurd (let k : i < 0 = l in omega arith) }
