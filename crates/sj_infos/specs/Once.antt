-- The things of a list once each, in the order in which they first stand in it.
use Rattle.std.specs.Prelude.{List, [], ◌∷◌, ◌++◌, Contains}

pub data FirstsOf {A : Type 0} : List A → List A → Type 0 where
  nothing : FirstsOf [] []
  new : (xs once : List A) (x : A) → FirstsOf xs once → (Contains xs x → ⊥) → FirstsOf (xs ++ x ∷ []) (once ++ x ∷ [])
  again : (xs once : List A) (x : A) → FirstsOf xs once → Contains xs x → FirstsOf (xs ++ x ∷ []) once
