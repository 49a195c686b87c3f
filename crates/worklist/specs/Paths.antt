-- Finite paths of steps.
use Rattle.std.specs.Prelude.{List, Contains}

-- a finite number of steps leads from one thing to another; it may be none
pub data Path {X : Type 0} (Step : X → X → Type 0) (start : X) : X → Type 0 where
  stay : Path Step start start
  on : (before after : X) → Path Step start before → Step before after → Path Step start after

-- a key is among those that another leads to
abbrev pub Leads : {K : Type 0} → (K → List K) → K → K → Type 0
Leads next before after = Contains (next before) after

-- a path leads to the key from one of the first keys
pub record IsReached {K : Type 0} (next : K → List K) (first : List K) (key : K) : Type 0 where
  pub from : K
  pub begins : Contains first from
  pub path : Path (Leads next) from key
