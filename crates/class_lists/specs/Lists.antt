-- What is kept under names.
use Rattle.std.specs.Prelude.{ℕ, List, [], Option, Some, None}
use Rattle.indexmap.specs.IndexMap.{get}
use Rattle.sj_names.specs.WellKnown.{is_same_text}
use Rattle.class_lists.specs.declared.lists.Lists.{Lists}

abbrev pub items_of : {T V : Type 0} → (V → List T) → Option V → List T
items_of items None = []
items_of items (Some v) = items v

-- the items under a name
abbrev pub items_at : {T : Type 0} → Lists T → List ℕ → List T
items_at lists name = items_of (λ v. v.items) (get is_same_text lists.lists name)
