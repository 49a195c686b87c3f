-- Things under their files.
use Rattle.std.specs.Prelude.{List, [], Option, Some, None}
use Rattle.indexmap.specs.IndexMap.{get}
use Rattle.sj_emit_module.specs.declared.lists.FileLists.{FileLists}
use Rattle.sj_split.specs.Orders.{Bytes, is_same}

abbrev pub items_of : {T V : Type 0} → (V → List T) → Option V → List T
items_of items None = []
items_of items (Some v) = items v

-- the things under a file
abbrev pub items_at : {T : Type 0} → FileLists T → Bytes → List T
items_at lists f = items_of (λ v. v.items) (get is_same lists.lists f)
