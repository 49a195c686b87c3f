-- How often texts were counted.
use Rattle.std.specs.Prelude.{ℕ, List, Option, Some, None}
use Rattle.indexmap.specs.IndexMap.{get}
use Rattle.sj_names.specs.WellKnown.{is_same_text}
use Rattle.module_names.specs.declared.counts.Counts.{Counts}

abbrev pub count_in : Option ℕ → ℕ
count_in None = 0
count_in (Some n) = n

-- how often the text was counted
abbrev pub count_at : Counts → List ℕ → ℕ
count_at counts text = count_in (get is_same_text counts.counts text)
