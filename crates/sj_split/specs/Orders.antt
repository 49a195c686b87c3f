-- The order of texts by their bytes.
pub use Rattle.sj_names.specs.WellKnown.{is_same_text as is_same}
use Rattle.std.specs.Prelude.{◌≡◌, ℕ, List}
use Rattle.std.specs.List.Sorted.{IsStrictlySortedBy}
use Rattle.std.specs.Ordering.{nat_cmp}
use Rattle.std.specs.Cmp.Lexicographic.{slice_cmp}
use Rattle.std.specs.declared.cmp.Ordering.TheVariants.{Less}

abbrev pub Bytes : Type 0
Bytes = List ℕ

-- one text stands before another in the order of their bytes
abbrev pub IsBefore : Bytes → Bytes → Type 0
IsBefore a b = slice_cmp nat_cmp a b ≡ Less

-- texts in the order of their bytes, none twice
abbrev pub AreIncreasing : List Bytes → Type 0
AreIncreasing texts = IsStrictlySortedBy (slice_cmp nat_cmp) texts
