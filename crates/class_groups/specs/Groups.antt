-- Classes that are grouped by keys.
pub use Rattle.sj_names.specs.WellKnown.{is_same_text as is_same}
use Rattle.std.specs.Prelude.{◌≡◌, ℕ, List, [], ◌∷◌, length, Vec, if◌then◌else◌}
use Rattle.std.specs.Global.{Global}
use Rattle.class_groups.specs.declared.groups.ClassGroups.{ClassGroups}

abbrev pub Name : Type 0
Name = List ℕ

-- the list at the first place of the key
abbrev pub list_at : List Name → List (Vec Name Global) → Name → List Name
list_at [] lists key = []
list_at (first ∷ keys) [] key = []
list_at (first ∷ keys) (list ∷ lists) key = if is_same key first then list.items else list_at keys lists key

-- the classes of a key
abbrev pub group_at : ClassGroups → Name → List Name
group_at groups key = list_at groups.keys.keys groups.classes.items key

-- there is a list for each key
abbrev pub AreGroups : ClassGroups → Type 0
AreGroups groups = length groups.classes.items ≡ length groups.keys.keys
