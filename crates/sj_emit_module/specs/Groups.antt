-- Names under their files.
use Rattle.std.specs.Prelude.{◌≡◌, List, [], Option, Some, None}
use Rattle.indexmap.specs.IndexMap.{get}
use Rattle.indexmap.specs.IndexSet.{IndexSet, insert_all}
use Rattle.js_tree.specs.Terms.{Name}
use Rattle.js_tree.specs.declared.items.Binding.{Binding}
use Rattle.sj_emit_module_spec.specs.Modules.{files_of, names_in}
use Rattle.sj_emit_module.specs.declared.groups.NameGroups.{NameGroups}
use Rattle.sj_split.specs.Orders.{Bytes, is_same}

abbrev pub keys_of : {S : Type 0} → Option (IndexSet Name S) → List Name
keys_of None = []
keys_of (Some names) = names.keys

-- the names under a file
abbrev pub names_at : NameGroups → Bytes → List Name
names_at groups f = keys_of (get is_same groups.names f)

-- under each file stand the names of those of these bindings that are of it, each once
pub record HoldNames (file_of : Name → Option Bytes) (bs : List Binding) (groups : NameGroups) : Type 0 where
  pub names : (f : Bytes) → names_at groups f ≡ insert_all is_same [] (names_in file_of f bs)
  pub files : groups.files.keys ≡ insert_all is_same [] (files_of file_of bs)
