-- The law of dispatch on objects.
use Rattle.std.specs.Prelude.{◌≡◌, List, Contains, Some, None, ◌≢◌}
use Rattle.sj_names.specs.declared.method_names.MethodName.{MethodName}
use Rattle.sj_names.specs.MethodNames.{IsMethodName}
use Rattle.sj_world.specs.declared.facts.Fact.{Fact}
use Rattle.sj_world.specs.declared.linked.MethodEntry.{MethodEntry}
use Rattle.sj_world.specs.Known.{Name, Classes}
use Rattle.sj_emit_class_spec.specs.Entries.{AreEntries, IsWanted, IsLive}
use Rattle.sj_emit_class_spec.specs.Dispatch.{IsReachedTarget}
use Rattle.sj_emit_class_spec.specs.Rules.{public_member}
use Rattle.entry_search.specs.Search.{found, IsChainTo}

-- every name in the entries and the facts has a spelling, and no entry but one of a reflective name has one
pub record AreSpelled (entries : List MethodEntry) : Type 0 where
  pub spelled : (e : MethodEntry) → Contains entries e → IsMethodName e.name

-- where m is wanted at a live class and its target there is reached, the search along its chain finds that target
abbrev pub SearchFindsTarget : Type 0
SearchFindsTarget = (w : Classes) (facts : List Fact) (entries : List MethodEntry) → AreEntries w facts entries → AreSpelled entries →
    (c : Name) (chain : List Name) → IsChainTo w c chain → (m : MethodName) (owner : Name) → IsMethodName m → m.result ≢ None →
    IsLive w facts c → IsWanted w facts c m → IsReachedTarget w facts c m owner →
    found entries chain m ≡ Some (public_member owner m)
