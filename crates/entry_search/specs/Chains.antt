-- The chain that a world keeps of a class goes to its end.
use Rattle.std.specs.Prelude.{ℕ, ◌<◌, List}
use Rattle.sj_world.specs.Known.{Name, Classes}
use Rattle.sj_world.specs.Ancestors.{IsNext}
use Rattle.sj_world.specs.Tables.{AreChain}
use Rattle.entry_search.specs.Search.{IsChainTo}

-- where some height falls from each class to its superclass, as the number of ancestors does in a world without cycles
pub record Falls (w : Classes) (height : Name → ℕ) : Type 0 where
  pub falls : (a b : Name) → IsNext w a b → height b < height a

abbrev pub ChainsEnd : Type 0
ChainsEnd = (w : Classes) (c : Name) (names : List Name) (height : Name → ℕ) → Falls w height → AreChain w c names → IsChainTo w c names
