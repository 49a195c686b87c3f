-- Each call of a public method resolves.
use Rattle.sj_names.specs.declared.method_names.MethodName.{MethodName}
use Rattle.sj_world.specs.Known.{Name, Classes}
use Rattle.sj_world.specs.Refusals.{IsInOrder}
use Rattle.sj_world.specs.Resolution.{Answer, Resolves}

-- what a method name resolves to for a class
pub record HasAnswer (w : Classes) (c : Name) (m : MethodName) : Type 0 where
  pub answer : Answer
  pub resolves : Resolves w c m answer

abbrev pub EachCallResolves : Type 0
EachCallResolves = (w : Classes) → IsInOrder w → (c : Name) (m : MethodName) → HasAnswer w c m
