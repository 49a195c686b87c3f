-- Which of some methods have a reached target on a value of a class.
use Rattle.std.specs.Prelude.{List, Contains}
use Rattle.sj_names.specs.declared.method_names.MethodName.{MethodName}
use Rattle.sj_world.specs.Known.{Name, Classes}
use Rattle.sj_world.specs.declared.facts.Fact.{Fact}
use Rattle.sj_emit_class_spec.specs.Dispatch.{IsReachedTarget}

pub record IsReachedAmong (w : Classes) (known : List Fact) (c : Name) (names : List MethodName) (m : MethodName) (owner : Name) : Type 0 where
  pub among : Contains names m
  pub reached : IsReachedTarget w known c m owner

pub record HasNoneReached (w : Classes) (known : List Fact) (c : Name) (names : List MethodName) : Type 0 where
  pub none : (m : MethodName) (owner : Name) → IsReachedAmong w known c names m owner → ⊥
