-- Which entry a call by name finds, and what has to hold of the facts so that it is the target.
use Rattle.std.specs.Prelude.{◌≡◌, ◌&&◌, Bool, true, List, [], ◌∷◌, Contains, Option, Some, None, if◌then◌else◌}
use Rattle.sj_names.specs.declared.method_names.MethodName.{MethodName}
use Rattle.sj_names.specs.declared.method_names.Member.{Member}
use Rattle.sj_names.specs.MethodNames.{spelled_method}
use Rattle.sj_world.specs.declared.facts.Fact.{Fact}
use Rattle.sj_world.specs.declared.facts.Fact.TheVariants.{Made, Called}
use Rattle.sj_world.specs.declared.linked.MethodEntry.{MethodEntry}
use Rattle.sj_world.specs.Known.{Name, Classes, is_same, is_hijacked}
use Rattle.sj_world.specs.Ancestors.{IsAncestor, IsNext, next_on_chain}
use Rattle.sj_emit_class_spec.specs.Dispatch.{IsReachedTarget}

-- the entry of a class for a name
abbrev pub is_for : Name → MethodName → MethodEntry → Bool
is_for c m e = is_same e.class c && is_same (spelled_method e.name) (spelled_method m)

abbrev pub or_member : Option Member → Option Member → Option Member
or_member None other = other
or_member (Some k) other = Some k

abbrev pub entry_for : List MethodEntry → Name → MethodName → Option Member
entry_for [] c m = None
entry_for (e ∷ es) c m = if is_for c m e then Some e.target else entry_for es c m

-- the first of these classes that has an entry
abbrev pub found : List MethodEntry → List Name → MethodName → Option Member
found es [] m = None
found es (c ∷ cs) m = or_member (entry_for es c m) (found es cs m)

-- the chain of a class to its end
pub data IsChainTo (w : Classes) : Name → List Name → Type 0 where
  ends : (c : Name) → next_on_chain w c ≡ None → IsChainTo w c (c ∷ [])
  goes : (c d : Name) (ds : List Name) → IsNext w c d → IsChainTo w d ds → IsChainTo w c (c ∷ ds)

-- m has a target at C, and its body is reached
pub record HasReachedTarget (w : Classes) (facts : List Fact) (c : Name) (m : MethodName) : Type 0 where
  pub owner : Name
  pub is_target : IsReachedTarget w facts c m owner

-- where m is called on a class, each made class below it and each hijacked class below it has a reached target. In no folder that is
-- accepted is one of them abstract or missing
pub record AreTargetsReached (w : Classes) (facts : List Fact) : Type 0 where
  pub made : (c d : Name) (m : MethodName) → Contains facts (Called d m) → Contains facts (Made c) → IsAncestor w c d → HasReachedTarget w facts c m
  pub hijacked : (c d : Name) (m : MethodName) → Contains facts (Called d m) → is_hijacked c ≡ true → IsAncestor w c d → HasReachedTarget w facts c m
