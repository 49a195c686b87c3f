-- Methods whose functions are emitted.
use Rattle.std.specs.Prelude.{◌≡◌, List, [], ◌∷◌}
use Rattle.std.specs.List.{Contains}
use Rattle.sj_names.specs.declared.method_names.Member.{Member}
use Rattle.sj_trees.specs.Term.{Term}
use Rattle.sj_trees.specs.declared.classes.MethodDef.{MethodDef}

-- a member whose function is emitted, with its method and its body
pub record EmittedMethod : Type 0 where
  pub member : Member
  pub definition : MethodDef
  pub its_body : Term

-- no two methods are those of one member
abbrev pub HaveOwnMembers : List EmittedMethod → Type 0
HaveOwnMembers [] = Unit {0}
HaveOwnMembers (e ∷ es) = ((o : EmittedMethod) → Contains es o → e.member ≡ o.member → ⊥) × HaveOwnMembers es

-- one of these methods is that of the member
pub record HasFunction (fs : List EmittedMethod) (m : Member) : Type 0 where
  pub method : EmittedMethod
  pub listed : Contains fs method
  pub is : method.member ≡ m
