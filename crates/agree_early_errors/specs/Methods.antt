-- What is asked of a method whose body is of the forms that are built.
use Rattle.std.specs.Prelude.{◌≡◌, ℕ, true, List, [], ◌∷◌}
use Rattle.agree_body_rules.specs.Locals.{HaveValues}
use Rattle.agree_early_errors.specs.Once.{DefinesOnce}
use Rattle.agree_body_rules.specs.Typing.{Scene, IsResult, Typed}
use Rattle.agree_body_rules.specs.Built.{Usable, may_make, body_boxes}
use Rattle.agree_body_rules.specs.Sure.{sure_locals}
use Rattle.sj_names.specs.declared.references.TypeRef.{TypeRef}
use Rattle.sj_trees.specs.Term.{Term}
use Rattle.sj_trees.specs.Types.{reference_type}
use Rattle.sj_trees.specs.declared.classes.MethodDef.{MethodDef}
use Rattle.sj_trees.specs.declared.classes.ParamDef.{ParamDef}
use Rattle.agree_body_rules.specs.Known.{Classes}
use Rattle.agree_body_rules.specs.Rules.{Yields}

-- the types of parameters are those of the references in the name
abbrev pub HaveTypes : List ParamDef → List TypeRef → Type 0
HaveTypes [] [] = Unit {0}
HaveTypes (d ∷ ds) (r ∷ rs) = (d.tpe ≡ reference_type r) × HaveTypes ds rs
HaveTypes _ _ = ⊥

-- what the body of a method of this class stands in
abbrev pub scene_of : List ℕ → MethodDef → Term → Scene
scene_of c d e = record { owner = c; space = d.namespace; sure = sure_locals e; locals = d.params; labels = [] }

-- the body of a method of this class keeps the rules with the parameters in scope and yields the result as what it is; each local is defined once; there are values of each
-- parameter's type, and of the result's unless it is none; and its code makes objects that hold chars
-- only if they can be made
pub record KeepsRules (w : Classes) (has : Usable) (c : List ℕ) (d : MethodDef) (e : Term) : Type 0 where
  pub typed : Typed w has (scene_of c d e) e
  pub yields : Yields w e d.result
  pub boxed : may_make has (body_boxes d e) ≡ true
  pub result : IsResult d.result
  pub values : HaveValues d.params
  pub once : DefinesOnce d e
