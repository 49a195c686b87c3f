-- Laws of verdicts.
use Rattle.std.specs.Prelude.{◌≡◌, ℕ, List, Some, Result}
use Rattle.sj_trees.specs.Term.{Term}
use Rattle.sj_trees.specs.declared.classes.MethodDef.{MethodDef}
use Rattle.sj_world.specs.Known.{Classes}
use Rattle.sj_typing_spec.specs.TypeError.{TypeError}
use Rattle.sj_typing_spec.specs.Stands.{Stand}
use Rattle.sj_typing_spec.specs.Answers.{IsAnswer}
use Rattle.sj_typing_spec.specs.Apart.{Exchange}
use Rattle.sj_typing_spec.specs.Runs.{Comes}
use Rattle.sj_typing_spec.specs.Checks.{check_task}
use Rattle.sj_typing_spec.specs.Typed.{IsTyped, IsUntyped}
use Rattle.sj_typing_spec.specs.Answered.{agreed, IsVerdict}

-- the end of a check in a world is the verdict on the method there
abbrev pub ChecksAreVerdicts : Type 0
ChecksAreVerdicts = (s : Stand) (d : MethodDef) (body : Term) (r : Result (Unit {0}) TypeError) (log : List Exchange) → d.body ≡ Some body → Comes (IsAnswer s) (check_task d d.body) (agreed r) log → IsVerdict s.classes d r

-- there is one verdict
pub record HasOneVerdict (w : Classes) (m : MethodDef) : Type 0 where
  pub not_both : (rule place : ℕ) → IsTyped w m → IsUntyped w m rule place → ⊥
  pub one_fault : (rule other place another : ℕ) → IsUntyped w m rule place → IsUntyped w m other another → (rule ≡ other) × (place ≡ another)

abbrev pub VerdictIsOne : Type 0
VerdictIsOne = (w : Classes) (m : MethodDef) → HasOneVerdict w m
