-- Laws of the check.
use Rattle.std.specs.Prelude.{◌≡◌, Bool, List, Result}
use Rattle.sj_trees.specs.declared.classes.MethodDef.{MethodDef}
use Rattle.sj_ask.specs.TreeSamenessApart.{method_apart}
use Rattle.sj_ask.specs.declared.errors.TypeError.{TypeError}
use Rattle.sj_ask.specs.Stands.{Stand}
use Rattle.sj_ask.specs.Answers.{IsAnswer}
use Rattle.sj_ask.specs.Apart.{Exchange}
use Rattle.sj_ask.specs.Runs.{Comes}
use Rattle.sj_ask.specs.Laws.{HoldsIn, IsSameRun}
use Rattle.sj_typing_spec.specs.Checks.{check_task}

-- where each question that the check of a definition asks in one world has the same answer in another, the check of a definition that is
-- the same apart from positions asks the same there, and has the same end
abbrev pub EqualAnswersGiveEqualChecks : Type 0
EqualAnswersGiveEqualChecks = (s t : Stand) (d e : MethodDef) (r r' : Result Bool TypeError) (log log' : List Exchange) → method_apart d ≡ method_apart e → Comes (IsAnswer s) (check_task d d.body) r log → HoldsIn t log → Comes (IsAnswer t) (check_task e e.body) r' log' → IsSameRun (λ a b. a ≡ b) r log r' log'
