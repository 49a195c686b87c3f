-- With too few units calls are going, without a line.
use Rattle.std.specs.Prelude.{◌≡◌, List, ◌∷◌, length, Some, true, codes}
use Rattle.js_tree.specs.Terms.{Name}
use Rattle.outcomes.specs.Outcome.{going}
use Rattle.sj_names.specs.declared.method_names.MethodName.{MethodName}
use Rattle.js_mean.specs.Proper.{are_distinct}
use Rattle.js_mean.specs.States.{Value, ClassLink, State, Program}
use Rattle.js_mean.specs.Meaning.{Code, below, code_call, method_call}
use Rattle.class_code.specs.Words.{parameters_of}
use Rattle.class_code.specs.Dispatch.{Told}
use Rattle.class_tests.specs.Kinds.{CaseStands, dispatch_code}

pub record ShortCallsGo : Type 0 where
  pub method : (p : Program) (l : ClassLink) (ls : List ClassLink) (c : Code) (this : Value) (vs : List Value) (s : State) → method_call (below p 0) l ls (Some c) this vs s ≡ going
  pub function : (p : Program) (g : Name) (c : Code) (vs : List Value) (s : State) → code_call (below p 0) g (Some c) vs s ≡ going
  pub dispatch : (p : Program) (g : Name) (home : Name → Name) (boxes : List ClassLink) (m : MethodName) (t : Told) (ts : List Told) (v : Value) (vs : List Value) (s : State) → CaseStands p g home boxes m s t → are_distinct (codes "x" ∷ parameters_of m) ≡ true → length (parameters_of m) ≡ length vs → code_call (below p 1) g (Some (dispatch_code m (t ∷ ts))) (v ∷ vs) s ≡ going
