-- Laws of emission.
use Rattle.std.specs.Prelude.{◌≡◌, List, Result, Ok}
use Rattle.sj_ask.specs.Answers.{IsAnswer}
use Rattle.sj_ask.specs.Apart.{Exchange}
use Rattle.sj_ask.specs.Laws.{HoldsIn, IsSameRun}
use Rattle.sj_ask.specs.Runs.{Comes, Ran}
use Rattle.sj_ask.specs.Stands.{Stand}
use Rattle.sj_ask.specs.Told.{Told}
use Rattle.sj_ask.specs.declared.questions.Answer.{Answer}
use Rattle.sj_ask.specs.declared.questions.Question.{Question}
use Rattle.sj_emit_expr_spec.specs.Terms.{Method}
use Rattle.js_tree.specs.declared.items.JsMember.{JsMember}
use Rattle.sj_names.specs.declared.memory.NoMemory.{NoMemory}
use Rattle.sj_emit_expr_questions.specs.Task.{Emitted, emit_task, emitted_view}

-- where each question that the emission of a method asks in one world has the same answer in another, it asks the same there and gives the same function
abbrev pub EqualAnswersGiveEqualFunctions : Type 0
EqualAnswersGiveEqualFunctions = (s t : Stand) (m : Method) (r r' : Result Emitted NoMemory) (log log' : List Exchange) → Comes (IsAnswer s) (emit_task m) r log → HoldsIn t log → Comes (IsAnswer t) (emit_task m) r' log' → IsSameRun (λ a b. a ≡ b) r log r' log'

-- the emission was run and gave this function, unless memory ran out
abbrev pub AsEmitted : (Question → Answer → Type 0) → Method → Result JsMember NoMemory → Told → Told → Type 0
AsEmitted Is m (Ok e) before after = Ran {E = NoMemory} Is (emit_task m) (Ok (emitted_view e)) before after
AsEmitted Is m _ before after = Unit {0}
