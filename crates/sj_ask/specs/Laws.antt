-- Laws of questions and tasks.
use Rattle.std.specs.Prelude.{◌≡◌, List, Result, Ok, Err}
use Rattle.std.specs.List.{All}
use Rattle.sj_ask.specs.declared.questions.Question.{Question}
use Rattle.sj_ask.specs.declared.questions.Answer.{Answer}
use Rattle.sj_ask.specs.Stands.{Stand}
use Rattle.sj_ask.specs.Answers.{IsAnswer}
use Rattle.sj_ask.specs.Apart.{Exchange, answer_apart, asked_apart}
use Rattle.sj_ask.specs.Tasks.{Asking, done, stop, ask}
use Rattle.sj_ask.specs.Runs.{Comes}

-- each question has this answer there, apart from positions
abbrev pub HoldsIn : Stand → List Exchange → Type 0
HoldsIn s = All (λ x. IsAnswer s x.0 x.1)

-- two answers to one question are the same apart from positions
abbrev pub AnswersAreOne : Type 0
AnswersAreOne = (s : Stand) (q : Question) (a b : Answer) → IsAnswer s q a → IsAnswer s q b → answer_apart a ≡ answer_apart b

-- two tasks that ask the same, and go on alike at answers that are the same apart from positions
abbrev pub Alike : {E A B : Type 0} → (A → B → Type 0) → Asking E A → Asking E B → Type 0
Alike R (done a) (done b) = R a b
Alike R (stop d) (stop e) = d ≡ e
Alike R (ask q next) (ask r later) = (q ≡ r) × ((x y : Answer) → answer_apart x ≡ answer_apart y → Alike R (next x) (later y))
Alike R _ _ = ⊥

-- two ends: both refusals, and the same, or both results, and alike
abbrev pub SameEnd : {E A B : Type 0} → (A → B → Type 0) → Result A E → Result B E → Type 0
SameEnd R (Ok a) (Ok b) = R a b
SameEnd R (Err d) (Err e) = d ≡ e
SameEnd R _ _ = ⊥

-- what was asked is the same, and so is the end, apart from positions
pub record IsSameRun {E A B : Type 0} (R : A → B → Type 0) (r : Result A E) (log : List Exchange) (r' : Result B E) (log' : List Exchange) : Type 0 where
  pub asked : asked_apart log' ≡ asked_apart log
  pub ends : SameEnd R r r'

-- of two tasks that are alike up to a relation of what they give, where the questions of the one in one world have the same answers in
-- another, the other asks the same there, and ends in the same way up to that relation
abbrev pub EqualAnswers : (E A B : Type 0) → (A → B → Type 0) → Type 0
EqualAnswers E A B R = (s t : Stand) (m : Asking E A) (n : Asking E B) (r : Result A E) (r' : Result B E) (log log' : List Exchange) → Alike R m n → Comes (IsAnswer s) m r log → HoldsIn t log → Comes (IsAnswer t) n r' log' → IsSameRun R r log r' log'

-- what a task asks in one world, where that has the same answers in another, it asks there too, and ends so
abbrev pub HeldAnswersRun : Type 0 → Type 0 → Type 0
HeldAnswersRun E A = (s t : Stand) (m : Asking E A) (r : Result A E) (log : List Exchange) → Comes (IsAnswer s) m r log → HoldsIn t log → Comes (IsAnswer t) m r log
