-- What tasks come to where questions are answered, and what they ask there.
use Rattle.std.specs.Prelude.{◌≡◌, List, [], ◌∷◌, Result, Ok, Err}
use Rattle.sj_ask.specs.declared.questions.Question.{Question}
use Rattle.sj_ask.specs.declared.questions.Answer.{Answer}
use Rattle.sj_ask.specs.Apart.{Exchange}
use Rattle.sj_ask.specs.Tasks.{Asking, done, stop, ask}
use Rattle.sj_ask.specs.Told.{Told, told_more}

-- a question is answered, and the rest is asked behind it
pub record GoesOn (Is : Question → Answer → Type 0) (q : Question) (Rest : Answer → List Exchange → Type 0) (log : List Exchange) : Type 0 where
  pub given : Answer
  pub is_answer : Is q given
  pub others : List Exchange
  pub rest : Rest given others
  pub log_is : log ≡ (q, given) ∷ others

-- where questions have these answers the task ends so, and this is what it asks, with the answers
abbrev pub Comes : {E A : Type 0} → (Question → Answer → Type 0) → Asking E A → Result A E → List Exchange → Type 0
Comes Is (done a) r log = (r ≡ Ok a) × (log ≡ [])
Comes Is (stop e) r log = (r ≡ Err e) × (log ≡ [])
Comes Is (ask q next) r log = GoesOn Is q (λ x others. Comes Is (next x) r others) log

-- a task was run by an oracle: it ended so, and what it asked stands behind what the oracle told before
pub record Ran {E A : Type 0} (Is : Question → Answer → Type 0) (m : Asking E A) (r : Result A E) (before after : Told) : Type 0 where
  pub log : List Exchange
  pub comes : Comes Is m r log
  pub told : after ≡ told_more before log
