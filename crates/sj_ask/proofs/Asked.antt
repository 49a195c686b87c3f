-- Answers that are logged.
use Rattle.std.proofs.Common.{ap}
use Rattle.sj_ask.specs.declared.questions.Question.TheVariants as question
use Rattle.sj_ask.specs.declared.questions.Answer.TheVariants as answer
use Rattle.sj_world.specs.Subtypes as subtypes
use Rattle.sj_ask.specs.Answers.{IsAboveHijacked}
use Rattle.sj_ask.specs.Laws.{AnswersAreOne}
use Rattle.sj_ask.proofs.One.{one_truth, one_field_answer, one_target, one_single, one_body_answer}

pub answers_are_one : AnswersAreOne
answers_are_one s (question.IsSub a b) (answer.Yes x) (answer.Yes y) h k = ap answer.Yes (one_truth (subtypes.IsSub s.classes a b) x y h k)
answers_are_one s (question.IsSub a b) (answer.Yes x) _ h k = absurd k
answers_are_one s (question.IsSub a b) _ _ h k = absurd h
answers_are_one s (question.Field c name mark) (answer.Field x) (answer.Field y) h k = ap answer.Field (one_field_answer s.classes c name mark x y h k)
answers_are_one s (question.Field c name mark) (answer.Field x) _ h k = absurd k
answers_are_one s (question.Field c name mark) _ _ h k = absurd h
answers_are_one s (question.Resolve c m) (answer.Member x) (answer.Member y) h k = ap answer.Member (one_target s.classes c m x y h k)
answers_are_one s (question.Resolve c m) (answer.Member x) _ h k = absurd k
answers_are_one s (question.Resolve c m) _ _ h k = absurd h
answers_are_one s (question.Single c m) (answer.Member x) (answer.Member y) h k = ap answer.Member (one_single s.classes s.facts c m x y h k)
answers_are_one s (question.Single c m) (answer.Member x) _ h k = absurd k
answers_are_one s (question.Single c m) _ _ h k = absurd h
answers_are_one s (question.HasHijacked c) (answer.Yes x) (answer.Yes y) h k = ap answer.Yes (one_truth (IsAboveHijacked s.classes c) x y h k)
answers_are_one s (question.HasHijacked c) (answer.Yes x) _ h k = absurd k
answers_are_one s (question.HasHijacked c) _ _ h k = absurd h
answers_are_one s (question.Body m) (answer.Body x) (answer.Body y) h k = ap answer.Body (one_body_answer s m x y h k)
answers_are_one s (question.Body m) (answer.Body x) _ h k = absurd k
answers_are_one s (question.Body m) _ _ h k = absurd h
