use Rattle.sj_emit_expr_questions.proofs.AlikeQuestions.{equal_functions}
use Rattle.sj_emit_expr_questions.proofs.equal_answers_give_equal_functions.Goals as goal

pub returns : goal.returns
returns c = equal_functions
