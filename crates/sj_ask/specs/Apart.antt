-- Answers apart from positions and stored hashes.
use Rattle.std.specs.Prelude.{List, map, option_map}
use Rattle.tree_sameness.specs.Apart.{field_apart, method_apart}
use Rattle.sj_ask.specs.declared.questions.Question.{Question}
use Rattle.sj_ask.specs.declared.questions.Answer.{Answer}
use Rattle.sj_ask.specs.declared.questions.Answer.TheVariants.{Yes, Field, Member, Body}

-- the answer without positions
abbrev pub answer_apart : Answer → Answer
answer_apart (Yes r) = Yes r
answer_apart (Field found) = Field (option_map field_apart found)
answer_apart (Member found) = Member found
answer_apart (Body found) = Body (option_map method_apart found)

-- a question and its answer
abbrev pub Exchange : Type 0
Exchange = Question × Answer

abbrev pub exchange_apart : Exchange → Exchange
exchange_apart x = (x.0, answer_apart x.1)

-- what was asked, with the answers without positions
abbrev pub asked_apart : List Exchange → List Exchange
asked_apart = map exchange_apart
