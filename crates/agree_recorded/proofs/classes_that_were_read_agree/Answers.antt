use Rattle.agree_recorded.proofs.WasRead as was_read
use Rattle.agree_recorded.proofs.classes_that_were_read_agree.Goals as goal

pub returns-clause-logs : goal.returns-clause-logs
returns-clause-logs c = was_read.logs_hi_judged

pub returns-clause-calls : goal.returns-clause-calls
returns-clause-calls c = was_read.calls_itself_judged

pub returns-clause-loops : goal.returns-clause-loops
returns-clause-loops c = was_read.one_turn_judged

pub returns-clause-has_parameters : goal.returns-clause-has_parameters
returns-clause-has_parameters c = was_read.block_value_judged

pub returns-clause-agree : goal.returns-clause-agree
returns-clause-agree c = was_read.judged_class_agrees
