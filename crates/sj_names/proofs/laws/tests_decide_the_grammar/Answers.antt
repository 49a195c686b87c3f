use Rattle.sj_names.proofs.NameGrammar as grammar
use Rattle.sj_names.proofs.laws.tests_decide_the_grammar.Goals as goal

pub returns : goal.returns
returns c = grammar.tests_decide_the_grammar
