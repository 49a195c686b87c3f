use Rattle.agree_local_rules.proofs.Classes as classes
use Rattle.agree_local_rules.proofs.classes_keep_tree_rules.Goals as goal

pub returns : goal.returns
returns c = classes.class-keeps
