use Rattle.agree_local_rules.proofs.Classes as classes
use Rattle.agree_local_rules.proofs.methods_have_the_types_of_their_names.Goals as goal

pub returns : goal.returns
returns c = classes.signature-keeps
