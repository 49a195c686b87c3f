use Rattle.sj_mangling.proofs.Injective as injective
use Rattle.sj_mangling.proofs.laws.mangled_texts_differ.Goals as goal

pub returns : goal.returns
returns c = injective.mangled_texts_differ
