use Rattle.agree_soundness.proofs.Chains.{on_chain, no_primitive}
use Rattle.agree_soundness.proofs.Lengths.{chain_of_has}
use Rattle.agree_soundness.proofs.classes_with_fields_are_on_chains.Goals as goal

pub returns-clause-classes : goal.returns-clause-classes
returns-clause-classes c = on_chain

pub returns-clause-chains : goal.returns-clause-chains
returns-clause-chains c = λ w kept acyclic c d h free faces sub. chain_of_has w kept acyclic c d free (on_chain w kept c d h free faces sub)

pub returns-clause-primitives : goal.returns-clause-primitives
returns-clause-primitives c = no_primitive
