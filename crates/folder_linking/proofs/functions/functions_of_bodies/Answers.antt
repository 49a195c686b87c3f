use Rattle.std.proofs.Common.{◌∙◌, ap, map, subst, Contains}
use Rattle.folder_judging.specs.Counts.{members_of}
use Rattle.folder_linking.proofs.functions.functions_of_bodies.Goals as goal

pub functions_of-requires-clause-defined : goal.functions_of-requires-clause-defined
functions_of-requires-clause-defined g c = λ k i. c.requires.defined k (subst (λ ks. Contains ks k) (ap (map (λ m. m.now)) c.deref.ensures.value ∙ c.in_ok-members.ensures ∙ ap members_of c.facts.ensures) i)
