use Rattle.folder_judging.proofs.types.check_body.Goals as goal

pub returns-in-None-clause-found : goal.returns-in-None-clause-found
returns-in-None-clause-found g c = absurd ((rw c.world.ensures at c.in-None.ensures).none c.requires.definition c.requires.defined)

pub returns-in-None-clause-counted : goal.returns-in-None-clause-counted
returns-in-None-clause-counted g c = absurd ((rw c.world.ensures at c.in-None.ensures).none c.requires.definition c.requires.defined)
