use Rattle.folder_linking.proofs.functions.known_definition.Goals as goal

pub unreachable-requires : goal.unreachable-requires
unreachable-requires c = c.in-None.ensures.none c.requires.definition c.requires.defined
