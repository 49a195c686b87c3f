use Rattle.std.proofs.Common.{refl}
use Rattle.folder_linking.proofs.Bodies.{function_is}
use Rattle.folder_linking.proofs.Listed.{method_listed}
use Rattle.folder_linking.proofs.functions.function_of.Goals as goal

pub returns-clause-function : goal.returns-clause-function
returns-clause-function g c = (refl, function_is c.args.linked.now.world c.args.member.now c.known_definition-definition.result.now _ c.requires.defined (rw c.world.ensures at c.known_definition-definition.ensures) refl c.in_ok-piece.ensures.piece c.in_ok-piece.ensures.rules)

pub emitted_piece-requires-clause-defined : goal.emitted_piece-requires-clause-defined
emitted_piece-requires-clause-defined g c = method_listed c.args.linked.now.world c.requires.listed c.args.member.now c.known_definition-definition.result.now (rw c.world.ensures at c.known_definition-definition.ensures)
