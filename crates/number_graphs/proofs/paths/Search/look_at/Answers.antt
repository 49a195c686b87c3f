use Rattle.std.proofs.Common.{arith}
use Rattle.std.proofs.lemmas.Result.{on_ok_weaker}
use Rattle.number_graphs.specs.declared.paths.Found.TheVariants.{Not, OnPath, Within}
use Rattle.number_graphs.proofs.Places.{at_read_as}
use Rattle.number_graphs.proofs.Steps.{is_number, look_entered, look_joined, look_discarded, entered_nearer}
use Rattle.number_graphs.proofs.paths.Search.look_at.Goals as goal

pub index-requires : goal.index-requires
index-requires c = let low = is_number c.args.next.now c.args.self.now c.args.number c.args.group c.requires.right c.requires.last c.requires.of_group c.requires.graph in omega (arith, low, c.requires.right.whole, c.args.self.now.found.ok.0)

pub enter-requires-clause-unknown : goal.enter-requires-clause-unknown
enter-requires-clause-unknown c = (at_read_as c.args.self.now.found.items c.args.number c.index.result.now Not (let low = is_number c.args.next.now c.args.self.now c.args.number c.args.group c.requires.right c.requires.last c.requires.of_group c.requires.graph in omega (arith, low, c.requires.right.whole)) c.index.ensures c.in-Not.is)

pub enter-requires-clause-within : goal.enter-requires-clause-within
enter-requires-clause-within c = is_number c.args.next.now c.args.self.now c.args.number c.args.group c.requires.right c.requires.last c.requires.of_group c.requires.graph

pub returns-in-Not-clause-right : goal.returns-in-Not-clause-right
returns-in-Not-clause-right c = on_ok_weaker c.enter.result (look_entered c.args.next.now c.args.self.now c.args.number c.args.group c.requires.right c.requires.last c.requires.of_group c.enter.new.self (at_read_as c.args.self.now.found.items c.args.number c.index.result.now Not (let low = is_number c.args.next.now c.args.self.now c.args.number c.args.group c.requires.right c.requires.last c.requires.of_group c.requires.graph in omega (arith, low, c.requires.right.whole)) c.index.ensures c.in-Not.is)) c.enter.ensures

pub returns-in-Not-clause-nearer : goal.returns-in-Not-clause-nearer
returns-in-Not-clause-nearer c = on_ok_weaker c.enter.result (entered_nearer c.args.next.now c.args.number _ c.args.self.now c.enter.new.self (at_read_as c.args.self.now.found.items c.args.number c.index.result.now Not (let low = is_number c.args.next.now c.args.self.now c.args.number c.args.group c.requires.right c.requires.last c.requires.of_group c.requires.graph in omega (arith, low, c.requires.right.whole)) c.index.ensures c.in-Not.is)) c.enter.ensures

pub returns-in-OnPath-clause-right : goal.returns-in-OnPath-clause-right
returns-in-OnPath-clause-right c = look_joined c.args.next.now c.args.self.now c.args.number c.args.group c.requires.right c.requires.last c.requires.of_group c.in-OnPath.place c.join.new.groups.items (at_read_as c.args.self.now.found.items c.args.number c.index.result.now (OnPath c.in-OnPath.place) (let low = is_number c.args.next.now c.args.self.now c.args.number c.args.group c.requires.right c.requires.last c.requires.of_group c.requires.graph in omega (arith, low, c.requires.right.whole)) c.index.ensures c.in-OnPath.is) c.join.ensures.joined

pub returns-in-Within-clause-right : goal.returns-in-Within-clause-right
returns-in-Within-clause-right c = look_discarded c.args.next.now c.args.self.now c.args.number c.args.group c.requires.right c.requires.last c.requires.of_group c.in-Within.field-0 (at_read_as c.args.self.now.found.items c.args.number c.index.result.now (Within c.in-Within.field-0) (let low = is_number c.args.next.now c.args.self.now c.args.number c.args.group c.requires.right c.requires.last c.requires.of_group c.requires.graph in omega (arith, low, c.requires.right.whole)) c.index.ensures c.in-Within.is)
