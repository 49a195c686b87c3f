use Rattle.std.proofs.Common.{◌≤◌, length, arith}
use Rattle.std.proofs.lemmas.Result.{on_ok_weaker}
use Rattle.number_graphs.specs.Searching.{IsLast}
use Rattle.number_graphs.proofs.Groups.{read_last}
use Rattle.number_graphs.proofs.Steps.{left_right, left_nearer}
use Rattle.number_graphs.proofs.paths.Search.step.Goals as goal

pub look_on-requires-clause-last : goal.look_on-requires-clause-last
look_on-requires-clause-last c = read_last c.args.self.now.groups.items c.len.result c.index-group.result.now (omega (arith, c.len.ensures, c.args.self.now.groups.ok.0)) c.requires.some c.index-group.ensures

pub returns-else-group-len-clause-right : goal.returns-else-group-len-clause-right
returns-else-group-len-clause-right c =
    let last : IsLast c.args.self.now.groups.items c.index-group.result.now = read_last c.args.self.now.groups.items c.len.result c.index-group.result.now (omega (arith, c.len.ensures, c.args.self.now.groups.ok.0)) c.requires.some c.index-group.ensures in
    let none : length c.args.self.now.pending.items ≤ c.index-group.result.now.pending = omega (arith, c.len-2.ensures, c.args.self.now.pending.ok.0) in
    on_ok_weaker c.leave.result (left_right c.args.next.now c.args.self.now c.leave.new.self c.index-group.result.now c.requires.right last none) c.leave.ensures

pub returns-else-group-len-clause-nearer : goal.returns-else-group-len-clause-nearer
returns-else-group-len-clause-nearer c =
    let last : IsLast c.args.self.now.groups.items c.index-group.result.now = read_last c.args.self.now.groups.items c.len.result c.index-group.result.now (omega (arith, c.len.ensures, c.args.self.now.groups.ok.0)) c.requires.some c.index-group.ensures in
    let none : length c.args.self.now.pending.items ≤ c.index-group.result.now.pending = omega (arith, c.len-2.ensures, c.args.self.now.pending.ok.0) in
    on_ok_weaker c.leave.result (left_nearer c.args.next.now c.args.self.now c.leave.new.self c.index-group.result.now c.requires.right last none) c.leave.ensures
