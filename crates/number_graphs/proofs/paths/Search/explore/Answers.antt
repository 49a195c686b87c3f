use Rattle.std.proofs.Common.{arith}
use Rattle.std.proofs.lemmas.Result.{on_ok_weaker}
use Rattle.number_graphs.specs.declared.paths.Found.TheVariants.{Not}
use Rattle.number_graphs.specs.Graphs.{At}
use Rattle.number_graphs.specs.Searching.{StaysKnown}
use Rattle.number_graphs.proofs.Places.{at_read, at_read_as, one_at}
use Rattle.number_graphs.proofs.Steps.{first_entered, entered_nearer, entered_known}
use Rattle.number_graphs.proofs.paths.Search.explore.Goals as goal

pub finish-requires-clause-right : goal.finish-requires-clause-right
finish-requires-clause-right c = first_entered c.args.next.now c.args.number c.args.self.now c.enter.new.self c.requires.right c.requires.none_open (at_read_as c.args.self.now.found.items c.args.number c.index.result.now Not (let e = c.requires.right.whole in omega (arith, e, c.requires.number)) c.index.ensures c.in-Not.is) c.in_ok-enter.ensures

pub returns-in_ok-enter-clause-still_known : goal.returns-in_ok-enter-clause-still_known
returns-in_ok-enter-clause-still_known c =
    let at : At c.args.self.now.found.items c.args.number Not = at_read_as c.args.self.now.found.items c.args.number c.index.result.now Not (let e = c.requires.right.whole in omega (arith, e, c.requires.number)) c.index.ensures c.in-Not.is in
    on_ok_weaker c.finish.result (λ (f : StaysKnown c.enter.new.self c.finish.new.self). λ number there. (entered_nearer c.args.next.now c.args.number 0 c.args.self.now c.enter.new.self at c.in_ok-enter.ensures).still_known number (f number there)) c.finish.ensures.still_known

pub returns-in_ok-enter-clause-known : goal.returns-in_ok-enter-clause-known
returns-in_ok-enter-clause-known c =
    let at : At c.args.self.now.found.items c.args.number Not = at_read_as c.args.self.now.found.items c.args.number c.index.result.now Not (let e = c.requires.right.whole in omega (arith, e, c.requires.number)) c.index.ensures c.in-Not.is in
    on_ok_weaker c.finish.result (λ (f : StaysKnown c.enter.new.self c.finish.new.self). λ there. entered_known c.args.next.now c.args.number c.args.self.now c.enter.new.self at c.in_ok-enter.ensures (f c.args.number there)) c.finish.ensures.still_known

pub returns-in_default : goal.returns-in_default
returns-in_default c = record {
  right = c.requires.right;
  none_open = c.requires.none_open;
  still_known = λ number there. there;
  known = λ at. c.in_default.not-Not (one_at c.args.self.now.found.items c.args.number c.index.result.now Not (at_read c.args.self.now.found.items c.args.number c.index.result.now (let e = c.requires.right.whole in omega (arith, e, c.requires.number)) c.index.ensures) at);
}
