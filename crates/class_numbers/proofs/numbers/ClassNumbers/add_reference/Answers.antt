use Rattle.std.proofs.Common.{◌++◌, ◌<◌, ◌∷◌, [], length, List, ℕ, ap, ◌∙◌, arith}
use Rattle.number_graphs.proofs.Groups.{next_read}
use Rattle.number_graphs.specs.Graphs.{At}
use Rattle.number_graphs.proofs.Places.{within}
use Rattle.class_numbers.specs.Numbering.{AreNumbered}
use Rattle.class_numbers.proofs.Numbered.{reference_more}
use Rattle.class_numbers.proofs.numbers.ClassNumbers.add_reference.Goals as goal

pub number-requires-2 : goal.number-requires-2
number-requires-2 c = (c.requires.0, c.in_ok-from.ensures.numbered c.requires.0 c.requires.1)

pub index_mut-requires : goal.index_mut-requires
index_mut-requires c =
    let n = c.in_ok-to.ensures.numbered c.requires.0 (c.in_ok-from.ensures.numbered c.requires.0 c.requires.1) in
    let low = within c.number-2.new.self.classes.keys c.in_ok-from.from c.args.reference.now.from (c.in_ok-to.ensures.kept c.in_ok-from.from c.args.reference.now.from c.in_ok-from.ensures.at) in
    let e = n.whole in
    omega (arith, low, e, c.number-2.new.self.next.ok.0)

pub returns : goal.returns
returns c references was =
    let n : AreNumbered references c.number-2.new.self.classes.keys c.number-2.new.self.next.items = c.in_ok-to.ensures.numbered references (c.in_ok-from.ensures.numbered references was) in
    let at : At c.number-2.new.self.classes.keys c.in_ok-from.from c.args.reference.now.from = c.in_ok-to.ensures.kept c.in_ok-from.from c.args.reference.now.from c.in_ok-from.ensures.at in
    let low : c.in_ok-from.from < length c.number-2.new.self.next.items = (let inside = within c.number-2.new.self.classes.keys c.in_ok-from.from c.args.reference.now.from at in let e = n.whole in omega (arith, inside, e)) in
    reference_more references c.number-2.new.self.classes.keys c.number-2.new.self.next.items n c.in_ok-from.from c.in_ok-to.to c.args.reference.now c.push.new.self at c.in_ok-to.ensures.at (c.in_ok-push.ensures.items ∙ ap (λ (l : List ℕ). l ++ c.in_ok-to.to ∷ []) (next_read c.number-2.new.self.next.items c.in_ok-from.from c.index_mut.result.now c.index_mut.ensures.value low))
