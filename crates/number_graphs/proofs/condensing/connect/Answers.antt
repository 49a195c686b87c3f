use Rattle.std.proofs.Common.{◌≡◌, ◌++◌, ◌∷◌, [], get_or, take, ◌+◌, ◌<◌, List, ℕ, ap, ◌∙◌, sym, length, arith}
use Rattle.std.proofs.lemmas.List.{take_more}
use Rattle.std.proofs.lemmas.Option.{slice_get-get_or}
use Rattle.number_graphs.proofs.Groups.{next_read}
use Rattle.number_graphs.proofs.Listed.{leads_more}
use Rattle.number_graphs.proofs.Places.{at_read}
use Rattle.number_graphs.proofs.Connected.{connected_more}
use Rattle.number_graphs.proofs.condensing.connect.Goals as goal

pub loop-number-preserved : goal.loop-number-preserved
loop-number-preserved c =
    let number : ℕ = get_or c.args.numbers.now c.loop-number.number-index 0 in
    let of = c.args.of.now in
    let low : number < length of = c.requires.numbers c.loop-number.number-index number (slice_get-get_or c.args.numbers.now c.loop-number.number-index 0 (omega arith)) in
    let one : ℕ = get_or of number 0 in
    let inside : c.args.component < length c.loop-number.graph.items = (let e = c.loop-number.invariant.whole in let r = c.requires.component in omega (arith, e, r)) in
    connected_more of c.args.component (take c.loop-number.number-index c.args.numbers.now) (take (c.loop-number.number-index + 1) c.args.numbers.now) number one c.args.graph.now.items c.loop-number.graph.items _ (take_more c.args.numbers.now c.loop-number.number-index 0 (omega arith)) (slice_get-get_or of number 0 low) c.loop-number.invariant (leads_more c.loop-number.graph.items c.args.component one c.push.new.self inside (c.in_ok-push.ensures.items ∙ ap (λ (l : List ℕ). l ++ one ∷ []) (next_read c.loop-number.graph.items c.args.component c.index_mut.result.now c.index_mut.ensures.value inside)))
