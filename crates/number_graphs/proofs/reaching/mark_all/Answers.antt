use Rattle.std.proofs.Common.{◌≡◌, ◌++◌, ◌∷◌, [], get_or, take, length, ◌+◌, ◌<◌, List, ℕ, Bool, true, false, sym, ap, subst, arith}
use Rattle.std.specs.Prelude.{Vec}
use Rattle.std.specs.Global.{Global}
use Rattle.std.proofs.lemmas.List.{take_more}
use Rattle.std.proofs.lemmas.Option.{slice_get-get_or}
use Rattle.number_graphs.specs.Marks.{IsMarking}
use Rattle.number_graphs.proofs.Places.{at_read_as}
use Rattle.number_graphs.proofs.Marked.{marked_already, marked_now}
use Rattle.number_graphs.proofs.reaching.mark_all.Goals.{then-not-index+in_ok-push, else-not-index}
use Rattle.number_graphs.proofs.reaching.mark_all.Goals as goal

pub loop-number-preserved : goal.loop-number-preserved
loop-number-preserved c =
    let number : ℕ = get_or c.args.numbers.now c.loop-number.number-index 0 in
    let below : number < length c.loop-number.marks.items = (let low = c.requires c.loop-number.number-index number (slice_get-get_or c.args.numbers.now c.loop-number.number-index 0 (omega arith)) in let e = c.loop-number.invariant.same_length in omega (arith, low, e)) in
    let more : take (c.loop-number.number-index + 1) c.args.numbers.now ≡ take c.loop-number.number-index c.args.numbers.now ++ number ∷ [] = take_more c.args.numbers.now c.loop-number.number-index 0 (omega arith) in
    elim c.if-not-index.branch [
      | then-not-index+in_ok-push w ↦ subst (λ (l : List ℕ). IsMarking (take (c.loop-number.number-index + 1) c.args.numbers.now) c.args.marks.now.items c.args.pending.now.items c.if-not-index.marks.items l) (sym (ap (λ (v : Vec ℕ Global). v.items) w.pending-is)) (subst (λ (l : List Bool). IsMarking (take (c.loop-number.number-index + 1) c.args.numbers.now) c.args.marks.now.items c.args.pending.now.items l w.push.new.self.items) (sym (ap (λ (v : Vec Bool Global). v.items) w.marks-is)) (marked_now (take c.loop-number.number-index c.args.numbers.now) (take (c.loop-number.number-index + 1) c.args.numbers.now) c.args.marks.now.items c.args.pending.now.items c.loop-number.marks.items c.loop-number.pending.items number c.loop-number.invariant more w.push.new.self.items (at_read_as c.loop-number.marks.items number c.index.result.now false below c.index.ensures w.if-not-index.true) w.in_ok-push.ensures.items))
      | else-not-index w ↦ subst (λ (l : List ℕ). IsMarking (take (c.loop-number.number-index + 1) c.args.numbers.now) c.args.marks.now.items c.args.pending.now.items c.if-not-index.marks.items l) (sym (ap (λ (v : Vec ℕ Global). v.items) w.pending-is)) (subst (λ (l : List Bool). IsMarking (take (c.loop-number.number-index + 1) c.args.numbers.now) c.args.marks.now.items c.args.pending.now.items l c.loop-number.pending.items) (sym (ap (λ (v : Vec Bool Global). v.items) w.marks-is)) (marked_already (take c.loop-number.number-index c.args.numbers.now) (take (c.loop-number.number-index + 1) c.args.numbers.now) c.args.marks.now.items c.args.pending.now.items c.loop-number.marks.items c.loop-number.pending.items number c.loop-number.invariant more (at_read_as c.loop-number.marks.items number c.index.result.now true below c.index.ensures w.if-not-index.false)))
    ]
