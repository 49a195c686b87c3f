use Rattle.std.proofs.Common.{◌+◌, ◌*◌, ◌==◌, cond, count_by, take, ap, ap₂, sym, ◌∙◌, arith}
use Rattle.std.proofs.Math.Seq.{take-add}
use Rattle.std.proofs.lemmas.List.{take_rest}
use Rattle.std.proofs.lemmas.List.Sums.{sum_by-append, sum_by-take-drop}
use Rattle.std.specs.Simd.Lanes.{chunk}
use Rattle.sj_lanes.proofs.line_feeds.count_newlines.Goals as goal

pub loop-at-preserved : goal.loop-at-preserved
loop-at-preserved c =
    let bytes = c.args.bytes.now in
    let at = c.loop-at.at in
    let more = 64 * c.min-blocks.result in (
      omega arith,
      ap₂ (λ a b. a + b) c.loop-at.invariant.1 c.count_in_blocks-total.ensures
          ∙ sym (ap (count_by (λ x. x == 10)) (take-add at more bytes) ∙ sum_by-append (λ x. cond (x == 10) 1 0) (take at bytes) (chunk at more bytes)),
    )

pub returns : goal.returns
returns c =
    let bytes = c.args.bytes.now in
    let at = c.loop-at.at in
    ap₂ (λ a b. a + b) c.loop-at.invariant.1 (c.count_by_one.ensures ∙ ap (count_by (λ x. x == 10)) (take_rest bytes at))
    ∙ sum_by-take-drop (λ x. cond (x == 10) 1 0) bytes at
