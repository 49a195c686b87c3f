use Rattle.std.proofs.Common.{◌≡◌, ◌+◌, ◌*◌, eqb, ap, sym, subst, ◌∙◌, Fits, w8, w16, arith}
use Rattle.std.proofs.lemmas.List.{map-id}
use Rattle.std.proofs.lemmas.Simd.{length-chunk}
use Rattle.std.specs.List.{count_by}
use lib.Lanes.{Each2, Steps, chunk, fold_l, zip2}
use Rattle.sj_lanes.proofs.Counted.{HasCounted, selected, count_none, count_fits, count_further, count_widens, sum_steps, sum_is}
use Rattle.sj_lanes.proofs.line_feeds.count_in_blocks.Goals as goal

pub loop-block-init : goal.loop-block-init
loop-block-init c = count_none 10 c.args.at c.args.bytes.now

pub overflow_add-counts : goal.overflow_add-counts
overflow_add-counts c =
    let at = c.args.at in
    let bytes = c.args.bytes.now in
    let k = c.loop-block.block in
    let full = length-chunk (at + 64 * k) 64 bytes (omega arith) in
    subst (Each2 (λ a b. Fits w8 (a + b)) c.loop-block.counts) (sym (selected 10 (chunk (at + 64 * k) 64 bytes) 64 full))
    (count_fits 10 at k bytes c.loop-block.counts c.loop-block.invariant (omega arith))

pub loop-block-preserved : goal.loop-block-preserved
loop-block-preserved c =
    let at = c.args.at in
    let bytes = c.args.bytes.now in
    let k = c.loop-block.block in
    let full = length-chunk (at + 64 * k) 64 bytes (omega arith) in
    subst (λ block. HasCounted 10 at (k + 1) bytes (zip2 (λ a b. a + b) c.loop-block.counts block)) (sym (selected 10 (chunk (at + 64 * k) 64 bytes) 64 full))
    (count_further 10 at k bytes c.loop-block.counts c.loop-block.invariant full)

pub overflow_cast-result : goal.overflow_cast-result
overflow_cast-result c = count_widens 10 c.args.at c.loop-block.block c.args.bytes.now c.loop-block.counts c.loop-block.invariant (omega arith)

pub overflow_add-result : goal.overflow_add-result
overflow_add-result c =
    subst (Steps (λ s x. Fits w16 (s + x)) (λ s x. s + x) 0) (sym (map-id c.loop-block.counts))
    (sum_steps 10 c.args.at c.loop-block.block c.args.bytes.now c.loop-block.counts c.loop-block.invariant (omega arith))

pub returns : goal.returns
returns c =
    let ends : c.loop-block.block ≡ c.args.blocks = omega arith in
    ap (fold_l (λ s x. s + x) 0) (map-id c.loop-block.counts)
    ∙ sum_is 10 c.args.at c.loop-block.block c.args.bytes.now c.loop-block.counts c.loop-block.invariant
    ∙ ap (λ k. count_by (λ x. eqb x 10) (chunk c.args.at (64 * k) c.args.bytes.now)) ends
