use Rattle.sj_lanes.proofs.Counted.{HasCounted}
use Rattle.sj_lanes.proofs.line_feeds.count_in_blocks.Given as goal

abbrev pub invariant-loop-block : goal.invariant-loop-block
invariant-loop-block l = HasCounted 10 l.at l.block l.bytes l.counts
