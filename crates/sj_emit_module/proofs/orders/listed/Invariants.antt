use Rattle.std.proofs.Common.{◌≡◌, take}
use Rattle.sj_emit_module.proofs.orders.listed.Given as goal

abbrev pub invariant-loop-place : goal.invariant-loop-place
invariant-loop-place l = l.texts.items ≡ take l.place l.set.keys
