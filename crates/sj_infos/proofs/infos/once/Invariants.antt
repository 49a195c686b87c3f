use Rattle.std.proofs.Common.{◌≡◌, length}
use Rattle.std.specs.Vec.Iter.{into_iter_items, into_iter_len}
use Rattle.sj_infos.proofs.Firsts.{IsDone}
use Rattle.sj_infos.proofs.infos.once.Given as goal

abbrev pub invariant-loop-info : goal.invariant-loop-info
invariant-loop-info l = record {
  done : IsDone l.fn.asked.items (into_iter_items l.info-iterator) l.infos.keys;
  count : into_iter_len l.info-iterator ≡ length (into_iter_items l.info-iterator);
}
