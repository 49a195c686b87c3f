use Rattle.std.proofs.Common.{◌≡◌, ◌++◌, length, map}
use Rattle.std.specs.Vec.Iter.{into_iter_items, into_iter_len}
use Rattle.sj_world.specs.declared.facts.Fact.TheVariants.{Made}
use Rattle.sj_world.proofs.linked.put_made.Given as goal

abbrev pub invariant-loop-class : goal.invariant-loop-class
invariant-loop-class l = record {
  put : l.facts.items ++ map Made (into_iter_items l.class-iterator) ≡ l.fn.facts.items ++ map Made l.fn.made.items;
  count : into_iter_len l.class-iterator ≡ length (into_iter_items l.class-iterator);
}
