use Rattle.std.proofs.Common.{◌≡◌, ◌++◌, length, map}
use Rattle.std.specs.Vec.Iter.{into_iter_items, into_iter_len}
use Rattle.sj_world.specs.declared.facts.Fact.TheVariants.{Body}
use Rattle.sj_world.proofs.linked.put_bodies.Given as goal

abbrev pub invariant-loop-body : goal.invariant-loop-body
invariant-loop-body l = record {
  put : l.facts.items ++ map Body (into_iter_items l.body-iterator) ≡ l.fn.facts.items ++ map Body l.fn.bodies.items;
  count : into_iter_len l.body-iterator ≡ length (into_iter_items l.body-iterator);
}
