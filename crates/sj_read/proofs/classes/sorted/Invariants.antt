use Rattle.std.proofs.Common.{◌≡◌, ◌++◌, length}
use Rattle.std.specs.Vec.Iter.{into_iter_items, into_iter_len}
use Rattle.sj_read_spec.specs.Classes.{fields_in, methods_in}
use Rattle.sj_read.proofs.classes.sorted.Given as goal

abbrev pub invariant-loop-member : goal.invariant-loop-member
invariant-loop-member l = record {
  fields : l.fields.items ++ fields_in (into_iter_items l.member-iterator) ≡ fields_in l.fn.members.items;
  methods : l.methods.items ++ methods_in (into_iter_items l.member-iterator) ≡ methods_in l.fn.members.items;
  count : into_iter_len l.member-iterator ≡ length (into_iter_items l.member-iterator);
}
