-- A world that has what its classes give has the laws on objects.
use Rattle.std.proofs.Common.{refl}
use Rattle.agree_soundness.proofs.Chains.{on_chain, no_primitive, no_top, class_hijacked}
use Rattle.agree_soundness.proofs.Lengths.{chain_of_has}
use Rattle.agree_soundness.specs.Laws.{ObjectLaws}
use Rattle.agree_soundness.specs.Worlds.{ObjectWorld}
use Rattle.agree_early_errors.specs.Built.{Usable}
use Rattle.dispatch_laws.specs.Known.{Classes}

pub laws_of : (w : Classes) (has : Usable) → ObjectWorld w has → ObjectLaws w w has
laws_of w has h = record {
  typed = λ k. refl;
  received = h.received;
  looked = h.looked;
  on_arrays = h.on_arrays;
  reflected = h.reflected;
  targets = h.targets;
  built = h.built;
  made = λ c m. (h.made c m).0;
  fields = λ c f t i. ((h.fields c f t i).1, (h.fields c f t i).2);
  one_type = h.one_type;
  holders = λ c f t i d m sub. let its = h.made d m in chain_of_has w h.kept h.acyclic c d its.0 (on_chain w h.kept c d (h.fields c f t i).0 its.0 its.1 sub);
  strangers = λ c f t i o n its sub. no_primitive w h.kept c o n (h.fields c f t i).0 its (h.primitives n (class_hijacked w h.kept o n its)) sub;
  statics = h.statics;
  one_static = h.one_static;
  modules = h.modules;
  exceptions = h.exceptions;
  divisions = h.divisions;
  tops = λ c f t i sub. no_top w h.kept c (h.fields c f t i).0 sub;
  casts = h.casts;
  arrays = h.arrays;
  sizes = h.sizes;
  reads = h.reads;
  writes = h.writes;
  stores = h.stores;
}
