use Rattle.std.proofs.Common.{Bool, sym, subst, IsTrue, Contains}
use Rattle.std.specs.Prelude.{◌↔◌}
use Rattle.sj_world.proofs.Subtyped.{found_in}
use Rattle.sj_world.proofs.subtypes.stands_in.Goals as goal

pub returns : goal.returns
returns c = subst (λ (r : Bool). IsTrue r ↔ Contains c.args.names.now c.args.name.now) (sym c.is_ok.ensures.value) (found_in c.args.names.now c.args.name.now c.binary_search.result c.requires c.binary_search.ensures.bound c.binary_search.ensures.position)
