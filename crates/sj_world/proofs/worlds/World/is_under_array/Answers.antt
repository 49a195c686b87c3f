use Rattle.std.proofs.Common.{sym, subst, IsTrue}
use Rattle.std.specs.Prelude.{◌↔◌}
use Rattle.sj_trees.specs.declared.types.IrType.{IrType}
use Rattle.sj_world.specs.Under.{IsUnderArray}
use Rattle.sj_world.proofs.worlds.World.is_under_array.Goals as goal

pub returns-in-Array : goal.returns-in-Array
returns-in-Array c = subst (λ (s : IrType). IsTrue c.is_array_under.result ↔ IsUnderArray c.args.self.now s c.args.above.now) (sym c.in-Array.is) c.is_array_under.ensures
