-- Ancestors and subtypes as the meaning of the IR works them out, and as a world has them.
use Rattle.std.specs.Prelude.{◌≡◌, ◌↔◌, true}
use Rattle.ir_mean.specs.Dispatch.{is_ancestor, is_sub}
use Rattle.sj_trees.specs.declared.types.IrType.{IrType}
use Rattle.sj_world.specs.Ancestors.{IsAncestor}
use Rattle.sj_world.specs.Known.{Name, Classes}
use Rattle.sj_world.specs.Subtypes.{IsSub}

abbrev pub AncestorsAreWorkedOut : Type 0
AncestorsAreWorkedOut = (w : Classes) (c d : Name) → (is_ancestor w c d ≡ true) ↔ IsAncestor w c d

abbrev pub SubtypesAreWorkedOut : Type 0
SubtypesAreWorkedOut = (w : Classes) (s t : IrType) → (is_sub w s t ≡ true) ↔ IsSub w s t
