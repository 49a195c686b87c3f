-- Static fields that the code can use.
use Rattle.std.proofs.Common.{◌≡◌, Bool, true, false, List, refl}
use Rattle.std.specs.Prelude.{◌||◌}
use Rattle.agree_local_rules.specs.Built.{has_static}
use Rattle.sj_emit_help_spec.specs.declared.kinds.Helper.{Helper}
use Rattle.linked_pieces.specs.Used.{used_of, uses_static}
use Rattle.agree_programs.specs.EmittedMethods.{EmittedMethod}
use Rattle.sj_trees.specs.declared.types.IrType.{IrType}
use Rattle.sj_world.specs.Known.{Name, Classes}
use Rattle.sj_world.specs.declared.facts.Fact.{Fact}

-- whether it is read or set
pub static_is : (w : Classes) (facts : List Fact) (all : List EmittedMethod) (live : List Name) (helpers : List Helper) (written : List Name) (c f : Name) (t : IrType) → has_static (used_of w facts all live helpers written) c f t ≡ true → uses_static w facts written c f t ≡ true
static_is w facts all live helpers written c f t h = go (uses_static w facts written c f t) refl h
  where
    go : (b : Bool) → uses_static w facts written c f t ≡ b → (b || b) ≡ true → b ≡ true
    go true e h = refl
    go false e h = h
