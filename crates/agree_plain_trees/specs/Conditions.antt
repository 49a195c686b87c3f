-- What is asked of a plain tree where it stands.
use Rattle.std.specs.Prelude.{◌≡◌, ℕ, true, false, List}
use Rattle.agree_body_rules.specs.Locals.{Scope, parameters_of}
use Rattle.agree_body_rules.specs.Typing.{Scene, Typed}
use Rattle.agree_body_rules.specs.Boxes.{boxes_as_text}
use Rattle.agree_body_rules.specs.Built.{Usable, may_make}
use Rattle.agree_body_rules.specs.Plain.{is_no_type, is_plain}
use Rattle.sj_names.specs.declared.method_names.Namespace.TheVariants.{Constructor}
use Rattle.sj_trees.specs.Term.{Term, apply_statically}
use Rattle.agree_plain_trees.specs.Settings.{Code}
use Rattle.sj_trees.specs.declared.types.IrType.{IrType}
use Rattle.ir_mean.specs.Known.{Classes}

-- the locals of the scene are in scope
abbrev pub InScope : Scene → Scope → Type 0
InScope s g = (x : List ℕ) (t : IrType) → parameters_of s.locals x t → g x t

-- any tree but the call of a constructor without a value: its function gives the receiver, where the IR gives nothing
abbrev pub IsNoConstruction : Term → Type 0
IsNoConstruction (apply_statically p e c Constructor m ts t) = is_no_type t ≡ false
IsNoConstruction _ = Unit {0}

-- a plain tree that keeps the rules in a scene of the code at hand, whose locals are in scope, and whose expression makes objects that hold chars only if they
-- can be made
pub record Plain (w : Classes) (has : Usable) (here : Code) (g : Scope) (t : Term) : Type 0 where
  pub scene : Scene
  pub surely : scene.sure ≡ here.sure
  pub owned : scene.owner ≡ here.owner
  pub seen : InScope scene g
  pub typed : Typed w has scene t
  pub boxed : may_make has (boxes_as_text t) ≡ true
  pub plain : is_plain t ≡ true
  pub apart : IsNoConstruction t
