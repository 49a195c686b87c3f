-- What is asked of a tree where it is written: it keeps the rules of bodies in a scene whose locals and labels are those around it, and what it comes to
-- may be brought to its destination.
use Rattle.std.specs.Prelude.{◌≡◌, ℕ, Bool, true, false, List, [], ◌∷◌, ◌⊎◌, Some}
use Rattle.sj_core.specs.Terms as core
use Rattle.agree_early_errors.specs.Desugar.{Targets, target_of, has_no_value}
use Rattle.agree_early_errors.specs.Plain.{is_plain, is_fixed, mutable_in}
use Rattle.agree_early_errors.specs.Spill.{Destination, discard, to_variable, to_result}
use Rattle.sj_trees.specs.Term.{Term}
use Rattle.sj_trees.specs.TypeOf.{type_of_term}
use Rattle.sj_trees.specs.declared.types.IrType.{IrType}
use Rattle.sj_trees.specs.declared.types.IrType.TheVariants.{NoType}
use Rattle.agree_plain_trees.specs.Conditions.{InScope, Plain}
use Rattle.agree_plain_trees.specs.Settings.{Code}
use Rattle.agree_bodies.specs.Placed.{Placed, with_reach}
use Rattle.agree_early_errors.specs.Locals.{HaveValues, AreMutable, Mutable, Scope}
use Rattle.agree_early_errors.specs.Standing.{MayStand}
use Rattle.agree_plain_trees.specs.Standing.{Takes}
use Rattle.agree_early_errors.specs.Boxes.{boxes, goal_of, goals_of}
use Rattle.agree_early_errors.specs.Built.{Usable, may_make}
use Rattle.agree_early_errors.specs.Typing.{Scene, Typed}
use Rattle.agree_plain_trees.specs.Known.{Classes}
use Rattle.agree_plain_trees.specs.Subtypes.{IsSub}
use Rattle.agree_early_errors.specs.Labels.{type_of_label}

pub data IsDiscard : Destination → Type 0 where
  is_discard : IsDiscard discard

-- where a tree isn't given up, it has a value, which stands for the type that is expected, as an object that holds a char where it has to
abbrev pub FitsIn : Usable → Destination → IrType → Type 0
FitsIn has discard t = Unit {0}
FitsIn has (to_variable x expected) t = (has_no_value t ≡ false) × Takes expected t × MayStand has expected t
FitsIn has (to_result expected) t = (has_no_value t ≡ false) × Takes expected t × MayStand has expected t

-- the labels around a tree: where what leaves to each goes, and those to which the tree may leave; and whether a try with a finalizer may stand there
pub record Around : Type 1 where
  pub targets : Targets
  pub reaches : List ℕ → Type 0
  pub tries : Type 0

-- these, and one more
abbrev pub with_label : List ℕ → Destination → Around → Around
with_label l k ls = record { targets = record { label = l; goes_to = k } ∷ ls.targets; reaches = with_reach l ls.reaches; tries = ls.tries }

-- no labels: a body leaves to its own alone
abbrev pub no_labels : Around
no_labels = record { targets = []; reaches = λ l. Unit {0}; tries = Unit {0} }

-- a type that may be brought to a destination: it is given up, or stands for one that has values
abbrev pub Asks : Classes → Destination → IrType → Type 0
Asks w discard t = Unit {0}
Asks w (to_variable x i) t = IsSub w t i × (i ≡ NoType → ⊥)
Asks w (to_result i) t = IsSub w t i × (i ≡ NoType → ⊥)

-- what is around a tree is what its scene says: its method is that of the code at hand; the locals of the scene are in scope, have values, and are taken for mutable where they
-- are; and the values that leave to a label go where they are of its type
pub record Amid (w : Classes) (is_mutable : List ℕ → Bool) (here : Code) (g : Scope) (ls : Around) (s : Scene) : Type 0 where
  pub surely : s.sure ≡ here.sure
  pub owned : s.owner ≡ here.owner
  pub seen : InScope s g
  pub values : HaveValues s.locals
  pub changing : AreMutable is_mutable s.locals
  pub targets : (l : List ℕ) (t : IrType) → type_of_label s.labels l ≡ Some t → Asks w (target_of ls.targets l) t

-- a tree that keeps the rules where it is written, is placed so that it defines each local once, may be brought to its destination, and whose code makes objects that hold chars only
-- if they can be made
pub record Fine (w : Classes) (is_mutable : List ℕ → Bool) (has : Usable) (here : Code) (g : Scope) (ls : Around) (k : Destination) (t : Term) : Type 0 where
  pub scene : Scene
  pub amid : Amid w is_mutable here g ls scene
  pub around : List (List ℕ)
  pub once : Placed ls.reaches ls.tries around t
  pub written : Mutable is_mutable (mutable_in t)
  pub asks : Asks w k (type_of_term t)
  pub typed : Typed w has scene t
  pub boxed : may_make has (boxes (goals_of ls.targets) (goal_of k) t) ≡ true

-- an operand is plain, or it may be brought to any variable of its type
abbrev pub FineOperand : Classes → (List ℕ → Bool) → Usable → Code → Scope → Term → (core.Variable → Type 0) → Type 0
FineOperand w is_mutable has here scope t fine = Plain w has here scope t ⊎ ((is_plain t ≡ false) × (is_fixed is_mutable t ≡ false) × ((y : core.Variable) → fine y))
