-- The cases of the subtypes by the type above.
use Rattle.std.specs.Prelude.{◌≡◌, ◌<◌, ◌⊎◌, Option, Some, None}
use Rattle.sj_names.specs.declared.references.ArrayRef.{ArrayRef}
use Rattle.sj_names.specs.declared.references.BaseRef.{BaseRef}
use Rattle.sj_trees.specs.declared.types.IrType.{IrType}
use Rattle.sj_trees.specs.declared.types.IrType.TheVariants.{Any, Null, Class, Array, NoType}
use Rattle.sj_world.specs.Known.{Name, Classes, object}
use Rattle.sj_world.specs.Ancestors.{IsAncestor}
use Rattle.sj_world.specs.Subtypes.{hijacked_class, IsSubBase}

-- D is an ancestor of this class, if there is one
abbrev pub IsAncestorOfAny : Classes → Option Name → Name → Type 0
IsAncestorOfAny w None d = ⊥
IsAncestorOfAny w (Some c) d = IsAncestor w c d

abbrev pub IsUnderClass : Classes → IrType → Name → Type 0
IsUnderClass w Null d = Unit {0}
IsUnderClass w (Class c) d = IsAncestor w c d
IsUnderClass w s d = IsAncestorOfAny w (hijacked_class s) d

-- one base is a class that has the other as an ancestor
abbrev pub IsClassUnder : Classes → BaseRef → BaseRef → Type 0
IsClassUnder w (BaseRef.Class c) (BaseRef.Class d) = IsAncestor w c d
IsClassUnder w s t = ⊥

pub record AreAlike (w : Classes) (a b : ArrayRef) : Type 0 where
  pub dimensions : a.dimensions ≡ b.dimensions
  pub bases : IsSubBase w a.base b.base

pub record IsDeeper (a b : ArrayRef) : Type 0 where
  pub dimensions : b.dimensions < a.dimensions
  pub base : b.base ≡ BaseRef.Class object

abbrev pub IsUnderArray : Classes → IrType → ArrayRef → Type 0
IsUnderArray w Null b = Unit {0}
IsUnderArray w (Array a) b = AreAlike w a b ⊎ IsDeeper a b
IsUnderArray w s b = ⊥

-- S is below T by another case than that they are equal or S is nothing
abbrev pub IsUnder : Classes → IrType → IrType → Type 0
IsUnder w s Any = s ≡ NoType → ⊥
IsUnder w s (Class d) = IsUnderClass w s d
IsUnder w s (Array b) = IsUnderArray w s b
IsUnder w s t = ⊥
