-- The helpers, and which of them are used.
use Rattle.std.specs.Prelude.{◌≡◌, Bool, List, [], ◌∷◌, Contains, map}
use Rattle.std.specs.List.{list_any}
use Rattle.sj_emit_help_spec.specs.Helpers.{helper_name, used_helpers}
use Rattle.sj_emit_help_spec.specs.Words.{helper}
use Rattle.sj_emit_help_spec.specs.declared.kinds.Failure.TheVariants as failures
use Rattle.sj_emit_help_spec.specs.declared.kinds.Helper.{Helper}
use Rattle.sj_emit_help_spec.specs.declared.kinds.Helper.TheVariants as helpers
use Rattle.sj_emit_help_spec.specs.declared.kinds.Kind.TheVariants as kinds
use Rattle.js_tree.specs.Terms.{Name, Piece}
use Rattle.world_pieces.specs.contracts.helpers.UsedHelperPartialEq.TheImpl as used_eq
use Rattle.world_pieces.specs.declared.helpers.UsedHelper.{UsedHelper}

-- every helper, in the order of their names
abbrev pub every_helper : List Helper
every_helper =
    helpers.ArrayClass
    ∷ helpers.BoxedChar
    ∷ helpers.Throws failures.Division
    ∷ helpers.CastToArray
    ∷ helpers.CastTo kinds.Byte
    ∷ helpers.CastTo kinds.Char
    ∷ helpers.CastTo kinds.Int
    ∷ helpers.CastTo kinds.Long
    ∷ helpers.CastTo kinds.Short
    ∷ helpers.CastTo kinds.Text
    ∷ helpers.CastTo kinds.Undefined
    ∷ helpers.CastTo kinds.Boolean
    ∷ helpers.Throws failures.Store
    ∷ helpers.Throws failures.Cast
    ∷ helpers.Covers
    ∷ helpers.Equal
    ∷ helpers.Fits
    ∷ helpers.Get
    ∷ helpers.IntQuotient
    ∷ helpers.IntRemainder
    ∷ helpers.Throws failures.Index
    ∷ helpers.TestOfArray
    ∷ helpers.TestOf kinds.Byte
    ∷ helpers.TestOf kinds.Char
    ∷ helpers.TestOf kinds.Int
    ∷ helpers.TestOf kinds.Long
    ∷ helpers.TestOf kinds.Short
    ∷ helpers.TestOf kinds.Text
    ∷ helpers.TestOf kinds.Undefined
    ∷ helpers.TestOf kinds.Boolean
    ∷ helpers.CheckIndex
    ∷ helpers.ConstantsOf kinds.Byte
    ∷ helpers.ConstantsOf kinds.Char
    ∷ helpers.ConstantsOf kinds.Int
    ∷ helpers.ConstantsOf kinds.Long
    ∷ helpers.ConstantsOf kinds.Short
    ∷ helpers.ConstantsOf kinds.Text
    ∷ helpers.ConstantsOf kinds.Undefined
    ∷ helpers.ConstantsOf kinds.Boolean
    ∷ helpers.ClassOf
    ∷ helpers.LongQuotient
    ∷ helpers.LongRemainder
    ∷ helpers.MakeArray
    ∷ helpers.Throws failures.Method
    ∷ helpers.NotNull
    ∷ helpers.Throws failures.NullReceiver
    ∷ helpers.Throws failures.Size
    ∷ helpers.Put
    ∷ helpers.Set
    ∷ []

-- the piece uses the binding of `java.lang.Object` with this name
abbrev pub UsesWord : Piece → Name → Type 0
UsesWord p x = Contains p.uses (helper x)

-- the helper, of which the name is among these
abbrev pub IsNamed : List Name → Helper → UsedHelper → Type 0
IsNamed words h u = (h ≡ u.helper) × Contains words (helper_name u.helper)

abbrev pub as_used : Helper → UsedHelper
as_used h = record { helper = h }

-- what the helper uses
abbrev pub next_used : UsedHelper → List UsedHelper
next_used u = map as_used (used_helpers u.helper)

abbrev pub is_same_used : UsedHelper → UsedHelper → Bool
is_same_used = used_eq.ghosts.eq

abbrev pub is_found : List UsedHelper → Helper → Bool
is_found found h = list_any (is_same_used (as_used h)) found
