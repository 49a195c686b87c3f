-- No two helpers have one name.
use Rattle.std.proofs.Common.{◌≡◌, List, [], ◌∷◌, ◌++◌, Option, Some, None, refl, sym, ap, ◌∙◌, map, if◌then◌else◌}
use Rattle.sj_emit_help_spec.specs.Helpers.{helper_name}
use Rattle.sj_emit_help_spec.specs.Words.{all_kinds}
use Rattle.sj_emit_help_spec.specs.declared.kinds.Failure.TheVariants as failures
use Rattle.sj_emit_help_spec.specs.declared.kinds.Helper.{Helper}
use Rattle.sj_emit_help_spec.specs.declared.kinds.Helper.TheVariants as helpers
use Rattle.sj_emit_help_spec.specs.declared.kinds.Kind.TheVariants as kinds
use Rattle.js_tree.specs.Terms.{Name}
use Rattle.sj_names.specs.Same.{is_same_text}

-- the first of these helpers that has the name
abbrev named_among : List Helper → Name → Option Helper
named_among [] x = None
named_among (h ∷ hs) x = if is_same_text x (helper_name h) then Some h else named_among hs x

abbrev of_kinds : List Helper
of_kinds = map helpers.TestOf all_kinds ++ map helpers.CastTo all_kinds ++ map helpers.ConstantsOf all_kinds

abbrev alone : List Helper
alone =
    helpers.NotNull ∷ helpers.IntQuotient ∷ helpers.IntRemainder ∷ helpers.LongQuotient ∷ helpers.LongRemainder ∷ helpers.BoxedChar ∷ helpers.Equal ∷ helpers.ArrayClass
    ∷ helpers.MakeArray ∷ helpers.CheckIndex ∷ helpers.Get ∷ helpers.Set ∷ helpers.Put ∷ helpers.Covers ∷ helpers.Fits ∷ helpers.ClassOf ∷ helpers.TestOfArray
    ∷ helpers.CastToArray ∷ []

abbrev of_failures : List Helper
of_failures =
    helpers.Throws failures.NullReceiver ∷ helpers.Throws failures.Division ∷ helpers.Throws failures.Cast ∷ helpers.Throws failures.Index
    ∷ helpers.Throws failures.Store ∷ helpers.Throws failures.Size ∷ helpers.Throws failures.Method ∷ []

abbrev named : Name → Option Helper
named = named_among (of_kinds ++ alone ++ of_failures)

read_back : (h : Helper) → named (helper_name h) ≡ Some h
read_back (helpers.TestOf kinds.Undefined) = refl
read_back (helpers.TestOf kinds.Boolean) = refl
read_back (helpers.TestOf kinds.Char) = refl
read_back (helpers.TestOf kinds.Byte) = refl
read_back (helpers.TestOf kinds.Short) = refl
read_back (helpers.TestOf kinds.Int) = refl
read_back (helpers.TestOf kinds.Long) = refl
read_back (helpers.TestOf kinds.Text) = refl
read_back (helpers.CastTo kinds.Undefined) = refl
read_back (helpers.CastTo kinds.Boolean) = refl
read_back (helpers.CastTo kinds.Char) = refl
read_back (helpers.CastTo kinds.Byte) = refl
read_back (helpers.CastTo kinds.Short) = refl
read_back (helpers.CastTo kinds.Int) = refl
read_back (helpers.CastTo kinds.Long) = refl
read_back (helpers.CastTo kinds.Text) = refl
read_back (helpers.ConstantsOf kinds.Undefined) = refl
read_back (helpers.ConstantsOf kinds.Boolean) = refl
read_back (helpers.ConstantsOf kinds.Char) = refl
read_back (helpers.ConstantsOf kinds.Byte) = refl
read_back (helpers.ConstantsOf kinds.Short) = refl
read_back (helpers.ConstantsOf kinds.Int) = refl
read_back (helpers.ConstantsOf kinds.Long) = refl
read_back (helpers.ConstantsOf kinds.Text) = refl
read_back helpers.NotNull = refl
read_back helpers.IntQuotient = refl
read_back helpers.IntRemainder = refl
read_back helpers.LongQuotient = refl
read_back helpers.LongRemainder = refl
read_back helpers.BoxedChar = refl
read_back helpers.Equal = refl
read_back helpers.ArrayClass = refl
read_back helpers.MakeArray = refl
read_back helpers.CheckIndex = refl
read_back helpers.Get = refl
read_back helpers.Set = refl
read_back helpers.Put = refl
read_back helpers.Covers = refl
read_back helpers.Fits = refl
read_back helpers.ClassOf = refl
read_back helpers.TestOfArray = refl
read_back helpers.CastToArray = refl
read_back (helpers.Throws failures.NullReceiver) = refl
read_back (helpers.Throws failures.Division) = refl
read_back (helpers.Throws failures.Cast) = refl
read_back (helpers.Throws failures.Index) = refl
read_back (helpers.Throws failures.Store) = refl
read_back (helpers.Throws failures.Size) = refl
read_back (helpers.Throws failures.Method) = refl

some_same : (a b : Helper) → ◌≡◌ {A = Option Helper} (Some a) (Some b) → a ≡ b
some_same a b e = cc

pub one_helper : (g h : Helper) → helper_name g ≡ helper_name h → g ≡ h
one_helper g h e = some_same g h (sym (read_back g) ∙ ap named e ∙ read_back h)
