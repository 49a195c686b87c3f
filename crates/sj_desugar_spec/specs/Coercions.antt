-- Where a char becomes an object that holds it.
use Rattle.std.specs.Prelude.{Bool, true, false, ◌&&◌, not, List, ◌∷◌, codes, if◌then◌else◌}
use Rattle.sj_core.specs.Terms.{Expression, boxed_char}
use Rattle.sj_core.specs.TypeRef.{TypeRef}
use Rattle.sj_core.specs.Types.{reference_type}
use Rattle.sj_core.specs.IrType.{IrType}
use Rattle.sj_core.specs.IrTypeVariants.{Char, Class}

abbrev pub is_char : IrType → Bool
is_char Char = true
is_char _ = false

-- an expression of the second type where the first is expected
abbrev pub coerced : IrType → IrType → Expression → Expression
coerced expected own e = if (is_char own && not (is_char expected)) then boxed_char e else e

-- arguments of these types where the parameters have those references
abbrev pub coerced_arguments : List TypeRef → List IrType → List Expression → List Expression
coerced_arguments (r ∷ rs) (t ∷ ts) (e ∷ es) = coerced (reference_type r) t e ∷ coerced_arguments rs ts es
coerced_arguments _ _ es = es

-- items of these types where one of the first is expected
abbrev pub coerced_items : IrType → List IrType → List Expression → List Expression
coerced_items expected (t ∷ ts) (e ∷ es) = coerced expected t e ∷ coerced_items expected ts es
coerced_items expected _ es = es

-- a receiver: a char is called as an object that holds it
abbrev pub coerced_receiver : IrType → Expression → Expression
coerced_receiver own e = coerced (Class (codes "java.lang.Character")) own e
