-- Which values are of the kind of a type.
use Rattle.std.specs.Prelude.{◌≡◌, Bool, true, false, not, ◌⊎◌}
use Rattle.ir_mean.specs.States as ir
use Rattle.agree_body_rules.specs.Standing.{is_bare, Fits}
use Rattle.agree_body_rules.specs.Coercions.{is_char}
use Rattle.sj_trees.specs.declared.types.IrType.{IrType}
use Rattle.sj_trees.specs.declared.types.IrType.TheVariants.{Array, Nothing, Undefined, Boolean, Char, Byte, Short, Int, Long, String, Null}

-- the value is of the kind of the type
abbrev pub suits : IrType → ir.Value → Bool
suits Nothing v = false
suits Undefined ir.undefined = true
suits Undefined v = false
suits Boolean (ir.boolean b) = true
suits Boolean v = false
suits Char (ir.char u) = true
suits Char v = false
suits Byte (ir.number z) = true
suits Byte v = false
suits Short (ir.number z) = true
suits Short v = false
suits Int (ir.number z) = true
suits Int v = false
suits Long (ir.long z) = true
suits Long v = false
suits String (ir.text us) = true
suits String v = false
suits Null ir.null = true
suits Null v = false
suits (Array r) ir.null = true
suits (Array r) (ir.reference i) = true
suits (Array r) v = false
suits t (ir.char u) = not (is_bare t)
suits t (ir.reference i) = not (is_bare t)
suits t v = true

-- a tree of the second type may stand where the first is expected, and a char where objects do, as one that holds it
abbrev pub Takes : IrType → IrType → Type 0
Takes expected own = Fits expected own ⊎ ((is_char own ≡ true) × (is_bare expected ≡ false))
