-- The names of functions.
use Rattle.std.specs.Prelude.{◌≡◌, List, Contains}
use Rattle.sj_emit_expr_spec.specs.Templates.{member_name}
use Rattle.agree_early_errors.specs.EmittedMethods.{EmittedMethod}

-- the names of the functions of these methods tell their members apart
abbrev pub NamesTell : List EmittedMethod → Type 0
NamesTell all = (a b : EmittedMethod) → Contains all a → Contains all b → member_name a.member ≡ member_name b.member → a.member ≡ b.member
