-- The namespaces that stand in front of a member's name.
use Rattle.std.specs.Prelude.{ℕ, Bool, List, nat_eq, codes, if◌then◌else◌}
use Rattle.std.specs.Cmp.Lexicographic.{pointwise}
use Rattle.sj_names.specs.declared.method_names.Namespace.{Namespace}
use Rattle.sj_names.specs.declared.method_names.Namespace.TheVariants.{Public, PublicStatic, Private, PrivateStatic, Constructor}

abbrev is : List ℕ → List ℕ → Bool
is = pointwise nat_eq

-- the namespace of a word; any other word than these is that of a public method
abbrev pub namespace_named : List ℕ → Namespace
namespace_named w = if is w (codes "s") then PublicStatic else if is w (codes "p") then Private else if is w (codes "ps") then PrivateStatic else if is w (codes "ct") then Constructor else Public
