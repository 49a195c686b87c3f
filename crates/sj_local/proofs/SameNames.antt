-- Keys of methods that compare as equal are one.
use Rattle.std.proofs.Common.{◌≡◌, [], ap}
use Rattle.std.specs.Prelude.{nat_eq, ◌&&◌}
use Rattle.std.specs.Bool.{Decides}
use Rattle.std.specs.Cmp.Lexicographic.{pointwise}
use Rattle.std.specs.Option.{option_eq}
use Rattle.sj_names.specs.declared.method_names.Member.{Member}
use Rattle.sj_names.specs.contracts.references.TypeRefPartialEq.TheImpl as type_eq
use Rattle.sj_names.specs.contracts.method_names.NamespacePartialEq.TheImpl as namespace_eq
use Rattle.sj_names.proofs.Equal.{member_decides}
use Rattle.sj_local.specs.declared.members.MethodKey.{MethodKey}

-- the member of a class without a name
member_of : MethodKey → Member
member_of k = record { class = []; namespace = k.namespace; method = k.name }

key_of : Member → MethodKey
key_of m = record { namespace = m.namespace; name = m.method }

pub key_decides : (a b : MethodKey) → Decides (namespace_eq.ghosts.eq a.namespace b.namespace && (pointwise nat_eq a.name.simple b.name.simple && (pointwise type_eq.ghosts.eq a.name.params b.name.params && option_eq type_eq.ghosts.eq a.name.result b.name.result))) (a ≡ b)
unfolding member_of key_of
key_decides a b = let same = member_decides (member_of a) (member_of b) in (λ h. ap key_of (same.0 h), λ h. same.1 (ap member_of h))
