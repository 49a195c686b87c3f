-- Method entries that compare as equal are one.
use Rattle.std.proofs.Common.{◌≡◌, ap}
use Rattle.std.specs.Bool.{Decides}
use Rattle.std.proofs.lemmas.Bool.{and_parts, and_from}
use Rattle.std.proofs.lemmas.Slice.Eq.{bytes_eq-Decides}
use Rattle.sj_names.proofs.Equal.{method_decides, member_decides}
use Rattle.sj_world.specs.contracts.linked.MethodEntryPartialEq.TheImpl as entry_eq
use Rattle.sj_world.specs.declared.linked.MethodEntry.{MethodEntry}

pub entry_decides : (a b : MethodEntry) → Decides (entry_eq.ghosts.eq a b) (a ≡ b)
entry_decides a b =
    let classes = bytes_eq-Decides a.class b.class in
    let names = method_decides a.name b.name in
    let targets = member_decides a.target b.target in (
      λ h. let p = and_parts _ _ h in let q = and_parts _ _ p.1 in λ i. record { class = classes.0 p.0 i; name = names.0 q.0 i; target = targets.0 q.1 i },
      λ e. and_from _ _ (classes.1 (ap (λ (x : MethodEntry). x.class) e)) (and_from _ _ (names.1 (ap (λ (x : MethodEntry). x.name) e)) (targets.1 (ap (λ (x : MethodEntry). x.target) e))),
    )
