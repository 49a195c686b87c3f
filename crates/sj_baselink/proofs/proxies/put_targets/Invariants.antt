use Rattle.std.proofs.Common.{◌≡◌}
use Rattle.sj_reach_spec.specs.Rules.{public_member}
use Rattle.sj_baselink.specs.Steps.{Puts, entry_for}
use Rattle.sj_baselink.proofs.Putting.{OfFirst}
use Rattle.sj_baselink.proofs.proxies.put_targets.Given as goal

abbrev pub invariant-loop-name : goal.invariant-loop-name
invariant-loop-name l = Puts (OfFirst l.names l.name-index (λ t e. entry_for l.class l.proxy (public_member l.class t) ≡ e)) l.fn.entries.keys l.entries.keys
