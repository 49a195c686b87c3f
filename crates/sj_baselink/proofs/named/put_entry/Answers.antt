use Rattle.sj_world.specs.contracts.linked.MethodEntryPartialEq.TheImpl as entry_eq
use Rattle.sj_baselink.specs.Steps.{entry_for}
use Rattle.sj_baselink.proofs.Putting.{puts_key}
use Rattle.sj_baselink.proofs.SameEntries.{entry_decides}
use Rattle.sj_baselink.proofs.named.put_entry.Goals as goal

pub returns : goal.returns
returns c = puts_key entry_eq.ghosts.eq (λ a b h. (entry_decides a b).0 h) c.args.entries.now.keys _ (entry_for c.in_ok-class.class c.in_ok-name.name c.args.target) (entry_for c.args.class.now c.args.name.now c.args.target) (λ i. entry_for (c.in_ok-class.ensures i) (c.in_ok-name.ensures i) c.args.target) c.in_ok-insert.ensures.keys
