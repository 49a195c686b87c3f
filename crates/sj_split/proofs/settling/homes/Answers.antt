use Rattle.std.proofs.Common.{sym, subst, List}
use Rattle.sj_split.specs.declared.plans.Style.{Style}
use Rattle.sj_split.specs.Walks.{Name}
use Rattle.sj_split.specs.Homes.{AreHomes}
use Rattle.sj_split.specs.Steps.{AreReached, AreSettled, IsLeastHome}
use Rattle.sj_split.proofs.Settles.{smallest_homes}
use Rattle.sj_split.proofs.settling.homes.Goals as goal

pub homes_by_tags-requires-clause-reached : goal.homes_by_tags-requires-clause-reached
homes_by_tags-requires-clause-reached c references numbered = subst (λ (l : List Name). AreReached references c.args.entries.now l) (sym c.deref.ensures.value) (c.in_ok-classes.ensures.reached references numbered)

pub returns-in-Fewest : goal.returns-in-Fewest
returns-in-Fewest c = subst (λ (s : Style). AreHomes c.args.references.now c.args.entries.now s c.in_ok-homes-in-Fewest.homes.items) (sym c.in-Fewest.is) (c.in_ok-homes-in-Fewest.ensures c.args.references.now c.in_ok-numbers.ensures.numbered)

pub returns : goal.returns
returns c = subst (λ (s : Style). AreHomes c.args.references.now c.args.entries.now s c.in_ok-homes-in-Smallest.homes.items) (sym c.in-Smallest.is) (smallest_homes c.args.references.now c.args.entries.now c.in_ok-classes.classes.items c.in_ok-homes-in-Smallest.homes.items (c.in_ok-classes.ensures.reached c.args.references.now c.in_ok-numbers.ensures.numbered) (subst (λ (l : List Name). AreSettled (IsLeastHome c.args.references.now) l c.in_ok-homes-in-Smallest.homes.items) c.deref-in-Smallest.ensures.value (c.in_ok-homes-in-Smallest.ensures c.args.references.now c.in_ok-numbers.ensures.numbered)))
