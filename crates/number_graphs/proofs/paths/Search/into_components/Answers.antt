use Rattle.std.proofs.Common.{List, subst}
use Rattle.number_graphs.specs.declared.paths.Found.{Found}
use Rattle.number_graphs.specs.Graphs.{At}
use Rattle.number_graphs.specs.Searching.{AreRead}
use Rattle.number_graphs.proofs.Finished.{all_within, components_are}
use Rattle.number_graphs.proofs.paths.Search.into_components.Goals as goal

pub components_of-requires : goal.components_of-requires
components_of-requires c number x at = all_within c.requires.right.0 c.args.self c.requires.right.1 c.requires.none_open c.requires.known number x (subst (λ (l : List Found). At l number x) c.deref.ensures.value at)

pub returns : goal.returns
returns c next right = components_are next c.args.self.found.items c.args.self.members.items c.args.self.pending.items c.args.self.groups.items c.args.self.firsts.items right c.in_ok-of.of.items (subst (λ (l : List Found). AreRead l c.in_ok-of.of.items) c.deref.ensures.value c.in_ok-of.ensures)
