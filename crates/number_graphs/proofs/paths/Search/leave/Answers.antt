use Rattle.number_graphs.specs.Graphs.{At}
use Rattle.std.proofs.Common.{ℕ, ◌+◌, ◌-◌, ◌<◌, List, length, take, drop, refl, sym, ap, ◌∙◌, subst, arith}
use Rattle.number_graphs.specs.declared.paths.Found.{Found}
use Rattle.number_graphs.specs.declared.paths.Found.TheVariants.{OnPath}
use Rattle.number_graphs.proofs.Places.{all_behind, at_drop, within, at_read}
use Rattle.number_graphs.proofs.Groups.{marked_last}
use Rattle.number_graphs.proofs.paths.Search.leave.Goals as goal

pub mark-requires : goal.mark-requires
mark-requires c place number at =
    let there : At (drop c.args.group.members c.deref.result.now) place number = subst (λ (l : List ℕ). At l place number) (all_behind c.args.group.members c.deref.result.now) at in
    let member : At c.args.self.now.members.items (c.args.group.members + place) number = subst (λ (l : List ℕ). At l (c.args.group.members + place) number) c.deref.ensures.value (at_drop c.args.group.members c.deref.result.now place number there) in
    subst (λ (l : List Found). number < length l) (sym c.deref_mut.ensures.value) (within c.args.self.now.found.items number (OnPath (c.args.group.members + place)) ((c.requires.numbers (c.args.group.members + place) number).1 member))

pub returns : goal.returns
returns c = record {
  found = marked_last c.len-component.result (length c.args.self.now.firsts.items) c.args.group.members c.args.self.now.found.len c.args.self.now.found.items c.deref_mut.result.now c.mark.new.found c.args.self.now.members.items c.deref.result.now (omega (arith, c.len-component.ensures, c.args.self.now.firsts.ok.0)) (omega (arith, c.args.self.now.found.ok.0, c.mark.auto.found, ap (λ (l : List Found). length l) c.deref_mut.ensures.value)) c.requires.first c.deref_mut.ensures.value c.deref.ensures.value c.requires.numbers (c.mark.ensures c.args.group.members);
  members = c.truncate.ensures.items;
  pending = refl;
  groups = c.pop.ensures.rest ∙ ap (λ n. take (n - 1) c.args.self.now.groups.items) c.args.self.now.groups.ok.0;
  first = c.index.result.now;
  is_first = at_read c.args.self.now.members.items c.args.group.members c.index.result.now c.requires.first c.index.ensures;
  firsts = c.in_ok-push.ensures.items;
}
