use Rattle.std.proofs.Common.{◌≡◌, ℕ, ◌<◌, List, Option, Some, sym, ◌∙◌, ap, subst, refl, length, arith, Contains}
use Rattle.std.proofs.lemmas.List.Elements.{Contains-get_or}
use Rattle.number_graphs.specs.Graphs.{At, Lists, IsGraph, AreComponents}
use Rattle.number_graphs.specs.Condensed.{IsCondensed}
use Rattle.number_graphs.proofs.Places.{within, at_read, there}
use Rattle.class_numbers.specs.Numbering.{IsNumbering}
use Rattle.sj_split.specs.declared.homes.Home.{Home}
use Rattle.sj_split.specs.declared.homes.Settled.{Settled}
use Rattle.sj_split.specs.declared.plans.Style.TheVariants.{Fewest}
use Rattle.sj_split.specs.Homes.{class_of, IsHomeByTags, home_of_tags}
use Rattle.sj_split.specs.Walks.{Name, References, AreTags, IsReached}
use Rattle.sj_split.specs.Steps.{IsWithin, tags_in, AreCondensed, AreReaches, AreHomesByTags}
use Rattle.sj_split.proofs.Tagged.{home_there, home_right}
use Rattle.sj_split.proofs.Settles.{gathering_begins, gathering_more, gathered, homes_are}
use Rattle.sj_split.proofs.settling.homes_by_tags.Goals as goal

pub find_components-requires : goal.find_components-requires
find_components-requires c = subst (λ (l : Lists). IsGraph l) (sym c.next.ensures) c.requires.numbered.1.graph

pub condensed-requires-clause-graph : goal.condensed-requires-clause-graph
condensed-requires-clause-graph c = subst (λ (l : Lists). IsGraph l) (sym c.next-2.ensures) c.requires.numbered.1.graph

pub number_of-requires : goal.number_of-requires
number_of-requires c = c.requires.inside c.class-item.result (subst (λ (n : Name). Contains c.args.classes.now n) (sym c.class-item.is) (Contains-get_or c.args.classes.now c.loop-class.class-index c.class-item.result (omega arith)))

pub home_of-requires : goal.home_of-requires
home_of-requires c =
    let references : References = c.requires.numbered.0 in
    let numbers = c.args.numbers.now in
    let components = c.in_ok-components.components in
    let low : c.number_of.result < length components.of.items = (let w = within numbers.classes.keys c.number_of.result c.class-item.result c.number_of.ensures in let e = c.in_ok-components.ensures.whole in let f = ap (λ (l : Lists). length l) c.next.ensures in let g = c.requires.numbered.1.whole in omega (arith, w, e, f, g)) in
    let at = at_read components.of.items c.number_of.result c.index.result.now low c.index.ensures in
    let among = subst (λ (n : Name). Contains c.args.classes.now n) (sym c.class-item.is) (Contains-get_or c.args.classes.now c.loop-class.class-index c.class-item.result (omega arith)) in
    let reached = ((c.requires.reached references c.requires.numbered.1).exact c.class-item.result).0 among in
    let known : AreReaches c.args.entries.now numbers components c.args.ids.now c.deref-2.result.now = subst (λ l. AreReaches c.args.entries.now numbers components c.args.ids.now l) (sym c.deref-2.ensures.value) c.in_ok-reaches.ensures in
    let by_tags : AreHomesByTags c.deref-2.result.now (length components.firsts.items) c.deref-in-loop-class.result.now = subst (λ l. AreHomesByTags c.deref-2.result.now (length components.firsts.items) l) (sym c.deref-in-loop-class.ensures.value) (subst (λ (n : ℕ). AreHomesByTags c.deref-2.result.now n c.in_ok-by_component.by_component.items) (let f = c.len.ensures in let e : c.len.result ≡ length components.firsts.items = omega (arith, f) in e) c.in_ok-by_component.ensures) in
    home_there references c.args.entries.now numbers components c.requires.numbered.1 c.args.ids.now c.deref-2.result.now c.deref-in-loop-class.result.now c.requires.ids known by_tags c.index.result.now c.class-item.result (record { number = c.number_of.result; is_class = c.number_of.ensures; is_component = at }) (c.in_ok-components.ensures.counted c.number_of.result c.index.result.now at) reached

pub loop-class-init : goal.loop-class-init
loop-class-init c = gathering_begins class_of (λ (one : Settled). (references : References) → IsNumbering references c.args.numbers.now → IsHomeByTags references c.args.entries.now one.class one.home) c.args.classes.now c.new-homes.result.items c.new-homes.ensures.items

pub loop-class-preserved : goal.loop-class-preserved
loop-class-preserved c = gathering_more class_of (λ (one : Settled). (references : References) → IsNumbering references c.args.numbers.now → IsHomeByTags references c.args.entries.now one.class one.home) c.args.classes.now c.loop-class.class-index c.loop-class.homes.items c.push.new.self.items _ c.class-item.result c.loop-class.invariant (omega arith) c.class-item.is c.in_ok-class.ensures (λ references numbered.
    let numbers = c.args.numbers.now in
    let components = c.in_ok-components.components in
    let low : c.number_of.result < length components.of.items = (let w = within numbers.classes.keys c.number_of.result c.class-item.result c.number_of.ensures in let e = c.in_ok-components.ensures.whole in let f = ap (λ (l : Lists). length l) c.next.ensures in let g = c.requires.numbered.1.whole in omega (arith, w, e, f, g)) in
    let at = at_read components.of.items c.number_of.result c.index.result.now low c.index.ensures in
    let known : AreReaches c.args.entries.now numbers components c.args.ids.now c.deref-2.result.now = subst (λ l. AreReaches c.args.entries.now numbers components c.args.ids.now l) (sym c.deref-2.ensures.value) c.in_ok-reaches.ensures in
    let by_tags : AreHomesByTags c.deref-2.result.now (length components.firsts.items) c.deref-in-loop-class.result.now = subst (λ l. AreHomesByTags c.deref-2.result.now (length components.firsts.items) l) (sym c.deref-in-loop-class.ensures.value) (subst (λ (n : ℕ). AreHomesByTags c.deref-2.result.now n c.in_ok-by_component.by_component.items) (let f = c.len.ensures in let e : c.len.result ≡ length components.firsts.items = omega (arith, f) in e) c.in_ok-by_component.ensures) in
    subst (λ (n : Name). IsHomeByTags references c.args.entries.now n c.in_ok-home.home) (sym c.in_ok-class.ensures) (home_right references c.args.entries.now numbers components numbered c.args.ids.now c.deref-2.result.now c.deref-in-loop-class.result.now c.requires.ids known by_tags c.index.result.now c.class-item.result (record { number = c.number_of.result; is_class = c.number_of.ensures; is_component = at }) (c.in_ok-components.ensures.counted c.number_of.result c.index.result.now at) c.in_ok-home.home c.in_ok-home.ensures)) c.in_ok-push.ensures.items

pub returns : goal.returns
returns c references numbered = homes_are references c.args.entries.now Fewest c.args.classes.now c.loop-class.homes.items (c.requires.reached references numbered) (record {
  classes_are = gathered class_of (λ (one : Settled). (references : References) → IsNumbering references c.args.numbers.now → IsHomeByTags references c.args.entries.now one.class one.home) c.args.classes.now c.loop-class.class-index c.loop-class.homes.items c.loop-class.invariant (omega arith);
  right = λ one h. c.loop-class.invariant.right one h references numbered;
})
