use Rattle.std.proofs.Common.{ℕ, List, sym, ◌∙◌, subst, refl, arith, Contains}
use Rattle.std.proofs.lemmas.List.Elements.{Contains-get_or}
use Rattle.number_graphs.specs.Graphs.{Lists, IsGraph, AreComponents}
use Rattle.class_numbers.specs.Numbering.{IsNumbering}
use Rattle.sj_split.specs.declared.homes.Settled.{Settled}
use Rattle.sj_split.specs.Homes.{class_of}
use Rattle.sj_split.specs.Walks.{Name, References, IsLeastOfComponent}
use Rattle.sj_split.specs.Steps.{IsLeastHome}
use Rattle.sj_split.proofs.Settles.{gathering_begins, gathering_more, gathered}
use Rattle.sj_split.proofs.settling.homes_by_components.Goals as goal

pub find_components-requires : goal.find_components-requires
find_components-requires c = subst (λ (l : Lists). IsGraph l) (sym c.next.ensures) c.requires.numbered.1.graph

pub loop-class-init : goal.loop-class-init
loop-class-init c = gathering_begins class_of (λ (one : Settled). (references : References) → IsNumbering references c.args.numbers.now → IsLeastHome references one) c.args.classes.now c.new-homes.result.items c.new-homes.ensures.items

pub loop-class-preserved : goal.loop-class-preserved
loop-class-preserved c = gathering_more class_of (λ (one : Settled). (references : References) → IsNumbering references c.args.numbers.now → IsLeastHome references one) c.args.classes.now c.loop-class.class-index c.loop-class.homes.items c.push.new.self.items _ c.class-item.result c.loop-class.invariant (omega arith) c.class-item.is c.in_ok-class.ensures (λ references numbered. record { least = c.in_ok-from_str.field-0; is_least = subst (λ (n : Name). IsLeastOfComponent references c.in_ok-class.class n) (sym (c.in_ok-from_str.ensures ∙ c.text.ensures.text)) (subst (λ (n : Name). IsLeastOfComponent references n c.least_of_component-least.result.now) (sym c.in_ok-class.ensures) (c.least_of_component-least.ensures references c.in_ok-of.field-0.firsts.items numbered (subst (λ (l : List ℕ). AreComponents c.args.numbers.now.next.items l c.in_ok-of.field-0.firsts.items) (sym c.deref-in-loop-class.ensures.value) (subst (λ (l : Lists). AreComponents l c.in_ok-of.field-0.of.items c.in_ok-of.field-0.firsts.items) c.next.ensures c.in_ok-of.ensures)))); is_home = refl }) c.in_ok-push.ensures.items

pub returns : goal.returns
returns c references numbered = record {
  classes_are = gathered class_of (λ (one : Settled). (references : References) → IsNumbering references c.args.numbers.now → IsLeastHome references one) c.args.classes.now c.loop-class.class-index c.loop-class.homes.items c.loop-class.invariant (omega arith);
  right = λ one h. c.loop-class.invariant.right one h references numbered;
}

pub least_of_component-least-requires-clause-inside : goal.least_of_component-least-requires-clause-inside
least_of_component-least-requires-clause-inside c = c.requires.inside c.class-item.result (subst (λ (n : Name). Contains c.args.classes.now n) (sym c.class-item.is) (Contains-get_or c.args.classes.now c.loop-class.class-index c.class-item.result (omega arith)))
