use Rattle.std.proofs.Common.{take, map, List, sym, ap, ◌∙◌, subst, arith, Contains, inl, inr}
use Rattle.std.proofs.Math.Seq.{take-length}
use Rattle.sj_names.specs.declared.entry_points.EntryPoint.{EntryPoint}
use Rattle.class_numbers.specs.Numbering.{Name, class_of}
use Rattle.number_graphs.proofs.Places.{contains_at}
use Rattle.class_numbers.proofs.Numbered.{class_cases, still_contains}
use Rattle.class_numbers.proofs.numbers.ClassNumbers.add_entries.Goals as goal

pub number-requires : goal.number-requires
number-requires c = (c.requires.0, c.loop-entry.invariant.numbered c.requires.0 c.requires.1)

pub loop-entry-preserved : goal.loop-entry-preserved
loop-entry-preserved c = record {
  numbered = λ references was. c.in_ok-number.ensures.numbered references (c.loop-entry.invariant.numbered references was);
  entries = λ class h. elim (class_cases c.args.entries.now c.loop-entry.entry-index c.entry-item.result class (omega arith) c.entry-item.is h) [ inl old ↦ still_contains c.loop-entry.self.classes.keys c.number.new.self.classes.keys c.in_ok-number.ensures.kept class (c.loop-entry.invariant.entries class old) | inr is ↦ subst (λ (n : Name). Contains c.number.new.self.classes.keys n) is (contains_at c.number.new.self.classes.keys c.in_ok-number.field-0 c.entry-item.result.class c.in_ok-number.ensures.at) ];
}

pub returns-clause-entries : goal.returns-clause-entries
returns-clause-entries c class h = c.loop-entry.invariant.entries class (subst (λ (l : List EntryPoint). Contains (map class_of l) class) (sym (ap (λ n. take n c.args.entries.now) (omega arith) ∙ take-length c.args.entries.now)) h)
