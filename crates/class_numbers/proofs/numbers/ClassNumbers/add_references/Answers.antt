use Rattle.std.proofs.Common.{◌++◌, ◌∷◌, [], take, List, sym, ap, ◌∙◌, subst, arith}
use Rattle.std.proofs.lemmas.List.{take_more}
use Rattle.std.proofs.Math.Seq.{take-length}
use Rattle.sj_graph.specs.declared.graphs.Reference.{Reference}
use Rattle.class_numbers.specs.Numbering.{IsNumbering}
use Rattle.class_numbers.proofs.numbers.ClassNumbers.add_references.Goals as goal

pub add_reference-requires : goal.add_reference-requires
add_reference-requires c = (take c.loop-reference.reference-index c.args.references.now, c.loop-reference.invariant)

pub loop-reference-preserved : goal.loop-reference-preserved
loop-reference-preserved c = subst (λ (l : List Reference). IsNumbering l c.add_reference.new.self) (sym (take_more c.args.references.now c.loop-reference.reference-index c.reference-item.result (omega arith) ∙ ap (λ (r : Reference). take c.loop-reference.reference-index c.args.references.now ++ r ∷ []) (sym c.reference-item.is))) (c.in_ok-add_reference.ensures (take c.loop-reference.reference-index c.args.references.now) c.loop-reference.invariant)

pub returns : goal.returns
returns c = subst (λ (l : List Reference). IsNumbering l c.loop-reference.self) (ap (λ n. take n c.args.references.now) (omega arith) ∙ take-length c.args.references.now) c.loop-reference.invariant
