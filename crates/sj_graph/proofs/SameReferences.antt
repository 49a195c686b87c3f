-- References that are the same by the test are equal.
use Rattle.std.proofs.Common.{◌≡◌, true, ap, ◌∙◌}
use Rattle.std.proofs.lemmas.Bool.{and_parts}
use Rattle.std.proofs.lemmas.Slice.Eq.{bytes_eq-Decides}
use Rattle.sj_graph.specs.declared.graphs.Reference.{Reference}
use Rattle.sj_graph.specs.References.{reference, is_same_name, is_same_reference}

pub same_reference : (a b : Reference) → is_same_reference a b ≡ true → a ≡ b
same_reference a b h =
    let parts = and_parts (is_same_name a.from b.from) (is_same_name a.to b.to) h in
    let from : a.from ≡ b.from = (bytes_eq-Decides a.from b.from).0 parts.0 in
    let to : a.to ≡ b.to = (bytes_eq-Decides a.to b.to).0 parts.1 in
    ap (λ x. reference x a.to) from ∙ ap (λ y. reference b.from y) to
