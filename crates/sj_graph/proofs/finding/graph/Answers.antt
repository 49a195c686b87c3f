use Rattle.std.proofs.Common.{List, sym, ◌∙◌, subst, map}
use Rattle.std.specs.List.{IsDistinct}
use Rattle.js_tree.specs.Terms.{Name}
use Rattle.js_tree.specs.Views.{piece_view}
use Rattle.sj_graph.specs.declared.graphs.Reference.{Reference}
use Rattle.sj_graph.specs.References.{is_same_name, is_same_reference}
use Rattle.sj_graph.proofs.Exact.{owners_exact, references_exact}
use Rattle.sj_graph.proofs.finding.graph.Goals as goal

pub returns : goal.returns
returns c = record {
  owners = owners_exact (map piece_view c.args.pieces.now) c.from_vec.result (c.from_vec.ensures ∙ c.in_ok-owners.ensures.exact);
  references = references_exact (map piece_view c.args.pieces.now) c.from_vec-2.result (c.from_vec-2.ensures ∙ c.in_ok-references.ensures.exact);
  owners_once = subst (λ (l : List Name). IsDistinct is_same_name l) (sym c.from_vec.ensures) c.in_ok-owners.ensures.once;
  references_once = subst (λ (l : List Reference). IsDistinct is_same_reference l) (sym c.from_vec-2.ensures) c.in_ok-references.ensures.once;
}
