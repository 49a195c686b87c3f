use Rattle.std.proofs.Common.{◌∙◌, ap, List}
use Rattle.indexmap.specs.IndexSet.{insert_key}
use Rattle.worklist.proofs.Searched.{reached_from_one}
use Rattle.worklist.proofs.searching.search_from.Goals as goal

pub returns-clause-reached : goal.returns-clause-reached
returns-clause-reached g c = reached_from_one (g.S.Step.next c.args.step.now) c.args.first _ _ (c.in_ok-insert.ensures.keys ∙ ap (λ (l : List g.row.K.Denot). insert_key g.K.PartialEq.eq l c.args.first) c.new-found.ensures.empty) c.in_ok-search.ensures.reached
