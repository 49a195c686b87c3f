use Rattle.std.proofs.Common.{◌∙◌, ap}
use Rattle.indexmap.specs.IndexSet.{insert_all}
use Rattle.sj_world.specs.Known.{is_same}
use Rattle.sj_world.specs.Ancestors.{written_above}
use Rattle.sj_world.proofs.Names.{Names}
use Rattle.sj_world.proofs.OnCycles.{cycle_found}
use Rattle.sj_world.proofs.cycles.is_on_cycle.Goals as goal

pub returns : goal.returns
returns c = cycle_found c.args.classes.now c.args.name.now c.add_next.new.found.keys c.search.new.found.keys c.contains.result (c.in_ok-add_next.ensures ∙ ap (λ (l : Names). insert_all is_same l (written_above c.args.classes.now c.args.name.now)) c.new-found.ensures.empty) c.in_ok-search.ensures.reached c.contains.ensures
