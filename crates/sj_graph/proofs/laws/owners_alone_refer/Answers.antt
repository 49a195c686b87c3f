use Rattle.sj_graph.proofs.Exact.{owners_refer}
use Rattle.sj_graph.proofs.laws.owners_alone_refer.Goals as goal

pub returns : goal.returns
returns c = owners_refer
