use Rattle.std.proofs.lemmas.Result.{IfOk-weaker}
use Rattle.world_pieces.proofs.Used.{are_helpers}
use Rattle.world_pieces.proofs.helpers.helpers_of.Goals as goal

pub returns : goal.returns
returns c ps are = IfOk-weaker c.listed.result _ _ (λ hs is. are_helpers ps c.args.words.now.keys c.in_ok-found.found.keys c.search.new.found.keys are c.in_ok-found.ensures c.in_ok-search.ensures.reached hs.items is) c.listed.ensures
