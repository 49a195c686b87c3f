use Rattle.std.proofs.Common.{refl}
use Rattle.sj_baselink.proofs.Putting.{puts_key}
use Rattle.world_pieces.specs.Helpers.{as_used, is_same_used}
use Rattle.world_pieces.specs.Same.{same_used}
use Rattle.world_pieces.proofs.UsedWords.{one_named}
use Rattle.world_pieces.proofs.helpers.put_named.Goals as goal

pub returns-in_ok-insert : goal.returns-in_ok-insert
returns-in_ok-insert c = one_named c.args.words.now.keys c.args.helper c.args.found.now.keys _ (c.in_ok-is_named.ensures.0 c.if-branch.true) (puts_key is_same_used same_used c.args.found.now.keys _ (as_used c.args.helper) (as_used c.args.helper) refl c.in_ok-insert.ensures.keys)
