use Rattle.js_tree.proofs.Kept.{module_kept}
use Rattle.js_tree.proofs.TextLaws.{module_spelled, piece_spelled}
use Rattle.js_tree.proofs.laws.each_has_one_text.Goals as goal

pub returns : goal.returns
returns c = record { modules = module_spelled; kept = module_kept; pieces = piece_spelled }
