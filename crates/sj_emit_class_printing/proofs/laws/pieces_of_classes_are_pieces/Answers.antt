use Rattle.sj_emit_class_printing.proofs.Kept.{pieces-kept, dispatch-kept, reflective-kept}
use Rattle.sj_emit_class_printing.proofs.HelpersKept.{helper-kept}
use Rattle.sj_emit_class_printing.proofs.laws.pieces_of_classes_are_pieces.Goals as goal

pub returns : goal.returns
returns c = record { classes = pieces-kept; told = dispatch-kept; reflected = reflective-kept; helpers = helper-kept }
