use Rattle.std.proofs.Common.{◌∙◌, Err, ap, sym}
use Rattle.sj_names.specs.MethodNames.{method_name_of}
use Rattle.world_pieces.proofs.ToldPieces.{is_read, not_read}
use Rattle.world_pieces.proofs.method_names.is_spelled.Goals as goal

pub returns-in-Ok : goal.returns-in-Ok
returns-in-Ok c = is_read c.args.method.now c.in-Ok.read c.is_same.result (ap method_name_of (sym (c.as_str.ensures ∙ c.in_ok-spelled.ensures)) ∙ c.in-Ok.ensures.found) c.is_same.ensures

pub returns-in-Err-BadName : goal.returns-in-Err-BadName
returns-in-Err-BadName c = not_read c.args.method.now (ap method_name_of (sym (c.as_str.ensures ∙ c.in_ok-spelled.ensures)) ∙ c.in-Err-BadName.ensures.bad.0 (ap Err c.in-Err-BadName.field-0-is))
