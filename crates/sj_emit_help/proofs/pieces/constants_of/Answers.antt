use Rattle.std.proofs.Common.{arith}
use Rattle.sj_emit_help.proofs.pieces.constants_of.Goals as goal

pub returns : goal.returns
returns c =
    let made = c.in_ok-item.ensures _ _ c.text.ensures c.constants.ensures in
    grind (arith, made.is_seen, c.helper_name.ensures, c.class_of_kind.ensures.class, c.of_text-class.ensures, c.in_ok-from_str.ensures, c.in_ok-new.ensures.ok)
