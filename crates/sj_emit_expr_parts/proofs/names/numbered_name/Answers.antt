use Rattle.std.proofs.Common.{◌∷◌, sym, ap, ◌∙◌}
use Rattle.sj_mangling.proofs.Numerals.{number_text-decimal}
use Rattle.sj_emit_expr_parts.proofs.names.numbered_name.Goals as goal

pub returns : goal.returns
returns c = c.in_ok-from_string.ensures ∙ c.in_ok-text.ensures.ok ∙ ap (λ ds. 36 ∷ ds) (sym (number_text-decimal c.args.number c.ranges.number.fits))
