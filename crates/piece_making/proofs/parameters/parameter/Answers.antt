use Rattle.std.proofs.Common.{◌≡◌, ◌∷◌, sym, ap, ◌∙◌}
use Rattle.sj_mangling.proofs.Numerals.{number_text-decimal}
use Rattle.piece_making.proofs.parameters.parameter.Goals as goal

pub returns : goal.returns
returns c = c.in_ok-from_string.ensures ∙ c.in_ok-name.ensures.ok ∙ ap (λ ds. 97 ∷ ds) (sym (number_text-decimal c.args.number c.ranges.number.fits))
