use Rattle.std.proofs.Common.{sym, ◌∙◌}
use Rattle.sj_mangling.proofs.Numerals.{number_text-decimal}
use Rattle.module_names.proofs.naming.numeral.Goals as goal

pub returns : goal.returns
returns c = c.in_ok-from_string.ensures ∙ c.in_ok-text.ensures.ok ∙ sym (number_text-decimal c.args.number c.ranges.number.fits)
