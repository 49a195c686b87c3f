use Rattle.std.proofs.Common.{ap, sym, ◌∙◌, ◌≡◌, true}
use Rattle.sj_words.specs.Command.{is_plain_numeral}
use Rattle.sj_words.proofs.Numerals.{refused_number}
use Rattle.sj_words.proofs.numbers.number.Goals as goal

pub returns-in_default-2 : goal.returns-in_default-2
returns-in_default-2 c =
    let plain : is_plain_numeral c.args.word.now ≡ true = ap is_plain_numeral (sym c.as_bytes.ensures.value) ∙ sym c.is_plain_numeral.ensures ∙ c.if-not-is_plain_numeral.false in
    refused_number c.args.word.now plain (c.in_default.ensures.value.0)
