use Rattle.std.proofs.lemmas.Str.Pattern.{strip_prefix_char}
use Rattle.sj_names.proofs.cuts.behind.Goals as goal

pub returns : goal.returns
returns c = strip_prefix_char c.args.first c.args.text.now _ c.strip_prefix.ensures.cases c.requires
