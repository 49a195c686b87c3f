use Rattle.std.proofs.Common.{◌∙◌, ap}
use Rattle.sj_outside.specs.Words.{without_line_feed}
use Rattle.sjsir.proofs.Files as files
use Rattle.sjsir.proofs.making.made_at.Goals as goal

pub returns-in-Ok-made_of-clause-told : goal.returns-in-Ok-made_of-clause-told
returns-in-Ok-made_of-clause-told g c contents tells = files.made_at _ contents c.args.path.now c.in-Ok.bytes.items c.without_line_feed.result.now c.in-Ok-made_of.made tells c.in-Ok.ensures.told (c.without_line_feed.ensures ∙ ap without_line_feed c.as_slice.ensures.value) c.in-Ok-made_of.ensures
