use Rattle.sj_baselink.proofs.Sorted.{one_more_spelled}
use Rattle.sj_baselink.proofs.ordered.with_spellings.Goals as goal

pub loop-entry-preserved : goal.loop-entry-preserved
loop-entry-preserved c = one_more_spelled c.loop-entry.list.items _ c.loop-entry.yielded c.in_ok-with_spelling.field-0 c.in-Some.entry c.in_ok-push.ensures.items c.in_ok-with_spelling.ensures.entry c.in_ok-with_spelling.ensures.spelling c.loop-entry.invariant.0 c.loop-entry.invariant.1
