use Rattle.sj_text_spec.specs.Reading as reading
use Rattle.sj_text_parts.proofs.tables.kind_of.Goals as goal

pub returns : goal.returns
unfolding reading.kind_at
returns c = rw c.as_slice.ensures at c.word_of.ensures
