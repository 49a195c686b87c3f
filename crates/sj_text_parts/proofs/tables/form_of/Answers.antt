use Rattle.sj_text_spec.specs.Reading as reading
use Rattle.sj_text_parts.proofs.tables.form_of.Goals as goal

pub returns : goal.returns
unfolding reading.form_at
returns c = rw c.as_slice.ensures at c.word_of.ensures
