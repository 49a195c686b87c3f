-- The types of one word, by the names of the words.
use Rattle.std.proofs.Common.{List, [], ◌∷◌, codes}
use Rattle.exact_place.specs.Tokens.{Entry}
use Rattle.sj_text_spec.specs.Words.{entry}
use Rattle.sj_text_parts.specs.declared.tables.TypeWord.{TypeWord}
use Rattle.sj_text_parts.specs.declared.tables.TypeWord.TheVariants as words

abbrev pub type_table : List (Entry TypeWord)
type_table =
    entry (codes "any") words.Any ∷
    entry (codes "nothing") words.Nothing ∷
    entry (codes "undef") words.Undefined ∷
    entry (codes "boolean") words.Boolean ∷
    entry (codes "char") words.Char ∷
    entry (codes "byte") words.Byte ∷
    entry (codes "short") words.Short ∷
    entry (codes "int") words.Int ∷
    entry (codes "long") words.Long ∷
    entry (codes "string") words.String ∷
    entry (codes "null") words.Null ∷
    entry (codes "none") words.NoType ∷ []
