-- The types of one word.
use Rattle.sj_trees.specs.declared.types.IrType.{IrType}
use Rattle.sj_trees.specs.declared.types.IrType.TheVariants as types
use Rattle.sj_text_parts.specs.declared.tables.TypeWord.{TypeWord}
use Rattle.sj_text_parts.specs.declared.tables.TypeWord.TheVariants as words

abbrev pub type_of_word : TypeWord → IrType
type_of_word words.Any = types.Any
type_of_word words.Nothing = types.Nothing
type_of_word words.Undefined = types.Undefined
type_of_word words.Boolean = types.Boolean
type_of_word words.Char = types.Char
type_of_word words.Byte = types.Byte
type_of_word words.Short = types.Short
type_of_word words.Int = types.Int
type_of_word words.Long = types.Long
type_of_word words.String = types.String
type_of_word words.Null = types.Null
type_of_word words.NoType = types.NoType
