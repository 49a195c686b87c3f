-- What the words behind `link` give.
use Rattle.std.specs.Prelude.{ℕ, Bool, List, [], ◌∷◌, Option, Some, None, option_map}
use Rattle.sj_words.specs.declared.commands.Style.{Style}
use Rattle.sj_words.specs.declared.kinds.Setting.{Setting}
use Rattle.sj_words.specs.declared.kinds.WordKind.{WordKind}
use Rattle.sj_words.specs.Words.{kind_of, value_of}

-- the values of each option, and the operands, each in order
pub record Gifts : Type 0 where
  pub styles : List Style
  pub switches : List Bool
  pub operands : List (List ℕ)

abbrev pub no_gifts : Gifts
no_gifts = record { styles = []; switches = []; operands = [] }

-- one more in front
abbrev pub with_operand : List ℕ → Gifts → Gifts
with_operand word g = record g { operands = word ∷ g.operands }

abbrev pub with_setting : Setting → Gifts → Gifts
with_setting (Setting.Split style) g = record g { styles = style ∷ g.styles }
with_setting (Setting.Optimize switch) g = record g { switches = switch ∷ g.switches }

abbrev pub with_some_setting : Option Setting → Option Gifts → Option Gifts
with_some_setting None g = None
with_some_setting (Some setting) g = option_map (with_setting setting) g

-- what a word and those behind it give, where the word is the last
abbrev pub last_gives : WordKind → List ℕ → Option Gifts
last_gives WordKind.End word = Some no_gifts
last_gives WordKind.Operand word = Some (with_operand word no_gifts)
last_gives (WordKind.Whole setting) word = Some (with_setting setting no_gifts)
last_gives (WordKind.Name choice) word = None
last_gives WordKind.Unknown word = None

-- and where others stand behind it, of which the first is `next`: `behind` is what they give, and `later` what those behind the
-- first give
abbrev pub word_gives : WordKind → List ℕ → List ℕ → List (List ℕ) → Option Gifts → Option Gifts → Option Gifts
word_gives WordKind.End word next rest behind later = Some (record no_gifts { operands = next ∷ rest })
word_gives WordKind.Operand word next rest behind later = option_map (with_operand word) behind
word_gives (WordKind.Whole setting) word next rest behind later = option_map (with_setting setting) behind
word_gives (WordKind.Name choice) word next rest behind later = with_some_setting (value_of choice next) later
word_gives WordKind.Unknown word next rest behind later = None

-- what the words give, if they are in the grammar
unfoldable pub given : List (List ℕ) → Option Gifts
given [] = Some no_gifts
given (word ∷ []) = last_gives (kind_of word) word
given (word ∷ next ∷ rest) = word_gives (kind_of word) word next rest (given (next ∷ rest)) (given rest)
