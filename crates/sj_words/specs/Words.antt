-- Single words of a command line.
pub use Rattle.sj_names.specs.WellKnown.{is_same_text as is_same_word}
use Rattle.std.specs.Prelude.{ℕ, ◌||◌, Bool, true, false, List, [], ◌∷◌, Option, Some, None, not, ◌==◌, codes, option_map, if◌then◌else◌}
use Rattle.sj_words.specs.declared.commands.Style.{Style}
use Rattle.sj_words.specs.declared.kinds.Choice.{Choice}
use Rattle.sj_words.specs.declared.kinds.Setting.{Setting}
use Rattle.sj_words.specs.declared.kinds.WordKind.{WordKind}

-- a word begins with `-`
abbrev pub begins_with_dash : List ℕ → Bool
begins_with_dash [] = false
begins_with_dash (b ∷ bs) = b == 45

-- a word that names a file, a folder or a place for files: it doesn't begin with `-`, or is `-` alone
abbrev pub is_operand : List ℕ → Bool
is_operand word = not (begins_with_dash word) || is_same_word word (codes "-")

-- the style that a word names
abbrev pub style_of : List ℕ → Option Style
style_of word =
    if is_same_word word (codes "fewest") then Some Style.Fewest
    else if is_same_word word (codes "smallest") then Some Style.Smallest
    else None

-- the value of an option
abbrev pub split_value : List ℕ → Option Setting
split_value word = option_map (λ style. Setting.Split style) (style_of word)

abbrev pub optimize_value : List ℕ → Option Setting
optimize_value word =
    if is_same_word word (codes "on") then Some (Setting.Optimize true)
    else if is_same_word word (codes "off") then Some (Setting.Optimize false)
    else None

abbrev pub value_of : Choice → List ℕ → Option Setting
value_of Choice.Split word = split_value word
value_of Choice.Optimize word = optimize_value word

-- what a word is in front of `--`: an option with its value, an option whose value is the next word, or none of the grammar
abbrev pub option_kind : List ℕ → WordKind
option_kind word =
    if is_same_word word (codes "--split") then WordKind.Name Choice.Split
    else if is_same_word word (codes "--optimize") then WordKind.Name Choice.Optimize
    else if is_same_word word (codes "--split=fewest") then WordKind.Whole (Setting.Split Style.Fewest)
    else if is_same_word word (codes "--split=smallest") then WordKind.Whole (Setting.Split Style.Smallest)
    else if is_same_word word (codes "--optimize=on") then WordKind.Whole (Setting.Optimize true)
    else if is_same_word word (codes "--optimize=off") then WordKind.Whole (Setting.Optimize false)
    else WordKind.Unknown

-- the same, or `--` itself, or an operand
abbrev pub kind_of : List ℕ → WordKind
kind_of word =
    if is_same_word word (codes "--") then WordKind.End
    else if is_operand word then WordKind.Operand
    else option_kind word
