-- The commands that are taken before the whole grammar is: the options stand in one order, each with its value behind it, and no
-- other word begins with `-`.
use Rattle.std.specs.Prelude.{ℕ, ◌&&◌, ◌≡◌, Bool, not, List, [], ◌∷◌, Option, Some, None, false, codes, option_and_then, if◌then◌else◌}
use Rattle.std.specs.List.{list_all}
use Rattle.sj_words.specs.declared.commands.Style.{Style}
use Rattle.sj_words.specs.declared.commands.Command.{Command}
use Rattle.sj_words.specs.Words.{begins_with_dash, is_same_word, style_of}
use Rattle.sj_words.specs.Command.{command, with_operands}

-- ENTRIES OUT FOLDER..
abbrev pub is_plain : List ℕ → Bool
is_plain word = not (begins_with_dash word)

abbrev pub plain_operands : Style → List (List ℕ) → Option Command
plain_operands style words = if list_all is_plain words then with_operands style false words else None

-- --optimize off ENTRIES OUT FOLDER..
abbrev pub optimize_off : Style → List (List ℕ) → Option Command
optimize_off style (option ∷ value ∷ words) =
    if is_same_word option (codes "--optimize") && is_same_word value (codes "off") then plain_operands style words
    else None
optimize_off style _ = None

-- [--split fewest|smallest] --optimize off ENTRIES OUT FOLDER..
abbrev pub split_first : List (List ℕ) → Option Command
split_first (option ∷ value ∷ words) =
    if is_same_word option (codes "--split") then option_and_then (λ style. optimize_off style words) (style_of value)
    else optimize_off Style.Fewest (option ∷ value ∷ words)
split_first _ = None

-- link --optimize off ENTRIES OUT FOLDER..
abbrev pub first_command : List (List ℕ) → Option Command
first_command [] = None
first_command (name ∷ words) = if is_same_word name (codes "link") then optimize_off Style.Fewest words else None

-- link [--split fewest|smallest] --optimize off ENTRIES OUT FOLDER..
abbrev pub split_command : List (List ℕ) → Option Command
split_command [] = None
split_command (name ∷ words) = if is_same_word name (codes "link") then split_first words else None

-- what words ask for that are such a command, they ask for in each later grammar; not the other way round, since there `-` alone is a
-- word like others, and options may be left out and stand anywhere
pub record EarlierCommandsStay : Type 0 where
  pub first : (words : List (List ℕ)) (c : Command) → first_command words ≡ Some c → split_command words ≡ Some c
  pub split : (words : List (List ℕ)) (c : Command) → split_command words ≡ Some c → command words ≡ Some c
