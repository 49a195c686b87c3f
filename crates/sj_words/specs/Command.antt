-- What the words of a command line ask for.
use Rattle.std.specs.Prelude.{ℕ, ◌&&◌, Bool, true, false, List, [], ◌∷◌, Option, Some, None, not, ◌==◌, nat_le, codes, option_and_then, option_map, if◌then◌else◌}
use Rattle.std.specs.List.{list_all}
use Rattle.std.specs.Str.Parse.{digits_value}
use Rattle.sj_words.specs.declared.commands.Style.{Style}
use Rattle.sj_words.specs.declared.commands.Command.{Command}
use Rattle.sj_words.specs.Words.{is_same_word}
use Rattle.sj_words.specs.Given.{Gifts, given}

-- the one value that an option was given, or its default: an option stands at most once
abbrev pub only_one : {A : Type 0} → A → List A → Option A
only_one default [] = Some default
only_one default (value ∷ []) = Some value
only_one default (value ∷ another ∷ more) = None

-- ENTRIES OUT FOLDER.., one folder or more
abbrev pub with_operands : Style → Bool → List (List ℕ) → Option Command
with_operands style optimize (entries ∷ out ∷ folder ∷ folders) =
    Some (Command.Link (record { style = style; optimize = optimize; entries = entries; out = out; folders = folder ∷ folders }))
with_operands style optimize _ = None

abbrev pub link_of : Gifts → Option Command
link_of g = option_and_then (λ style. option_and_then (λ optimize. with_operands style optimize g.operands) (only_one true g.switches)) (only_one Style.Fewest g.styles)

abbrev pub link_words : List (List ℕ) → Option Command
link_words words = option_and_then link_of (given words)

-- a number from 1 to 20000 in decimal digits without a leading zero
abbrev pub is_digit : ℕ → Bool
is_digit b = nat_le 48 b && nat_le b 57

abbrev pub is_plain_numeral : List ℕ → Bool
is_plain_numeral [] = false
is_plain_numeral (b ∷ bs) = not (b == 48) && list_all is_digit (b ∷ bs)

abbrev pub most_classes : ℕ
most_classes = 20000

abbrev pub number_of : List ℕ → Option ℕ
number_of word = if is_plain_numeral word && nat_le (digits_value 10 word) most_classes then Some (digits_value 10 word) else None

abbrev pub generate_of : List (List ℕ) → Option Command
generate_of (word ∷ []) = option_map (λ n. Command.Generate n) (number_of word)
generate_of _ = None

-- the whole grammar
abbrev pub command : List (List ℕ) → Option Command
command [] = None
command (name ∷ words) =
    if is_same_word name (codes "link") then link_words words
    else if is_same_word name (codes "gen") then generate_of words
    else None
