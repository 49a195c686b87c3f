-- What some command lines ask for.
use Rattle.std.proofs.Common.{◌≡◌, [], ◌∷◌, Some, None, refl, true, false, codes}
use Rattle.sj_words.specs.declared.commands.Style.{Style}
use Rattle.sj_words.specs.declared.commands.Command.{Command}
use Rattle.sj_words.specs.Given.{given}
use Rattle.sj_words.specs.Command.{command}
use Rattle.sj_words.specs.Earlier.{first_command, split_command}

defaults : command (codes "link" ∷ codes "e" ∷ codes "out" ∷ codes "f1" ∷ []) ≡ Some (Command.Link (record { style = Style.Fewest; optimize = true; entries = codes "e"; out = codes "out"; folders = codes "f1" ∷ [] }))
unfolding given
defaults = refl

options_anywhere : command (codes "link" ∷ codes "e" ∷ codes "--optimize" ∷ codes "off" ∷ codes "out" ∷ codes "f1" ∷ codes "--split=smallest" ∷ codes "f2" ∷ []) ≡ Some (Command.Link (record { style = Style.Smallest; optimize = false; entries = codes "e"; out = codes "out"; folders = codes "f1" ∷ codes "f2" ∷ [] }))
unfolding given
options_anywhere = refl

behind_the_end : command (codes "link" ∷ codes "--split=smallest" ∷ codes "e" ∷ codes "out" ∷ codes "--" ∷ codes "--split" ∷ codes "f1" ∷ []) ≡ Some (Command.Link (record { style = Style.Smallest; optimize = true; entries = codes "e"; out = codes "out"; folders = codes "--split" ∷ codes "f1" ∷ [] }))
unfolding given
behind_the_end = refl

joined_value : command (codes "link" ∷ codes "--split=smallest" ∷ codes "e" ∷ codes "out" ∷ codes "--" ∷ codes "f1" ∷ []) ≡ Some (Command.Link (record { style = Style.Smallest; optimize = true; entries = codes "e"; out = codes "out"; folders = codes "f1" ∷ [] }))
unfolding given
joined_value = refl

dash_alone : command (codes "link" ∷ codes "-" ∷ codes "out" ∷ codes "f1" ∷ []) ≡ Some (Command.Link (record { style = Style.Fewest; optimize = true; entries = codes "-"; out = codes "out"; folders = codes "f1" ∷ [] }))
unfolding given
dash_alone = refl

option_twice : command (codes "link" ∷ codes "--optimize" ∷ codes "on" ∷ codes "--optimize=on" ∷ codes "e" ∷ codes "out" ∷ codes "f1" ∷ []) ≡ None
unfolding given
option_twice = refl

value_missing : command (codes "link" ∷ codes "e" ∷ codes "out" ∷ codes "f1" ∷ codes "--split" ∷ []) ≡ None
unfolding given
value_missing = refl

value_with_dash : command (codes "link" ∷ codes "--split" ∷ codes "--" ∷ codes "e" ∷ codes "out" ∷ codes "f1" ∷ []) ≡ None
unfolding given
value_with_dash = refl

empty_value : command (codes "link" ∷ codes "--split=" ∷ codes "e" ∷ codes "out" ∷ codes "f1" ∷ []) ≡ None
unfolding given
empty_value = refl

no_folder : command (codes "link" ∷ codes "e" ∷ codes "out" ∷ []) ≡ None
unfolding given
no_folder = refl

most : command (codes "gen" ∷ codes "20000" ∷ []) ≡ Some (Command.Generate 20000)
most = refl

too_many : command (codes "gen" ∷ codes "20001" ∷ []) ≡ None
too_many = refl

none_at_all : command (codes "gen" ∷ codes "0" ∷ []) ≡ None
none_at_all = refl

leading_zero : command (codes "gen" ∷ codes "01" ∷ []) ≡ None
leading_zero = refl

two_folders : first_command (codes "link" ∷ codes "--optimize" ∷ codes "off" ∷ codes "e" ∷ codes "out" ∷ codes "f1" ∷ codes "f2" ∷ []) ≡ Some (Command.Link (record { style = Style.Fewest; optimize = false; entries = codes "e"; out = codes "out"; folders = codes "f1" ∷ codes "f2" ∷ [] }))
two_folders = refl

style_too_early : first_command (codes "link" ∷ codes "--split" ∷ codes "smallest" ∷ codes "--optimize" ∷ codes "off" ∷ codes "e" ∷ codes "out" ∷ codes "f1" ∷ []) ≡ None
style_too_early = refl

style_in_front : split_command (codes "link" ∷ codes "--split" ∷ codes "smallest" ∷ codes "--optimize" ∷ codes "off" ∷ codes "e" ∷ codes "out" ∷ codes "f1" ∷ []) ≡ Some (Command.Link (record { style = Style.Smallest; optimize = false; entries = codes "e"; out = codes "out"; folders = codes "f1" ∷ [] }))
style_in_front = refl

style_behind : split_command (codes "link" ∷ codes "--optimize" ∷ codes "off" ∷ codes "--split" ∷ codes "smallest" ∷ codes "e" ∷ codes "out" ∷ codes "f1" ∷ []) ≡ None
style_behind = refl

dash_alone_too_early : split_command (codes "link" ∷ codes "--optimize" ∷ codes "off" ∷ codes "-" ∷ codes "out" ∷ codes "f1" ∷ []) ≡ None
dash_alone_too_early = refl
