-- The words that are taken before the whole grammar ask for links alone, of no more folders than there are words.
use Rattle.std.proofs.Common.{◌≡◌, ◌≤◌, ℕ, Bool, true, false, List, [], ◌∷◌, Option, Some, None, subst, length, arith}
use Rattle.std.specs.Prelude.{◌&&◌, codes, if◌then◌else◌, option_and_then}
use Rattle.std.specs.List.{list_all}
use Rattle.sj_words.specs.Command.{with_operands}
use Rattle.sj_words.specs.Earlier.{is_plain, plain_operands, optimize_off, split_first, split_command}
use Rattle.sj_words.specs.Words.{is_same_word, style_of}
use Rattle.sj_words.specs.declared.commands.Command.{Command}
use Rattle.sj_words.specs.declared.commands.Link.{Link}
use Rattle.sj_words.specs.declared.commands.Style.{Style}

abbrev pub IsLinkIn : List (List ℕ) → Command → Type 0
IsLinkIn words (Command.Link link) = length link.folders ≤ length words
IsLinkIn words (Command.Generate count) = ⊥

among_more : (words others : List (List ℕ)) (c : Command) → length words ≤ length others → IsLinkIn words c → IsLinkIn others c
among_more words others (Command.Link link) more h = omega (arith, more, h)
among_more words others (Command.Generate count) more h = h

some_is : (x y : Command) → Some x ≡ Some y → x ≡ y
some_is x y e = cc

in_if : (b : Bool) (o : Option Command) (c : Command) → (if b then o else None) ≡ Some c → o ≡ Some c
in_if true o c h = h
in_if false o c h = absurd cc

operands_link : (style : Style) (words : List (List ℕ)) (c : Command) → with_operands style false words ≡ Some c → IsLinkIn words c
operands_link style [] c h = absurd cc
operands_link style (entries ∷ []) c h = absurd cc
operands_link style (entries ∷ out ∷ []) c h = absurd cc
operands_link style (entries ∷ out ∷ folder ∷ folders) c h =
    let few : length (folder ∷ folders) ≤ length (entries ∷ out ∷ folder ∷ folders) = omega arith in
    subst (IsLinkIn (entries ∷ out ∷ folder ∷ folders)) (some_is _ c h) few

off_links : (style : Style) (words : List (List ℕ)) (c : Command) → optimize_off style words ≡ Some c → IsLinkIn words c
off_links style [] c h = absurd cc
off_links style (option ∷ []) c h = absurd cc
off_links style (option ∷ value ∷ words) c h = among_more words (option ∷ value ∷ words) c (omega arith) (operands_link style words c (in_if (list_all is_plain words) (with_operands style false words) c (in_if (is_same_word option (codes "--optimize") && is_same_word value (codes "off")) (plain_operands style words) c h)))

styled : (words : List (List ℕ)) (style : Option Style) (c : Command) → option_and_then (λ s. optimize_off s words) style ≡ Some c → IsLinkIn words c
styled words None c h = absurd cc
styled words (Some style) c h = off_links style words c h

first_links : (words : List (List ℕ)) (c : Command) → split_first words ≡ Some c → IsLinkIn words c
first_links [] c h = absurd cc
first_links (option ∷ []) c h = absurd cc
first_links (option ∷ value ∷ words) c h = go (is_same_word option (codes "--split")) h
  where
    go : (b : Bool) → (if b then option_and_then (λ style. optimize_off style words) (style_of value) else optimize_off Style.Fewest (option ∷ value ∷ words)) ≡ Some c → IsLinkIn (option ∷ value ∷ words) c
    go true e = among_more words (option ∷ value ∷ words) c (omega arith) (styled words (style_of value) c e)
    go false e = off_links Style.Fewest (option ∷ value ∷ words) c e

links : (words : List (List ℕ)) (c : Command) → split_command words ≡ Some c → IsLinkIn words c
links [] c h = absurd cc
links (name ∷ words) c h = among_more words (name ∷ words) c (omega arith) (first_links words c (in_if (is_same_word name (codes "link")) (split_first words) c h))

-- none generates a folder
pub none_generates : (words : List (List ℕ)) (count : ℕ) → split_command words ≡ Some (Command.Generate count) → ⊥
none_generates words count h = links words (Command.Generate count) h

pub few_folders : (words : List (List ℕ)) (link : Link) → split_command words ≡ Some (Command.Link link) → length link.folders ≤ length words
few_folders words link h = links words (Command.Link link) h
