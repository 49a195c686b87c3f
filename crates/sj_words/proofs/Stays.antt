-- The commands of earlier grammars are commands of the later ones.
use Rattle.std.proofs.Common.{◌≡◌, ℕ, Bool, true, false, not, List, [], ◌∷◌, ◌&&◌, ◌==◌, Option, Some, None, refl, ap, ◌∙◌, codes, map, option_map, if◌then◌else◌}
use Rattle.std.specs.Prelude.{option_and_then}
use Rattle.std.specs.List.{list_all}
use Rattle.std.proofs.lemmas.List.Folds.{list_all-map}
use Rattle.std.proofs.lemmas.Slice.Eq.{bytes_eq-Decides}
use Rattle.sj_words.specs.declared.commands.Style.{Style}
use Rattle.sj_words.specs.declared.commands.Command.{Command}
use Rattle.sj_words.specs.declared.kinds.Choice.{Choice}
use Rattle.sj_words.specs.declared.kinds.Setting.{Setting}
use Rattle.sj_words.specs.declared.kinds.WordKind.{WordKind}
use Rattle.sj_words.specs.Words.{is_same_word, kind_of, style_of, value_of}
use Rattle.sj_words.specs.Given.{no_gifts, with_operand, with_setting, with_some_setting, given}
use Rattle.sj_words.specs.Command.{command, with_operands, link_of, link_words, generate_of}
use Rattle.sj_words.specs.Earlier.{is_plain, plain_operands, optimize_off, split_first, first_command, split_command}
use Rattle.sj_words.proofs.Steps.{name_gives, operand_gives, nothing_behind}

-- the test on what is seen of words
pub plain_words : {Y : Type 0} (seen : Y → List ℕ) (ys : List Y) → list_all is_plain (map seen ys) ≡ list_all (λ y. is_plain (seen y)) ys
plain_words seen ys = list_all-map is_plain seen ys

same_word : (x y : List ℕ) → is_same_word x y ≡ true → x ≡ y
same_word x y = (bytes_eq-Decides x y).0

first_holds : (a b : Bool) → (a && b) ≡ true → a ≡ true
first_holds true b h = refl
first_holds false b h = cc

rest_holds : (a b : Bool) → (a && b) ≡ true → b ≡ true
rest_holds true b h = h
rest_holds false b h = cc

-- a choice that isn't None was made
chosen : {A : Type 0} (test : Bool) (o : Option A) (x : A) → (if test then o else None) ≡ Some x → test ≡ true
chosen true o x e = refl
chosen false o x e = cc

then_is : {A : Type 0} (test : Bool) (o : Option A) (x : A) → (if test then o else None) ≡ Some x → o ≡ Some x
then_is true o x e = e
then_is false o x e = cc

-- words that don't begin with `-` are operands
plain_kind : (word : List ℕ) → is_plain word ≡ true → kind_of word ≡ WordKind.Operand
plain_kind [] h = refl
plain_kind (b ∷ bs) h = go (b == 45) refl h
  where
    go : (dash : Bool) → (b == 45) ≡ dash → not dash ≡ true → kind_of (b ∷ bs) ≡ WordKind.Operand
    go true e p = cc
    go false e p = cc

plain_given : (words : List (List ℕ)) → list_all is_plain words ≡ true → given words ≡ Some (record no_gifts { operands = words })
plain_given [] h = nothing_behind
plain_given (word ∷ words) h =
    operand_gives word words (plain_kind word (first_holds (is_plain word) (list_all is_plain words) h)) ∙ ap (option_map (with_operand word)) (plain_given words (rest_holds (is_plain word) (list_all is_plain words) h))

-- what `--optimize off` and operands give
record Off (style : Style) (words : List (List ℕ)) (c : Command) : Type 0 where
  operands : List (List ℕ)
  words_are : words ≡ codes "--optimize" ∷ codes "off" ∷ operands
  give : given words ≡ Some (record no_gifts { switches = false ∷ []; operands = operands })
  asks : with_operands style false operands ≡ Some c

off : (style : Style) (words : List (List ℕ)) (c : Command) → optimize_off style words ≡ Some c → Off style words c
off style [] c e = cc
off style (option ∷ []) c e = cc
off style (option ∷ value ∷ words) c e =
    let test = is_same_word option (codes "--optimize") && is_same_word value (codes "off") in
    let both = chosen test (plain_operands style words) c e in
    let option_is = same_word option (codes "--optimize") (first_holds (is_same_word option (codes "--optimize")) (is_same_word value (codes "off")) both) in
    let value_is = same_word value (codes "off") (rest_holds (is_same_word option (codes "--optimize")) (is_same_word value (codes "off")) both) in
    let inner = then_is test (plain_operands style words) c e in
    let plain = chosen (list_all is_plain words) (with_operands style false words) c inner in
    let words_are : (option ∷ value ∷ words) ≡ codes "--optimize" ∷ codes "off" ∷ words = λ i. option_is i ∷ value_is i ∷ words in
    record {
      operands = words;
      words_are = words_are;
      give = ap given words_are ∙ name_gives (codes "--optimize") (codes "off") Choice.Optimize words refl ∙ ap (option_map (with_setting (Setting.Optimize false))) (plain_given words plain);
      asks = then_is (list_all is_plain words) (with_operands style false words) c inner;
    }

off_is_split : (words : List (List ℕ)) (c : Command) → optimize_off Style.Fewest words ≡ Some c → split_first words ≡ Some c
off_is_split [] c e = cc
off_is_split (option ∷ []) c e = cc
off_is_split (option ∷ value ∷ words) c e =
    let test = is_same_word option (codes "--optimize") && is_same_word value (codes "off") in
    let option_is = same_word option (codes "--optimize") (first_holds (is_same_word option (codes "--optimize")) (is_same_word value (codes "off")) (chosen test (plain_operands Style.Fewest words) c e)) in
    ap (λ (o : List ℕ). if is_same_word o (codes "--split") then option_and_then (λ style. optimize_off style words) (style_of value) else optimize_off Style.Fewest (option ∷ value ∷ words)) option_is ∙ e

pub first_stays : (words : List (List ℕ)) (c : Command) → first_command words ≡ Some c → split_command words ≡ Some c
first_stays [] c e = cc
first_stays (name ∷ words) c e = go (is_same_word name (codes "link")) e
  where
    go : (link : Bool) → (if link then optimize_off Style.Fewest words else None) ≡ Some c → (if link then split_first words else None) ≡ Some c
    go true h = off_is_split words c h
    go false h = cc

-- a style in front of them
off_asks : (words : List (List ℕ)) (c : Command) → optimize_off Style.Fewest words ≡ Some c → link_words words ≡ Some c
off_asks words c e = let o = off Style.Fewest words c e in ap (option_and_then link_of) o.give ∙ o.asks

styled_asks : (value : List ℕ) (words : List (List ℕ)) (c : Command) (style : Option Style) → style_of value ≡ style → option_and_then (λ style. optimize_off style words) style ≡ Some c → link_words (codes "--split" ∷ value ∷ words) ≡ Some c
styled_asks value words c None s e = cc
styled_asks value words c (Some style) s e =
    let o = off style words c e in
    let gifts = record no_gifts { switches = false ∷ []; operands = o.operands } in
    let v : value_of Choice.Split value ≡ Some (Setting.Split style) = ap (option_map (λ style. Setting.Split style)) s in
    let g : given (codes "--split" ∷ value ∷ words) ≡ Some (with_setting (Setting.Split style) gifts) =
    name_gives (codes "--split") value Choice.Split words refl ∙ (λ i. with_some_setting (v i) (o.give i)) in
    ap (option_and_then link_of) g ∙ o.asks

split_asks : (words : List (List ℕ)) (c : Command) → split_first words ≡ Some c → link_words words ≡ Some c
split_asks [] c e = cc
split_asks (option ∷ []) c e = cc
split_asks (option ∷ value ∷ words) c e = go (is_same_word option (codes "--split")) refl e
  where
    go : (split : Bool) → is_same_word option (codes "--split") ≡ split → (if split then option_and_then (λ style. optimize_off style words) (style_of value) else optimize_off Style.Fewest (option ∷ value ∷ words)) ≡ Some c → link_words (option ∷ value ∷ words) ≡ Some c
    go true s h = ap (λ (o : List ℕ). link_words (o ∷ value ∷ words)) (same_word option (codes "--split") s) ∙ styled_asks value words c (style_of value) refl h
    go false s h = off_asks (option ∷ value ∷ words) c h

pub split_stays : (words : List (List ℕ)) (c : Command) → split_command words ≡ Some c → command words ≡ Some c
split_stays [] c e = cc
split_stays (name ∷ words) c e = go (is_same_word name (codes "link")) e
  where
    other : Option Command
    other = if is_same_word name (codes "gen") then generate_of words else None

    go : (link : Bool) → (if link then split_first words else None) ≡ Some c → (if link then link_words words else other) ≡ Some c
    go true h = split_asks words c h
    go false h = cc
