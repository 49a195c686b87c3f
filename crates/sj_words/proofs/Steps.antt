-- What a word in front gives.
use Rattle.std.proofs.Common.{◌≡◌, ℕ, List, [], ◌∷◌, ◌++◌, Option, Some, None, refl, sym, ap, ◌∙◌, option_map, append_assoc, append-nil, length, arith}
use Rattle.sj_words.specs.declared.kinds.Choice.{Choice}
use Rattle.sj_words.specs.declared.kinds.Setting.{Setting}
use Rattle.sj_words.specs.declared.kinds.WordKind.{WordKind}
use Rattle.sj_words.specs.Words.{kind_of, value_of}
use Rattle.sj_words.specs.Given.{Gifts, no_gifts, with_operand, with_setting, with_some_setting, last_gives, word_gives, given}
use Rattle.sj_words.specs.Collected.{before, then_setting}

pub end_gives : (word : List ℕ) (rest : List (List ℕ)) → kind_of word ≡ WordKind.End → given (word ∷ rest) ≡ Some (record no_gifts { operands = rest })
unfolding given
end_gives word [] k = ap (λ (x : WordKind). last_gives x word) k
end_gives word (next ∷ rest) k = ap (λ (x : WordKind). word_gives x word next rest (given (next ∷ rest)) (given rest)) k

pub operand_gives : (word : List ℕ) (rest : List (List ℕ)) → kind_of word ≡ WordKind.Operand → given (word ∷ rest) ≡ option_map (with_operand word) (given rest)
unfolding given
operand_gives word [] k = ap (λ (x : WordKind). last_gives x word) k
operand_gives word (next ∷ rest) k = ap (λ (x : WordKind). word_gives x word next rest (given (next ∷ rest)) (given rest)) k

pub whole_gives : (word : List ℕ) (setting : Setting) (rest : List (List ℕ)) → kind_of word ≡ WordKind.Whole setting → given (word ∷ rest) ≡ option_map (with_setting setting) (given rest)
unfolding given
whole_gives word setting [] k = ap (λ (x : WordKind). last_gives x word) k
whole_gives word setting (next ∷ rest) k = ap (λ (x : WordKind). word_gives x word next rest (given (next ∷ rest)) (given rest)) k

pub name_gives : (word value : List ℕ) (choice : Choice) (rest : List (List ℕ)) → kind_of word ≡ WordKind.Name choice → given (word ∷ value ∷ rest) ≡ with_some_setting (value_of choice value) (given rest)
unfolding given
name_gives word value choice rest k = ap (λ (x : WordKind). word_gives x word value rest (given (value ∷ rest)) (given rest)) k

pub lone_name : (word : List ℕ) (choice : Choice) → kind_of word ≡ WordKind.Name choice → given (word ∷ []) ≡ None
unfolding given
lone_name word choice k = ap (λ (x : WordKind). last_gives x word) k

pub unknown_gives : (word : List ℕ) (rest : List (List ℕ)) → kind_of word ≡ WordKind.Unknown → given (word ∷ rest) ≡ None
unfolding given
unknown_gives word [] k = ap (λ (x : WordKind). last_gives x word) k
unknown_gives word (next ∷ rest) k = ap (λ (x : WordKind). word_gives x word next rest (given (next ∷ rest)) (given rest)) k

-- what is collected, with what the words behind give
pub together : Gifts → List (List ℕ) → Option Gifts
together g words = option_map (before g) (given words)

swapped : (g : Gifts) (f : Gifts → Gifts) (h : Gifts) → ((x : Gifts) → before g (f x) ≡ before h x) → (o : Option Gifts) → option_map (before g) (option_map f o) ≡ option_map (before h) o
swapped g f h e None = refl
swapped g f h e (Some x) = ap (λ (y : Gifts). Some y) (e x)

moved_setting : (g : Gifts) (s : Setting) (x : Gifts) → before g (with_setting s x) ≡ before (then_setting g s) x
moved_setting g (Setting.Split style) x = λ i. record { styles = sym (append_assoc g.styles (style ∷ []) x.styles) i; switches = g.switches ++ x.switches; operands = g.operands ++ x.operands }
moved_setting g (Setting.Optimize switch) x = λ i. record { styles = g.styles ++ x.styles; switches = sym (append_assoc g.switches (switch ∷ []) x.switches) i; operands = g.operands ++ x.operands }

moved_operand : (g : Gifts) (w : List ℕ) (x : Gifts) → before g (with_operand w x) ≡ before (record g { operands = g.operands ++ w ∷ [] }) x
moved_operand g w x = λ i. record { styles = g.styles ++ x.styles; switches = g.switches ++ x.switches; operands = sym (append_assoc g.operands (w ∷ []) x.operands) i }

pub operand_taken : (g : Gifts) (word : List ℕ) (rest : List (List ℕ)) → kind_of word ≡ WordKind.Operand → option_map (before g) (given (word ∷ rest)) ≡ option_map (before (record g { operands = g.operands ++ word ∷ [] })) (given rest)
operand_taken g word rest k = ap (option_map (before g)) (operand_gives word rest k) ∙ swapped g (with_operand word) _ (moved_operand g word) (given rest)

pub setting_taken : (g : Gifts) (word : List ℕ) (setting : Setting) (rest : List (List ℕ)) → kind_of word ≡ WordKind.Whole setting → option_map (before g) (given (word ∷ rest)) ≡ option_map (before (then_setting g setting)) (given rest)
setting_taken g word setting rest k = ap (option_map (before g)) (whole_gives word setting rest k) ∙ swapped g (with_setting setting) _ (moved_setting g setting) (given rest)

pub value_taken : (g : Gifts) (word value : List ℕ) (choice : Choice) (setting : Setting) (rest : List (List ℕ)) → kind_of word ≡ WordKind.Name choice → value_of choice value ≡ Some setting → option_map (before g) (given (word ∷ value ∷ rest)) ≡ option_map (before (then_setting g setting)) (given rest)
value_taken g word value choice setting rest k v = ap (option_map (before g)) (name_gives word value choice rest k ∙ ap (λ (s : Option Setting). with_some_setting s (given rest)) v) ∙ swapped g (with_setting setting) _ (moved_setting g setting) (given rest)

pub value_refused : (word value : List ℕ) (choice : Choice) (rest : List (List ℕ)) → kind_of word ≡ WordKind.Name choice → value_of choice value ≡ None → given (word ∷ value ∷ rest) ≡ None
value_refused word value choice rest k v = name_gives word value choice rest k ∙ ap (λ (s : Option Setting). with_some_setting s (given rest)) v

pub nothing_behind : given [] ≡ Some no_gifts
unfolding given
nothing_behind = refl

pub with_nothing : (g : Gifts) → before g no_gifts ≡ g
with_nothing g = λ i. record { styles = append-nil g.styles i; switches = append-nil g.switches i; operands = append-nil g.operands i }

pub before_nothing : (g : Gifts) → before no_gifts g ≡ g
before_nothing g = refl

-- the same at any words
pub after_operand : (all rest : List (List ℕ)) (g h : Gifts) (word : List ℕ) (behind : List (List ℕ)) → option_map (before g) (given rest) ≡ given all → rest ≡ word ∷ behind → kind_of word ≡ WordKind.Operand → h ≡ record g { operands = g.operands ++ word ∷ [] } → option_map (before h) (given behind) ≡ given all
after_operand all rest g h word behind i r k e = ap (λ (x : Gifts). option_map (before x) (given behind)) e ∙ sym (operand_taken g word behind k) ∙ ap (λ (x : List (List ℕ)). option_map (before g) (given x)) (sym r) ∙ i

pub after_setting : (all rest : List (List ℕ)) (g h : Gifts) (word : List ℕ) (setting : Setting) (behind : List (List ℕ)) → option_map (before g) (given rest) ≡ given all → rest ≡ word ∷ behind → kind_of word ≡ WordKind.Whole setting → h ≡ then_setting g setting → option_map (before h) (given behind) ≡ given all
after_setting all rest g h word setting behind i r k e = ap (λ (x : Gifts). option_map (before x) (given behind)) e ∙ sym (setting_taken g word setting behind k) ∙ ap (λ (x : List (List ℕ)). option_map (before g) (given x)) (sym r) ∙ i

pub after_value : (all rest : List (List ℕ)) (g h : Gifts) (word value : List ℕ) (choice : Choice) (setting : Setting) (behind : List (List ℕ)) → option_map (before g) (given rest) ≡ given all → rest ≡ word ∷ value ∷ behind → kind_of word ≡ WordKind.Name choice → value_of choice value ≡ Some setting → h ≡ then_setting g setting → option_map (before h) (given behind) ≡ given all
after_value all rest g h word value choice setting behind i r k v e = ap (λ (x : Gifts). option_map (before x) (given behind)) e ∙ sym (value_taken g word value choice setting behind k v) ∙ ap (λ (x : List (List ℕ)). option_map (before g) (given x)) (sym r) ∙ i

-- where the words in front are refused, so are all
pub refused_here : (all rest : List (List ℕ)) (g : Gifts) → option_map (before g) (given rest) ≡ given all → given rest ≡ None → None ≡ given all
refused_here all rest g i r = sym (ap (option_map (before g)) r) ∙ i

pub at_the_end : (all rest : List (List ℕ)) (g h : Gifts) (word : List ℕ) (behind : List (List ℕ)) → option_map (before g) (given rest) ≡ given all → rest ≡ word ∷ behind → kind_of word ≡ WordKind.End → h ≡ record g { operands = g.operands ++ behind } → Some h ≡ given all
at_the_end all rest g h word behind i r k e = ap (λ (x : Gifts). Some x) (e ∙ same) ∙ sym (ap (option_map (before g)) (end_gives word behind k)) ∙ ap (λ (x : List (List ℕ)). option_map (before g) (given x)) (sym r) ∙ i
  where
    same : record g { operands = g.operands ++ behind } ≡ before g (record no_gifts { operands = behind })
    same = λ i. record { styles = sym (append-nil g.styles) i; switches = sym (append-nil g.switches) i; operands = g.operands ++ behind }

pub no_words_left : (all rest : List (List ℕ)) (g : Gifts) → option_map (before g) (given rest) ≡ given all → rest ≡ [] → Some g ≡ given all
no_words_left all rest g i r = ap (λ (x : Gifts). Some x) (sym (with_nothing g)) ∙ sym (ap (option_map (before g)) (ap given r ∙ nothing_behind)) ∙ i

pub no_words_yet : (all : List (List ℕ)) (g : Gifts) → g ≡ no_gifts → option_map (before g) (given all) ≡ given all
no_words_yet all g e = ap (λ (x : Gifts). option_map (before x) (given all)) e ∙ kept (given all)
  where
    kept : (o : Option Gifts) → option_map (before no_gifts) o ≡ o
    kept None = refl
    kept (Some x) = refl

pub is_empty : {A : Type 0} → (xs : List A) → length xs ≡ 0 → xs ≡ []
is_empty [] e = refl
is_empty (x ∷ xs) e = absurd (omega arith)
