-- The words of the subset, by the places where they may stand. A name may stand at each place but one: a member of a class has
-- the name of a property.
use Rattle.std.specs.Prelude.{ℕ, Bool, true, false, List, [], ◌∷◌, ◌&&◌, not, ◌==◌, Option, None, codes}
use Rattle.std.specs.List.{list_all}
use Rattle.js_tree.specs.Names.{is_name_character, is_digit, is_name, is_dunder, is_property}
use Rattle.js_tree.specs.Words.{binary_text}
use Rattle.js_tree.specs.declared.operators.BinaryOperator.{BinaryOperator}
use Rattle.js_tree.specs.declared.operators.BinaryOperator.TheVariants.{Add, Subtract, Multiply, Divide, Remainder, BitAnd, BitOr, BitXor, ShiftLeft, ShiftRight, ShiftRightUnsigned, StrictEqual, StrictNotEqual, Less, LessOrEqual, Greater, GreaterOrEqual, And, Or, In, InstanceOf}
use Rattle.exact_place.specs.Tokens.{Entry, entry_of, word_of}
use Rattle.js_read_spec.specs.declared.words.Head.{Head}
use Rattle.js_read_spec.specs.declared.words.Head.TheVariants as heads
use Rattle.js_read_spec.specs.declared.words.NewHead.{NewHead}
use Rattle.js_read_spec.specs.declared.words.NewHead.TheVariants as news
use Rattle.js_read_spec.specs.declared.words.ParenthesisHead.{ParenthesisHead}
use Rattle.js_read_spec.specs.declared.words.ParenthesisHead.TheVariants as parentheses
use Rattle.js_read_spec.specs.declared.words.Infix.{Infix}
use Rattle.js_read_spec.specs.declared.words.Infix.TheVariants as infixes
use Rattle.js_read_spec.specs.declared.words.StatementHead.{StatementHead}
use Rattle.js_read_spec.specs.declared.words.StatementHead.TheVariants as statements
use Rattle.js_read_spec.specs.declared.words.ItemHead.{ItemHead}
use Rattle.js_read_spec.specs.declared.words.ItemHead.TheVariants as items
use Rattle.js_read_spec.specs.declared.words.LineHead.{LineHead}
use Rattle.js_read_spec.specs.declared.words.LineHead.TheVariants as lines
use Rattle.js_read_spec.specs.declared.words.MemberHead.{MemberHead}
use Rattle.js_read_spec.specs.declared.words.MemberHead.TheVariants as members

abbrev pub entry : {A : Type 0} → List ℕ → A → Entry A
entry word value = record { word = word; value = value }

-- a name may begin so
abbrev pub begins_name : List ℕ → Bool
begins_name [] = true
begins_name (b ∷ bs) = list_all is_name_character (b ∷ bs) && not (is_digit b)

-- the name of a property may begin so
abbrev pub begins_property : List ℕ → Bool
begins_property bs = begins_name bs && not (is_dunder bs)

-- the first byte of a name or a keyword
abbrev pub is_word_start : ℕ → Bool
is_word_start b = is_name_character b && not (is_digit b)

-- what ends a run of name characters
abbrev pub ends_word : ℕ → Bool
ends_word b = not (is_name_character b)

abbrev pub expression_words : {A : Type 0} → (Head → A) → List (Entry A)
expression_words of =
    entry (codes "null") (of heads.Null) ∷ entry (codes "true") (of heads.True) ∷ entry (codes "false") (of heads.False) ∷ entry (codes "this") (of heads.This)
    ∷ entry (codes "new") (of heads.New) ∷ entry (codes "BigInt") (of heads.BigInt) ∷ entry (codes "Number") (of heads.Number) ∷ entry (codes "Math") (of heads.Math)
    ∷ entry (codes "String") (of heads.String) ∷ entry (codes "console") (of heads.Console) ∷ []

abbrev pub new_words : List (Entry NewHead)
new_words = entry (codes "Array") news.Array ∷ []

abbrev pub member_words : List (Entry MemberHead)
member_words = entry (codes "constructor") members.Constructor ∷ []

abbrev pub parenthesis_words : List (Entry ParenthesisHead)
parenthesis_words = entry (codes "void") parentheses.Void ∷ entry (codes "typeof") parentheses.TypeOf ∷ expression_words parentheses.Expression

abbrev pub statement_words : List (Entry StatementHead)
statement_words =
    entry (codes "const") statements.Const ∷ entry (codes "let") statements.Let ∷ entry (codes "super") statements.Super ∷ entry (codes "throw") statements.Throw
    ∷ entry (codes "return") statements.Return ∷ entry (codes "break") statements.Break ∷ entry (codes "if") statements.If ∷ entry (codes "while") statements.While
    ∷ entry (codes "do") statements.Do ∷ entry (codes "try") statements.Try ∷ entry (codes "switch") statements.Switch ∷ expression_words statements.Expression

abbrev pub item_words : {A : Type 0} → (ItemHead → A) → List (Entry A)
item_words of =
    entry (codes "const") (of items.Const) ∷ entry (codes "let") (of items.Let) ∷ entry (codes "function") (of items.Function) ∷ entry (codes "class") (of items.Class)
    ∷ expression_words (λ h. of (items.Expression h))

-- behind an item no import line comes
abbrev pub later_words : List (Entry LineHead)
later_words = entry (codes "export") lines.Export ∷ item_words lines.Item

abbrev pub line_words : Bool → List (Entry LineHead)
line_words true = entry (codes "import") lines.Import ∷ later_words
line_words false = later_words

abbrev pub head_of : List ℕ → Option Head
head_of = word_of is_name heads.Name (entry_of (expression_words (λ h. h)))

abbrev pub new_head_of : List ℕ → Option NewHead
new_head_of = word_of is_name news.Name (entry_of new_words)

abbrev pub parenthesis_head_of : List ℕ → Option ParenthesisHead
parenthesis_head_of = word_of is_name (λ x. parentheses.Expression (heads.Name x)) (entry_of parenthesis_words)

abbrev pub statement_head_of : List ℕ → Option StatementHead
statement_head_of = word_of is_name (λ x. statements.Expression (heads.Name x)) (entry_of statement_words)

abbrev pub line_head_of : Bool → List ℕ → Option LineHead
line_head_of imports = word_of is_name (λ x. lines.Item (items.Expression (heads.Name x))) (entry_of (line_words imports))

abbrev pub member_head_of : List ℕ → Option MemberHead
member_head_of = word_of is_property members.Method (entry_of member_words)

abbrev pub no_keyword : {A : Type 0} → List ℕ → Option A
no_keyword text = None

abbrev pub name_of : List ℕ → Option (List ℕ)
name_of = word_of is_name (λ x. x) no_keyword

abbrev pub property_name_of : List ℕ → Option (List ℕ)
property_name_of = word_of is_property (λ x. x) no_keyword

abbrev pub operator_entry : BinaryOperator → Entry Infix
operator_entry op = entry (binary_text op) (infixes.Operator op)

abbrev pub infix_words : List (Entry Infix)
infix_words =
    operator_entry Add ∷ operator_entry Subtract ∷ operator_entry Multiply ∷ operator_entry Divide ∷ operator_entry Remainder
    ∷ operator_entry BitAnd ∷ operator_entry BitOr ∷ operator_entry BitXor ∷ operator_entry ShiftLeft ∷ operator_entry ShiftRight ∷ operator_entry ShiftRightUnsigned
    ∷ operator_entry StrictEqual ∷ operator_entry StrictNotEqual ∷ operator_entry Less ∷ operator_entry LessOrEqual ∷ operator_entry Greater ∷ operator_entry GreaterOrEqual
    ∷ operator_entry And ∷ operator_entry Or ∷ operator_entry In ∷ operator_entry InstanceOf ∷ entry (codes "?") infixes.Question ∷ []

-- what ends a word between two expressions
abbrev pub is_space : ℕ → Bool
is_space c = c == 32
