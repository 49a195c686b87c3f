-- What the first words are: a name, or a keyword by its text.
use Rattle.std.proofs.Common.{◌≡◌, ℕ, Bool, true, false, List, Option, Some, refl, subst, inl, inr, codes}
use Rattle.js_tree.specs.Names.{is_name, is_property}
use Rattle.js_tree.specs.Written.{Grammar, Is}
use Rattle.js_tree.specs.Spelling.{SpellsName, SpellsProperty}
use Rattle.js_tree.specs.Words.{binary_text}
use Rattle.js_tree.specs.declared.operators.BinaryOperator.TheVariants.{Add, Subtract, Multiply, Divide, Remainder, BitAnd, BitOr, BitXor, ShiftLeft, ShiftRight, ShiftRightUnsigned, StrictEqual, StrictNotEqual, Less, LessOrEqual, Greater, GreaterOrEqual, And, Or, In, InstanceOf}
use Rattle.exact_place.specs.Grammar.{IsRun}
use Rattle.exact_place.specs.Place.{Law}
use Rattle.exact_place.specs.Tokens.{entry_of, word_of}
use Rattle.exact_place.proofs.Steps.{went}
use Rattle.exact_place.proofs.Basic.{law_same}
use Rattle.exact_place.proofs.Words.{none_some}
use Rattle.exact_place.proofs.Numbers.{table_is}
use Rattle.js_read_spec.specs.declared.words.Head.{Head}
use Rattle.js_read_spec.specs.declared.words.Head.TheVariants as heads
use Rattle.js_read_spec.specs.declared.words.NewHead.{NewHead}
use Rattle.js_read_spec.specs.declared.words.NewHead.TheVariants as news
use Rattle.js_read_spec.specs.declared.words.ParenthesisHead.{ParenthesisHead}
use Rattle.js_read_spec.specs.declared.words.ParenthesisHead.TheVariants as parentheses
use Rattle.js_read_spec.specs.declared.words.Infix.{Infix}
use Rattle.js_read_spec.specs.declared.words.Infix.TheVariants as infixes
use Rattle.js_read_spec.specs.declared.words.StatementHead.{StatementHead}
use Rattle.js_read_spec.specs.declared.words.StatementHead.TheVariants as statements
use Rattle.js_read_spec.specs.declared.words.ItemHead.{ItemHead}
use Rattle.js_read_spec.specs.declared.words.ItemHead.TheVariants as items
use Rattle.js_read_spec.specs.declared.words.LineHead.{LineHead}
use Rattle.js_read_spec.specs.declared.words.LineHead.TheVariants as lines
use Rattle.js_read_spec.specs.declared.words.MemberHead.{MemberHead}
use Rattle.js_read_spec.specs.declared.words.MemberHead.TheVariants as members
use Rattle.js_read_spec.specs.Words.{ends_word, expression_words, new_words, parenthesis_words, statement_words, line_words, member_words, head_of, new_head_of, parenthesis_head_of, statement_head_of, line_head_of, member_head_of, no_keyword, name_of, property_name_of, infix_words, is_space}
use Rattle.js_read_spec.specs.Tokens.{name_at, property_at, head_at, new_head_at, parenthesis_head_at, statement_head_at, line_head_at, member_head_at, infix_at}
use Rattle.js_read_spec.proofs.WordLaws.{law_head, law_new_head, law_parenthesis_head, law_statement_head, law_line_head, law_member_head, law_name, law_property_name, law_infix}

-- what a name or a keyword is, from the reader's answer
word_is : {A : Type 0} (R : A → List ℕ → Type 0) (name : List ℕ → Bool) (of : List ℕ → A) (keyword : List ℕ → Option A)
    → ((text : List ℕ) → name text ≡ true → R (of text) text) → ((text : List ℕ) (x : A) → keyword text ≡ Some x → R x text)
    → (text : List ℕ) (x : A) → word_of name of keyword text ≡ Some x → R x text
word_is {A} R name of keyword names keywords text x e = elim (went (name text) (Some (of text)) (keyword text) (Some x) e) [
  | inl k ↦ let same : of text ≡ x = value_is (of text) x k.1 in subst (λ (y : A). R y text) same (names text k.0)
  | inr k ↦ keywords text x k.1
]
  where
    value_is : (a b : A) → Some a ≡ Some b → a ≡ b
    value_is a b e = cc e

named : (x text : List ℕ) → SpellsName x text → {A : Type 0} (of : List ℕ → A) (keyword : List ℕ → Option A) → word_of is_name of keyword text ≡ Some (of x)
unfolding SpellsName
named x text p of keyword = rw (p.spelled.same, p.holds) refl

is_named : (text : List ℕ) → is_name text ≡ true → SpellsName text text
unfolding SpellsName
is_named text e = record { holds = e; spelled = record { same = refl } }

is_property_named : (text : List ℕ) → is_property text ≡ true → SpellsProperty text text
unfolding SpellsProperty
is_property_named text e = record { holds = e; spelled = record { same = refl } }

abbrev pub IsHead : Head → Grammar
IsHead (heads.Name x) = SpellsName x
IsHead heads.Null = Is (codes "null")
IsHead heads.True = Is (codes "true")
IsHead heads.False = Is (codes "false")
IsHead heads.This = Is (codes "this")
IsHead heads.New = Is (codes "new")
IsHead heads.BigInt = Is (codes "BigInt")
IsHead heads.Number = Is (codes "Number")
IsHead heads.Math = Is (codes "Math")
IsHead heads.String = Is (codes "String")
IsHead heads.Console = Is (codes "console")

head_to : (h : Head) (text : List ℕ) → IsRun head_of h text → IsHead h text
head_to h text p = word_is IsHead is_name heads.Name (entry_of (expression_words (λ h. h))) is_named (table_is IsHead (expression_words (λ h. h)) (record { same = refl }, (record { same = refl }, (record { same = refl }, (record { same = refl }, (record { same = refl }, (record { same = refl }, (record { same = refl }, (record { same = refl }, (record { same = refl }, (record { same = refl }, tt))))))))))) text h p.is

head_from : (h : Head) (text : List ℕ) → IsHead h text → IsRun head_of h text
head_from (heads.Name x) text p = record { is = named x text p heads.Name (entry_of (expression_words (λ h. h))) }
head_from heads.Null text p = record { is = rw p.same refl }
head_from heads.True text p = record { is = rw p.same refl }
head_from heads.False text p = record { is = rw p.same refl }
head_from heads.This text p = record { is = rw p.same refl }
head_from heads.New text p = record { is = rw p.same refl }
head_from heads.BigInt text p = record { is = rw p.same refl }
head_from heads.Number text p = record { is = rw p.same refl }
head_from heads.Math text p = record { is = rw p.same refl }
head_from heads.String text p = record { is = rw p.same refl }
head_from heads.Console text p = record { is = rw p.same refl }

abbrev pub IsNewHead : NewHead → Grammar
IsNewHead (news.Name x) = SpellsName x
IsNewHead news.Array = Is (codes "Array")

new_head_to : (h : NewHead) (text : List ℕ) → IsRun new_head_of h text → IsNewHead h text
new_head_to h text p = word_is IsNewHead is_name news.Name (entry_of new_words) is_named (table_is IsNewHead new_words (record { same = refl }, tt)) text h p.is

new_head_from : (h : NewHead) (text : List ℕ) → IsNewHead h text → IsRun new_head_of h text
new_head_from (news.Name x) text p = record { is = named x text p news.Name (entry_of new_words) }
new_head_from news.Array text p = record { is = rw p.same refl }

abbrev pub IsParenthesisHead : ParenthesisHead → Grammar
IsParenthesisHead parentheses.Void = Is (codes "void")
IsParenthesisHead parentheses.TypeOf = Is (codes "typeof")
IsParenthesisHead (parentheses.Expression h) = IsHead h

parenthesis_head_to : (h : ParenthesisHead) (text : List ℕ) → IsRun parenthesis_head_of h text → IsParenthesisHead h text
parenthesis_head_to h text p = word_is IsParenthesisHead is_name (λ x. parentheses.Expression (heads.Name x)) (entry_of parenthesis_words) is_named (table_is IsParenthesisHead parenthesis_words (record { same = refl }, (record { same = refl }, (record { same = refl }, (record { same = refl }, (record { same = refl }, (record { same = refl }, (record { same = refl }, (record { same = refl }, (record { same = refl }, (record { same = refl }, (record { same = refl }, (record { same = refl }, tt))))))))))))) text h p.is

parenthesis_head_from : (h : ParenthesisHead) (text : List ℕ) → IsParenthesisHead h text → IsRun parenthesis_head_of h text
parenthesis_head_from parentheses.Void text p = record { is = rw p.same refl }
parenthesis_head_from parentheses.TypeOf text p = record { is = rw p.same refl }
parenthesis_head_from (parentheses.Expression (heads.Name x)) text p = record { is = named x text p (λ x. parentheses.Expression (heads.Name x)) (entry_of parenthesis_words) }
parenthesis_head_from (parentheses.Expression heads.Null) text p = record { is = rw p.same refl }
parenthesis_head_from (parentheses.Expression heads.True) text p = record { is = rw p.same refl }
parenthesis_head_from (parentheses.Expression heads.False) text p = record { is = rw p.same refl }
parenthesis_head_from (parentheses.Expression heads.This) text p = record { is = rw p.same refl }
parenthesis_head_from (parentheses.Expression heads.New) text p = record { is = rw p.same refl }
parenthesis_head_from (parentheses.Expression heads.BigInt) text p = record { is = rw p.same refl }
parenthesis_head_from (parentheses.Expression heads.Number) text p = record { is = rw p.same refl }
parenthesis_head_from (parentheses.Expression heads.Math) text p = record { is = rw p.same refl }
parenthesis_head_from (parentheses.Expression heads.String) text p = record { is = rw p.same refl }
parenthesis_head_from (parentheses.Expression heads.Console) text p = record { is = rw p.same refl }

abbrev pub IsStatementHead : StatementHead → Grammar
IsStatementHead statements.Const = Is (codes "const")
IsStatementHead statements.Let = Is (codes "let")
IsStatementHead statements.Super = Is (codes "super")
IsStatementHead statements.Throw = Is (codes "throw")
IsStatementHead statements.Return = Is (codes "return")
IsStatementHead statements.Break = Is (codes "break")
IsStatementHead statements.If = Is (codes "if")
IsStatementHead statements.While = Is (codes "while")
IsStatementHead statements.Do = Is (codes "do")
IsStatementHead statements.Try = Is (codes "try")
IsStatementHead statements.Switch = Is (codes "switch")
IsStatementHead (statements.Expression h) = IsHead h

statement_head_to : (h : StatementHead) (text : List ℕ) → IsRun statement_head_of h text → IsStatementHead h text
statement_head_to h text p = word_is IsStatementHead is_name (λ x. statements.Expression (heads.Name x)) (entry_of statement_words) is_named (table_is IsStatementHead statement_words (record { same = refl }, (record { same = refl }, (record { same = refl }, (record { same = refl }, (record { same = refl }, (record { same = refl }, (record { same = refl }, (record { same = refl }, (record { same = refl }, (record { same = refl }, (record { same = refl }, (record { same = refl }, (record { same = refl }, (record { same = refl }, (record { same = refl }, (record { same = refl }, (record { same = refl }, (record { same = refl }, (record { same = refl }, (record { same = refl }, (record { same = refl }, tt)))))))))))))))))))))) text h p.is

statement_head_from : (h : StatementHead) (text : List ℕ) → IsStatementHead h text → IsRun statement_head_of h text
statement_head_from statements.Const text p = record { is = rw p.same refl }
statement_head_from statements.Let text p = record { is = rw p.same refl }
statement_head_from statements.Super text p = record { is = rw p.same refl }
statement_head_from statements.Throw text p = record { is = rw p.same refl }
statement_head_from statements.Return text p = record { is = rw p.same refl }
statement_head_from statements.Break text p = record { is = rw p.same refl }
statement_head_from statements.If text p = record { is = rw p.same refl }
statement_head_from statements.While text p = record { is = rw p.same refl }
statement_head_from statements.Do text p = record { is = rw p.same refl }
statement_head_from statements.Try text p = record { is = rw p.same refl }
statement_head_from statements.Switch text p = record { is = rw p.same refl }
statement_head_from (statements.Expression (heads.Name x)) text p = record { is = named x text p (λ x. statements.Expression (heads.Name x)) (entry_of statement_words) }
statement_head_from (statements.Expression heads.Null) text p = record { is = rw p.same refl }
statement_head_from (statements.Expression heads.True) text p = record { is = rw p.same refl }
statement_head_from (statements.Expression heads.False) text p = record { is = rw p.same refl }
statement_head_from (statements.Expression heads.This) text p = record { is = rw p.same refl }
statement_head_from (statements.Expression heads.New) text p = record { is = rw p.same refl }
statement_head_from (statements.Expression heads.BigInt) text p = record { is = rw p.same refl }
statement_head_from (statements.Expression heads.Number) text p = record { is = rw p.same refl }
statement_head_from (statements.Expression heads.Math) text p = record { is = rw p.same refl }
statement_head_from (statements.Expression heads.String) text p = record { is = rw p.same refl }
statement_head_from (statements.Expression heads.Console) text p = record { is = rw p.same refl }

abbrev pub IsItemHead : ItemHead → Grammar
IsItemHead items.Const = Is (codes "const")
IsItemHead items.Let = Is (codes "let")
IsItemHead items.Function = Is (codes "function")
IsItemHead items.Class = Is (codes "class")
IsItemHead (items.Expression h) = IsHead h

-- an import line may come, or not any more
abbrev pub IsLineHead : Bool → LineHead → Grammar
IsLineHead true lines.Import = Is (codes "import")
IsLineHead false lines.Import = λ text. ⊥
IsLineHead imports lines.Export = Is (codes "export")
IsLineHead imports (lines.Item h) = IsItemHead h

line_head_to : (imports : Bool) (h : LineHead) (text : List ℕ) → IsRun (line_head_of imports) h text → IsLineHead imports h text
line_head_to true h text p = word_is (IsLineHead true) is_name (λ x. lines.Item (items.Expression (heads.Name x))) (entry_of (line_words true)) is_named (table_is (IsLineHead true) (line_words true) (record { same = refl }, (record { same = refl }, (record { same = refl }, (record { same = refl }, (record { same = refl }, (record { same = refl }, (record { same = refl }, (record { same = refl }, (record { same = refl }, (record { same = refl }, (record { same = refl }, (record { same = refl }, (record { same = refl }, (record { same = refl }, (record { same = refl }, (record { same = refl }, tt))))))))))))))))) text h p.is
line_head_to false h text p = word_is (IsLineHead false) is_name (λ x. lines.Item (items.Expression (heads.Name x))) (entry_of (line_words false)) is_named (table_is (IsLineHead false) (line_words false) (record { same = refl }, (record { same = refl }, (record { same = refl }, (record { same = refl }, (record { same = refl }, (record { same = refl }, (record { same = refl }, (record { same = refl }, (record { same = refl }, (record { same = refl }, (record { same = refl }, (record { same = refl }, (record { same = refl }, (record { same = refl }, (record { same = refl }, tt)))))))))))))))) text h p.is

line_head_from : (imports : Bool) (h : LineHead) (text : List ℕ) → IsLineHead imports h text → IsRun (line_head_of imports) h text
line_head_from true lines.Import text p = record { is = rw p.same refl }
line_head_from true lines.Export text p = record { is = rw p.same refl }
line_head_from true (lines.Item items.Const) text p = record { is = rw p.same refl }
line_head_from true (lines.Item items.Let) text p = record { is = rw p.same refl }
line_head_from true (lines.Item items.Function) text p = record { is = rw p.same refl }
line_head_from true (lines.Item items.Class) text p = record { is = rw p.same refl }
line_head_from true (lines.Item (items.Expression (heads.Name x))) text p = record { is = named x text p (λ x. lines.Item (items.Expression (heads.Name x))) (entry_of (line_words true)) }
line_head_from true (lines.Item (items.Expression heads.Null)) text p = record { is = rw p.same refl }
line_head_from true (lines.Item (items.Expression heads.True)) text p = record { is = rw p.same refl }
line_head_from true (lines.Item (items.Expression heads.False)) text p = record { is = rw p.same refl }
line_head_from true (lines.Item (items.Expression heads.This)) text p = record { is = rw p.same refl }
line_head_from true (lines.Item (items.Expression heads.New)) text p = record { is = rw p.same refl }
line_head_from true (lines.Item (items.Expression heads.BigInt)) text p = record { is = rw p.same refl }
line_head_from true (lines.Item (items.Expression heads.Number)) text p = record { is = rw p.same refl }
line_head_from true (lines.Item (items.Expression heads.Math)) text p = record { is = rw p.same refl }
line_head_from true (lines.Item (items.Expression heads.String)) text p = record { is = rw p.same refl }
line_head_from true (lines.Item (items.Expression heads.Console)) text p = record { is = rw p.same refl }
line_head_from false lines.Import text p = absurd p
line_head_from false lines.Export text p = record { is = rw p.same refl }
line_head_from false (lines.Item items.Const) text p = record { is = rw p.same refl }
line_head_from false (lines.Item items.Let) text p = record { is = rw p.same refl }
line_head_from false (lines.Item items.Function) text p = record { is = rw p.same refl }
line_head_from false (lines.Item items.Class) text p = record { is = rw p.same refl }
line_head_from false (lines.Item (items.Expression (heads.Name x))) text p = record { is = named x text p (λ x. lines.Item (items.Expression (heads.Name x))) (entry_of (line_words false)) }
line_head_from false (lines.Item (items.Expression heads.Null)) text p = record { is = rw p.same refl }
line_head_from false (lines.Item (items.Expression heads.True)) text p = record { is = rw p.same refl }
line_head_from false (lines.Item (items.Expression heads.False)) text p = record { is = rw p.same refl }
line_head_from false (lines.Item (items.Expression heads.This)) text p = record { is = rw p.same refl }
line_head_from false (lines.Item (items.Expression heads.New)) text p = record { is = rw p.same refl }
line_head_from false (lines.Item (items.Expression heads.BigInt)) text p = record { is = rw p.same refl }
line_head_from false (lines.Item (items.Expression heads.Number)) text p = record { is = rw p.same refl }
line_head_from false (lines.Item (items.Expression heads.Math)) text p = record { is = rw p.same refl }
line_head_from false (lines.Item (items.Expression heads.String)) text p = record { is = rw p.same refl }
line_head_from false (lines.Item (items.Expression heads.Console)) text p = record { is = rw p.same refl }

abbrev pub IsMemberHead : MemberHead → Grammar
IsMemberHead members.Constructor = Is (codes "constructor")
IsMemberHead (members.Method p) = SpellsProperty p

member_head_to : (h : MemberHead) (text : List ℕ) → IsRun member_head_of h text → IsMemberHead h text
member_head_to h text p = word_is IsMemberHead is_property members.Method (entry_of member_words) is_property_named (table_is IsMemberHead member_words (record { same = refl }, tt)) text h p.is

member_head_from : (h : MemberHead) (text : List ℕ) → IsMemberHead h text → IsRun member_head_of h text
unfolding SpellsProperty
member_head_from members.Constructor text p = record { is = rw p.same refl }
member_head_from (members.Method x) text p = record { is = rw (p.spelled.same, p.holds) refl }

name_to : (x text : List ℕ) → IsRun name_of x text → SpellsName x text
name_to x text p = word_is SpellsName is_name (λ x. x) no_keyword is_named (λ text x e. absurd (none_some x e)) text x p.is

property_to : (x text : List ℕ) → IsRun property_name_of x text → SpellsProperty x text
property_to x text p = word_is SpellsProperty is_property (λ x. x) no_keyword is_property_named (λ text x e. absurd (none_some x e)) text x p.is

property_from : (x text : List ℕ) → SpellsProperty x text → IsRun property_name_of x text
unfolding SpellsProperty
property_from x text p = record { is = rw (p.spelled.same, p.holds) refl }

-- ---- infixes

abbrev pub IsInfix : Infix → Grammar
IsInfix (infixes.Operator op) = Is (binary_text op)
IsInfix infixes.Question = Is (codes "?")

infix_to : (o : Infix) (text : List ℕ) → IsRun (entry_of infix_words) o text → IsInfix o text
infix_to o text p = table_is IsInfix infix_words (record { same = refl }, (record { same = refl }, (record { same = refl }, (record { same = refl }, (record { same = refl }, (record { same = refl }, (record { same = refl }, (record { same = refl }, (record { same = refl }, (record { same = refl }, (record { same = refl }, (record { same = refl }, (record { same = refl }, (record { same = refl }, (record { same = refl }, (record { same = refl }, (record { same = refl }, (record { same = refl }, (record { same = refl }, (record { same = refl }, (record { same = refl }, (record { same = refl }, tt)))))))))))))))))))))) text o p.is

infix_from : (o : Infix) (text : List ℕ) → IsInfix o text → IsRun (entry_of infix_words) o text
infix_from (infixes.Operator Add) text p = record { is = rw p.same refl }
infix_from (infixes.Operator Subtract) text p = record { is = rw p.same refl }
infix_from (infixes.Operator Multiply) text p = record { is = rw p.same refl }
infix_from (infixes.Operator Divide) text p = record { is = rw p.same refl }
infix_from (infixes.Operator Remainder) text p = record { is = rw p.same refl }
infix_from (infixes.Operator BitAnd) text p = record { is = rw p.same refl }
infix_from (infixes.Operator BitOr) text p = record { is = rw p.same refl }
infix_from (infixes.Operator BitXor) text p = record { is = rw p.same refl }
infix_from (infixes.Operator ShiftLeft) text p = record { is = rw p.same refl }
infix_from (infixes.Operator ShiftRight) text p = record { is = rw p.same refl }
infix_from (infixes.Operator ShiftRightUnsigned) text p = record { is = rw p.same refl }
infix_from (infixes.Operator StrictEqual) text p = record { is = rw p.same refl }
infix_from (infixes.Operator StrictNotEqual) text p = record { is = rw p.same refl }
infix_from (infixes.Operator Less) text p = record { is = rw p.same refl }
infix_from (infixes.Operator LessOrEqual) text p = record { is = rw p.same refl }
infix_from (infixes.Operator Greater) text p = record { is = rw p.same refl }
infix_from (infixes.Operator GreaterOrEqual) text p = record { is = rw p.same refl }
infix_from (infixes.Operator And) text p = record { is = rw p.same refl }
infix_from (infixes.Operator Or) text p = record { is = rw p.same refl }
infix_from (infixes.Operator In) text p = record { is = rw p.same refl }
infix_from (infixes.Operator InstanceOf) text p = record { is = rw p.same refl }
infix_from infixes.Question text p = record { is = rw p.same refl }

-- ---- laws

pub law_names : {n : ℕ} → Law n ends_word name_at name_at SpellsName
unfolding name_at
law_names = law_same name_to (λ x text p. record { is = named x text p (λ x. x) no_keyword }) law_name

pub law_properties : {n : ℕ} → Law n ends_word property_at property_at SpellsProperty
unfolding property_at
law_properties = law_same property_to property_from law_property_name

pub law_heads : {n : ℕ} → Law n ends_word head_at head_at IsHead
unfolding head_at
law_heads = law_same head_to head_from law_head

pub law_new_heads : {n : ℕ} → Law n ends_word new_head_at new_head_at IsNewHead
unfolding new_head_at
law_new_heads = law_same new_head_to new_head_from law_new_head

pub law_parenthesis_heads : {n : ℕ} → Law n ends_word parenthesis_head_at parenthesis_head_at IsParenthesisHead
unfolding parenthesis_head_at
law_parenthesis_heads = law_same parenthesis_head_to parenthesis_head_from law_parenthesis_head

pub law_statement_heads : {n : ℕ} → Law n ends_word statement_head_at statement_head_at IsStatementHead
unfolding statement_head_at
law_statement_heads = law_same statement_head_to statement_head_from law_statement_head

pub law_line_heads : {n : ℕ} (imports : Bool) → Law n ends_word (line_head_at imports) (line_head_at imports) (IsLineHead imports)
unfolding line_head_at
law_line_heads imports = law_same (line_head_to imports) (line_head_from imports) (law_line_head imports)

pub law_member_heads : {n : ℕ} → Law n ends_word member_head_at member_head_at IsMemberHead
unfolding member_head_at
law_member_heads = law_same member_head_to member_head_from law_member_head

pub law_infixes : {n : ℕ} → Law n is_space infix_at infix_at IsInfix
unfolding infix_at
law_infixes = law_same infix_to infix_from law_infix
