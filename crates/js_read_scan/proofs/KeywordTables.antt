-- Keywords that stand in the tables of several places.
use Rattle.std.proofs.Common.{◌≡◌, ℕ, Bool, true, false, cond, List, [], ◌∷◌, ◌++◌, Option, Some, None, refl, sym, ap, ◌∙◌, codes}
use Rattle.exact_place.specs.Tokens.{Entry, entry_of, is_text}
use Rattle.js_read_spec.specs.declared.words.Head.{Head}
use Rattle.js_read_spec.specs.declared.words.StatementHead.{StatementHead}
use Rattle.js_read_spec.specs.declared.words.StatementHead.TheVariants as statements
use Rattle.js_read_spec.specs.declared.words.ItemHead.{ItemHead}
use Rattle.js_read_spec.specs.declared.words.ItemHead.TheVariants as items
use Rattle.js_read_spec.specs.Words.{entry, expression_words, statement_words, item_words}
use Rattle.js_read_scan.specs.declared.keywords.ExpressionWord.{ExpressionWord}
use Rattle.js_read_scan.specs.declared.keywords.ExpressionWord.TheVariants as expression_keywords
use Rattle.js_read_scan.specs.declared.keywords.StatementWord.{StatementWord}
use Rattle.js_read_scan.specs.declared.keywords.StatementWord.TheVariants as statement_keywords
use Rattle.js_read_scan.specs.declared.keywords.ItemWord.{ItemWord}
use Rattle.js_read_scan.specs.declared.keywords.ItemWord.TheVariants as item_keywords
use Rattle.text_scan.proofs.TableWords.{moved, moved_entries, moved_of}
use Rattle.js_read_scan.specs.Keywords.{expression_head, statement_head, item_head}

pub expression_word : {A : Type 0} (f : Head → A) (u : List ℕ) → entry_of (expression_words f) u ≡ moved f (entry_of (expression_words (λ h. h)) u)
expression_word f u = moved_of f (expression_words (λ h. h)) u

pub item_word : {A : Type 0} (f : ItemHead → A) (u : List ℕ) → entry_of (item_words f) u ≡ moved f (entry_of (item_words (λ h. h)) u)
item_word f u = moved_of f (item_words (λ h. h)) u

pub ruleset keyword_steps = (expression_word, item_word)

-- ---- the tables

abbrev pub or_else : {A : Type 0} → Option A → Option A → Option A
or_else None other = other
or_else (Some x) other = Some x

joined_of : {A B : Type 0} (f : A → B) (es : List (Entry A)) (others : List (Entry B)) (u : List ℕ) → entry_of (moved_entries f es ++ others) u ≡ or_else (moved f (entry_of es u)) (entry_of others u)
joined_of f [] others u = refl
joined_of {A} {B} f (e ∷ es) others u = by (is_text u e.word) (joined_of f es others u)
  where
    by : (b : Bool) → entry_of (moved_entries f es ++ others) u ≡ or_else (moved f (entry_of es u)) (entry_of others u)
        → cond b (Some (f e.value)) (entry_of (moved_entries f es ++ others) u) ≡ or_else (moved f (cond b (Some e.value) (entry_of es u))) (entry_of others u)
    by true more = refl
    by false more = more

abbrev pub expression_table : List (Entry ExpressionWord)
expression_table =
    entry (codes "null") expression_keywords.Null
    ∷ entry (codes "true") expression_keywords.True
    ∷ entry (codes "false") expression_keywords.False
    ∷ entry (codes "this") expression_keywords.This
    ∷ entry (codes "new") expression_keywords.New
    ∷ entry (codes "BigInt") expression_keywords.BigInt
    ∷ entry (codes "Number") expression_keywords.Number
    ∷ entry (codes "Math") expression_keywords.Math
    ∷ entry (codes "String") expression_keywords.String
    ∷ entry (codes "console") expression_keywords.Console ∷ []

pub expression_found : (u : List ℕ) (o : Option ExpressionWord) → o ≡ entry_of expression_table u → entry_of (expression_words (λ h. h)) u ≡ moved expression_head o
expression_found u o is = moved_of expression_head expression_table u ∙ ap (moved expression_head) (sym is)

abbrev pub statement_table : List (Entry StatementWord)
statement_table =
    entry (codes "const") statement_keywords.Const
    ∷ entry (codes "let") statement_keywords.Let
    ∷ entry (codes "super") statement_keywords.Super
    ∷ entry (codes "throw") statement_keywords.Throw
    ∷ entry (codes "return") statement_keywords.Return
    ∷ entry (codes "break") statement_keywords.Break
    ∷ entry (codes "if") statement_keywords.If
    ∷ entry (codes "while") statement_keywords.While
    ∷ entry (codes "do") statement_keywords.Do
    ∷ entry (codes "try") statement_keywords.Try
    ∷ entry (codes "switch") statement_keywords.Switch ∷ []

pub statement_found : (u : List ℕ) (o : Option StatementWord) (e : Option Head) → o ≡ entry_of statement_table u → e ≡ entry_of (expression_words (λ h. h)) u → entry_of statement_words u ≡ or_else (moved statement_head o) (moved statements.Expression e)
statement_found u o e is other = joined_of statement_head statement_table (expression_words statements.Expression) u ∙ ap (λ (p : Option StatementWord). or_else (moved statement_head p) (entry_of (expression_words statements.Expression) u)) (sym is)
    ∙ ap (λ (p : Option StatementHead). or_else (moved statement_head o) p) (expression_word statements.Expression u ∙ ap (moved statements.Expression) (sym other))

abbrev pub item_table : List (Entry ItemWord)
item_table =
    entry (codes "const") item_keywords.Const
    ∷ entry (codes "let") item_keywords.Let
    ∷ entry (codes "function") item_keywords.Function
    ∷ entry (codes "class") item_keywords.Class ∷ []

pub item_found : (u : List ℕ) (o : Option ItemWord) (e : Option Head) → o ≡ entry_of item_table u → e ≡ entry_of (expression_words (λ h. h)) u → entry_of (item_words (λ h. h)) u ≡ or_else (moved item_head o) (moved items.Expression e)
item_found u o e is other = joined_of item_head item_table (expression_words items.Expression) u ∙ ap (λ (p : Option ItemWord). or_else (moved item_head p) (entry_of (expression_words items.Expression) u)) (sym is)
    ∙ ap (λ (p : Option ItemHead). or_else (moved item_head o) p) (expression_word items.Expression u ∙ ap (moved items.Expression) (sym other))
