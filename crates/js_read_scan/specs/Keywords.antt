-- What the keywords of the tables stand for.
use Rattle.js_read_spec.specs.declared.words.Head.{Head}
use Rattle.js_read_spec.specs.declared.words.Head.TheVariants as heads
use Rattle.js_read_spec.specs.declared.words.StatementHead.{StatementHead}
use Rattle.js_read_spec.specs.declared.words.StatementHead.TheVariants as statements
use Rattle.js_read_spec.specs.declared.words.ItemHead.{ItemHead}
use Rattle.js_read_spec.specs.declared.words.ItemHead.TheVariants as items
use Rattle.js_read_scan.specs.declared.keywords.ExpressionWord.{ExpressionWord}
use Rattle.js_read_scan.specs.declared.keywords.ExpressionWord.TheVariants as expression_words
use Rattle.js_read_scan.specs.declared.keywords.StatementWord.{StatementWord}
use Rattle.js_read_scan.specs.declared.keywords.StatementWord.TheVariants as statement_words
use Rattle.js_read_scan.specs.declared.keywords.ItemWord.{ItemWord}
use Rattle.js_read_scan.specs.declared.keywords.ItemWord.TheVariants as item_words

abbrev pub expression_head : ExpressionWord → Head
expression_head expression_words.Null = heads.Null
expression_head expression_words.True = heads.True
expression_head expression_words.False = heads.False
expression_head expression_words.This = heads.This
expression_head expression_words.New = heads.New
expression_head expression_words.BigInt = heads.BigInt
expression_head expression_words.Number = heads.Number
expression_head expression_words.Math = heads.Math
expression_head expression_words.String = heads.String
expression_head expression_words.Console = heads.Console

abbrev pub statement_head : StatementWord → StatementHead
statement_head statement_words.Const = statements.Const
statement_head statement_words.Let = statements.Let
statement_head statement_words.Super = statements.Super
statement_head statement_words.Throw = statements.Throw
statement_head statement_words.Return = statements.Return
statement_head statement_words.Break = statements.Break
statement_head statement_words.If = statements.If
statement_head statement_words.While = statements.While
statement_head statement_words.Do = statements.Do
statement_head statement_words.Try = statements.Try
statement_head statement_words.Switch = statements.Switch

abbrev pub item_head : ItemWord → ItemHead
item_head item_words.Const = items.Const
item_head item_words.Let = items.Let
item_head item_words.Function = items.Function
item_head item_words.Class = items.Class
