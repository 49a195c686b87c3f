-- The reader of expressions.
use Rattle.std.specs.Prelude.{ℕ, zero, suc, Bool, true, false, List, [], ◌∷◌, ◌||◌, ◌==◌, codes}
use Rattle.exact_place.specs.Reading.{Reading, stopped, value_at, literal_at, after_at, lead_at, map_at, either_at, list_at}
use Rattle.exact_place.specs.Tokens.{is_digit}
use Rattle.js_tree.specs.Terms.{Name, Expression, null_literal, boolean_literal, undefined_literal, name_use, this_use, property_of, index_of, call_of, method_call_of, new_of, new_array_of, list_of, binary_of, unary_of, conditional_of, host_call, host_call_of_two, Expressions, no_expressions, expression}
use Rattle.js_tree.specs.Views.{expressions_of}
use Rattle.js_tree.specs.declared.operators.UnaryOperator.{UnaryOperator}
use Rattle.js_tree.specs.declared.operators.UnaryOperator.TheVariants.{Not, TypeOf}
use Rattle.js_tree.specs.declared.operators.HostFunction.{HostFunction}
use Rattle.js_tree.specs.declared.operators.HostFunction.TheVariants.{BigInt, Number, StringFromCharCode, ConsoleLog}
use Rattle.js_tree.specs.declared.operators.HostOperation.{HostOperation}
use Rattle.js_tree.specs.declared.operators.HostOperation.TheVariants.{BigIntAsIntN, BigIntAsUintN, MathImul}
use Rattle.js_read_spec.specs.declared.words.Head.{Head}
use Rattle.js_read_spec.specs.declared.words.Head.TheVariants as heads
use Rattle.js_read_spec.specs.declared.words.NewHead.{NewHead}
use Rattle.js_read_spec.specs.declared.words.NewHead.TheVariants as news
use Rattle.js_read_spec.specs.declared.words.ParenthesisHead.{ParenthesisHead}
use Rattle.js_read_spec.specs.declared.words.ParenthesisHead.TheVariants as parentheses
use Rattle.js_read_spec.specs.declared.words.Infix.{Infix}
use Rattle.js_read_spec.specs.declared.words.Infix.TheVariants as infixes
use Rattle.js_read_spec.specs.Words.{is_word_start}
use Rattle.js_read_spec.specs.Tokens.{property_at, head_at, new_head_at, parenthesis_head_at, infix_at, number_at, below_at, string_at}

-- What may stand behind an expression and goes on with it.
pub data Suffix : Type 0 where
  property_suffix : Name → Suffix
  method_suffix : Name → Expressions → Suffix
  index_suffix : Expression → Suffix

abbrev pub with_suffix : Suffix → Expression → Expression
with_suffix (property_suffix p) e = property_of e p
with_suffix (method_suffix p es) e = method_call_of e p es
with_suffix (index_suffix i) e = index_of e i

unfoldable pub with_suffixes : List Suffix → Expression → Expression
with_suffixes [] e = e
with_suffixes (s ∷ ss) e = with_suffixes ss (with_suffix s e)

-- the bytes that begin a suffix
abbrev pub is_suffix : ℕ → Bool
is_suffix c = c == 46 || c == 91

abbrev pub is_comma : ℕ → Bool
is_comma c = c == 44

-- The readers of one level, over the reader of the expressions inside and the same fuel for their lists.
module _ (inner : List ℕ → Reading Expression) (n : ℕ) where
  -- the second and later expressions of a list
  unfoldable pub more_at : List ℕ → Reading (List Expression)
  more_at = list_at n is_comma (lead_at (codes ", ") inner)

  -- expressions, and the byte that closes their list
  unfoldable pub expressions_at : ℕ → List ℕ → Reading Expressions
  expressions_at close = either_at (λ c. c == close)
      (map_at (λ u. no_expressions) (literal_at (close ∷ [])))
      (after_at inner (λ e. after_at more_at (λ es. map_at (λ u. expression e (expressions_of es)) (literal_at (close ∷ [])))))

  -- `e)`
  unfoldable pub host_at : HostFunction → List ℕ → Reading Expression
  host_at f = after_at inner (λ e. map_at (λ u. host_call f e) (literal_at (codes ")")))

  -- `e, e)`
  unfoldable pub host_of_two_at : HostOperation → List ℕ → Reading Expression
  host_of_two_at f = after_at inner (λ a. lead_at (codes ", ") (after_at inner (λ b. map_at (λ u. host_call_of_two f a b) (literal_at (codes ")")))))

  -- behind `new` and a word
  unfoldable pub new_after_at : NewHead → List ℕ → Reading Expression
  new_after_at (news.Name x) = lead_at (codes "(") (map_at (λ es. new_of x es) (expressions_at 41))
  new_after_at news.Array = lead_at (codes "(") (after_at inner (λ e. map_at (λ u. new_array_of e) (literal_at (codes ")"))))

  -- behind `BigInt`
  unfoldable pub big_after_at : List ℕ → Reading Expression
  big_after_at = either_at (λ c. c == 40) (lead_at (codes "(") (host_at BigInt))
      (lead_at (codes ".as") (either_at (λ c. c == 73) (lead_at (codes "IntN(") (host_of_two_at BigIntAsIntN)) (lead_at (codes "UintN(") (host_of_two_at BigIntAsUintN))))

  -- behind the first word, up to a suffix
  unfoldable pub primary_at : Head → List ℕ → Reading Expression
  primary_at (heads.Name x) = either_at (λ c. c == 40) (lead_at (codes "(") (map_at (λ es. call_of x es) (expressions_at 41))) (value_at (name_use x))
  primary_at heads.Null = value_at null_literal
  primary_at heads.True = value_at (boolean_literal true)
  primary_at heads.False = value_at (boolean_literal false)
  primary_at heads.This = value_at this_use
  primary_at heads.New = lead_at (codes " ") (after_at new_head_at new_after_at)
  primary_at heads.BigInt = big_after_at
  primary_at heads.Number = lead_at (codes "(") (host_at Number)
  primary_at heads.Math = lead_at (codes ".imul(") (host_of_two_at MathImul)
  primary_at heads.String = lead_at (codes ".fromCharCode(") (host_at StringFromCharCode)
  primary_at heads.Console = lead_at (codes ".log(") (host_at ConsoleLog)

  -- `.p`, `.p(..)` or `[e]`
  unfoldable pub suffix_at : List ℕ → Reading Suffix
  suffix_at = either_at (λ c. c == 46)
      (lead_at (codes ".") (after_at property_at (λ p. either_at (λ c. c == 40) (lead_at (codes "(") (map_at (λ es. method_suffix p es) (expressions_at 41))) (value_at (property_suffix p)))))
      (lead_at (codes "[") (after_at inner (λ i. map_at (λ u. index_suffix i) (literal_at (codes "]")))))

  -- the suffixes behind an expression
  unfoldable pub suffixes_at : Expression → List ℕ → Reading Expression
  suffixes_at e = map_at (λ ss. with_suffixes ss e) (list_at n is_suffix suffix_at)

  -- behind the first word
  unfoldable pub expression_after_at : Head → List ℕ → Reading Expression
  expression_after_at h = after_at (primary_at h) suffixes_at

  -- behind `(` and an expression
  unfoldable pub infix_after_at : Expression → Infix → List ℕ → Reading Expression
  infix_after_at a (infixes.Operator op) = lead_at (codes " ") (after_at inner (λ b. map_at (λ u. binary_of a op b) (literal_at (codes ")"))))
  infix_after_at a infixes.Question = lead_at (codes " ") (after_at inner (λ b. lead_at (codes " : ") (after_at inner (λ c. map_at (λ u. conditional_of a b c) (literal_at (codes ")"))))))

  unfoldable pub tail_at : Expression → List ℕ → Reading Expression
  tail_at a = lead_at (codes " ") (after_at infix_at (infix_after_at a))

  -- `e)`
  unfoldable pub unary_at : UnaryOperator → List ℕ → Reading Expression
  unary_at op = after_at inner (λ e. map_at (λ u. unary_of op e) (literal_at (codes ")")))

  -- behind `(` and a word
  unfoldable pub parenthesis_after_at : ParenthesisHead → List ℕ → Reading Expression
  parenthesis_after_at parentheses.Void = lead_at (codes " 0)") (value_at undefined_literal)
  parenthesis_after_at parentheses.TypeOf = lead_at (codes " ") (unary_at TypeOf)
  parenthesis_after_at (parentheses.Expression h) = after_at (expression_after_at h) tail_at

  -- behind `(`: over the reader of an expression that begins with no word
  unfoldable pub parenthesis_at : (List ℕ → Reading Expression) → List ℕ → Reading Expression
  parenthesis_at wordless = either_at (λ c. c == 33) (lead_at (codes "!") (unary_at Not))
      (either_at (λ c. c == 45) (lead_at (codes "-") below_at)
      (either_at is_word_start (after_at parenthesis_head_at parenthesis_after_at) (after_at wordless tail_at)))

  -- a string, a list or what stands in parentheses
  unfoldable pub bracketed_at : (List ℕ → Reading Expression) → List ℕ → Reading Expression
  bracketed_at wordless = either_at (λ c. c == 34) (lead_at (codes "\"") (string_at n))
      (either_at (λ c. c == 91) (lead_at (codes "[") (map_at (λ es. list_of es) (expressions_at 93))) (lead_at (codes "(") (parenthesis_at wordless)))

  -- an expression that begins with no word
  unfoldable pub wordless_level : (List ℕ → Reading Expression) → List ℕ → Reading Expression
  wordless_level wordless = either_at is_digit number_at (after_at (bracketed_at wordless) suffixes_at)

  unfoldable pub expression_level : (List ℕ → Reading Expression) → List ℕ → Reading Expression
  expression_level wordless = either_at is_word_start (after_at head_at expression_after_at) (wordless_level wordless)

unfoldable mutual
  pub expression_at : ℕ → List ℕ → Reading Expression
  expression_at zero bytes = stopped bytes
  expression_at (suc n) bytes = expression_level (expression_at n) n (wordless_at n) bytes

  pub wordless_at : ℕ → List ℕ → Reading Expression
  wordless_at zero bytes = stopped bytes
  wordless_at (suc n) bytes = wordless_level (expression_at n) n (wordless_at n) bytes
