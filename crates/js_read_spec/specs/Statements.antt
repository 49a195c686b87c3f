-- The reader of statements and blocks.
use Rattle.std.specs.Prelude.{ℕ, zero, suc, ◌+◌, ℤ, true, List, ◌∷◌, ◌==◌, codes}
use Rattle.exact_place.specs.Reading.{Reading, stopped, value_at, literal_at, after_at, lead_at, map_at, either_at, list_at}
use Rattle.js_tree.specs.Written.{indent}
use Rattle.js_tree.specs.Terms.{Expression, name_use, property_of, index_of, Statement, const_of, let_of, declare_of, expression_statement, assign_name, assign_property, assign_index, super_call, throw_of, return_of, break_nearest, break_to, if_only, if_else, while_of, do_forever, labeled_of, try_catch, try_finally, switch_on, Statements}
use Rattle.js_tree.specs.Views.{statements_of, Case, cases_of}
use Rattle.js_read_spec.specs.declared.words.StatementHead.{StatementHead}
use Rattle.js_read_spec.specs.declared.words.StatementHead.TheVariants as statements
use Rattle.js_read_spec.specs.Words.{is_word_start}
use Rattle.js_read_spec.specs.Tokens.{name_at, statement_head_at, key_at}
use Rattle.js_read_spec.specs.Expressions.{expression_at, wordless_at, expression_after_at}

-- `case K:`
unfoldable pub case_key_at : List ℕ → Reading ℤ
case_key_at = lead_at (codes "case ") (after_at key_at (λ k. lead_at (codes ":") (value_at k)))

-- The readers of one level, over the reader of the statements inside at each level, and the same fuel for the rest.
module _ (inner : ℕ → List ℕ → Reading Statement) (n : ℕ) where
  -- `e;`
  unfoldable pub ended_at : (Expression → Statement) → List ℕ → Reading Statement
  ended_at f = after_at (expression_at n) (λ e. map_at (λ u. f e) (literal_at (codes ";")))

  -- a line of a block, without the indentation of the block, and that indentation behind it
  unfoldable pub line_at : ℕ → List ℕ → Reading Statement
  line_at level = lead_at (codes "  ") (after_at (inner (level + 1)) (λ s. lead_at (codes "\n") (lead_at (indent level) (value_at s))))

  unfoldable pub lines_at : ℕ → List ℕ → Reading (List Statement)
  lines_at level = list_at n (λ c. c == 32) (line_at level)

  -- `{`, the lines, and `}`
  unfoldable pub block_at : ℕ → List ℕ → Reading Statements
  block_at level = lead_at (codes "{\n") (lead_at (indent level) (after_at (lines_at level) (λ ss. map_at (λ u. statements_of ss) (literal_at (codes "}")))))

  unfoldable pub keys_at : ℕ → List ℕ → Reading (List ℤ)
  keys_at level = after_at case_key_at (λ k. map_at (λ ks. k ∷ ks) (list_at n (λ c. c == 10) (lead_at (10 ∷ indent level) case_key_at)))

  -- a case, and the indentation of the line behind it
  unfoldable pub case_at : ℕ → List ℕ → Reading Case
  case_at level = after_at (keys_at level) (λ ks. lead_at (codes " ") (after_at (block_at level) (λ ss. lead_at (codes "\n") (lead_at (indent level) (value_at (ks, ss))))))

  unfoldable pub cases_at : ℕ → List ℕ → Reading (List Case)
  cases_at level = list_at n (λ c. c == 99) (case_at level)

  -- behind `switch (e) {` and a line feed
  unfoldable pub switch_at : ℕ → Expression → List ℕ → Reading Statement
  switch_at level e = lead_at (indent (level + 1)) (after_at (cases_at (level + 1)) (λ cs. lead_at (codes "default: ") (after_at (block_at (level + 1)) (λ ss. lead_at (codes "\n") (lead_at (indent level) (lead_at (codes "}") (value_at (switch_on e (cases_of cs) ss))))))))

  -- behind `if (e) ` and its block
  unfoldable pub else_at : ℕ → Expression → Statements → List ℕ → Reading Statement
  else_at level c ss = either_at (λ c. c == 32) (lead_at (codes " else ") (map_at (λ ts. if_else c ss ts) (block_at level))) (value_at (if_only c ss))

  -- behind `try ` and its block
  unfoldable pub handler_at : ℕ → Statements → List ℕ → Reading Statement
  handler_at level ss = lead_at (codes " ") (either_at (λ c. c == 99)
      (lead_at (codes "catch (") (after_at name_at (λ x. lead_at (codes ") ") (map_at (λ ts. try_catch ss x ts) (block_at level)))))
      (lead_at (codes "finally ") (map_at (λ ts. try_finally ss ts) (block_at level))))

  -- behind an expression that stands first
  unfoldable pub target_at : ℕ → Expression → List ℕ → Reading Statement
  target_at level (name_use x) = either_at (λ c. c == 58) (lead_at (codes ": ") (map_at (λ ss. labeled_of x ss) (block_at level)))
      (either_at (λ c. c == 32) (lead_at (codes " = ") (ended_at (λ e. assign_name x e))) (lead_at (codes ";") (value_at (expression_statement (name_use x)))))
  target_at level (property_of o p) = either_at (λ c. c == 32) (lead_at (codes " = ") (ended_at (λ e. assign_property o p e))) (lead_at (codes ";") (value_at (expression_statement (property_of o p))))
  target_at level (index_of o i) = either_at (λ c. c == 32) (lead_at (codes " = ") (ended_at (λ e. assign_index o i e))) (lead_at (codes ";") (value_at (expression_statement (index_of o i))))
  target_at level e = lead_at (codes ";") (value_at (expression_statement e))

  -- behind the first word
  unfoldable pub statement_after_at : ℕ → StatementHead → List ℕ → Reading Statement
  statement_after_at level statements.Const = lead_at (codes " ") (after_at name_at (λ x. lead_at (codes " = ") (ended_at (λ e. const_of x e))))
  statement_after_at level statements.Let = lead_at (codes " ") (after_at name_at (λ x. either_at (λ c. c == 59) (lead_at (codes ";") (value_at (declare_of x))) (lead_at (codes " = ") (ended_at (λ e. let_of x e)))))
  statement_after_at level statements.Super = lead_at (codes "();") (value_at super_call)
  statement_after_at level statements.Throw = lead_at (codes " ") (ended_at (λ e. throw_of e))
  statement_after_at level statements.Return = lead_at (codes " ") (ended_at (λ e. return_of e))
  statement_after_at level statements.Break = either_at (λ c. c == 59) (lead_at (codes ";") (value_at break_nearest)) (lead_at (codes " ") (after_at name_at (λ x. map_at (λ u. break_to x) (literal_at (codes ";")))))
  statement_after_at level statements.If = lead_at (codes " (") (after_at (expression_at n) (λ c. lead_at (codes ") ") (after_at (block_at level) (else_at level c))))
  statement_after_at level statements.While = lead_at (codes " (") (after_at (expression_at n) (λ c. lead_at (codes ") ") (map_at (λ ss. while_of c ss) (block_at level))))
  statement_after_at level statements.Do = lead_at (codes " ") (after_at (block_at level) (λ ss. map_at (λ u. do_forever ss) (literal_at (codes " while (true);"))))
  statement_after_at level statements.Try = lead_at (codes " ") (after_at (block_at level) (handler_at level))
  statement_after_at level statements.Switch = lead_at (codes " (") (after_at (expression_at n) (λ e. lead_at (codes ") {\n") (switch_at level e)))
  statement_after_at level (statements.Expression h) = after_at (expression_after_at (expression_at n) n h) (target_at level)

  unfoldable pub statement_level : ℕ → List ℕ → Reading Statement
  statement_level level = either_at is_word_start (after_at statement_head_at (statement_after_at level)) (after_at (wordless_at (suc n)) (target_at level))

unfoldable pub statement_at : ℕ → ℕ → List ℕ → Reading Statement
statement_at zero level bytes = stopped bytes
statement_at (suc n) level bytes = statement_level (statement_at n) n level bytes
