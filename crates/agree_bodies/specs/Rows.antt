-- A worked method: its class, and the program of its function.
use Rattle.std.specs.Prelude.{ℕ, [], ◌∷◌, ℤ, codes, Some}
use Rattle.js_tree.specs.Terms.{call_of, no_expressions, expression, number_literal, function_item}
use Rattle.outcomes.specs.Outcome.{Out}
use Rattle.agree_plain_trees.specs.Rows.{int_method}
use Rattle.js_mean.specs.Meaning as js_meaning
use Rattle.js_mean.specs.States as js
use Rattle.sj_core.specs.Lookup.{own_targets}
use Rattle.agree_early_errors.specs.Desugar.{desugared, names_of}
use Rattle.agree_early_errors.specs.Templates.{parameter_names, body_template}
use Rattle.sj_trees.specs.Term.{Term}

-- the file `main.js` with the function `f` of the parameter `p` and the statements of this body
abbrev pub int_program : Term → js.Program
int_program body = record { file = codes "main.js"; content = Some (record { imports = []; items = function_item (codes "f") (parameter_names (names_of (int_method body).params)) (body_template own_targets (desugared (int_method body) body)) ∷ []; exports = [] }) } ∷ []

-- what a call of it comes to within this bound
abbrev pub int_function_result : Term → ℕ → ℤ → Out js.ExpressionEnd
int_function_result body m z = js_meaning.evaluate (int_program body) (js_meaning.below (int_program body) m) (call_of (codes "f") (expression (number_literal z) no_expressions)) (js_meaning.top_scope (int_program body) (codes "main.js")) (js_meaning.opening (int_program body))
