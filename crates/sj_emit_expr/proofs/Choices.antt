-- A choice whose second branch has statements.
use Rattle.std.proofs.Common.{◌≡◌, ◌<◌, List, [], ◌∷◌, refl, length, arith}
use Rattle.js_tree.specs.Terms as js
use Rattle.js_tree.specs.Views.{statements_view}
use Rattle.js_tree.specs.declared.statements.JsStmt.{JsStmt}
use Rattle.sj_emit_expr_spec.specs.Templates.{choice_template}

pub choice-else : (c : js.Expression) (ss : js.Statements) (ts : List JsStmt) → 0 < length ts → js.if_else c ss (statements_view ts) ≡ choice_template c ss (statements_view ts)
choice-else c ss [] h = absurd (omega arith)
choice-else c ss (t ∷ ts) h = refl
