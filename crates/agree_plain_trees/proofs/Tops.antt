-- Names that stand at the top of a file, and expressions in a row.
use Rattle.std.proofs.Common.{◌≡◌, Bool, true, false, List, [], ◌∷◌, refl, ap, ◌∙◌}
use Rattle.outcomes.specs.Outcome.{done}
use Rattle.js_mean.specs.Files.{owner}
use Rattle.js_mean.specs.Meaning as js_meaning
use Rattle.js_mean.specs.States as js
use Rattle.sj_core.specs.Terms as core
use Rattle.sj_core.specs.Views.{expressions_of}
use Rattle.agree_body_rules.specs.Templates.{expression_templates}
use Rattle.agree_plain_trees.specs.Settings.{Setting, shown, Based, Inside, Top, top_name, is_named, usable}
use Rattle.agree_plain_trees.proofs.Orders.{all_shown}

pub row_shown : (z : Setting) (es : List core.Expression) → js_meaning.arguments z.place.program z.js_low (expression_templates z.place.name z.place.label (usable z).lookup (expressions_of es)) ≡ all_shown z es
row_shown z [] = refl
row_shown z (e ∷ es) = ap (λ rest. shown z e ∷ rest) (row_shown z es)

-- what the code at hand names it reaches by its name
pub top_found : (z : Setting) → Based z → (t : Top) (const : Bool) (v : js.Value) (sc : js.Scope) (u : js.State) → is_named (usable z) t ≡ true → Inside z.place z.code sc → u.tops (z.place.home t) (top_name t) ≡ js.holds const v → js_meaning.name_value z.place.program (top_name t) sc u ≡ done (js.gives v u)
top_found z law t const v sc u there inside held = (λ i. js_meaning.cell_value (js_meaning.or_outer (inside.free (top_name t) (law.names.tops t) i) (js_meaning.top_cell (owner z.place.program (inside.file i) (top_name t)) (top_name t) u)) u) ∙ (λ i. js_meaning.cell_value (js_meaning.top_cell (law.reaches t there i) (top_name t) u) u) ∙ (λ i. js_meaning.cell_value (held i) u)

pub top_seen : (z : Setting) → Based z → (t : Top) (v : js.Value) (sc : js.Scope) (u : js.State) → is_named (usable z) t ≡ true → Inside z.place z.code sc → u.tops (z.place.home t) (top_name t) ≡ js.holds false v → js_meaning.name_value z.place.program (top_name t) sc u ≡ done (js.gives v u)
top_seen z law t v sc u there inside held = top_found z law t false v sc u there inside held
