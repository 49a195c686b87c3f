-- The emitted text of a case.
use Rattle.js_tree.specs.Views as js
use Rattle.sj_core.specs.Lookup.{Lookup}
use Rattle.sj_core.specs.Views as core
use Rattle.sj_emit_expr_spec.specs.Names.{variable_name, label_name}
use Rattle.sj_emit_expr_spec.specs.Templates.{statement_templates}

-- by what is known of the classes
abbrev pub case_template : Lookup → core.Case → js.Case
case_template known c = (c.0, statement_templates variable_name label_name known c.1)
