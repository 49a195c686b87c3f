-- What the destinations and the statements that were written stand for.
use Rattle.std.specs.Prelude.{map}
use Rattle.sj_core.specs.Views.{variable_view, statements_view, expression_view, cases_view}
use Rattle.sj_desugar_spec.specs.Desugar.{Target, Branches}
use Rattle.sj_desugar_spec.specs.Spill as spill
use Rattle.sj_desugar_spec.specs.Spill.{Code, Spilled}
use Rattle.sj_desugar_forms.specs.Placing as placing
use Rattle.sj_desugar_forms.specs.declared.destinations.Destination.{Destination}
use Rattle.sj_desugar_forms.specs.declared.destinations.Destination.TheVariants.{Discard, Variable, Result}
use Rattle.sj_desugar_forms.specs.declared.destinations.Target as declared
use Rattle.sj_desugar_forms.specs.declared.forms.SwitchCases.{SwitchCases}
use Rattle.sj_desugar_forms.specs.declared.placing.Placed.{Placed}
use Rattle.sj_desugar_forms.specs.declared.placing.PlacedAll.{PlacedAll}
use Rattle.sj_desugar_forms.specs.declared.writing.Written.{Written}

abbrev pub destination_view : Destination → spill.Destination
destination_view Discard = spill.discard
destination_view (Variable x t) = spill.to_variable (variable_view x) t
destination_view (Result t) = spill.to_result t

abbrev pub target_view : declared.Target → Target
target_view t = record { label = t.label; goes_to = destination_view t.goes_to }

abbrev pub code_view : Written → Code
code_view w = record { statements = statements_view w.statements.items; next = w.next }

abbrev pub placed_view : Placed → placing.Placed
placed_view p = record { statements = statements_view p.statements.items; expression = expression_view p.expression; next = p.next }

abbrev pub all_view : PlacedAll → Spilled
all_view p = record { statements = statements_view p.statements.items; expressions = map expression_view p.expressions.items; next = p.next }

abbrev pub branches_view : SwitchCases → Branches
branches_view b = record { cases = cases_view b.cases.items; next = b.next }
