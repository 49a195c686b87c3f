-- Expressions that stand first in a statement: which may be assigned to.
use Rattle.std.specs.Prelude.{Bool, true, false}
use Rattle.js_tree.specs.Terms.{Expression, name_use, property_of, index_of}
use Rattle.js_tree.specs.Views.{expression_view}
use Rattle.js_tree.specs.declared.expressions.JsTarget.{JsTarget}
use Rattle.js_tree.specs.declared.expressions.JsTarget.TheVariants as targets

abbrev pub target_view : JsTarget → Expression
target_view (targets.Name x) = name_use x
target_view (targets.Property o p) = property_of (expression_view o.value) p
target_view (targets.Index o i) = index_of (expression_view o.value) (expression_view i.value)
target_view (targets.Other e) = expression_view e

abbrev pub is_apart : JsTarget → Bool
is_apart (targets.Other _) = false
is_apart _ = true

abbrev pub is_target : Expression → Bool
is_target (name_use _) = true
is_target (property_of _ _) = true
is_target (index_of _ _) = true
is_target _ = false
