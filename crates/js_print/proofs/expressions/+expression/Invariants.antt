use Rattle.std.proofs.Common.{◌≡◌, drop}
use Rattle.js_tree.specs.Texts.{put_more_expressions}
use Rattle.js_tree.specs.Views.{expressions_view}
use Rattle.js_print.proofs.expressions.+expression.Given as goal

abbrev pub invariant-append_expressions-loop-each : goal.invariant-append_expressions-loop-each
invariant-append_expressions-loop-each l = put_more_expressions (expressions_view (drop l.each-index l.others)) l.out.items ≡ put_more_expressions (expressions_view l.others) l.initial.out.items
