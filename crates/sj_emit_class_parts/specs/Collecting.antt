-- Bindings that are put behind others where they aren't there yet.
use Rattle.std.specs.Prelude.{List, [], ◌∷◌, ◌++◌, if◌then◌else◌}
use Rattle.std.specs.List.{list_any}
use Rattle.js_tree.specs.declared.items.Binding.{Binding}
use Rattle.sj_emit_expr_spec.specs.Uses.{is_same_binding}

abbrev pub with_use : List Binding → Binding → List Binding
with_use bs b = if list_any (is_same_binding b) bs then bs else (bs ++ b ∷ [])

abbrev pub with_uses : List Binding → List Binding → List Binding
with_uses bs [] = bs
with_uses bs (c ∷ cs) = with_uses (with_use bs c) cs
