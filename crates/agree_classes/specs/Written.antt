-- The items of a module of pieces that calls initializers.
use Rattle.std.specs.Prelude.{List, ◌++◌, map}
use Rattle.js_tree.specs.Terms.{Item, Piece}
use Rattle.agree_programs.specs.Emitted.{call_item_of}
use Rattle.sj_names.specs.declared.entry_points.EntryPoint.{EntryPoint}

abbrev pub items_of : List Piece → List Item
items_of = map (λ (p : Piece). p.item)

-- the items of these pieces, and behind them the calls of these initializers
abbrev pub items_with : List Piece → List EntryPoint → List Item
items_with ps es = items_of ps ++ map call_item_of es
