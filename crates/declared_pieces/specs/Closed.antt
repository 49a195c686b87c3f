-- The pieces that some classes own, and what is asked of them.
use Rattle.std.specs.Prelude.{List, map}
use Rattle.std.specs.List.{Contains, filter}
use Rattle.js_tree.specs.Terms.{Name, Item, Piece}
use Rattle.js_tree.specs.declared.items.Binding.{Binding}
use Rattle.object_helpers.specs.Modules.{item_of, is_owned}

-- what a piece uses that one of these classes owns is owned by one of them
abbrev pub IsClosed : List Piece → List Name → Type 0
IsClosed ps written = (p : Piece) → Contains ps p → Contains written p.owner → (b : Binding) → Contains p.uses b → Contains written b.owner

-- the items of the pieces that these classes own
abbrev pub items_of : List Name → List Piece → List Item
items_of written ps = map item_of (filter (is_owned written) ps)
