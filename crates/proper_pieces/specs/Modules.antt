-- A module of the pieces of a linked world that some classes own.
use Rattle.std.specs.Prelude.{Bool, List, [], ◌++◌, map}
use Rattle.std.specs.List.{filter}
use Rattle.js_tree.specs.Terms.{Name, Item, Piece, Module}
use Rattle.linked_pieces.specs.Used.{is_among}
use Rattle.sj_names.specs.declared.entry_points.EntryPoint.{EntryPoint}
use Rattle.linked_pieces.specs.Emitted.{call_item_of}

abbrev pub item_of : Piece → Item
item_of p = p.item

-- its owner is one of these classes
abbrev pub is_owned : List Name → Piece → Bool
is_owned written p = is_among written p.owner

-- the pieces that these classes own, and the calls of these initializers
abbrev pub module_of : List Name → List Piece → List EntryPoint → Module
module_of written ps es = record { imports = []; items = map item_of (filter (is_owned written) ps) ++ map call_item_of es; exports = [] }
