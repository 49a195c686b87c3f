-- Worked modules.
use Rattle.std.specs.Prelude.{List, [], ◌∷◌, codes}
use Rattle.js_tree.specs.Terms.{Name, Item, Piece, let_item, undefined_literal}
use Rattle.js_tree.specs.declared.items.Binding.{Binding}
use Rattle.js_tree.specs.declared.items.JsImport.{JsImport}
use Rattle.sj_names.specs.declared.entry_points.EntryPoint.{EntryPoint}
use Rattle.sj_split.specs.declared.plans.PlannedModule.{PlannedModule}

abbrev pub planned_as : Name → List Name → List EntryPoint → PlannedModule
planned_as name classes entries = record { name = name; classes = classes; initializers = entries }

abbrev pub binding : Name → Name → Binding
binding owner name = record { owner = owner; name = name }

abbrev pub variable : Name → Item
variable name = let_item name undefined_literal

-- a variable that uses these bindings
abbrev pub piece : Name → Name → List Binding → Piece
piece owner name uses = record { owner = owner; name = name; uses = uses; item = variable name }

abbrev pub line : Name → List Name → JsImport
line file names = record { names = names; file = file }

abbrev pub entry : Name → Name → EntryPoint
entry id class = record { «module» = id; class = class; method = codes "main" }

-- two public modules that share an internal one
abbrev pub shared : PlannedModule
shared = planned_as (codes "internal-0") (codes "S" ∷ codes "T" ∷ []) []

abbrev pub left : PlannedModule
left = planned_as (codes "left") (codes "L" ∷ []) (entry (codes "left") (codes "L") ∷ [])

abbrev pub right : PlannedModule
right = planned_as (codes "right") (codes "R" ∷ []) (entry (codes "right") (codes "R") ∷ [])

abbrev pub sharing : List PlannedModule
sharing = shared ∷ left ∷ right ∷ []

-- `S` has two variables, one of which uses one of `T`; `L` uses one of `S` twice, and one of its own; `R` uses the other of `S`
abbrev pub sharing_pieces : List Piece
sharing_pieces =
    piece (codes "S") (codes "s") []
    ∷ piece (codes "S") (codes "r") (binding (codes "T") (codes "t") ∷ [])
    ∷ piece (codes "T") (codes "t") []
    ∷ piece (codes "L") (codes "l") (binding (codes "S") (codes "s") ∷ [])
    ∷ piece (codes "L") (codes "m") (binding (codes "L") (codes "l") ∷ binding (codes "S") (codes "s") ∷ [])
    ∷ piece (codes "R") (codes "n") (binding (codes "S") (codes "r") ∷ [])
    ∷ []

-- modules whose files stand in another order than their ids
abbrev pub first : PlannedModule
first = planned_as (codes "a-b") (codes "B" ∷ []) []

abbrev pub second : PlannedModule
second = planned_as (codes "a") (codes "A" ∷ []) []

abbrev pub user : PlannedModule
user = planned_as (codes "u") (codes "U" ∷ []) []

abbrev pub ordering : List PlannedModule
ordering = first ∷ second ∷ user ∷ []

-- `U` uses variables of `A` before one of `B`, and the later in byte order before the earlier
abbrev pub ordering_pieces : List Piece
ordering_pieces =
    piece (codes "A") (codes "x") []
    ∷ piece (codes "A") (codes "X") []
    ∷ piece (codes "B") (codes "y") []
    ∷ piece (codes "U") (codes "u") (binding (codes "A") (codes "x") ∷ binding (codes "B") (codes "y") ∷ binding (codes "A") (codes "X") ∷ [])
    ∷ []

-- a public module that holds its initializer alone
abbrev pub alone : PlannedModule
alone = planned_as (codes "main") [] (entry (codes "main") (codes "M") ∷ [])

abbrev pub within : PlannedModule
within = planned_as (codes "internal-1") (codes "M" ∷ []) []

abbrev pub calling : List PlannedModule
calling = within ∷ alone ∷ []

abbrev pub calling_pieces : List Piece
calling_pieces = piece (codes "M") (codes "s_M__main$$V") [] ∷ piece (codes "M") (codes "m") (binding (codes "M") (codes "s_M__main$$V") ∷ []) ∷ []
