-- A module whose first lines were read.
use Rattle.std.specs.Prelude.{List, ◌++◌, map}
use Rattle.js_tree.specs.Terms.{Name, Module}
use Rattle.js_tree.specs.Views.{item_view}
use Rattle.js_read_spec.specs.declared.words.Stage.{Stage}
use Rattle.js_read_spec.specs.declared.words.Stage.TheVariants as stages
use Rattle.js_read.specs.declared.modules.Front.{Front}
use Rattle.js_read.specs.declared.modules.Reached.{Reached}
use Rattle.js_read.specs.declared.modules.Reached.TheVariants as reached

abbrev pub stage_of : Reached → Stage
stage_of reached.Imports = stages.Imports
stage_of reached.Items = stages.Items
stage_of (reached.Exports xs) = stages.End

-- the names of the export line, which may be among the lines that are left
abbrev pub exports_onto : Reached → List Name → List Name
exports_onto reached.Imports ys = ys
exports_onto reached.Items ys = ys
exports_onto (reached.Exports xs) ys = xs

-- the module of what was read, and behind it the module of the lines that are left
abbrev pub module_onto : Front → Module → Module
module_onto f m = record { imports = f.imports.items ++ m.imports; items = map (λ i. item_view i.value) f.items.items ++ m.items; exports = exports_onto f.reached m.exports }
