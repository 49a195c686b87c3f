use Rattle.std.proofs.Common.{map, sym}
use Rattle.js_tree.specs.Views.{item_view}
use Rattle.js_read.proofs.ModuleLoop.{onto_nothing}
use Rattle.js_read.proofs.modules.module_of_front.Goals as goal

pub returns : goal.returns
returns c = rw (c.from_vec.ensures, c.exports_of.ensures) (sym (onto_nothing c.args.front.imports.items (map (λ i. item_view i.value) c.args.front.items.items) c.args.front.reached))
