use Rattle.std.proofs.Common.{map}
use Rattle.js_tree.specs.Views.{item_view}
use Rattle.js_read.proofs.ModuleLoop.{exports_put}
use Rattle.js_read.proofs.modules.put_exports.Goals as goal

pub returns-clause-module : goal.returns-clause-module
returns-clause-module c = λ ls. exports_put c.args.front.imports.items (map (λ i. item_view i.value) c.args.front.items.items) c.args.front.reached c.args.names ls c.requires
