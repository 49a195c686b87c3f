use Rattle.std.proofs.Common.{map}
use Rattle.js_tree.specs.Views.{item_view}
use Rattle.js_read.proofs.ModuleLoop.{import_put}
use Rattle.js_read.proofs.modules.put_import.Goals as goal

pub returns-clause-module : goal.returns-clause-module
returns-clause-module c = λ ls. import_put c.args.front.imports.items c.push.new.self.items (map (λ i. item_view i.value) c.args.front.items.items) c.args.front.reached c.args.import ls c.in_ok-push.ensures.items
