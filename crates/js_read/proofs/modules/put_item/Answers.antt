use Rattle.std.proofs.Common.{rules, ◌≡◌, ◌∷◌, ◌++◌, [], map}
use Rattle.js_tree.specs.Views.{item_view}
use Rattle.std.proofs.lemmas.List.{map_push}
use Rattle.js_read.proofs.ModuleLoop.{item_put}
use Rattle.js_read.proofs.modules.put_item.Goals as goal

pub returns-clause-module : goal.returns-clause-module
returns-clause-module c =
    let n = c.in_ok-shared.shared in
    let pushed : map (λ i. item_view i.value) c.push.new.self.items ≡ (map (λ i. item_view i.value) c.args.front.items.items) ++ item_view n.value ∷ [] = rw c.in_ok-push.ensures.items (map_push _ c.args.front.items.items n) in
    let same : n.value ≡ c.args.item = search rules in
    λ ls. item_put c.args.front.imports.items (map (λ i. item_view i.value) c.args.front.items.items) (map (λ i. item_view i.value) c.push.new.self.items) c.args.front.reached (item_view c.args.item) ls (rw same at pushed) c.requires
