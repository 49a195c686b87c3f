use Rattle.std.proofs.Common.{◌≡◌, Bool, true, false, not, List, ◌∷◌, ◌++◌, [], sym, ap, ◌∙◌, refl}
use Rattle.std.specs.Prelude.{if◌then◌else◌}
use Rattle.std.specs.List.{list_any}
use Rattle.class_groups.specs.Groups.{Name, is_same, list_at}
use Rattle.class_groups.proofs.Listed.{more}
use Rattle.class_groups.proofs.groups.ClassGroups.place.Goals as goal

absent : (b : Bool) → not b ≡ true → b ≡ false
absent true e = cc
absent false e = refl

pub returns-in_ok-push-clause-same : goal.returns-in_ok-push-clause-same
returns-in_ok-push-clause-same c other =
    let keys : List Name = c.args.self.now.keys.keys in
    let one : Name = c.in_ok-copied.field-0 in
    let is_new : list_any (is_same one) keys ≡ false = absent (list_any (is_same one) keys) (sym c.in_ok-place.ensures.added ∙ c.if-is_new.true) in
    let longer : c.insert_full.new.self.keys ≡ keys ++ one ∷ [] = c.in_ok-place.ensures.keys ∙ ap (λ b. if b then keys else keys ++ one ∷ []) is_new in
    ap (λ l. list_at l c.push.new.self.items other) longer
    ∙ ap (λ l. list_at (keys ++ one ∷ []) l other) c.in_ok-push.ensures.items
    ∙ more keys c.args.self.now.classes.items one c.new.result other c.requires c.new.ensures.items
