use Rattle.std.proofs.Common.{◌≡◌, Bool, true, false, not, List, ◌∷◌, ◌++◌, [], sym, ap, ◌∙◌, refl, subst, slice_get, Some}
use Rattle.std.specs.Prelude.{if◌then◌else◌}
use Rattle.std.specs.List.{list_any}
use Rattle.number_graphs.specs.Graphs.{Lists}
use Rattle.number_graphs.proofs.Places.{at_left}
use Rattle.class_numbers.specs.Numbering.{Name, is_same, AreNumbered}
use Rattle.class_numbers.proofs.Numbered.{numbered_more}
use Rattle.class_numbers.proofs.numbers.ClassNumbers.number.Goals as goal

absent : (b : Bool) → not b ≡ true → b ≡ false
absent true e = cc
absent false e = refl

pub returns-in_ok-push-clause-numbered : goal.returns-in_ok-push-clause-numbered
returns-in_ok-push-clause-numbered c references was =
    let keys : List Name = c.args.self.now.classes.keys in
    let one : Name = c.in_ok-copied.field-0 in
    let is_new : list_any (is_same one) keys ≡ false = absent (list_any (is_same one) keys) (sym c.in_ok-number.ensures.added ∙ c.if-is_new.true) in
    let longer : c.insert_full.new.self.keys ≡ keys ++ one ∷ [] = c.in_ok-number.ensures.keys ∙ ap (λ b. if b then keys else keys ++ one ∷ []) is_new in
    subst (λ (l : List Name). AreNumbered references l c.push.new.self.items) (sym longer) (subst (λ (l : Lists). AreNumbered references (keys ++ one ∷ []) l) (sym c.in_ok-push.ensures.items) (numbered_more references keys c.args.self.now.next.items was one c.new.result is_new c.new.ensures.items))

pub returns-in_ok-push-clause-kept : goal.returns-in_ok-push-clause-kept
returns-in_ok-push-clause-kept c number class at =
    let keys : List Name = c.args.self.now.classes.keys in
    let one : Name = c.in_ok-copied.field-0 in
    let is_new : list_any (is_same one) keys ≡ false = absent (list_any (is_same one) keys) (sym c.in_ok-number.ensures.added ∙ c.if-is_new.true) in
    let longer : c.insert_full.new.self.keys ≡ keys ++ one ∷ [] = c.in_ok-number.ensures.keys ∙ ap (λ b. if b then keys else keys ++ one ∷ []) is_new in
    subst (λ (l : List Name). slice_get l number ≡ Some class) (sym longer) (at_left keys (one ∷ []) number class at)
