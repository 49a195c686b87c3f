use Rattle.std.proofs.Common.{length, refl, sym, ap, ◌∙◌, get_or, arith}
use Rattle.std.proofs.lemmas.Bool.Decides.{nat_tests}
use Rattle.class_groups.specs.Groups.{is_same}
use Rattle.class_groups.proofs.Listed.{there, nothing_past, position_found, position_missed}
use Rattle.class_groups.proofs.groups.ClassGroups.classes.Goals as goal

pub returns-in-None-get : goal.returns-in-None-get
returns-in-None-get c =
    let found = position_found (is_same c.args.key.now) c.args.self.now.keys.keys c.in-Some.place (sym c.get_index_of.ensures.index ∙ c.in-Some.is) in
    c.new.ensures.items ∙ sym (nothing_past c.args.key.now c.args.self.now.keys.keys c.args.self.now.classes.items c.in-Some.place found.0 (λ within. grind (arith, nat_tests, c.in-None-get.ensures.lookup.0, ap length c.deref.ensures.value)))

pub returns-in-None : goal.returns-in-None
returns-in-None c = c.new-in-None.ensures.items ∙ sym (nothing_past c.args.key.now c.args.self.now.keys.keys c.args.self.now.classes.items _ refl (λ within. absurd (position_missed (is_same c.args.key.now) c.args.self.now.keys.keys (sym c.get_index_of.ensures.index ∙ c.in-None.is) within)))

pub returns-in_ok-copies-in-Some-get : goal.returns-in_ok-copies-in-Some-get
returns-in_ok-copies-in-Some-get c =
    let found = position_found (is_same c.args.key.now) c.args.self.now.keys.keys c.in-Some.place (sym c.get_index_of.ensures.index ∙ c.in-Some.is) in
    let its = there c.args.key.now c.args.self.now.keys.keys c.args.self.now.classes.items c.in-Some.place c.in-Some-get.classes.now found.0 found.1 (grind (arith, nat_tests, c.in-Some-get.ensures.lookup.0, ap length c.deref.ensures.value)) (c.in-Some-get.ensures.lookup.1 ∙ ap (λ l. get_or l c.in-Some.place c.in-Some-get.classes.now) c.deref.ensures.value) in
    c.in_ok-copies-in-Some-get.ensures ∙ c.as_slice.ensures.value ∙ sym its
