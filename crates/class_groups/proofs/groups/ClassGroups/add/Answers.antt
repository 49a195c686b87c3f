use Rattle.std.proofs.Common.{◌≡◌, ◌∷◌, ◌++◌, [], ap, ◌∙◌, get_or}
use Rattle.std.specs.Prelude.{Vec}
use Rattle.std.specs.declared.alloc.Global.{Global}
use Rattle.std.proofs.lemmas.List.{get_or_default}
use Rattle.class_groups.specs.Groups.{Name}
use Rattle.class_groups.proofs.Listed.{put, added}
use Rattle.class_groups.proofs.groups.ClassGroups.add.Goals as goal

pub returns-clause-added : goal.returns-clause-added
returns-clause-added c class =
    let read : c.index_mut.result.now ≡ get_or c.place.new.self.classes.items c.in_ok-place.place c.push.new.self = c.index_mut.ensures.value ∙ get_or_default c.place.new.self.classes.items c.in_ok-place.place c.index_mut.result.now c.push.new.self c.in_ok-place.ensures.within in
    put c.args.key.now c.args.class.now class c.place.new.self.keys.keys c.place.new.self.classes.items c.in_ok-place.place c.push.new.self c.in_ok-place.ensures.place c.in_ok-place.ensures.within c.in_ok-place.ensures.groups (c.in_ok-push.ensures.items ∙ ap (λ l. l ++ c.in_ok-copied.field-0 ∷ []) (ap (λ (v : Vec Name Global). v.items) read) ∙ ap (λ n. (get_or c.place.new.self.classes.items c.in_ok-place.place c.push.new.self).items ++ n ∷ []) c.in_ok-copied.ensures)
    ∙ ap (λ l. l ++ added c.args.key.now c.args.class.now class) (c.in_ok-place.ensures.same class)
