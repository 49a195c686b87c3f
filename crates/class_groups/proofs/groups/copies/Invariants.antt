use Rattle.std.proofs.Common.{◌≡◌, take}
use Rattle.class_groups.proofs.groups.copies.Given as goal

abbrev pub invariant-loop-class : goal.invariant-loop-class
invariant-loop-class l = l.list.items ≡ take l.class-index l.classes
