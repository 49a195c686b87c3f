use Rattle.std.proofs.Common.{◌≡◌, ◌++◌, drop}
use Rattle.sj_split.specs.Modules.{classes_at, is_public}
use Rattle.sj_split.proofs.modules.public_classes.Given as goal

abbrev pub invariant-loop-settled : goal.invariant-loop-settled
invariant-loop-settled l = l.classes.items ++ classes_at (is_public l.id) (drop l.settled-index l.homes) ≡ classes_at (is_public l.id) l.homes
