-- A law of the check.
use Rattle.std.specs.Prelude.{◌≡◌, ℕ, Option}
use Rattle.sj_trees.specs.declared.classes.ClassDef.{ClassDef}
use Rattle.sj_local.specs.declared.rules.Where.{Where}
use Rattle.sj_local.specs.Broken.{FirstBroken}

-- a class has one answer: that it breaks no rule, or the first rule that it breaks and where
abbrev pub ChecksOnce : Type 0
ChecksOnce = (c : ClassDef) (one other : Option (ℕ × Where)) → FirstBroken c one → FirstBroken c other → one ≡ other
