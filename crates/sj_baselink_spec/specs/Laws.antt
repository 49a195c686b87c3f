-- What holds of targets.
use Rattle.std.specs.Prelude.{◌≡◌}
use Rattle.sj_names.specs.declared.method_names.MethodName.{MethodName}
use Rattle.proxy_targets.specs.Known.{Name, Classes}
use Rattle.sj_baselink_spec.specs.Entries.{IsTarget}

-- a class has one target for a name at most
abbrev pub OneTarget : Type 0
OneTarget = (w : Classes) (c : Name) (m : MethodName) (a b : Name) → IsTarget w c m a → IsTarget w c m b → a ≡ b
