-- A class has one target for a name.
use Rattle.std.proofs.Common.{◌≡◌}
use Rattle.sj_names.specs.declared.method_names.MethodName.{MethodName}
use Rattle.sj_trees.specs.declared.classes.MethodDef.{MethodDef}
use Rattle.proxy_targets.specs.Known.{Name, Classes}
use Rattle.proxy_targets.specs.Resolution.{target}
use Rattle.proxy_targets.proofs.Once.{resolves_once}
use Rattle.sj_baselink_spec.specs.Entries.{IsTarget}

target_owner : (d e : MethodDef) (a b : Name) → target d a ≡ target e b → a ≡ b
target_owner d e a b h = cc

pub one_owner : (w : Classes) (c : Name) (m : MethodName) (a b : Name) → IsTarget w c m a → IsTarget w c m b → a ≡ b
one_owner w c m a b h k = target_owner h.body k.body a b (resolves_once w c m (target h.body a) (target k.body b) h.resolves k.resolves)
