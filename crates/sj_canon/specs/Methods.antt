-- Canonical bytes of methods.
use Rattle.std.specs.Prelude.{ℕ, List, ◌∷◌, ◌++◌, ◌≡◌, ◌↔◌}
use Rattle.sj_trees.specs.declared.classes.ParamDef.{ParamDef}
use Rattle.sj_trees.specs.declared.classes.MethodDef.{MethodDef}
use Rattle.tree_sameness.specs.Apart.{method_apart}
use Rattle.sj_canon.specs.Numbers.{mark_byte, text_bytes, list_bytes, option_bytes}
use Rattle.sj_canon.specs.Names.{type_bytes, method_name_bytes, namespace_byte}
use Rattle.sj_canon.specs.Terms.{term_bytes}

unfoldable pub param_bytes : ParamDef → List ℕ
param_bytes p = mark_byte p.mutable ∷ text_bytes p.name ++ type_bytes p.tpe

-- the bytes of a method, in which neither positions nor the stored hash stand
unfoldable pub canonical : MethodDef → List ℕ
canonical m = namespace_byte m.namespace ∷ method_name_bytes m.name ++ list_bytes param_bytes m.params ++ type_bytes m.result ++ option_bytes term_bytes m.body

-- they are the same exactly where the methods are, apart from positions and stored hashes
pub record CanonicalBytesDecide : Type 0 where
  pub same : (m d : MethodDef) → (canonical m ≡ canonical d) ↔ (method_apart m ≡ method_apart d)
