-- The trees of bodies, and the bytes of class files.
use Rattle.std.specs.Prelude.{◌≡◌, ℕ, ◌≤◌, List, Contains, Some, length}
use Rattle.sj_read_spec.specs.Files.{FileIs}
use Rattle.sj_trees.specs.Term.{Term}
use Rattle.sj_trees.specs.declared.classes.ClassDef.{ClassDef}
use Rattle.sj_trees.specs.declared.classes.MethodDef.{MethodDef}
use Rattle.tree_parts.specs.Sizes.{size}

-- a body of the class of a file has no more trees than the file has bytes
abbrev pub EachBodyIsSmall : Type 0
EachBodyIsSmall = (bytes : List ℕ) (class : ClassDef) → FileIs bytes class → (m : MethodDef) → Contains class.methods m → (e : Term) → m.body ≡ Some e → size e ≤ length bytes
