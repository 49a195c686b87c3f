-- Fields and methods apart from positions and stored hashes.
use Rattle.std.specs.Prelude.{None, option_map}
use Rattle.sj_trees.specs.declared.classes.FieldDef.{FieldDef}
use Rattle.sj_trees.specs.declared.classes.MethodDef.{MethodDef}
use Rattle.sj_trees.specs.Erase.{nowhere, erase}

-- the field without its position
abbrev pub field_apart : FieldDef → FieldDef
field_apart f = record f { pos = nowhere }

-- the method without its positions and its hash
abbrev pub method_apart : MethodDef → MethodDef
method_apart d = record d { pos = nowhere; body = option_map erase d.body; hash = None }
