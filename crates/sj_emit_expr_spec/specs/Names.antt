-- The names that the emitted function of a method has for its variables and labels.
use Rattle.std.specs.Prelude.{ℕ, List, ◌++◌, codes}
use Rattle.js_tree.specs.Terms.{Name}
use Rattle.sj_desugar_spec.specs.Terms.{Variable, named, numbered, receiver}
use Rattle.sj_mangling.specs.Bindings.{local_binding}
use Rattle.sj_mangling.specs.Numerals.{number_text}
use Rattle.sj_mangling.specs.declared.bindings.LocalBinding.TheVariants.{Local, Label}

-- `v_x` for a local of the IR, `$k` for the k-th variable that holds an operand, `$this` for This
abbrev pub variable_name : Variable → Name
variable_name (named x) = local_binding Local x
variable_name (numbered n) = codes "$" ++ number_text n
variable_name receiver = codes "$this"

abbrev pub label_name : List ℕ → Name
label_name l = local_binding Label l
