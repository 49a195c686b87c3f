-- Markers tell classes.
use Rattle.std.specs.Prelude.{◌≡◌, ℕ, List, Some, IsTrue}
use Rattle.std.specs.Str.{is_utf8}
use Rattle.js_mean.specs.Shows.{class_marked}
use Rattle.sj_mangling.specs.Bindings.{class_binding}
use Rattle.sj_mangling.specs.declared.bindings.ClassBinding.TheVariants.{Marker}
use Rattle.sj_names.specs.Grammar.{is_class_name}

-- the marker of a class is that of no other
abbrev pub MarkersTellClasses : Type 0
MarkersTellClasses = (c : List ℕ) → IsTrue (is_class_name c) → IsTrue (is_utf8 c) → class_marked (class_binding Marker c) ≡ Some c
