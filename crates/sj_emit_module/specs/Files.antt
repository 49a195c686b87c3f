-- What is kept of the files of classes.
use Rattle.std.specs.Prelude.{Option, Some, None}
use Rattle.indexmap.specs.IndexMap.{get}
use Rattle.js_tree.specs.Terms.{Name}
use Rattle.sj_emit_module.specs.declared.files.ClassFiles.{ClassFiles}
use Rattle.sj_split.specs.Orders.{Bytes, is_same}

-- the file that is kept for a class
abbrev pub file_in : ClassFiles → Name → Option Bytes
file_in files class = get is_same files.files class

-- the first, or where there is none the second
abbrev pub first_of : {X : Type 0} → Option X → Option X → Option X
first_of None other = other
first_of (Some x) other = Some x
