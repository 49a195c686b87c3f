-- What answers unfold to compute.
use Rattle.std.specs.Prelude.{⊤}
use Rattle.std.specs.Char.{encode_utf8}
use Rattle.std.specs.Fmt.{digits}
use Rattle.std.specs.Str.{is_utf8, chars}
use Rattle.js_tree.specs.Written.{put}
use Rattle.sj_read_spec.specs.Classes.{body_at, param_at, method_at, member_at, class_at}
use Rattle.sj_read_spec.specs.Files.{tables_at, contents_at, file_of}
use Rattle.sj_read_spec.specs.Reading.{many_at}
use Rattle.sj_read_spec.specs.References.{reference_of, method_name_at}
use Rattle.sj_read_spec.specs.Trees.{case_at, leaf_at, statement_at, branch_at, call_at, operation_at, tree_at}
use Rattle.sj_read_spec.specs.Types.{position_at, type_of}

-- the class of a file
unfoldable pub reading : ⊤
unfolding file_of contents_at tables_at class_at member_at method_at param_at body_at many_at reference_of method_name_at case_at leaf_at statement_at branch_at call_at operation_at tree_at position_at type_of is_utf8 chars encode_utf8
reading = tt

-- the text of an item
unfoldable pub printing : ⊤
unfolding put digits
printing = tt
