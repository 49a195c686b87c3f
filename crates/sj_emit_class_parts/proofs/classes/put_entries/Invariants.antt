use Rattle.std.proofs.Common.{◌≡◌, ◌++◌, drop, map}
use Rattle.js_tree.specs.Views.{member_view}
use Rattle.sj_emit_class_spec.specs.Pieces.{entry_member}
use Rattle.sj_emit_class_parts.proofs.classes.put_entries.Given as goal

abbrev pub invariant-loop-entry : goal.invariant-loop-entry
invariant-loop-entry l = map member_view l.members.items ++ map entry_member (map (λ e. e.now) (drop l.entry-index l.entries)) ≡ map member_view l.fn.members.items ++ map entry_member (map (λ e. e.now) l.entries)
