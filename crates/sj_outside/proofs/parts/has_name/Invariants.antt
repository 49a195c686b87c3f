use Rattle.std.proofs.Common.{◌≡◌, drop, map}
use Rattle.std.specs.List.{list_any}
use Rattle.sj_outside.specs.Contents.{entries_of, entry_name, is_same_text}
use Rattle.sj_outside.specs.View.{parts_view}
use Rattle.sj_outside.proofs.parts.has_name.Given as goal

abbrev pub invariant-loop-part : goal.invariant-loop-part
invariant-loop-part l =
    list_any (is_same_text l.name) (map entry_name (entries_of (parts_view (drop l.part-index l.parts))))
    ≡ list_any (is_same_text l.name) (map entry_name (entries_of (parts_view l.parts)))
