-- Fields, lengths and items of objects, in a tree by its parts.
use Rattle.std.specs.Prelude.{◌≡◌, false}
use Rattle.sj_emit_expr_pieces.specs.Owners.{OnObjects, AllOnObjects, CasesOnObjects}
use Rattle.sj_trees.specs.Term.{Term, select, array_length, array_select}
use Rattle.sj_trees.specs.TypeOf.{type_of_term}
use Rattle.sure_receivers.specs.Sure.{is_sure_type}
use Rattle.tree_parts.specs.Parts.{TermParts, no_part, one_part, two_parts, three_parts, many_parts, one_and_many, part_and_cases}

-- a field, a length or an item isn't one of a tree of a primitive type other than null
abbrev pub IsOfObject : Term → Type 0
IsOfObject (select p e c f t) = is_sure_type (type_of_term e) ≡ false
IsOfObject (array_length p e) = is_sure_type (type_of_term e) ≡ false
IsOfObject (array_select p e i t) = is_sure_type (type_of_term e) ≡ false
IsOfObject _ = Unit {0}

-- nor is one in the parts of a tree
abbrev pub PartsOnObjects : TermParts → Type 0
PartsOnObjects no_part = Unit {0}
PartsOnObjects (one_part a) = OnObjects a
PartsOnObjects (two_parts a b) = OnObjects a × OnObjects b
PartsOnObjects (three_parts a b c) = OnObjects a × OnObjects b × OnObjects c
PartsOnObjects (many_parts ts) = AllOnObjects ts
PartsOnObjects (one_and_many a ts) = OnObjects a × AllOnObjects ts
PartsOnObjects (part_and_cases a cs b) = OnObjects a × CasesOnObjects cs × OnObjects b
