-- Functions by the classes that own them, and by their names.
use Rattle.std.specs.Prelude.{Bool, List}
use Rattle.std.specs.Cmp.Lexicographic.{slice_cmp}
use Rattle.std.specs.List.Sorted.{IsPermutation, IsSortedBy}
use Rattle.std.specs.Ordering.{nat_cmp, is_lt}
use Rattle.class_lists.specs.Lists.{items_of}
use Rattle.indexmap.specs.IndexMap.{get}
use Rattle.js_tree.specs.declared.items.JsPiece.{JsPiece}
use Rattle.sj_world.specs.Known.{Name, is_same}
use Rattle.world_pieces.specs.declared.functions.FunctionGroups.{FunctionGroups}

-- the functions of a class
abbrev pub group_of : FunctionGroups → Name → List JsPiece
group_of g c = items_of (λ v. v.items) (get is_same g.groups c)

abbrev pub is_owned : Name → JsPiece → Bool
is_owned c p = is_same p.owner c

abbrev pub has_lesser_name : JsPiece → JsPiece → Bool
has_lesser_name a b = is_lt (slice_cmp nat_cmp a.name b.name)

-- the same functions in the order of their names
pub record AreByName (given sorted : List JsPiece) : Type 0 where
  pub same : IsPermutation given sorted
  pub in_order : IsSortedBy has_lesser_name sorted
