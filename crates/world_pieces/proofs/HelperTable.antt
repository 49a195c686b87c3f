-- Each helper stands in the table, and the table is in the order of names.
use Rattle.std.proofs.Common.{List, [], ◌∷◌, inl, inr, refl, subst, Contains}
use Rattle.std.specs.Cmp.Lexicographic.{nat_list_cmp_total}
use Rattle.sj_emit_help_spec.specs.Helpers.{helper_name}
use Rattle.sj_emit_help_spec.specs.declared.kinds.Failure.{Failure}
use Rattle.sj_emit_help_spec.specs.declared.kinds.Helper.{Helper}
use Rattle.sj_emit_help_spec.specs.declared.kinds.Kind.{Kind}
use Rattle.linked_pieces.specs.Order.{AreInOrder}
use Rattle.linked_pieces.specs.Pieces.{HasLesserWord}
use Rattle.sj_split.proofs.Members.{cons_cases}
use Rattle.sj_world.proofs.Searches.{contains_at}
use Rattle.worklist.proofs.Inserted.{nothing_in}
use Rattle.world_pieces.specs.Helpers.{every_helper}

pub stands_in_table : (h : Helper) → Contains every_helper h
stands_in_table Helper.ArrayClass = contains_at every_helper 0 _ refl
stands_in_table Helper.BoxedChar = contains_at every_helper 1 _ refl
stands_in_table (Helper.Throws Failure.Division) = contains_at every_helper 2 _ refl
stands_in_table Helper.CastToArray = contains_at every_helper 3 _ refl
stands_in_table (Helper.CastTo Kind.Byte) = contains_at every_helper 4 _ refl
stands_in_table (Helper.CastTo Kind.Char) = contains_at every_helper 5 _ refl
stands_in_table (Helper.CastTo Kind.Int) = contains_at every_helper 6 _ refl
stands_in_table (Helper.CastTo Kind.Long) = contains_at every_helper 7 _ refl
stands_in_table (Helper.CastTo Kind.Short) = contains_at every_helper 8 _ refl
stands_in_table (Helper.CastTo Kind.Text) = contains_at every_helper 9 _ refl
stands_in_table (Helper.CastTo Kind.Undefined) = contains_at every_helper 10 _ refl
stands_in_table (Helper.CastTo Kind.Boolean) = contains_at every_helper 11 _ refl
stands_in_table (Helper.Throws Failure.Store) = contains_at every_helper 12 _ refl
stands_in_table (Helper.Throws Failure.Cast) = contains_at every_helper 13 _ refl
stands_in_table Helper.Covers = contains_at every_helper 14 _ refl
stands_in_table Helper.Equal = contains_at every_helper 15 _ refl
stands_in_table Helper.Fits = contains_at every_helper 16 _ refl
stands_in_table Helper.Get = contains_at every_helper 17 _ refl
stands_in_table Helper.IntQuotient = contains_at every_helper 18 _ refl
stands_in_table Helper.IntRemainder = contains_at every_helper 19 _ refl
stands_in_table (Helper.Throws Failure.Index) = contains_at every_helper 20 _ refl
stands_in_table Helper.TestOfArray = contains_at every_helper 21 _ refl
stands_in_table (Helper.TestOf Kind.Byte) = contains_at every_helper 22 _ refl
stands_in_table (Helper.TestOf Kind.Char) = contains_at every_helper 23 _ refl
stands_in_table (Helper.TestOf Kind.Int) = contains_at every_helper 24 _ refl
stands_in_table (Helper.TestOf Kind.Long) = contains_at every_helper 25 _ refl
stands_in_table (Helper.TestOf Kind.Short) = contains_at every_helper 26 _ refl
stands_in_table (Helper.TestOf Kind.Text) = contains_at every_helper 27 _ refl
stands_in_table (Helper.TestOf Kind.Undefined) = contains_at every_helper 28 _ refl
stands_in_table (Helper.TestOf Kind.Boolean) = contains_at every_helper 29 _ refl
stands_in_table Helper.CheckIndex = contains_at every_helper 30 _ refl
stands_in_table (Helper.ConstantsOf Kind.Byte) = contains_at every_helper 31 _ refl
stands_in_table (Helper.ConstantsOf Kind.Char) = contains_at every_helper 32 _ refl
stands_in_table (Helper.ConstantsOf Kind.Int) = contains_at every_helper 33 _ refl
stands_in_table (Helper.ConstantsOf Kind.Long) = contains_at every_helper 34 _ refl
stands_in_table (Helper.ConstantsOf Kind.Short) = contains_at every_helper 35 _ refl
stands_in_table (Helper.ConstantsOf Kind.Text) = contains_at every_helper 36 _ refl
stands_in_table (Helper.ConstantsOf Kind.Undefined) = contains_at every_helper 37 _ refl
stands_in_table (Helper.ConstantsOf Kind.Boolean) = contains_at every_helper 38 _ refl
stands_in_table Helper.ClassOf = contains_at every_helper 39 _ refl
stands_in_table Helper.LongQuotient = contains_at every_helper 40 _ refl
stands_in_table Helper.LongRemainder = contains_at every_helper 41 _ refl
stands_in_table Helper.MakeArray = contains_at every_helper 42 _ refl
stands_in_table (Helper.Throws Failure.Method) = contains_at every_helper 43 _ refl
stands_in_table Helper.NotNull = contains_at every_helper 44 _ refl
stands_in_table (Helper.Throws Failure.NullReceiver) = contains_at every_helper 45 _ refl
stands_in_table (Helper.Throws Failure.Size) = contains_at every_helper 46 _ refl
stands_in_table Helper.Put = contains_at every_helper 47 _ refl
stands_in_table Helper.Set = contains_at every_helper 48 _ refl

-- each has a lesser name than the next
abbrev Chain : Helper → List Helper → Type 0
Chain h [] = Unit {0}
Chain h (g ∷ gs) = HasLesserWord h g × Chain g gs

chained : (h : Helper) (gs : List Helper) → Chain h gs → (g : Helper) → Contains gs g → HasLesserWord h g
chained h [] chain g i = nothing_in g i
chained h (f ∷ gs) chain g i = elim (cons_cases f g gs i) [ inl e ↦ subst (HasLesserWord h) e chain.0 | inr later ↦ nat_list_cmp_total.trans (helper_name h) (helper_name f) (helper_name g) chain.0 (chained f gs chain.1 g later) ]

in_order : (h : Helper) (gs : List Helper) → Chain h gs → AreInOrder HasLesserWord (h ∷ gs)
in_order h [] chain = (λ g i. nothing_in g i, tt)
in_order h (g ∷ gs) chain = (chained h (g ∷ gs) chain, in_order g gs chain.1)

abbrev rest_of : List Helper → List Helper
rest_of [] = []
rest_of (h ∷ hs) = hs

chain : Chain Helper.ArrayClass (rest_of every_helper)
chain = (refl, (refl, (refl, (refl, (refl, (refl, (refl, (refl, (refl, (refl, (refl, (refl, (refl, (refl, (refl, (refl, (refl, (refl, (refl, (refl, (refl, (refl, (refl, (refl, (refl, (refl, (refl, (refl, (refl, (refl, (refl, (refl, (refl, (refl, (refl, (refl, (refl, (refl, (refl, (refl, (refl, (refl, (refl, (refl, (refl, (refl, (refl, (refl, tt))))))))))))))))))))))))))))))))))))))))))))))))

pub table_in_order : AreInOrder HasLesserWord every_helper
table_in_order = in_order Helper.ArrayClass (rest_of every_helper) chain
