-- The helpers that are found are those that are used.
use Rattle.std.proofs.Common.{◌≡◌, ◌∙◌, ◌+◌, ◌≤◌, ℕ, Bool, true, false, List, [], ◌∷◌, ◌++◌, Some, Contains, ap, cond, length, slice_get, sym, subst, take}
use Rattle.std.specs.List.{filter}
use Rattle.std.specs.Prelude.{◌↔◌}
use Rattle.std.proofs.lemmas.List.{append-nil, take_all, take_more}
use Rattle.std.proofs.lemmas.List.Elements.{filter-append}
use Rattle.std.proofs.lemmas.Option.{slice_get_within, get_or_from_slice_get}
use Rattle.sj_emit_help_spec.specs.Helpers.{helper_name, used_helpers}
use Rattle.sj_emit_help_spec.specs.declared.kinds.Helper.{Helper}
use Rattle.js_tree.specs.Terms.{Name, Piece}
use Rattle.linked_pieces.specs.Pieces.{IsUsed, by_piece, by_helper, HasLesserWord, AreHelpers}
use Rattle.sj_baselink.specs.Steps.{OfOne}
use Rattle.sj_split.proofs.Members.{into_map, from_map, into_filter, from_filter}
use Rattle.worklist.specs.Paths.{Path, stay, on, Leads, IsReached}
use Rattle.world_pieces.specs.declared.helpers.UsedHelper.{UsedHelper}
use Rattle.world_pieces.specs.Helpers.{every_helper, UsesWord, as_used, next_used, is_found}
use Rattle.world_pieces.proofs.InOrder.{order_passed}
use Rattle.world_pieces.proofs.Itself.{found_tells}
use Rattle.world_pieces.proofs.HelperTable.{stands_in_table, table_in_order}

-- the helpers that pass a test, one by one
one_more : (p : Helper → Bool) (all : List Helper) (i : ℕ) (h : Helper) → slice_get all i ≡ Some h → filter p (take (i + 1) all) ≡ filter p (take i all) ++ filter p (h ∷ [])
one_more p all i h at = ap (filter p) (take_more all i h (slice_get_within all i h at) ∙ ap (λ (y : Helper). take i all ++ y ∷ []) (get_or_from_slice_get all i h h at)) ∙ filter-append p (take i all) (h ∷ [])

passed : (p : Helper → Bool) (h : Helper) (b : Bool) → p h ≡ b → filter p (h ∷ []) ≡ cond b (h ∷ []) []
passed p h b is = ap (λ (a : Bool). cond a (h ∷ []) []) is

pub one_listed : (p : Helper → Bool) (all : List Helper) (i : ℕ) (h : Helper) (old new : List Helper) → slice_get all i ≡ Some h → p h ≡ true → old ≡ filter p (take i all) → new ≡ old ++ h ∷ [] → new ≡ filter p (take (i + 1) all)
one_listed p all i h old new at passes before put = put ∙ ap (λ (l : List Helper). l ++ h ∷ []) before ∙ ap (λ (l : List Helper). filter p (take i all) ++ l) (sym (passed p h true passes)) ∙ sym (one_more p all i h at)

pub one_left_out : (p : Helper → Bool) (all : List Helper) (i : ℕ) (h : Helper) (old : List Helper) → slice_get all i ≡ Some h → p h ≡ false → old ≡ filter p (take i all) → old ≡ filter p (take (i + 1) all)
one_left_out p all i h old at fails before = before ∙ sym (one_more p all i h at ∙ ap (λ (l : List Helper). filter p (take i all) ++ l) (passed p h false fails) ∙ append-nil (filter p (take i all)))

pub all_listed : (p : Helper → Bool) (all every : List Helper) (i : ℕ) (hs : List Helper) → length all ≤ i → all ≡ every → hs ≡ filter p (take i all) → hs ≡ filter p every
all_listed p all every i hs over is listed = listed ∙ ap (filter p) (take_all i all over ∙ is)

module _ (ps : List Piece) (words : List Name) (start found : List UsedHelper) (are_words : (x : Name) → Contains words x ↔ OfOne ps UsesWord x) (named : (u : UsedHelper) → Contains start u ↔ Contains words (helper_name u.helper)) (reached : (u : UsedHelper) → Contains found u ↔ IsReached next_used start u) where
  used_on : (from to : UsedHelper) → Path (Leads next_used) from to → IsUsed ps from.helper → IsUsed ps to.helper
  used_on from _ stay i = i
  used_on from _ (on before after path step) i =
      let m = from_map as_used (used_helpers before.helper) after step in
      by_helper before.helper after.helper (used_on from before path i) (subst (λ (u : UsedHelper). Contains (used_helpers before.helper) u.helper) m.is m.among)

  is_used : (h : Helper) → Contains found (as_used h) → IsUsed ps h
  is_used h i =
      let r = (reached (as_used h)).0 i in
      let w = (are_words (helper_name r.from.helper)).0 ((named r.from).0 r.begins) in
      used_on r.from (as_used h) r.path (by_piece w.thing r.from.helper w.among w.holds)

  is_reached : (h : Helper) → IsUsed ps h → IsReached next_used start (as_used h)
  is_reached _ (by_piece p h among uses) = record { from = as_used h; begins = (named (as_used h)).1 ((are_words (helper_name h)).1 (record { thing = p; among = among; holds = uses })); path = stay }
  is_reached _ (by_helper g h i uses) =
      let r = is_reached g i in
      record { from = r.from; begins = r.begins; path = on (as_used g) (as_used h) r.path (into_map as_used (used_helpers g) h uses) }

  pub are_helpers : (hs : List Helper) → hs ≡ filter (is_found found) every_helper → AreHelpers ps hs
  are_helpers hs is = subst (AreHelpers ps) (sym is) (record {
    exact = λ h. (
      λ i. is_used h ((found_tells found h).0 (from_filter (is_found found) every_helper h i).passes),
      λ i. into_filter (is_found found) every_helper h (stands_in_table h) ((found_tells found h).1 ((reached (as_used h)).1 (is_reached h i))),
    );
    in_order = order_passed HasLesserWord (is_found found) every_helper table_in_order;
  })
