-- Any pieces have a graph.
use Rattle.std.proofs.Common.{◌≡◌, Bool, true, false, List, [], ◌∷◌, Contains, inl, inr, refl, sym, ap, ◌∙◌, subst, map}
use Rattle.std.specs.Prelude.{◌⊎◌, ◌↔◌, ◌||◌}
use Rattle.std.specs.List.{IsDistinct, AllByRecursion, flat_map, list_any}
use Rattle.indexmap.specs.IndexSet.{insert_all}
use Rattle.indexmap.proofs.CallerLemmas.{Contains-list_any}
use Rattle.worklist.proofs.Inserted.{nothing_in, from-insert_all, each-insert_all}
use Rattle.js_tree.specs.Terms.{Piece}
use Rattle.sj_emit_module_spec.proofs.InOrder.{are_these}
use Rattle.sj_emit_module_spec.specs.Laws.{AreThese}
use Rattle.sj_emit_module_spec.specs.Order.{each_once_in_order}
use Rattle.sj_graph.proofs.Exact.{references_exact}
use Rattle.sj_graph.proofs.SameReferences.{same_reference}
use Rattle.sj_graph.specs.References.{owner_of, piece_references, is_same_reference, Owns, IsReference}
use Rattle.sj_graph.specs.declared.graphs.Reference.{Reference}
use Rattle.sj_split.proofs.Members.{at_first, further, cons_cases, into_map, from_map}
use Rattle.sj_split.specs.Orders.{Bytes}
use Rattle.sj_split_laws.proofs.Apart.{increasing_apart}
use Rattle.sj_split_plans.specs.Laws.{GraphsExist}

-- references, each once
abbrev put_by : Bool → Reference → List Reference → List Reference
put_by true r rest = rest
put_by false r rest = r ∷ rest

once : List Reference → List Reference
once [] = []
once (r ∷ rs) = put_by (list_any (is_same_reference r) (once rs)) r (once rs)

none_same : (r : Reference) (rs : List Reference) → list_any (is_same_reference r) rs ≡ false → AllByRecursion (λ s. is_same_reference r s ≡ false) rs
none_same r [] e = tt
none_same r (s ∷ ss) e = go (is_same_reference r s) refl (none_same r ss)
  where
    go : (b : Bool) → is_same_reference r s ≡ b → (list_any (is_same_reference r) ss ≡ false → AllByRecursion (λ q. is_same_reference r q ≡ false) ss) → AllByRecursion (λ q. is_same_reference r q ≡ false) (s ∷ ss)
    go true is rest = let w : true ≡ false = sym (ap (λ b. b || list_any (is_same_reference r) ss) is) ∙ e in cc
    go false is rest = (is, rest (sym (ap (λ b. b || list_any (is_same_reference r) ss) is) ∙ e))

new_first : (r : Reference) (rs : List Reference) → AllByRecursion (λ s. is_same_reference r s ≡ false) rs → IsDistinct is_same_reference rs → IsDistinct is_same_reference (r ∷ rs)
unfolding IsDistinct
new_first r rs new rest = (new, rest)

none_twice : (rs : List Reference) → IsDistinct is_same_reference (once rs)
unfolding IsDistinct once
none_twice [] = tt
none_twice (r ∷ rs) = go (list_any (is_same_reference r) (once rs)) refl (none_twice rs)
  where
    go : (b : Bool) → list_any (is_same_reference r) (once rs) ≡ b → IsDistinct is_same_reference (once rs) → IsDistinct is_same_reference (put_by b r (once rs))
    go true e rest = rest
    go false e rest = new_first r (once rs) (none_same r (once rs) e) rest

from_once : (rs : List Reference) (one : Reference) → Contains (once rs) one → Contains rs one
unfolding once
from_once [] one h = h
from_once (r ∷ rs) one h = go (list_any (is_same_reference r) (once rs)) (from_once rs one) h
  where
    go : (b : Bool) → (Contains (once rs) one → Contains rs one) → Contains (put_by b r (once rs)) one → Contains (r ∷ rs) one
    go true rest h = further r one rs (rest h)
    go false rest h = elim (cons_cases r one (once rs) h) [ inl is ↦ subst (Contains (r ∷ rs)) is (at_first r rs) | inr later ↦ further r one rs (rest later) ]

into_once : (rs : List Reference) (one : Reference) → Contains rs one → Contains (once rs) one
unfolding once
into_once [] one h = h
into_once (r ∷ rs) one h = go (list_any (is_same_reference r) (once rs)) refl (into_once rs one) (cons_cases r one rs h)
  where
    go : (b : Bool) → list_any (is_same_reference r) (once rs) ≡ b → (Contains rs one → Contains (once rs) one) → (r ≡ one) ⊎ Contains rs one → Contains (put_by b r (once rs)) one
    go true e rest (inl is) = subst (Contains (once rs)) is (Contains-list_any is_same_reference same_reference (once rs) r e)
    go true e rest (inr later) = rest later
    go false e rest (inl is) = subst (Contains (r ∷ once rs)) is (at_first r (once rs))
    go false e rest (inr later) = further r one (once rs) (rest later)

references_are : (pieces : List Piece) (one : Reference) → Contains (once (flat_map piece_references pieces)) one ↔ IsReference pieces one
references_are pieces one = (λ h. exact.0 (each-insert_all is_same_reference same_reference [] all one (from_once all one h)), λ r. into_once all one (listed (from-insert_all is_same_reference [] all one (exact.1 r))))
  where
    all : List Reference
    all = flat_map piece_references pieces

    exact : Contains (insert_all is_same_reference [] all) one ↔ IsReference pieces one
    exact = references_exact pieces (insert_all is_same_reference [] all) refl one

    listed : Contains [] one ⊎ Contains all one → Contains all one
    listed (inl none) = nothing_in one none
    listed (inr there) = there

owners_are : (pieces : List Piece) → AreThese (Owns pieces) (each_once_in_order (map owner_of pieces))
owners_are pieces = are_these (Owns pieces) (map owner_of pieces) (λ class. (out class, back class))
  where
    out : (class : Bytes) → Contains (map owner_of pieces) class → Owns pieces class
    out class h = let m = from_map owner_of pieces class h in record { piece = m.item; among = m.among; owner = m.is }

    back : (class : Bytes) → Owns pieces class → Contains (map owner_of pieces) class
    back class o = subst (Contains (map owner_of pieces)) o.owner (into_map owner_of pieces o.piece o.among)

pub graphs_exist : GraphsExist
graphs_exist pieces = (
  record { owners = each_once_in_order (map owner_of pieces); references = once (flat_map piece_references pieces) },
  record {
    owners = (owners_are pieces).exact;
    references = references_are pieces;
    owners_once = increasing_apart (each_once_in_order (map owner_of pieces)) (owners_are pieces).in_order;
    references_once = none_twice (flat_map piece_references pieces);
  },
)
