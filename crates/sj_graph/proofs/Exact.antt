-- What is put together of pieces is exactly their owners and their references.
use Rattle.std.proofs.Common.{◌≡◌, List, [], ◌∷◌, Contains, sym, ap, subst, inl, inr, map}
use Rattle.std.specs.Prelude.{◌⊎◌, ◌↔◌}
use Rattle.std.specs.List.{flat_map}
use Rattle.std.proofs.lemmas.List.Elements.{Contains-append_left, Contains-append_right, Contains-push, Contains-append_cases}
use Rattle.std.proofs.lemmas.Slice.Eq.{bytes_eq-Decides}
use Rattle.indexmap.specs.IndexSet.{insert_all}
use Rattle.worklist.proofs.Inserted.{nothing_in, only_one, from-insert_all, each-insert_all}
use Rattle.js_tree.specs.Terms.{Name, Piece}
use Rattle.sj_graph.specs.declared.graphs.Reference.{Reference}
use Rattle.js_tree.specs.declared.items.Binding.{Binding}
use Rattle.sj_graph.specs.References.{object, reference, reference_by, owner_of, piece_references, is_same_name, is_same_reference, Owns, IsReference}
use Rattle.sj_graph.specs.Laws.{OwnersAloneRefer}
use Rattle.sj_graph.proofs.SameReferences.{same_reference}

at_first : {X : Type 0} (x : X) (xs : List X) → Contains (x ∷ xs) x
at_first x xs = Contains-append_left (x ∷ []) xs x (Contains-push [] x)

further : {X : Type 0} (y x : X) (xs : List X) → Contains xs x → Contains (y ∷ xs) x
further y x xs h = Contains-append_right (y ∷ []) xs x h

cons_cases : {X : Type 0} (y x : X) (xs : List X) → Contains (y ∷ xs) x → (y ≡ x) ⊎ Contains xs x
cons_cases y x xs h = elim (Contains-append_cases (y ∷ []) xs x h) [ inl first ↦ inl (only_one y x first) | inr later ↦ inr later ]

from_owners : (pieces : List Piece) (class : Name) → Contains (map owner_of pieces) class → Owns pieces class
from_owners [] class h = nothing_in class h
from_owners (p ∷ ps) class h = elim (cons_cases p.owner class (map owner_of ps) h) [ inl first ↦ record { piece = p; among = at_first p ps; owner = first } | inr later ↦ on (from_owners ps class later) ]
  where
    on : Owns ps class → Owns (p ∷ ps) class
    on o = record { piece = o.piece; among = further p o.piece ps o.among; owner = o.owner }

into_owners : (pieces : List Piece) (piece : Piece) → Contains pieces piece → Contains (map owner_of pieces) piece.owner
into_owners [] piece h = nothing_in piece h
into_owners (p ∷ ps) piece h = elim (cons_cases p piece ps h) [ inl first ↦ subst (λ (q : Piece). Contains (map owner_of (p ∷ ps)) q.owner) first (at_first p.owner (map owner_of ps)) | inr later ↦ further p.owner piece.owner (map owner_of ps) (into_owners ps piece later) ]

from_references : (pieces : List Piece) (one : Reference) → Contains (flat_map piece_references pieces) one → IsReference pieces one
from_references [] one h = nothing_in one h
from_references (p ∷ ps) one h = elim (Contains-append_cases (piece_references p) (flat_map piece_references ps) one h) [ inl first ↦ record { piece = p; among = at_first p ps; refers = first } | inr later ↦ on (from_references ps one later) ]
  where
    on : IsReference ps one → IsReference (p ∷ ps) one
    on r = record { piece = r.piece; among = further p r.piece ps r.among; refers = r.refers }

into_references : (pieces : List Piece) (piece : Piece) (one : Reference) → Contains pieces piece → Contains (piece_references piece) one → Contains (flat_map piece_references pieces) one
into_references [] piece one h r = nothing_in piece h
into_references (p ∷ ps) piece one h r = elim (cons_cases p piece ps h) [ inl first ↦ Contains-append_left (piece_references p) (flat_map piece_references ps) one (subst (λ (q : Piece). Contains (piece_references q) one) (sym first) r) | inr later ↦ Contains-append_right (piece_references p) (flat_map piece_references ps) one (into_references ps piece one later r) ]

pub owners_exact : (pieces : List Piece) (found : List Name) → found ≡ insert_all is_same_name [] (map owner_of pieces) → (class : Name) → Contains found class ↔ Owns pieces class
owners_exact pieces found e class = (λ h. from_owners pieces class (listed (from-insert_all is_same_name [] (map owner_of pieces) class (subst (λ (l : List Name). Contains l class) e h))), λ o. subst (λ (l : List Name). Contains l class) (sym e) (each-insert_all is_same_name (λ a b. (bytes_eq-Decides a b).0) [] (map owner_of pieces) class (subst (λ (n : Name). Contains (map owner_of pieces) n) o.owner (into_owners pieces o.piece o.among))))
  where
    listed : Contains [] class ⊎ Contains (map owner_of pieces) class → Contains (map owner_of pieces) class
    listed (inl none) = nothing_in class none
    listed (inr there) = there

pub references_exact : (pieces : List Piece) (found : List Reference) → found ≡ insert_all is_same_reference [] (flat_map piece_references pieces) → (one : Reference) → Contains found one ↔ IsReference pieces one
references_exact pieces found e one = (λ h. from_references pieces one (listed (from-insert_all is_same_reference [] (flat_map piece_references pieces) one (subst (λ (l : List Reference). Contains l one) e h))), λ r. subst (λ (l : List Reference). Contains l one) (sym e) (each-insert_all is_same_reference same_reference [] (flat_map piece_references pieces) one (into_references pieces r.piece one r.among r.refers)))
  where
    listed : Contains [] one ⊎ Contains (flat_map piece_references pieces) one → Contains (flat_map piece_references pieces) one
    listed (inl none) = nothing_in one none
    listed (inr there) = there

from_one : (piece : Piece) (one : Reference) → Contains (piece_references piece) one → piece.owner ≡ one.from
from_one piece one h = elim (Contains-append_cases (map (reference_by piece.owner) piece.uses) (reference piece.owner object ∷ []) one h) [ inl used ↦ by_uses piece.uses used | inr last ↦ ap (λ (r : Reference). r.from) (only_one (reference piece.owner object) one last) ]
  where
    by_uses : (bindings : List Binding) → Contains (map (reference_by piece.owner) bindings) one → piece.owner ≡ one.from
    by_uses [] there = nothing_in one there
    by_uses (b ∷ bs) there = elim (cons_cases (reference_by piece.owner b) one (map (reference_by piece.owner) bs) there) [ inl first ↦ ap (λ (r : Reference). r.from) first | inr later ↦ by_uses bs later ]

-- a class that refers to another owns a piece
pub owners_refer : OwnersAloneRefer
owners_refer pieces graph one is there = let r = (is.references one).0 there in (is.owners one.from).1 (record { piece = r.piece; among = r.among; owner = from_one r.piece one r.refers })
