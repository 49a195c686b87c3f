-- The functions that tell primitive receivers apart are one list where the same is known.
use Rattle.std.proofs.Common.{◌≡◌, ◌++◌, List, [], ◌∷◌, refl, sym, ap, subst, ◌∙◌, Contains}
use Rattle.std.specs.Prelude.{reverse}
use Rattle.std.proofs.lemmas.List.{reverse-reverse}
use Rattle.sj_emit_help_spec.specs.Words.{kind_class, told_kinds}
use Rattle.sj_emit_help_spec.specs.declared.kinds.Kind.{Kind}
use Rattle.js_tree.specs.Terms.{Piece}
use Rattle.agree_programs.specs.Dispatch.{Told, IsReachedTarget, AreTold, told_none, told, untold, dispatch_piece, IsDispatchPiece}
use Rattle.sj_names.specs.declared.method_names.MethodName.{MethodName}
use Rattle.agree_programs.proofs.Owners.{one_owner}
use Rattle.sj_split.proofs.Unique.{never_both}
use Rattle.sj_world.specs.Known.{Name, Classes}
use Rattle.sj_world.specs.Linked.{Linked}
use Rattle.sj_world.specs.declared.facts.Fact.{Fact}
use Rattle.sj_world.specs.declared.facts.Fact.TheVariants as fact
use Rattle.sj_world.specs.declared.linked.MethodEntry.{MethodEntry}
use Rattle.linked_pieces.specs.Dispatched.{IsDispatched, OfDispatched, HasDispatchPiece, HasLesserPiece, AreDispatchPieces}
use Rattle.linked_pieces.proofs.Order.{one_order}
use Rattle.linked_pieces.proofs.Picked.{last_first}
use Rattle.linked_pieces.proofs.Telling.{Tells, none_tells, tells, passes, one_telling}

-- the case of a kind, whose class has a reached target
abbrev HasCase : Classes → List Fact → MethodName → Kind → Told → Type 0
HasCase w known m k t = (t.kind ≡ k) × IsReachedTarget w known (kind_class k) m t.owner

-- the kinds of which the class has a reached target, from the last on
told_reversed : (w : Classes) (known : List Fact) (m : MethodName) (ks : List Kind) (ts : List Told) → AreTold w known m ks ts → Tells (HasCase w known m) (reverse ks) (reverse ts)
told_reversed w known m _ _ told_none = none_tells
told_reversed w known m _ _ (told k ks owner ts are h) =
    let t : Told = record { kind = k; owner = owner } in
    subst (λ xs. Tells (HasCase w known m) xs (reverse (ts ++ t ∷ []))) (sym (last_first ks k)) (subst (λ ys. Tells (HasCase w known m) (k ∷ reverse ks) ys) (sym (last_first ts t)) (tells k t (reverse ks) (reverse ts) (refl, h) (told_reversed w known m ks ts are)))
told_reversed w known m _ _ (untold k ks ts are none) = subst (λ xs. Tells (HasCase w known m) xs (reverse ts)) (sym (last_first ks k)) (passes k (reverse ks) (reverse ts) (λ t h. none t.owner h.1) (told_reversed w known m ks ts are))

module _ (w : Classes) (entries : List MethodEntry) where
  abbrev with_facts : List Fact → Linked
  with_facts known = record { world = w; facts = known; entries = entries }

  module _ (known more : List Fact) (to : (f : Fact) → Contains known f → Contains more f) where
    pub reached_too : (c : Name) (m : MethodName) (owner : Name) → IsReachedTarget w known c m owner → IsReachedTarget w more c m owner
    reached_too c m owner h = record { is_target = h.is_target; reached = to _ h.reached }

    dispatched_too : (ps qs : List Piece) → ps ≡ qs → (m : MethodName) → IsDispatched (with_facts known) ps m → IsDispatched (with_facts more) qs m
    dispatched_too ps qs same m h = record { named = h.named; receiver = h.receiver; called = to (fact.Called h.receiver m) h.called; user = h.user; among = subst (λ (xs : List Piece). Contains xs h.user) same h.among; uses = h.uses }

  module _ (known more : List Fact) (to : (f : Fact) → Contains known f → Contains more f) (from : (f : Fact) → Contains more f → Contains known f) where
    one_told : (m : MethodName) (ks : List Kind) (xs ys : List Told) → AreTold w known m ks xs → AreTold w more m ks ys → xs ≡ ys
    one_told m ks xs ys first second =
        sym (reverse-reverse xs)
        ∙ ap reverse (one_telling (HasCase w known m) (HasCase w more m) one_case (λ k t h. (h.0, reached_too known more to (kind_class k) m t.owner h.1)) (λ k t h. (h.0, reached_too more known from (kind_class k) m t.owner h.1)) (reverse ks) (reverse xs) (reverse ys) (told_reversed w known m ks xs first) (told_reversed w more m ks ys second))
        ∙ reverse-reverse ys
      where
        one_case : (k : Kind) (a b : Told) → HasCase w known m k a → HasCase w more m k b → a ≡ b
        one_case k a b h g =
            let kind : a.kind ≡ b.kind = h.0 ∙ sym g.0 in
            let owner : a.owner ≡ b.owner = one_owner w (kind_class k) m a.owner b.owner h.1.is_target g.1.is_target in
            (λ i. record { kind = kind i; owner = owner i })

    one_piece : (m : MethodName) (p q : Piece) → IsDispatchPiece w known m p → IsDispatchPiece w more m q → p ≡ q
    one_piece m p q one other = one.piece_is ∙ ap (dispatch_piece m) (one_told m told_kinds one.cases other.cases one.are_told other.are_told) ∙ sym other.piece_is

    -- a piece among the ones is among the others
    among_too : (ps qs xs ys : List Piece) → ps ≡ qs → AreDispatchPieces (with_facts known) ps xs → AreDispatchPieces (with_facts more) qs ys → (p : Piece) → Contains xs p → Contains ys p
    among_too ps qs xs ys same one other p i =
        let made : OfDispatched (with_facts known) ps p = one.made p i in
        let has : HasDispatchPiece (with_facts more) ys made.method = other.each made.method (dispatched_too known more to ps qs same made.method made.dispatched) in
        subst (Contains ys) (sym (one_piece made.method p has.piece made.is_piece has.is_piece)) has.among

  never_piece : (p q : Piece) → HasLesserPiece p q → HasLesserPiece q p → ⊥
  never_piece p q h k = never_both p.name q.name h k

  pub one_dispatch : (known more : List Fact) → ((f : Fact) → Contains known f → Contains more f) → ((f : Fact) → Contains more f → Contains known f) → (ps qs xs ys : List Piece) → ps ≡ qs → AreDispatchPieces (with_facts known) ps xs → AreDispatchPieces (with_facts more) qs ys → xs ≡ ys
  one_dispatch known more to from ps qs xs ys same one other = one_order HasLesserPiece never_piece xs ys one.in_order other.in_order (λ p. (among_too known more to from ps qs xs ys same one other p, among_too more known from to qs ps ys xs (sym same) other one p))
