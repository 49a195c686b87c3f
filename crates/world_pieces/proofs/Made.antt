-- Blocks, one more.
use Rattle.std.proofs.Common.{◌≡◌, ◌+◌, ℕ, zero, suc, Bool, true, false, List, [], ◌∷◌, ◌++◌, inl, inr, Some, None, refl, sym, ap, subst, ◌∙◌, map, take, slice_get, Contains}
use Rattle.std.specs.List.{IsDistinct, filter}
use Rattle.std.specs.Prelude.{All}
use Rattle.std.proofs.lemmas.List.{map-append}
use Rattle.std.proofs.lemmas.List.Elements.{Contains-push_cases, Contains-push, Contains-append_left, All-nil, All-cons, All-append, All-contains}
use Rattle.std.proofs.lemmas.List.Sorted.{Contains-permutation, IsPermutation-sym}
use Rattle.std.proofs.lemmas.Map.Keys.{IsDistinct-head, IsDistinct-tail}
use Rattle.std.proofs.lemmas.Slice.Eq.{bytes_eq-Decides}
use Rattle.js_tree.specs.Rules.{IsPiece}
use Rattle.js_tree.specs.Terms.{Piece}
use Rattle.js_tree.specs.Views.{piece_view}
use Rattle.js_tree.specs.declared.items.JsPiece.{JsPiece}
use Rattle.sj_split.proofs.Members.{Mapped, at_first, further, cons_cases, into_map, from_map, from_filter}
use Rattle.sj_world.proofs.Names.{taken_more}
use Rattle.sj_world.proofs.Searches.{contains_at}
use Rattle.sj_world.specs.Known.{Name, is_same}
use Rattle.sj_world.specs.Linked.{Linked}
use Rattle.std.specs.List.{flat_map}
use Rattle.worklist.proofs.Inserted.{nothing_in}
use Rattle.world_pieces.specs.declared.blocks.Block.{Block}
use Rattle.world_pieces.specs.Blocks.{IsMade, AreMade, class_of_block, pieces_in}
use Rattle.world_pieces.specs.Functions.{is_owned, AreByName}
use Rattle.world_pieces.proofs.InOrder.{not_among}

-- a name of a list in which each stands once doesn't stand in front of itself
pub not_before : (names : List Name) (i : ℕ) (n : Name) → IsDistinct is_same names → slice_get names i ≡ Some n → Contains (take i names) n → ⊥
not_before [] i n once at h = let none : None ≡ Some n = at in cc
not_before (m ∷ ms) zero n once at h = nothing_in n h
not_before (m ∷ ms) (suc i) n once at h = elim (cons_cases m n (take i ms) h) [ inl e ↦ not_among m ms (IsDistinct-head is_same m ms once) (subst (λ (x : Name). Contains ms x) (sym e) (contains_at ms i n at)) | inr later ↦ not_before ms i n (IsDistinct-tail is_same m ms once) at later ]

-- what stands neither among the first nor next
pub not_yet : (names : List Name) (i : ℕ) (n c : Name) → slice_get names i ≡ Some n → (Contains (take (i + 1) names) c → ⊥) → Contains (take i names) c → ⊥
not_yet names i n c at missing h = missing (subst (λ (l : List Name). Contains l c) (sym (taken_more names i n at)) (Contains-append_left (take i names) (n ∷ []) c h))

pub not_next : (names : List Name) (i : ℕ) (n c : Name) → slice_get names i ≡ Some n → (Contains (take (i + 1) names) c → ⊥) → is_same n c ≡ false
not_next names i n c at missing = go (is_same n c) refl
  where
    here : n ≡ c → Contains (take (i + 1) names) c
    here e = subst (λ (l : List Name). Contains l c) (sym (taken_more names i n at)) (subst (λ (x : Name). Contains (take i names ++ n ∷ []) x) e (Contains-push (take i names) n))

    go : (b : Bool) → is_same n c ≡ b → is_same n c ≡ false
    go true e = absurd (missing (here ((bytes_eq-Decides n c).0 e)))
    go false e = e

pub no_blocks : (l : Linked) (functions : List JsPiece) (names : List Name) (blocks : List Block) → blocks ≡ [] → AreMade l functions (take 0 names) blocks
no_blocks l functions names blocks none = record { names_are = ap (map class_of_block) none; each = λ b h. nothing_in b (subst (λ (bs : List Block). Contains bs b) none h) }

pub one_more : (l : Linked) (functions given : List JsPiece) (names : List Name) (i : ℕ) (n : Name) (block : Block) (old new : List Block) → slice_get names i ≡ Some n → block.class ≡ n → given ≡ filter (is_owned n) functions → IsMade l given block → new ≡ old ++ block ∷ [] → AreMade l functions (take i names) old → AreMade l functions (take (i + 1) names) new
one_more l functions given names i n block old new at is taken made put are = record {
  names_are = ap (map class_of_block) put ∙ map-append class_of_block old (block ∷ []) ∙ (λ t. are.names_are t ++ is t ∷ []) ∙ sym (taken_more names i n at);
  each = λ b h. elim (Contains-push_cases old block b (subst (λ (bs : List Block). Contains bs b) put h)) [ inl older ↦ are.each b older | inr e ↦ subst (λ (c : Block). IsMade l (filter (is_owned c.class) functions) c) e (subst (λ (fs : List JsPiece). IsMade l fs block) (taken ∙ ap (λ (x : Name). filter (is_owned x) functions) (sym is)) made) ];
}

-- each piece of a block keeps the rules
pub all_from : {X : Type 0} (P : X → Type 0) (xs : List X) → ((x : X) → Contains xs x → P x) → All P xs
all_from P [] each = All-nil P
all_from P (x ∷ xs) each = All-cons P x xs (each x (at_first x xs)) (all_from P xs (λ y h. each y (further x y xs h)))

functions_keep : (functions : List JsPiece) (b : Block) → All IsPiece (map piece_view functions) → AreByName (filter (is_owned b.class) functions) b.functions.items → All IsPiece (map piece_view b.functions.items)
functions_keep functions b keep are = all_from IsPiece (map piece_view b.functions.items) (λ p h. one p (from_map piece_view b.functions.items p h))
  where
    one : (p : Piece) → Mapped piece_view b.functions.items p → IsPiece p
    one p m =
        let passed = from_filter (is_owned b.class) functions m.item (Contains-permutation b.functions.items (filter (is_owned b.class) functions) m.item (IsPermutation-sym (filter (is_owned b.class) functions) b.functions.items are.same) m.among) in
        subst IsPiece m.is (All-contains IsPiece (map piece_view functions) (piece_view m.item) keep (into_map piece_view functions m.item passed.among))

each_keeps : (l : Linked) (functions : List JsPiece) → All IsPiece (map piece_view functions) → (bs : List Block) → ((b : Block) → Contains bs b → IsMade l (filter (is_owned b.class) functions) b) → All IsPiece (flat_map pieces_in bs)
each_keeps l functions keep [] each = All-nil IsPiece
each_keeps l functions keep (b ∷ bs) each =
    let made = each b (at_first b bs) in
    All-append IsPiece (pieces_in b) (flat_map pieces_in bs) (All-append IsPiece (map piece_view b.own.items) (map piece_view b.functions.items) made.rules (functions_keep functions b keep made.functions_are)) (each_keeps l functions keep bs (λ c h. each c (further b c bs h)))

pub blocks_keep : (l : Linked) (functions : List JsPiece) (names : List Name) (bs : List Block) → All IsPiece (map piece_view functions) → AreMade l functions names bs → All IsPiece (flat_map pieces_in bs)
blocks_keep l functions names bs keep are = each_keeps l functions keep bs are.each
