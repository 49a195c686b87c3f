-- The names that are put.
use Rattle.std.proofs.Common.{◌≡◌, ◌∙◌, ℕ, ◌≤◌, Bool, List, [], ◌∷◌, ◌++◌, Contains, inl, inr, refl, sym, ap, subst, map, length}
use Rattle.std.specs.List.{flat_map, list_any}
use Rattle.std.specs.Prelude.{◌↔◌, ◌⊎◌, IsTrue}
use Rattle.std.proofs.lemmas.List.Elements.{Contains-append_left, Contains-append_right, Contains-append_cases}
use Rattle.std.proofs.lemmas.Map.Made.{is_member-Decides}
use Rattle.std.proofs.lemmas.Slice.Eq.{bytes_eq-Decides}
use Rattle.sj_emit_help_spec.specs.Helpers.{helper_name}
use Rattle.sj_emit_help_spec.specs.Words.{helper, object_class}
use Rattle.sj_emit_help_spec.specs.declared.kinds.Helper.{Helper}
use Rattle.js_tree.specs.Terms.{Name, Piece}
use Rattle.js_tree.specs.Views.{piece_view}
use Rattle.js_tree.specs.declared.items.Binding.{Binding}
use Rattle.js_tree.specs.declared.items.JsPiece.{JsPiece}
use Rattle.sj_baselink.specs.Steps.{Puts, OfOne}
use Rattle.sj_baselink.proofs.Putting.{OfFirst, adds_none, adds_as, adds_then, all_put, each_ends, only_these}
use Rattle.sj_world.specs.Known.{is_same}
use Rattle.sj_split.proofs.Members.{Mapped, into_map, from_map, at_first, further, cons_cases}
use Rattle.worklist.proofs.Inserted.{nothing_in}
use Rattle.world_pieces.specs.declared.blocks.Block.{Block}
use Rattle.world_pieces.specs.declared.helpers.UsedHelper.{UsedHelper}
use Rattle.world_pieces.specs.Blocks.{pieces_in}
use Rattle.world_pieces.specs.Helpers.{UsesWord, IsNamed, every_helper, as_used}
use Rattle.world_pieces.proofs.HelperTable.{stands_in_table}

pub word_among : (words : List Name) (x name : Name) (r : Bool) → name ≡ x → r ≡ list_any (is_same name) words → IsTrue r ↔ Contains words x
word_among words x name r same is =
    let test = is_member-Decides bytes_eq-Decides words x in
    let all = is ∙ ap (λ (n : Name). list_any (is_same n) words) same in
    (λ t. test.0 (sym all ∙ t), λ h. all ∙ test.1 h)

-- a binding of `java.lang.Object`, and any other
pub own_word : (b : Binding) (old new : List Name) → b.owner ≡ object_class → Puts (λ x. b.name ≡ x) old new → Puts (λ x. b ≡ helper x) old new
own_word b old new is f = adds_as Contains (λ x. b.name ≡ x) (λ x. b ≡ helper x) old new (λ x e. (λ i. record { owner = is i; name = e i })) (λ x e. ap (λ (c : Binding). c.name) e) f

pub words_of_uses : (bs : List Binding) (n : ℕ) (old new : List Name) → length bs ≤ n → Puts (OfFirst bs n (λ b x. b ≡ helper x)) old new → Puts (λ x. Contains bs (helper x)) old new
words_of_uses bs n old new over f = adds_as Contains _ (λ x. Contains bs (helper x)) old new (λ x q. subst (λ (b : Binding). Contains bs b) q.holds q.among) (λ x h. record { thing = helper x; among = h; holds = refl }) (each_ends Contains (λ b x. b ≡ helper x) bs n old new over f)

pub words_of_pieces : (ps : List JsPiece) (n : ℕ) (old new : List Name) → length ps ≤ n → Puts (OfFirst ps n (λ p x. UsesWord (piece_view p) x)) old new → Puts (OfOne (map piece_view ps) UsesWord) old new
words_of_pieces ps n old new over f = adds_as Contains (OfOne ps (λ p x. UsesWord (piece_view p) x)) (OfOne (map piece_view ps) UsesWord) old new (λ x q. record { thing = piece_view q.thing; among = into_map piece_view ps q.thing q.among; holds = q.holds }) (λ x q. back x q (from_map piece_view ps q.thing q.among)) (each_ends Contains (λ p x. UsesWord (piece_view p) x) ps n old new over f)
  where
    back : (x : Name) (q : OfOne (map piece_view ps) UsesWord x) → Mapped piece_view ps q.thing → OfOne ps (λ p y. UsesWord (piece_view p) y) x
    back x q m = record { thing = m.item; among = m.among; holds = subst (λ (p : Piece). UsesWord p x) (sym m.is) q.holds }

pub words_of_both : (ps qs : List Piece) (a b c : List Name) → Puts (OfOne ps UsesWord) a b → Puts (OfOne qs UsesWord) b c → Puts (OfOne (ps ++ qs) UsesWord) a c
words_of_both ps qs a b c f g = adds_as Contains _ (OfOne (ps ++ qs) UsesWord) a c to from (adds_then Contains (OfOne ps UsesWord) (OfOne qs UsesWord) a b c f g)
  where
    to : (x : Name) → OfOne ps UsesWord x ⊎ OfOne qs UsesWord x → OfOne (ps ++ qs) UsesWord x
    to x (inl q) = record { thing = q.thing; among = Contains-append_left ps qs q.thing q.among; holds = q.holds }
    to x (inr q) = record { thing = q.thing; among = Contains-append_right ps qs q.thing q.among; holds = q.holds }

    by_place : (x : Name) (q : OfOne (ps ++ qs) UsesWord x) → Contains ps q.thing ⊎ Contains qs q.thing → OfOne ps UsesWord x ⊎ OfOne qs UsesWord x
    by_place x q (inl h) = inl (record { thing = q.thing; among = h; holds = q.holds })
    by_place x q (inr h) = inr (record { thing = q.thing; among = h; holds = q.holds })

    from : (x : Name) → OfOne (ps ++ qs) UsesWord x → OfOne ps UsesWord x ⊎ OfOne qs UsesWord x
    from x q = by_place x q (Contains-append_cases ps qs q.thing q.among)

-- an item whose list holds it
record InOne {X Y : Type 0} (f : X → List Y) (xs : List X) (y : Y) : Type 0 where
  pub item : X
  pub among : Contains xs item
  pub holds : Contains (f item) y

in_one : {X Y : Type 0} (f : X → List Y) (xs : List X) (y : Y) → Contains (flat_map f xs) y → InOne f xs y
in_one f [] y h = nothing_in y h
in_one {X} {Y} f (x ∷ xs) y h = go (Contains-append_cases (f x) (flat_map f xs) y h) (in_one f xs y)
  where
    go : Contains (f x) y ⊎ Contains (flat_map f xs) y → (Contains (flat_map f xs) y → InOne f xs y) → InOne f (x ∷ xs) y
    go (inl here) rest = record { item = x; among = at_first x xs; holds = here }
    go (inr later) rest = let r = rest later in record { item = r.item; among = further x r.item xs r.among; holds = r.holds }

in_all : {X Y : Type 0} (f : X → List Y) (xs : List X) (x : X) (y : Y) → Contains xs x → Contains (f x) y → Contains (flat_map f xs) y
in_all f [] x y h k = nothing_in x h
in_all f (a ∷ xs) x y h k = elim (cons_cases a x xs h) [
  | inl same ↦ Contains-append_left (f a) (flat_map f xs) y (subst (λ z. Contains (f z) y) (sym same) k)
  | inr after ↦ Contains-append_right (f a) (flat_map f xs) y (in_all f xs x y after k)
]

pub words_of_blocks : (bs : List Block) (n : ℕ) (words : List Name) → length bs ≤ n → Puts (OfFirst bs n (λ b x. OfOne (pieces_in b) UsesWord x)) [] words → (x : Name) → Contains words x ↔ OfOne (flat_map pieces_in bs) UsesWord x
words_of_blocks bs n words over f x = (λ h. to (those.0 h), λ q. those.1 (from q))
  where
    those : Contains words x ↔ OfOne bs (λ b y. OfOne (pieces_in b) UsesWord y) x
    those = only_these (λ b y. OfOne (pieces_in b) UsesWord y) bs n words over f x

    to : OfOne bs (λ b y. OfOne (pieces_in b) UsesWord y) x → OfOne (flat_map pieces_in bs) UsesWord x
    to q = record { thing = q.holds.thing; among = in_all pieces_in bs q.thing q.holds.thing q.among q.holds.among; holds = q.holds.holds }

    from : OfOne (flat_map pieces_in bs) UsesWord x → OfOne bs (λ b y. OfOne (pieces_in b) UsesWord y) x
    from q = let o = in_one pieces_in bs q.thing q.among in record { thing = o.item; among = o.among; holds = record { thing = q.thing; among = o.holds; holds = q.holds } }

-- the names that more pieces use
pub words_with : (ps qs : List Piece) (words more : List Name) → ((x : Name) → Contains words x ↔ OfOne ps UsesWord x) → Puts (OfOne qs UsesWord) words more → (x : Name) → Contains more x ↔ OfOne (ps ++ qs) UsesWord x
words_with ps qs words more are puts = all_put (OfOne (ps ++ qs) UsesWord) [] more refl (words_of_both ps qs [] words more (record { exact = λ x. (λ h. inr ((are x).0 h), λ q. from x q) }) puts)
  where
    from : (x : Name) → Contains [] x ⊎ OfOne ps UsesWord x → Contains words x
    from x (inl h) = nothing_in x h
    from x (inr q) = (are x).1 q

-- the helpers of these names
pub named_helpers : (words : List Name) (n : ℕ) (found : List UsedHelper) → length every_helper ≤ n → Puts (OfFirst every_helper n (IsNamed words)) [] found → (u : UsedHelper) → Contains found u ↔ Contains words (helper_name u.helper)
named_helpers words n found over f u =
    let those = only_these (IsNamed words) every_helper n found over f u in
    (λ h. (those.0 h).holds.1, λ h. those.1 (record { thing = u.helper; among = stands_in_table u.helper; holds = (refl, h) }))

pub one_named : (words : List Name) (h : Helper) (old new : List UsedHelper) → Contains words (helper_name h) → Puts (λ u. as_used h ≡ u) old new → Puts (IsNamed words h) old new
one_named words h old new there f = adds_as Contains (λ u. as_used h ≡ u) (IsNamed words h) old new (λ u e. (ap (λ (v : UsedHelper). v.helper) e, subst (λ (v : UsedHelper). Contains words (helper_name v.helper)) e there)) (λ u q. ap as_used q.0) f

pub none_named : (words : List Name) (h : Helper) (old : List UsedHelper) → (Contains words (helper_name h) → ⊥) → Puts (IsNamed words h) old old
none_named words h old missing = adds_none Contains (IsNamed words h) old (λ u q. missing (subst (λ (g : Helper). Contains words (helper_name g)) (sym q.0) q.1))
