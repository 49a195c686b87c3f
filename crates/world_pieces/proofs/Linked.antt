-- The pieces that are laid out are those of a linked world.
use Rattle.std.proofs.Common.{◌≡◌, Bool, true, false, List, [], ◌∷◌, ◌++◌, refl, sym, ap, subst, ◌∙◌, map, cond, Contains}
use Rattle.std.specs.Cmp.{IsStrictWeakOrder}
use Rattle.std.specs.Cmp.Lexicographic.{nat_list_cmp_total}
use Rattle.std.specs.List.{AllByRecursion, IsDistinct, filter, flat_map}
use Rattle.std.specs.Prelude.{if◌then◌else◌}
use Rattle.std.proofs.lemmas.Cmp.{on_total}
use Rattle.std.proofs.lemmas.List.MinMax.{ranks_by}
use Rattle.std.proofs.lemmas.List.Sorted.{Contains-permutation, IsPermutation-map, IsPermutation-sym}
use Rattle.std.proofs.lemmas.Map.Keys.{IsDistinct-cons}
use Rattle.std.proofs.lemmas.Slice.Eq.{bytes_eq-Decides}
use Rattle.sj_emit_help_spec.specs.Helpers.{helper_piece}
use Rattle.js_tree.specs.Terms.{Piece}
use Rattle.js_tree.specs.Views.{piece_view}
use Rattle.js_tree.specs.declared.items.JsPiece.{JsPiece}
use Rattle.linked_pieces.specs.Order.{AreInOrder, AreClasses, AreMethodsOf}
use Rattle.linked_pieces.specs.Pieces as pieces
use Rattle.linked_pieces.specs.Pieces.{piece_of_member, pieces_of_block, IsBlock, AreBlocks, AreHelpers, with_helpers, AreLinkedPieces}
use Rattle.linked_pieces.specs.Reflected.{AreToldPieces}
use Rattle.sj_emit_expr_spec.specs.Templates.{member_name}
use Rattle.sj_names.specs.WellKnown.{is_object}
use Rattle.agree_early_errors.specs.EmittedMethods.{EmittedMethod, HaveOwnMembers}
use Rattle.sj_split.proofs.Members.{at_first, further, into_filter, from_filter}
use Rattle.sj_split.specs.Orders.{IsBefore}
use Rattle.sj_world.specs.Known.{Name, Classes, is_same}
use Rattle.sj_world.specs.Linked.{Linked}
use Rattle.world_pieces.specs.declared.blocks.Block.{Block}
use Rattle.world_pieces.specs.Blocks.{IsMade, AreMade, class_of_block, pieces_in, with_helpers_in}
use Rattle.world_pieces.specs.Functions.{is_owned, has_lesser_name, AreByName}
use Rattle.world_pieces.specs.Names.{NamesTell}
use Rattle.world_pieces.specs.Told.{HaveHelpers, AreBehind}
use Rattle.world_pieces.proofs.InOrder.{before_other, sorted_stand, into_images, from_images}
use Rattle.world_pieces.proofs.Moved.{moved_too}
use Rattle.world_pieces.proofs.Placed.{once_moved}

heads : {X : Type 0} (x y : X) (xs ys : List X) → x ∷ xs ≡ y ∷ ys → x ≡ y
heads x y xs ys e = cc

tails : {X : Type 0} (x y : X) (xs ys : List X) → x ∷ xs ≡ y ∷ ys → xs ≡ ys
tails x y xs ys e = cc

pub map_twice : {X Y Z : Type 0} (f : X → Y) (g : Y → Z) (xs : List X) → map g (map f xs) ≡ map (λ x. g (f x)) xs
map_twice f g [] = refl
map_twice {Z = Z} f g (x ∷ xs) = ap (λ (l : List Z). g (f x) ∷ l) (map_twice f g xs)

abbrev name_in : EmittedMethod → Name
name_in e = member_name e.member

abbrev is_of : Name → EmittedMethod → Bool
is_of c e = is_same e.member.class c

abbrev piece_name : Piece → Name
piece_name p = p.name

abbrev pub function_name : JsPiece → Name
function_name p = p.name

-- the functions of a class are those of its methods
same_passed : (w : Classes) (c : Name) (fs : List JsPiece) (es : List EmittedMethod) → map piece_view fs ≡ map (piece_of_member w) es → map piece_view (filter (is_owned c) fs) ≡ map (piece_of_member w) (filter (is_of c) es)
same_passed w c [] [] same = refl
same_passed w c [] (e ∷ es) same = absurd (nothing _ _ same)
  where
    nothing : (p : Piece) (ps : List Piece) → [] ≡ p ∷ ps → ⊥
    nothing p ps h = cc
same_passed w c (f ∷ fs) [] same = absurd (nothing _ _ same)
  where
    nothing : (p : Piece) (ps : List Piece) → p ∷ ps ≡ [] → ⊥
    nothing p ps h = cc
same_passed w c (f ∷ fs) (e ∷ es) same = go (is_same f.owner c) (is_same e.member.class c) (ap (λ (p : Piece). is_same p.owner c) first) (same_passed w c fs es (tails (piece_view f) (piece_of_member w e) (map piece_view fs) (map (piece_of_member w) es) same))
  where
    first : piece_view f ≡ piece_of_member w e
    first = heads (piece_view f) (piece_of_member w e) (map piece_view fs) (map (piece_of_member w) es) same

    go : (b d : Bool) → b ≡ d → map piece_view (filter (is_owned c) fs) ≡ map (piece_of_member w) (filter (is_of c) es) → map piece_view (cond b (f ∷ filter (is_owned c) fs) (filter (is_owned c) fs)) ≡ map (piece_of_member w) (cond d (e ∷ filter (is_of c) es) (filter (is_of c) es))
    go true true s rest = λ i. first i ∷ rest i
    go false false s rest = rest
    go true false s rest = cc
    go false true s rest = cc

-- the names of methods with members of their own
own_passed : (c : Name) (es : List EmittedMethod) → HaveOwnMembers es → HaveOwnMembers (filter (is_of c) es)
own_passed c [] own = tt
own_passed c (e ∷ es) own = go (is_of c e) (own_passed c es own.1)
  where
    go : (b : Bool) → HaveOwnMembers (filter (is_of c) es) → HaveOwnMembers (cond b (e ∷ filter (is_of c) es) (filter (is_of c) es))
    go true rest = (λ o h. own.0 o (from_filter (is_of c) es o h).among, rest)
    go false rest = rest

pub not_same : (a b : Name) → (a ≡ b → ⊥) → is_same a b ≡ false
not_same a b differ = go (is_same a b) refl
  where
    go : (t : Bool) → is_same a b ≡ t → is_same a b ≡ false
    go true e = absurd (differ ((bytes_eq-Decides a b).0 e))
    go false e = e

other_names : (e : EmittedMethod) (es : List EmittedMethod) → ((o : EmittedMethod) → Contains es o → name_in e ≡ name_in o → ⊥) → AllByRecursion (λ n. is_same (name_in e) n ≡ false) (map name_in es)
other_names e [] differ = tt
other_names e (o ∷ es) differ = (not_same (name_in e) (name_in o) (differ o (at_first o es)), other_names e es (λ p h. differ p (further o p es h)))

pub nothing_distinct : IsDistinct is_same []
unfolding IsDistinct
nothing_distinct = tt

names_once : (es : List EmittedMethod) → HaveOwnMembers es → NamesTell es → IsDistinct is_same (map name_in es)
names_once [] own tell = nothing_distinct
names_once (e ∷ es) own tell = IsDistinct-cons is_same (name_in e) (map name_in es) (other_names e es (λ o h same. own.0 o h (tell e o (at_first e es) (further e o es h) same))) (names_once es own.1 (λ a b i j. tell a b (further e a es i) (further e b es j)))

pub name_ranks : IsStrictWeakOrder has_lesser_name
name_ranks = ranks_by (on_total (λ (p : JsPiece). p.name) nat_list_cmp_total) (λ (p : JsPiece). p)

module _ (l : Linked) (functions : List JsPiece) (all : List EmittedMethod) (given : map piece_view functions ≡ map (piece_of_member l.world) all) (own : HaveOwnMembers all) (tell : NamesTell all) where
  -- the methods of functions
  pub record MethodsOf (c : Name) (fs : List JsPiece) : Type 0 where
    pub methods : List EmittedMethod
    pub are : AreMethodsOf all c methods
    pub images : map piece_view fs ≡ map (piece_of_member l.world) methods

  abbrev of_class : Name → List EmittedMethod
  of_class c = filter (is_of c) all

  methods_of : (c : Name) (fs : List JsPiece) → AreByName (filter (is_owned c) functions) fs → MethodsOf c fs
  methods_of c fs by =
      let m = moved_too piece_view (piece_of_member l.world) (filter (is_owned c) functions) fs (of_class c) (same_passed l.world c functions all given) by.same in
      let names : map function_name fs ≡ map name_in m.moved = sym (map_twice piece_view piece_name fs) ∙ ap (map piece_name) m.images ∙ map_twice (piece_of_member l.world) piece_name m.moved in
      let once : IsDistinct is_same (map name_in m.moved) = once_moved (map name_in (of_class c)) (map name_in m.moved) (IsPermutation-map name_in (of_class c) m.moved m.same) (names_once (of_class c) (own_passed c all own) (λ a b i j. tell a b (from_filter (is_of c) all a i).among (from_filter (is_of c) all b j).among)) in
      let stand : AreInOrder (λ (f g : JsPiece). IsBefore f.name g.name) fs = sorted_stand (λ (f g : JsPiece). IsBefore f.name g.name) has_lesser_name name_ranks function_name (λ _. Unit {0}) (λ f g _ _ differ low. before_other f.name g.name differ low) fs (λ _ _. tt) by.in_order (subst (λ (ns : List Name). IsDistinct is_same ns) (sym names) once) in
      record {
        methods = m.moved;
        are = record {
          exact = λ e. (
            λ h. (let p = from_filter (is_of c) all e (Contains-permutation m.moved (of_class c) e (IsPermutation-sym (of_class c) m.moved m.same) h) in (p.among, (bytes_eq-Decides e.member.class c).0 p.passes)),
            λ h. Contains-permutation (of_class c) m.moved e m.same (into_filter (is_of c) all e h.0 ((bytes_eq-Decides e.member.class c).1 h.1)),
          );
          in_order = from_images IsBefore name_in m.moved (subst (AreInOrder IsBefore) names (into_images IsBefore function_name fs stand));
        };
        images = m.images;
      }

  abbrev Made : Block → Type 0
  Made b = IsMade l (filter (is_owned b.class) functions) b

  its_methods : (b : Block) → Made b → MethodsOf b.class b.functions.items
  its_methods b made = methods_of b.class b.functions.items made.functions_are

  as_block : (b : Block) → Made b → pieces.Block
  as_block b made = record { class = b.class; own = map piece_view b.own.items; methods = (its_methods b made).methods }

  is_block : (b : Block) (made : Made b) → IsBlock l all b.class (as_block b made)
  unfolding as_block
  is_block b made = record { class_is = refl; own = made.own; methods = (its_methods b made).are }

  same_pieces : (b : Block) (made : Made b) → pieces_of_block l.world (as_block b made) ≡ pieces_in b
  unfolding as_block
  same_pieces b made = ap (λ (ps : List Piece). map piece_view b.own.items ++ ps) (sym (its_methods b made).images)

  same_with_helpers : (helpers : List Piece) (b : Block) (made : Made b) → with_helpers l.world helpers (as_block b made) ≡ with_helpers_in helpers b
  unfolding as_block
  same_with_helpers helpers b made = ap (λ (ps : List Piece). if is_object b.class then ps ++ helpers else ps) (same_pieces b made)

  blocks : (bs : List Block) → ((b : Block) → Contains bs b → Made b) → List pieces.Block
  blocks [] each = []
  blocks (b ∷ bs) each = as_block b (each b (at_first b bs)) ∷ blocks bs (λ c h. each c (further b c bs h))

  are_blocks : (bs : List Block) (each : (b : Block) → Contains bs b → Made b) → AreBlocks l all (map class_of_block bs) (blocks bs each)
  unfolding blocks
  are_blocks [] each = tt
  are_blocks (b ∷ bs) each = (is_block b (each b (at_first b bs)), are_blocks bs (λ c h. each c (further b c bs h)))

  all_pieces : (bs : List Block) (each : (b : Block) → Contains bs b → Made b) → flat_map (pieces_of_block l.world) (blocks bs each) ≡ flat_map pieces_in bs
  unfolding blocks
  all_pieces [] each = refl
  all_pieces (b ∷ bs) each = λ i. same_pieces b (each b (at_first b bs)) i ++ all_pieces bs (λ c h. each c (further b c bs h)) i

  all_with_helpers : (helpers : List Piece) (bs : List Block) (each : (b : Block) → Contains bs b → Made b) → flat_map (with_helpers l.world helpers) (blocks bs each) ≡ flat_map (with_helpers_in helpers) bs
  unfolding blocks
  all_with_helpers helpers [] each = refl
  all_with_helpers helpers (b ∷ bs) each = λ i. same_with_helpers helpers b (each b (at_first b bs)) i ++ all_with_helpers helpers bs (λ c h. each c (further b c bs h)) i

  pub are_linked_pieces : (names : List Name) (bs : List Block) (behind ps : List Piece) → AreClasses l.world names → AreMade l functions names bs → AreBehind l (flat_map pieces_in bs) behind → ps ≡ flat_map (with_helpers_in behind) bs → AreLinkedPieces l all ps
  are_linked_pieces names bs behind ps are_classes made are_behind is = record {
    classes = map class_of_block bs;
    are_classes = subst (AreClasses l.world) (sym made.names_are) are_classes;
    blocks = blocks bs made.each;
    are_blocks = are_blocks bs made.each;
    told = are_behind.told;
    are_told = subst (λ (qs : List Piece). AreToldPieces l qs are_behind.told) (sym (all_pieces bs made.each)) are_behind.are_told;
    helpers = have.helpers;
    are_helpers = subst (λ (qs : List Piece). AreHelpers (qs ++ are_behind.told) have.helpers) (sym (all_pieces bs made.each)) have.are_helpers;
    above = have.above;
    are_above = have.are_above;
    pieces_are = is ∙ ap (λ (qs : List Piece). flat_map (with_helpers_in qs) bs) have.are ∙ sym (all_with_helpers (map (helper_piece have.above) have.helpers ++ are_behind.told) bs made.each);
  }
    where
      have : HaveHelpers l.world (flat_map pieces_in bs ++ are_behind.told) are_behind.told behind
      have = are_behind.have_helpers
