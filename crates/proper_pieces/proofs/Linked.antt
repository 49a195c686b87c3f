-- No two pieces of a linked world declare one name.
use Rattle.std.proofs.Common.{◌≡◌, ◌≤◌, ◌<◌, ◌⊎◌, ◌++◌, Bool, true, false, List, [], ◌∷◌, Option, Some, None, IsTrue, inl, inr, refl, sym, ap, subst, ◌∙◌, map, Contains, arith, if◌then◌else◌}
use Rattle.std.specs.List.{flat_map}
use Rattle.std.specs.Prelude.{is_some}
use Rattle.std.proofs.lemmas.List.Elements.{Contains-append_cases}
use Rattle.std.proofs.lemmas.List.Sorted.{Contains-permutation, IsPermutation-sym}
use Rattle.linked_pieces.proofs.Plain.{class_found}
use Rattle.sj_emit_help_spec.specs.Helpers.{Above, helper_name, helper_piece}
use Rattle.sj_emit_help_spec.specs.declared.kinds.Helper.{Helper}
use Rattle.sj_emit_help_spec.specs.declared.kinds.Helper.TheVariants as helpers
use Rattle.js_mean.specs.Proper.{are_distinct, item_names}
use Rattle.js_tree.specs.Terms.{Name, Piece}
use Rattle.linked_pieces.specs.Dispatched.{OfDispatched, HasLesserPiece, AreDispatchPieces}
use Rattle.linked_pieces.specs.Reflected.{OfReflected, AreReflectivePieces, AreToldPieces}
use Rattle.linked_pieces.specs.Order.{AreInOrder, StandsBefore, AreMethodsOf, HasLesserName}
use Rattle.linked_pieces.specs.Pieces.{piece_of_member, Block, IsBlock, AreBlocks, HasLesserWord, pieces_of_block, with_helpers, AreLinkedPieces}
use Rattle.linked_pieces.proofs.Fields.{is_same_field, fields_apart, from_key, moved}
use Rattle.linked_pieces.proofs.Names.{weaker}
use Rattle.linked_pieces.proofs.One.{never_class, reached_apart, reached_static}
use Rattle.linked_pieces.specs.Classes.{AreClassPieces, AreParts, AreStatics, absent, present}
use Rattle.linked_pieces.specs.SjEmitClassSpecPieces.{Parts, pieces}
use Rattle.proper_pieces.specs.Laws.{AreNamed, NamesOfPiecesDiffer}
use Rattle.proper_pieces.specs.Modules.{item_of}
use Rattle.sj_emit_expr_spec.specs.Templates.{member_name}
use Rattle.sj_names.proofs.Same.{impossible}
use Rattle.sj_names.specs.Grammar.{is_class_name}
use Rattle.sj_names.specs.WellKnown.{is_object}
use Rattle.linked_pieces.specs.EmittedMethods.{EmittedMethod}
use Rattle.sj_split.proofs.Members.{at_first, further, Mapped, from_map}
use Rattle.sj_split.proofs.Unique.{never_both}
use Rattle.sj_split.specs.Orders.{IsBefore}
use Rattle.sj_trees.specs.declared.classes.ClassDef.{ClassDef}
use Rattle.sj_trees.specs.declared.classes.FieldDef.{FieldDef}
use Rattle.sj_world.specs.Known.{Classes, class_of}
use Rattle.sj_world.specs.Linked.{Linked}
use Rattle.worklist.proofs.Inserted.{nothing_in}
use Rattle.proper_pieces.proofs.Apart.{Differ, AreApart, order_joined, told_apart}
use Rattle.proper_pieces.proofs.Names.{rank, Owns, owns_function, owns_helper, owns_dispatch, owns_reflective, one_owner, function_rank, helper_rank, dispatch_rank, reflective_rank}
use Rattle.proper_pieces.proofs.Parts.{HaveOwnNames, DeclaresItself, Segment, no_pieces, joined, NamesDiffer, own_segment}

pub order_mapped : {A B : Type 0} (R : A → A → Type 0) (S : B → B → Type 0) (f : A → B) (xs : List A) → ((x y : A) → R x y → S (f x) (f y)) → AreInOrder R xs → AreInOrder S (map f xs)
order_mapped R S f [] g h = tt
order_mapped {A} {B} R S f (x ∷ xs) g h = ((λ y i. go y (from_map f xs y i)), order_mapped R S f xs g h.1)
  where
    go : (y : B) → Mapped f xs y → S (f x) y
    go y m = subst (λ (z : B). S (f x) z) m.is (g x m.item (h.0 m.item m.among))

not_before : (a b : Name) → IsBefore a b → Differ a b
not_before a b h e = let k : IsBefore a a = subst (λ (n : Name). IsBefore a n) (sym e) h in never_both a a k k

each_mapped : {A : Type 0} (P : Piece → Type 0) (f : A → Piece) (xs : List A) → ((x : A) → Contains xs x → P (f x)) → (p : Piece) → Contains (map f xs) p → P p
each_mapped P f xs h p i = let m = from_map f xs p i in subst P m.is (h m.item m.among)

methods_segment : (w : Classes) (all : List EmittedMethod) (c : Name) (fs : List EmittedMethod) → AreMethodsOf all c fs → Segment c 9 10 (map (piece_of_member w) fs)
methods_segment w all c fs h = record {
  onward = omega arith;
  differ = order_mapped HasLesserName HaveOwnNames (piece_of_member w) fs (λ a b k. not_before (member_name a.member) (member_name b.member) k) h.in_order;
  from = each_mapped (λ p. 9 ≤ rank p.name) (piece_of_member w) fs (λ e i. let r = function_rank e.member.namespace e.member.class e.member.method in omega (arith, r));
  below = each_mapped (λ p. rank p.name < 10) (piece_of_member w) fs (λ e i. let r = function_rank e.member.namespace e.member.class e.member.method in omega (arith, r));
  owns = each_mapped (λ p. Owns c p.name) (piece_of_member w) fs (λ e i. subst (λ (d : Name). Owns d (member_name e.member)) ((h.exact e).0 i).1 (owns_function e.member.namespace e.member.class e.member.method));
  declares = each_mapped DeclaresItself (piece_of_member w) fs (λ e i is. refl);
}

helper_declares : (above : Above) (h : Helper) → DeclaresItself (helper_piece above h)
helper_declares above (helpers.TestOf k) = λ is. refl
helper_declares above (helpers.CastTo k) = λ is. refl
helper_declares above (helpers.ConstantsOf k) = λ is. refl
helper_declares above helpers.NotNull = λ is. refl
helper_declares above helpers.IntQuotient = λ is. refl
helper_declares above helpers.IntRemainder = λ is. refl
helper_declares above helpers.LongQuotient = λ is. refl
helper_declares above helpers.LongRemainder = λ is. refl
helper_declares above helpers.BoxedChar = λ is. refl
helper_declares above helpers.Equal = λ is. refl
helper_declares above helpers.ArrayClass = λ is. refl
helper_declares above helpers.MakeArray = λ is. refl
helper_declares above helpers.CheckIndex = λ is. refl
helper_declares above helpers.Get = λ is. refl
helper_declares above helpers.Set = λ is. refl
helper_declares above helpers.Put = λ is. refl
helper_declares above helpers.Covers = λ is. refl
helper_declares above helpers.Fits = λ is. refl
helper_declares above helpers.ClassOf = λ is. refl
helper_declares above helpers.TestOfArray = λ is. refl
helper_declares above helpers.CastToArray = λ is. refl
helper_declares above (helpers.Throws f) = λ is. refl

helpers_segment : (above : Above) (c : Name) (hs : List Helper) → is_object c ≡ true → AreInOrder HasLesserWord hs → Segment c 10 11 (map (helper_piece above) hs)
helpers_segment above c hs o h = record {
  onward = omega arith;
  differ = order_mapped HasLesserWord HaveOwnNames (helper_piece above) hs (λ a b k. not_before (helper_name a) (helper_name b) k) h;
  from = each_mapped (λ p. 10 ≤ rank p.name) (helper_piece above) hs (λ g i. let r = helper_rank g in omega (arith, r));
  below = each_mapped (λ p. rank p.name < 11) (helper_piece above) hs (λ g i. let r = helper_rank g in omega (arith, r));
  owns = each_mapped (λ p. Owns c p.name) (helper_piece above) hs (λ g i. owns_helper c g o);
  declares = each_mapped DeclaresItself (helper_piece above) hs (λ g i. helper_declares above g);
}

-- the functions that tell receivers apart
dispatched_rank : (l : Linked) (ps : List Piece) (p : Piece) → OfDispatched l ps p → rank p.name ≡ 11
dispatched_rank l ps p o = ap (λ (q : Piece). rank q.name) o.is_piece.piece_is ∙ dispatch_rank o.method

dispatch_segment : (l : Linked) (ps told : List Piece) (c : Name) → is_object c ≡ true → AreDispatchPieces l ps told → Segment c 11 12 told
dispatch_segment l ps told c o h = record {
  onward = omega arith;
  differ = weaker HasLesserPiece HaveOwnNames told (λ p q i j k. not_before p.name q.name k) h.in_order;
  from = λ p i. (let r = dispatched_rank l ps p (h.made p i) in omega (arith, r));
  below = λ p i. (let r = dispatched_rank l ps p (h.made p i) in omega (arith, r));
  owns = λ p i. (let d = h.made p i in subst (λ (q : Piece). Owns c q.name) (sym d.is_piece.piece_is) (owns_dispatch c d.method o));
  declares = λ p i. subst DeclaresItself (sym (h.made p i).is_piece.piece_is) (λ is. refl);
}

reflected_rank : (l : Linked) (ps : List Piece) (p : Piece) → OfReflected l ps p → rank p.name ≡ 12
reflected_rank l ps p o = ap (λ (q : Piece). rank q.name) o.is_piece.piece_is ∙ reflective_rank o.method

reflective_segment : (l : Linked) (ps told : List Piece) (c : Name) → is_object c ≡ true → AreReflectivePieces l ps told → Segment c 12 13 told
reflective_segment l ps told c o h = record {
  onward = omega arith;
  differ = weaker HasLesserPiece HaveOwnNames told (λ p q i j k. not_before p.name q.name k) h.in_order;
  from = λ p i. (let r = reflected_rank l ps p (h.made p i) in omega (arith, r));
  below = λ p i. (let r = reflected_rank l ps p (h.made p i) in omega (arith, r));
  owns = λ p i. (let d = h.made p i in subst (λ (q : Piece). Owns c q.name) (sym d.is_piece.piece_is) (owns_reflective c d.method o));
  declares = λ p i. subst DeclaresItself (sym (h.made p i).is_piece.piece_is) (λ is. refl);
}

told_segment : (l : Linked) (ps told : List Piece) (c : Name) → is_object c ≡ true → AreToldPieces l ps told → Segment c 11 13 told
told_segment l ps told c o h = subst (Segment c 11 13) (sym h.told_are) (joined c 11 12 13 h.methods h.names (dispatch_segment l ps h.methods c o h.are_methods) (reflective_segment l ps h.names c o h.are_names))

wider : (c : Name) (ps : List Piece) → Segment c 0 10 ps → Segment c 0 13 ps
wider c ps h = record { onward = omega arith; differ = h.differ; from = h.from; below = λ p i. (let b = h.below p i in omega (arith, b)); owns = h.owns; declares = h.declares }

-- pieces of these classes, whose names differ
record Known (cs : List Name) (ps : List Piece) : Type 0 where
  pub differ : AreInOrder HaveOwnNames ps
  pub owner : (p : Piece) → Contains ps p → (c : Name) × Contains cs c × Owns c p.name
  pub declares : (p : Piece) → Contains ps p → DeclaresItself p

pub names_are : (ps : List Piece) → ((p : Piece) → Contains ps p → DeclaresItself p) → item_names (map item_of ps) ≡ map (λ (p : Piece). p.name) ps
names_are [] h = refl
names_are (p ∷ ps) h = h p (at_first p ps) (map item_of ps) ∙ ap (λ (ns : List Name). p.name ∷ ns) (names_are ps (λ q i. h q (further p q ps i)))

module _ (l : Linked) (all : List EmittedMethod) (named : AreNamed l.world) where
  class_is_named : (c : Name) → is_some (class_of l.world c) ≡ true → IsTrue (is_class_name c)
  class_is_named c h = go (class_of l.world c) refl h
    where
      go : (o : Option ClassDef) → class_of l.world c ≡ o → is_some o ≡ true → IsTrue (is_class_name c)
      go None e k = impossible k
      go (Some d) e k = let f = class_found l.world c d e in subst (λ (n : Name). IsTrue (is_class_name n)) f.1 (named.class_names d f.0)

  statics_apart : (c : Name) (p : Parts) → AreParts l c p → NamesDiffer p.statics
  statics_apart c p h = weaker (λ f g. is_same_field f g ≡ false) (λ (f g : FieldDef). Differ f.name g.name) p.statics differ (moved s.reached p.statics s.sorted.exact (reached_apart l.world named.kept l.entries l.facts l.facts (λ f. ((λ i. i), (λ i. i))) c p.class.fields s.reached (fields_apart p.class (named.kept p.class (class_found l.world c p.class h.class_is).0)) s.are_reached))
    where
      s : AreStatics l.facts c p.class.fields p.statics
      s = h.statics

      marked : (f : FieldDef) → Contains p.statics f → f.is_static ≡ true
      marked f i = reached_static l.world named.kept l.entries l.facts l.facts (λ f. ((λ i. i), (λ i. i))) c p.class.fields s.reached s.are_reached f (Contains-permutation p.statics s.reached f (IsPermutation-sym s.reached p.statics s.sorted.exact) i)

      differ : (f g : FieldDef) → Contains p.statics f → Contains p.statics g → is_same_field f g ≡ false → Differ f.name g.name
      differ f g i k distinct e = impossible (sym distinct ∙ from_key f g (λ j. record { is_static = (marked f i ∙ sym (marked g k)) j; name = e j }))

  own_of : (c : Name) (ps : List Piece) → AreClassPieces l c ps → Segment c 0 9 ps
  own_of c ps (absent e is) = subst (Segment c 0 9) (sym is) (no_pieces c 0 9 (omega arith))
  own_of c ps (present p parts is) =
      let f = class_found l.world c p.class parts.class_is in
      subst (Segment c 0 9) (sym is) (subst (λ (n : Name). Segment n 0 9 (pieces p)) f.1 (own_segment p (named.class_names p.class f.0) (statics_apart c p parts)))

  block_segment : (c : Name) (b : Block) → IsBlock l all c b → Segment c 0 10 (pieces_of_block l.world b)
  block_segment c b h = joined c 0 9 10 b.own (map (piece_of_member l.world) b.methods) (own_of c b.own h.own) (methods_segment l.world all c b.methods h.methods)

  -- the pieces of a class in front of those of others
  known_more : (c : Name) (cs : List Name) (here later : List Piece) → ((d : Name) → Contains cs d → StandsBefore l.world c d) → IsTrue (is_class_name c) → ((d : Name) → Contains cs d → IsTrue (is_class_name d)) → Segment c 0 13 here → Known cs later → Known (c ∷ cs) (here ++ later)
  known_more c cs here later before its_name names s rest = record {
    differ = order_joined HaveOwnNames here later s.differ rest.differ (λ p q i j e. apart p q (s.owns p i) (rest.owner q j) e);
    owner = λ p i. owned p (Contains-append_cases here later p i);
    declares = λ p i. declared p (Contains-append_cases here later p i);
  }
    where
      apart : (p q : Piece) → Owns c p.name → (d : Name) × Contains cs d × Owns d q.name → p.name ≡ q.name → ⊥
      apart p q mine (d, among, its) e =
          let same : d ≡ c = one_owner d c q.name (names d among) its_name its (subst (Owns c) e mine) in
          let itself : StandsBefore l.world c c = subst (λ (x : Name). StandsBefore l.world c x) same (before d among) in
          never_class l.world c c itself itself

      owned : (p : Piece) → Contains here p ⊎ Contains later p → (d : Name) × Contains (c ∷ cs) d × Owns d p.name
      owned p (inl i) = (c, at_first c cs, s.owns p i)
      owned p (inr i) = let r = rest.owner p i in (r.0, further c r.0 cs r.1, r.2)

      declared : (p : Piece) → Contains here p ⊎ Contains later p → DeclaresItself p
      declared p (inl i) = s.declares p i
      declared p (inr i) = rest.declares p i

  module _ (behind : List Piece) (stand : (c : Name) → is_object c ≡ true → Segment c 10 13 behind) where
    whole_segment : (c : Name) (b : Block) → IsBlock l all c b → Segment c 0 13 (with_helpers l.world behind b)
    whole_segment c b h = go (is_object b.class) refl
      where
        go : (t : Bool) → is_object b.class ≡ t → Segment c 0 13 (if t then pieces_of_block l.world b ++ behind else pieces_of_block l.world b)
        go true e = joined c 0 10 13 (pieces_of_block l.world b) behind (block_segment c b h) (stand c (subst (λ (n : Name). is_object n ≡ true) h.class_is e))
        go false e = wider c (pieces_of_block l.world b) (block_segment c b h)

    known_blocks : (cs : List Name) (bs : List Block) → AreBlocks l all cs bs → AreInOrder (StandsBefore l.world) cs → ((c : Name) → Contains cs c → IsTrue (is_class_name c)) → Known cs (flat_map (with_helpers l.world behind) bs)
    known_blocks [] [] h o n = record { differ = tt; owner = λ p i. nothing_in p i; declares = λ p i. nothing_in p i }
    known_blocks [] (b ∷ bs) h o n = absurd h
    known_blocks (c ∷ cs) [] h o n = absurd h
    known_blocks (c ∷ cs) (b ∷ bs) h o n = known_more c cs (with_helpers l.world behind b) (flat_map (with_helpers l.world behind) bs) o.0 (n c (at_first c cs)) (λ d i. n d (further c d cs i)) (whole_segment c b h.0) (known_blocks cs bs h.1 o.1 (λ d i. n d (further c d cs i)))

  pub linked_differ : (ps : List Piece) → AreLinkedPieces l all ps → AreInOrder HaveOwnNames ps × ((p : Piece) → Contains ps p → DeclaresItself p)
  linked_differ ps h =
      let helpers = map (helper_piece h.above) h.helpers in
      let stand : (c : Name) → is_object c ≡ true → Segment c 10 13 (helpers ++ h.told) = λ c o. joined c 10 11 13 helpers h.told (helpers_segment h.above c h.helpers o h.are_helpers.in_order) (told_segment l (flat_map (pieces_of_block l.world) h.blocks) h.told c o h.are_told) in
      let k = known_blocks (helpers ++ h.told) stand h.classes h.blocks h.are_blocks h.are_classes.in_order (λ c i. class_is_named c ((h.are_classes.exact c).0 i)) in
      subst (λ (qs : List Piece). AreInOrder HaveOwnNames qs × ((p : Piece) → Contains qs p → DeclaresItself p)) (sym h.pieces_are) (k.differ, k.declares)

pub names_distinct : (ps : List Piece) → AreInOrder HaveOwnNames ps → AreApart (map (λ (p : Piece). p.name) ps)
names_distinct ps h = order_mapped HaveOwnNames Differ (λ (p : Piece). p.name) ps (λ p q k. k) h

pub names_of_pieces_differ : NamesOfPiecesDiffer
names_of_pieces_differ l all ps named h = let k = linked_differ l all named ps h in ap are_distinct (names_are ps k.1) ∙ told_apart (map (λ (p : Piece). p.name) ps) (names_distinct ps k.0)
