-- The pieces of a linked world are one list.
use Rattle.std.proofs.Common.{◌≡◌, ◌↔◌, ◌++◌, Bool, true, false, not, List, [], ◌∷◌, Some, None, IsTrue, refl, sym, ap, subst, ◌∙◌, map, length, Contains, arith}
use Rattle.std.specs.List.{filter, flat_map}
use Rattle.std.specs.Prelude.{reverse}
use Rattle.std.proofs.lemmas.List.{reverse-reverse}
use Rattle.std.proofs.lemmas.List.Sorted.{Contains-permutation, IsPermutation-reverse}
use Rattle.sj_emit_help_spec.specs.Helpers.{helper_name, helper_piece}
use Rattle.sj_emit_help_spec.specs.Words.{kind_class, worded_kinds}
use Rattle.sj_emit_help_spec.specs.declared.kinds.Helper.{Helper}
use Rattle.sj_emit_help_spec.specs.declared.kinds.Kind.{Kind}
use Rattle.js_tree.specs.Terms.{Piece}
use Rattle.agree_programs.proofs.Plain.{class_found}
use Rattle.agree_programs.specs.Entries.{IsLive}
use Rattle.agree_programs.specs.Classes as classes
use Rattle.agree_programs.specs.Classes.{AreClassPieces, AreParts, AreInstances, AreReached, AreSorted, AreStatics, HasForm, absent, present, is_own}
use Rattle.agree_programs.specs.Pieces.{Parts, pieces}
use Rattle.agree_programs.specs.Templates.{member_name}
use Rattle.sj_infos.specs.declared.forms.BodyForm.{BodyForm}
use Rattle.sj_infos.specs.declared.forms.BodyForm.TheVariants as forms
use Rattle.sj_local.specs.Broken.{FirstBroken}
use Rattle.sj_names.proofs.Same.{impossible}
use Rattle.agree_programs.specs.EmittedMethods.{EmittedMethod}
use Rattle.sj_split.proofs.Unique.{never_both}
use Rattle.sj_trees.specs.declared.classes.ClassDef.{ClassDef}
use Rattle.sj_trees.specs.declared.classes.FieldDef.{FieldDef}
use Rattle.sj_world.specs.Ancestors.{IsAncestor}
use Rattle.sj_world.specs.Known.{Name, Classes, class_of}
use Rattle.sj_world.specs.Linked.{Linked}
use Rattle.sj_world.specs.Tables.{AreAncestors}
use Rattle.sj_world.specs.declared.facts.Fact.{Fact}
use Rattle.sj_world.specs.declared.facts.Fact.TheVariants as fact
use Rattle.sj_world.specs.declared.linked.MethodEntry.{MethodEntry}
use Rattle.linked_pieces.specs.Laws.{LinkedPiecesAreOne}
use Rattle.linked_pieces.specs.Order.{StandsBefore, by_ancestors, by_name, AreClasses, HasLesserName, AreMethodsOf}
use Rattle.linked_pieces.specs.Pieces.{Block, IsBlock, AreBlocks, HasLesserWord, IsUsed, AreHelpers, pieces_of_block, with_helpers, AreLinkedPieces}
use Rattle.linked_pieces.proofs.Reflected.{one_told}
use Rattle.linked_pieces.specs.Reflected.{HasOneTarget}
use Rattle.linked_pieces.proofs.Fields.{Apart, moved, fields_apart, one_sorting, picked_among, picked_apart, picks_filter}
use Rattle.linked_pieces.proofs.Names.{one_ancestors}
use Rattle.linked_pieces.proofs.Order.{one_order}
use Rattle.linked_pieces.proofs.Picked.{Picks, nothing, taken, left, one_pick, last_first}

one_mark : (a b : Bool) {P Q : Type 0} → IsTrue a ↔ P → IsTrue b ↔ Q → P ↔ Q → a ≡ b
one_mark true true h k e = refl
one_mark false false h k e = refl
one_mark true false h k e = impossible (k.1 (e.0 (h.0 refl)))
one_mark false true h k e = impossible (h.1 (e.1 (k.0 refl)))

module _ (w : Classes) where
  as_many : (c : Name) (xs ys : List Name) → AreAncestors w c xs → AreAncestors w c ys → length xs ≡ length ys
  as_many c xs ys one other = ap length (one_ancestors w c xs ys one other)

  pub never_class : (a b : Name) → StandsBefore w a b → StandsBefore w b a → ⊥
  never_class a b (by_ancestors x y p q l) (by_ancestors u v r s m) = let e = as_many a x v p s in let f = as_many b y u q r in absurd (omega (arith, l, m, e, f))
  never_class a b (by_ancestors x y p q l) (by_name u v r s m n) = let e = as_many a x v p s in let f = as_many b y u q r in absurd (omega (arith, l, m, e, f))
  never_class a b (by_name x y p q l n) (by_ancestors u v r s m) = let e = as_many a x v p s in let f = as_many b y u q r in absurd (omega (arith, l, m, e, f))
  never_class a b (by_name x y p q l n) (by_name u v r s m o) = never_both a b n o

  one_classes : (xs ys : List Name) → AreClasses w xs → AreClasses w ys → xs ≡ ys
  one_classes xs ys one other = one_order (StandsBefore w) never_class xs ys one.in_order other.in_order (λ c. (λ h. (other.exact c).1 ((one.exact c).0 h), λ h. (one.exact c).1 ((other.exact c).0 h)))

  -- the kinds of which values are instances, from the last on
  instances_picked : (c : Name) (ks ts : List Kind) → AreInstances w c ks ts → Picks (λ k. IsAncestor w (kind_class k) c) (reverse ks) (reverse ts)
  instances_picked c _ _ classes.AreInstances.none_yet = nothing
  instances_picked c _ _ (classes.AreInstances.instance k ks ts are h) = subst (λ xs. Picks (λ k. IsAncestor w (kind_class k) c) xs (reverse (ts ++ k ∷ []))) (sym (last_first ks k)) (subst (λ ys. Picks (λ k. IsAncestor w (kind_class k) c) (k ∷ reverse ks) ys) (sym (last_first ts k)) (taken k (reverse ks) (reverse ts) h (instances_picked c ks ts are)))
  instances_picked c _ _ (classes.AreInstances.other k ks ts are h) = subst (λ xs. Picks (λ k. IsAncestor w (kind_class k) c) xs (reverse ts)) (sym (last_first ks k)) (left k (reverse ks) (reverse ts) h (instances_picked c ks ts are))

  one_instances : (c : Name) (ks xs ys : List Kind) → AreInstances w c ks xs → AreInstances w c ks ys → xs ≡ ys
  one_instances c ks xs ys first second = sym (reverse-reverse xs) ∙ ap reverse (one_pick (λ k. IsAncestor w (kind_class k) c) (λ k. IsAncestor w (kind_class k) c) (λ k h. h) (λ k h. h) (reverse ks) (reverse xs) (reverse ys) (instances_picked c ks xs first) (instances_picked c ks ys second)) ∙ reverse-reverse ys

abbrev IsTaken : List Fact → Name → FieldDef → Type 0
IsTaken known c f = IsTrue f.is_static × Contains known (fact.NeededField c f.name true)

reached_picked : (known : List Fact) (c : Name) (fs gs : List FieldDef) → AreReached known c fs gs → Picks (IsTaken known c) (reverse fs) (reverse gs)
reached_picked known c _ _ classes.AreReached.none_yet = nothing
reached_picked known c _ _ (classes.AreReached.reached f fs gs are s h) = subst (λ xs. Picks (IsTaken known c) xs (reverse (gs ++ f ∷ []))) (sym (last_first fs f)) (subst (λ ys. Picks (IsTaken known c) (f ∷ reverse fs) ys) (sym (last_first gs f)) (taken f (reverse fs) (reverse gs) (s, h) (reached_picked known c fs gs are)))
reached_picked known c _ _ (classes.AreReached.other f fs gs are h) = subst (λ xs. Picks (IsTaken known c) xs (reverse gs)) (sym (last_first fs f)) (left f (reverse fs) (reverse gs) (λ t. h t.0 t.1) (reached_picked known c fs gs are))

not_marked : (b : Bool) → not b ≡ true → b ≡ false
not_marked true h = impossible h
not_marked false h = refl

in_reverse : {A : Type 0} (xs : List A) (x : A) → Contains xs x → Contains (reverse xs) x
in_reverse xs x h = Contains-permutation xs (reverse xs) x (IsPermutation-reverse xs) h

module _ (w : Classes) (kept : (c : ClassDef) → Contains w c → FirstBroken c None) (entries : List MethodEntry) where
  abbrev with_facts : List Fact → Linked
  with_facts known = record { world = w; facts = known; entries = entries }

  module _ (one other : List Fact) (to : (f : Fact) → Contains one f → Contains other f) where
    lives : (c : Name) → IsLive w one c → IsLive w other c
    lives c h = record { made = h.made; is_made = to (fact.Made h.made) h.is_made; on_chain = h.on_chain }

    has : (form : BodyForm) → HasForm w one form → HasForm w other form
    has form h = record { member = h.member; needed = to (fact.Body h.member) h.needed; definition = h.definition; defined = h.defined; has = h.has }

    takes : (c : Name) (f : FieldDef) → IsTaken one c f → IsTaken other c f
    takes c f h = (h.0, to (fact.NeededField c f.name true) h.1)

  module _ (known more : List Fact) (same : (f : Fact) → Contains known f ↔ Contains more f) where
    abbrev to : (f : Fact) → Contains known f → Contains more f
    to f = (same f).0

    abbrev from : (f : Fact) → Contains more f → Contains known f
    from f = (same f).1

    one_reached : (c : Name) (fs xs ys : List FieldDef) → AreReached known c fs xs → AreReached more c fs ys → xs ≡ ys
    one_reached c fs xs ys first second = sym (reverse-reverse xs) ∙ ap reverse (one_pick (IsTaken known c) (IsTaken more c) (takes known more to c) (takes more known from c) (reverse fs) (reverse xs) (reverse ys) (reached_picked known c fs xs first) (reached_picked more c fs ys second)) ∙ reverse-reverse ys

    pub reached_apart : (c : Name) (fs xs : List FieldDef) → Apart fs → AreReached known c fs xs → Apart xs
    reached_apart c fs xs apart are = subst Apart (reverse-reverse xs) (moved (reverse xs) (reverse (reverse xs)) (IsPermutation-reverse (reverse xs)) (picked_apart (IsTaken known c) (reverse fs) (reverse xs) (reached_picked known c fs xs are) (moved fs (reverse fs) (IsPermutation-reverse fs) apart)))

    pub reached_static : (c : Name) (fs xs : List FieldDef) → AreReached known c fs xs → (f : FieldDef) → Contains xs f → f.is_static ≡ true
    reached_static c fs xs are f i = (picked_among (IsTaken known c) (reverse fs) (reverse xs) (reached_picked known c fs xs are) f (in_reverse xs f i)).1.0

    one_statics : (c : Name) (fs xs ys : List FieldDef) → Apart fs → AreStatics known c fs xs → AreStatics more c fs ys → xs ≡ ys
    one_statics c fs xs ys apart one other = one_sorting true one.reached xs ys (reached_apart c fs one.reached apart one.are_reached) (reached_static c fs one.reached one.are_reached) one.sorted (subst (λ zs. AreSorted zs ys) (sym (one_reached c fs one.reached other.reached one.are_reached other.are_reached)) other.sorted)

    one_own : (fs xs ys : List FieldDef) → Apart fs → AreSorted (filter is_own fs) xs → AreSorted (filter is_own fs) ys → xs ≡ ys
    one_own fs xs ys apart one other = one_sorting false (filter is_own fs) xs ys (picked_apart (λ f. is_own f ≡ true) fs (filter is_own fs) (picks_filter is_own fs) apart) (λ f i. not_marked f.is_static (picked_among (λ f. is_own f ≡ true) fs (filter is_own fs) (picks_filter is_own fs) f i).1) one other

    one_parts : (c : Name) (p q : Parts) → AreParts (with_facts known) c p → AreParts (with_facts more) c q → p ≡ q
    one_parts c p q one other =
        let found : Some p.class ≡ Some q.class = sym one.class_is ∙ other.class_is in
        let class : p.class ≡ q.class = cc in
        let apart : Apart p.class.fields = fields_apart p.class (kept p.class (class_found w c p.class one.class_is).0) in
        let ancestors : p.ancestors ≡ q.ancestors = one_ancestors w c p.ancestors q.ancestors one.ancestors other.ancestors in
        let its_entries : p.entries ≡ q.entries = one.entries ∙ sym other.entries in
        let fields : p.fields ≡ q.fields = one_own p.class.fields p.fields q.fields apart one.fields (subst (λ (k : ClassDef). AreSorted (filter is_own k.fields) q.fields) (sym class) other.fields) in
        let statics : p.statics ≡ q.statics = one_statics c p.class.fields p.statics q.statics apart one.statics (subst (λ (k : ClassDef). AreStatics more c k.fields q.statics) (sym class) other.statics) in
        let instances : p.instances ≡ q.instances = one_instances w c worded_kinds p.instances q.instances one.instances other.instances in
        let form : (f : BodyForm) → HasForm w known f ↔ HasForm w more f = λ f. (has known more to f, has more known from f) in
        (λ i. record {
          class = class i;
          ancestors = ancestors i;
          entries = its_entries i;
          fields = fields i;
          statics = statics i;
          instances = instances i;
          is_live = one_mark p.is_live q.is_live one.live other.live (lives known more to c, lives more known from c) i;
          is_base = one_mark p.is_base q.is_base one.base other.base (form (forms.Base c)) i;
          is_loaded = one_mark p.is_loaded q.is_loaded one.loaded other.loaded (form (forms.Load c)) i;
          is_stored = one_mark p.is_stored q.is_stored one.stored other.stored (form (forms.Store c)) i;
          is_tested = one_mark p.is_tested q.is_tested one.tested other.tested (form (forms.Test c)) i;
          is_cast = one_mark p.is_cast q.is_cast one.cast other.cast (form (forms.Cast c)) i;
        })

    unfound : {A : Type 0} (c : Name) (k : ClassDef) → class_of w c ≡ None → class_of w c ≡ Some k → A
    unfound c k e f = absurd (cc)

    one_own_pieces : (c : Name) (ps qs : List Piece) → AreClassPieces (with_facts known) c ps → AreClassPieces (with_facts more) c qs → ps ≡ qs
    one_own_pieces c ps qs (absent e is) (absent f is_too) = is ∙ sym is_too
    one_own_pieces c ps qs (absent e is) (present q parts is_too) = unfound c q.class e parts.class_is
    one_own_pieces c ps qs (present p parts is) (absent f is_too) = unfound c p.class f parts.class_is
    one_own_pieces c ps qs (present p parts is) (present q others is_too) = is ∙ ap pieces (one_parts c p q parts others) ∙ sym is_too

    never_name : (a b : EmittedMethod) → HasLesserName a b → HasLesserName b a → ⊥
    never_name a b h k = never_both (member_name a.member) (member_name b.member) h k

    one_methods : (all others : List EmittedMethod) → ((e : EmittedMethod) → Contains all e ↔ Contains others e) → (c : Name) (fs gs : List EmittedMethod) → AreMethodsOf all c fs → AreMethodsOf others c gs → fs ≡ gs
    one_methods all others each c fs gs one other = one_order HasLesserName never_name fs gs one.in_order other.in_order (λ e. (λ h. let q = (one.exact e).0 h in (other.exact e).1 ((each e).0 q.0, q.1), λ h. let q = (other.exact e).0 h in (one.exact e).1 ((each e).1 q.0, q.1)))

    one_block : (all others : List EmittedMethod) → ((e : EmittedMethod) → Contains all e ↔ Contains others e) → (c : Name) (a b : Block) → IsBlock (with_facts known) all c a → IsBlock (with_facts more) others c b → a ≡ b
    one_block all others each c a b one other =
        let class : a.class ≡ b.class = one.class_is ∙ sym other.class_is in
        let own : a.own ≡ b.own = one_own_pieces c a.own b.own one.own other.own in
        let methods : a.methods ≡ b.methods = one_methods all others each c a.methods b.methods one.methods other.methods in
        (λ i. record { class = class i; own = own i; methods = methods i })

    one_blocks : (all others : List EmittedMethod) → ((e : EmittedMethod) → Contains all e ↔ Contains others e) → (cs : List Name) (xs ys : List Block) → AreBlocks (with_facts known) all cs xs → AreBlocks (with_facts more) others cs ys → xs ≡ ys
    one_blocks all others each [] [] [] one other = refl
    one_blocks all others each [] [] (y ∷ ys) one other = absurd other
    one_blocks all others each [] (x ∷ xs) ys one other = absurd one
    one_blocks all others each (c ∷ cs) [] ys one other = absurd one
    one_blocks all others each (c ∷ cs) (x ∷ xs) [] one other = absurd other
    one_blocks all others each (c ∷ cs) (x ∷ xs) (y ∷ ys) one other = (λ i. one_block all others each c x y one.0 other.0 i ∷ one_blocks all others each cs xs ys one.1 other.1 i)

    never_word : (a b : Helper) → HasLesserWord a b → HasLesserWord b a → ⊥
    never_word a b h k = never_both (helper_name a) (helper_name b) h k

    one_helpers : (ps qs : List Piece) (hs gs : List Helper) → ps ≡ qs → AreHelpers ps hs → AreHelpers qs gs → hs ≡ gs
    one_helpers ps qs hs gs same one other = one_order HasLesserWord never_word hs gs one.in_order other.in_order (λ h. (λ i. (other.exact h).1 (subst (λ xs. IsUsed xs h) same ((one.exact h).0 i)), λ i. (one.exact h).1 (subst (λ xs. IsUsed xs h) (sym same) ((other.exact h).0 i))))

    pub one_list : HasOneTarget w → (all others : List EmittedMethod) → ((e : EmittedMethod) → Contains all e ↔ Contains others e) → (ps qs : List Piece) → AreLinkedPieces (with_facts known) all ps → AreLinkedPieces (with_facts more) others qs → ps ≡ qs
    one_list one_target all others each ps qs one other =
        let cs : one.classes ≡ other.classes = one_classes w one.classes other.classes one.are_classes other.are_classes in
        let blocks : one.blocks ≡ other.blocks = one_blocks all others each other.classes one.blocks other.blocks (subst (λ xs. AreBlocks (with_facts known) all xs one.blocks) cs one.are_blocks) other.are_blocks in
        let pieces_too : flat_map (pieces_of_block w) one.blocks ≡ flat_map (pieces_of_block w) other.blocks = ap (flat_map (pieces_of_block w)) blocks in
        let told : one.told ≡ other.told = one_told w one_target entries known more to from (flat_map (pieces_of_block w) one.blocks) (flat_map (pieces_of_block w) other.blocks) one.told other.told pieces_too one.are_told other.are_told in
        let helpers : one.helpers ≡ other.helpers = one_helpers (flat_map (pieces_of_block w) one.blocks ++ one.told) (flat_map (pieces_of_block w) other.blocks ++ other.told) one.helpers other.helpers (λ i. pieces_too i ++ told i) one.are_helpers other.are_helpers in
        let above : one.above ≡ other.above = (λ i k. one_ancestors w (kind_class k) (one.above k) (other.above k) (one.are_above k) (other.are_above k) i) in
        one.pieces_are ∙ (λ i. flat_map (with_helpers w (map (helper_piece (above i)) (helpers i) ++ told i)) (blocks i)) ∙ sym other.pieces_are

pub are_one : LinkedPiecesAreOne
are_one l m all more ps qs kept one_target alike each one other =
    one_list l.world kept l.entries l.facts m.facts alike.facts one_target all more each ps qs one (subst (λ (k : Linked). AreLinkedPieces k more qs) (sym (λ i. record { world = alike.world i; facts = m.facts; entries = alike.entries i })) other)
