-- The fields of a class that keeps the local rules, sorted by their names, are one list.
use Rattle.std.proofs.Common.{◌≡◌, ◌⊎◌, ◌++◌, ◌&&◌, not, ℕ, suc, Bool, true, false, List, [], ◌∷◌, Option, Some, None, inl, inr, refl, sym, ap, subst, ◌∙◌, map, Contains, arith}
use Rattle.std.specs.Prelude.{option_map, filter, cond}
use Rattle.std.specs.Cmp.{IsStrictWeakOrder}
use Rattle.std.specs.Cmp.Lexicographic.{nat_list_cmp_total}
use Rattle.std.specs.List.{AllByRecursion, IsDistinct}
use Rattle.std.specs.List.Sorted.{IsPermutation}
use Rattle.std.specs.Ordering.{is_lt}
use Rattle.std.proofs.lemmas.Bool.{and_parts, and_from}
use Rattle.std.proofs.lemmas.Cmp.{on_total}
use Rattle.std.proofs.lemmas.List.Elements.{Contains-append_left, Contains-append_right}
use Rattle.std.proofs.lemmas.List.MinMax.{ranks_by}
use Rattle.std.proofs.lemmas.List.Sorted.{Contains-permutation, IsPermutation-sym}
use Rattle.std.proofs.lemmas.Map.Keys.{IsDistinct-IsPermutation, IsDistinct-cons}
use Rattle.agree_programs.specs.Classes.{AreSorted, field_cmp}
use Rattle.agree_local_rules.proofs.Classes.{none-each}
use Rattle.sj_local.specs.Broken.{FirstBroken, Breaks, all_rules, repeat_place}
use Rattle.sj_local.specs.Firsts.{FirstRepeat, here, later}
use Rattle.sj_local.specs.MemberRules.{field_key}
use Rattle.sj_local.specs.declared.members.FieldKey.{FieldKey}
use Rattle.sj_local.specs.declared.rules.Rule.TheVariants as rule
use Rattle.sj_names.proofs.Same.{impossible, text-same, text-refl}
use Rattle.sj_names.specs.Same.{is_same_text}
use Rattle.sj_split.proofs.Members.{at_first, further, cons_cases}
use Rattle.sj_trees.specs.declared.classes.ClassDef.{ClassDef}
use Rattle.sj_trees.specs.declared.classes.FieldDef.{FieldDef}
use Rattle.worklist.proofs.Inserted.{nothing_in}
use Rattle.linked_pieces.specs.Order.{AreInOrder}
use Rattle.linked_pieces.proofs.Names.{weaker, distinct_in_order, tied_name}
use Rattle.linked_pieces.proofs.Picked.{Picks, nothing, taken, left}
use Rattle.linked_pieces.proofs.Sorted.{one_sorted}

abbrev pub same_mark : Bool → Bool → Bool
same_mark true b = b
same_mark false b = not b

mark_is : (a b : Bool) → same_mark a b ≡ true → a ≡ b
mark_is true true e = refl
mark_is true false e = impossible e
mark_is false true e = impossible e
mark_is false false e = refl

mark_itself : (a : Bool) → same_mark a a ≡ true
mark_itself true = refl
mark_itself false = refl

-- two fields share their mark and their name
abbrev pub is_same_field : FieldDef → FieldDef → Bool
is_same_field f g = same_mark f.is_static g.is_static && is_same_text f.name g.name

key_is : (f g : FieldDef) → is_same_field f g ≡ true → field_key f ≡ field_key g
key_is f g h = let q = and_parts (same_mark f.is_static g.is_static) (is_same_text f.name g.name) h in (λ i. record { is_static = mark_is f.is_static g.is_static q.0 i; name = text-same f.name g.name q.1 i })

pub from_key : (f g : FieldDef) → field_key f ≡ field_key g → is_same_field f g ≡ true
from_key f g e =
    let mark : f.is_static ≡ g.is_static = ap (λ (k : FieldKey). k.is_static) e in
    let name : f.name ≡ g.name = ap (λ (k : FieldKey). k.name) e in
    and_from (same_mark f.is_static g.is_static) (is_same_text f.name g.name) (subst (λ (b : Bool). same_mark f.is_static b ≡ true) mark (mark_itself f.is_static)) (subst (λ n. is_same_text f.name n ≡ true) name (text-refl f.name))

flips : (f g : FieldDef) → is_same_field f g ≡ is_same_field g f
flips f g = go (is_same_field f g) (is_same_field g f) refl refl
  where
    go : (p q : Bool) → is_same_field f g ≡ p → is_same_field g f ≡ q → p ≡ q
    go true true h k = refl
    go false false h k = refl
    go true false h k = impossible (sym k ∙ from_key g f (sym (key_is f g h)))
    go false true h k = impossible (sym h ∙ from_key f g (sym (key_is g f k)))

abbrev pub Apart : List FieldDef → Type 0
Apart = AreInOrder (λ f g. is_same_field f g ≡ false)

no_index : (o : Option ℕ) → option_map suc o ≡ None → o ≡ None
no_index None e = refl
no_index (Some n) e = absurd cc

differ : (f g : FieldDef) → (field_key f ≡ field_key g → ⊥) → is_same_field f g ≡ false
differ f g h = go (is_same_field f g) refl
  where
    go : (b : Bool) → is_same_field f g ≡ b → is_same_field f g ≡ false
    go true e = absurd (h (key_is f g e))
    go false e = e

unrepeated : (earlier : List FieldKey) (fs : List FieldDef) (r : Option ℕ) → FirstRepeat earlier (map field_key fs) r → r ≡ None → ((f : FieldDef) → Contains fs f → Contains earlier (field_key f) → ⊥) × Apart fs
unrepeated earlier [] r h e = (λ f i k. nothing_in f i, tt)
unrepeated earlier (f ∷ fs) _ (here _ _ _ i) e = absurd cc
unrepeated earlier (f ∷ fs) _ (later _ _ _ index new rest) e =
    let q = unrepeated (earlier ++ field_key f ∷ []) fs index rest (no_index index e) in
    (λ g i k. go g q.0 (cons_cases f g fs i) k, (λ g i. differ f g (λ same. q.0 g i (subst (Contains (earlier ++ field_key f ∷ [])) same (Contains-append_right earlier (field_key f ∷ []) (field_key f) (at_first (field_key f) [])))), q.1))
  where
    go : (g : FieldDef) → ((h : FieldDef) → Contains fs h → Contains (earlier ++ field_key f ∷ []) (field_key h) → ⊥) → (f ≡ g) ⊎ Contains fs g → Contains earlier (field_key g) → ⊥
    go g behind (inl same) k = new (subst (λ (x : FieldDef). Contains earlier (field_key x)) (sym same) k)
    go g behind (inr i) k = behind g i (Contains-append_left earlier (field_key f ∷ []) (field_key g) k)

no_place : (c : ClassDef) (field method : Option ℕ) → None ≡ repeat_place c field method → field ≡ None
no_place c None method e = refl
no_place c (Some n) method e = absurd cc

-- no two fields of a class that keeps the rules share both
pub fields_apart : (c : ClassDef) → FirstBroken c None → Apart c.fields
fields_apart c h = let m = none-each (Breaks c) 1 all_rules None h refl rule.MemberTwice (3, omega arith, refl) in (unrepeated [] c.fields m.field m.first_field (no_place c m.field m.method m.is_place)).1

all_apart : (f : FieldDef) (fs : List FieldDef) → ((g : FieldDef) → Contains fs g → is_same_field f g ≡ false) → AllByRecursion (λ g. is_same_field f g ≡ false) fs
all_apart f [] h = tt
all_apart f (g ∷ gs) h = (h g (at_first g gs), all_apart f gs (λ x i. h x (further g x gs i)))

none_twice : IsDistinct is_same_field []
unfolding IsDistinct
none_twice = tt

to_distinct : (fs : List FieldDef) → Apart fs → IsDistinct is_same_field fs
to_distinct [] h = none_twice
to_distinct (f ∷ fs) h = IsDistinct-cons is_same_field f fs (all_apart f fs h.0) (to_distinct fs h.1)

pub moved : (fs gs : List FieldDef) → IsPermutation fs gs → Apart fs → Apart gs
moved fs gs p h = distinct_in_order is_same_field gs (IsDistinct-IsPermutation is_same_field flips fs gs p (to_distinct fs h))

pub picked_among : (P : FieldDef → Type 0) (fs gs : List FieldDef) → Picks P fs gs → (g : FieldDef) → Contains gs g → Contains fs g × P g
picked_among P _ _ nothing g i = nothing_in g i
picked_among P _ _ (taken f fs gs h p) g i = go (cons_cases f g gs i) (picked_among P fs gs p g)
  where
    go : (f ≡ g) ⊎ Contains gs g → (Contains gs g → Contains fs g × P g) → Contains (f ∷ fs) g × P g
    go (inl e) rest = subst (λ (x : FieldDef). Contains (f ∷ fs) x × P x) e (at_first f fs, h)
    go (inr k) rest = let q = rest k in (further f g fs q.0, q.1)
picked_among P _ _ (left f fs gs h p) g i = let q = picked_among P fs gs p g i in (further f g fs q.0, q.1)

pub picked_apart : (P : FieldDef → Type 0) (fs gs : List FieldDef) → Picks P fs gs → Apart fs → Apart gs
picked_apart P _ _ nothing h = tt
picked_apart P _ _ (taken f fs gs k p) h = (λ g i. h.0 g (picked_among P fs gs p g i).0, picked_apart P fs gs p h.1)
picked_apart P _ _ (left f fs gs k p) h = picked_apart P fs gs p h.1

pub picks_filter : (test : FieldDef → Bool) (fs : List FieldDef) → Picks (λ f. test f ≡ true) fs (filter test fs)
picks_filter test [] = nothing
picks_filter test (f ∷ fs) = go (test f) refl (picks_filter test fs)
  where
    go : (b : Bool) → test f ≡ b → Picks (λ f. test f ≡ true) fs (filter test fs) → Picks (λ f. test f ≡ true) (f ∷ fs) (cond b (f ∷ filter test fs) (filter test fs))
    go true e rest = taken f fs (filter test fs) e rest
    go false e rest = left f fs (filter test fs) (λ t. impossible (sym e ∙ t)) rest

field_before : FieldDef → FieldDef → Bool
field_before f g = is_lt (field_cmp f g)

fields_rank : IsStrictWeakOrder field_before
unfolding field_before
fields_rank = ranks_by (on_total (λ (f : FieldDef). f.name) nat_list_cmp_total) (λ (f : FieldDef). f)

-- fields of one mark that are apart, sorted
pub one_sorting : (mark : Bool) (given xs ys : List FieldDef) → Apart given → ((f : FieldDef) → Contains given f → f.is_static ≡ mark) → AreSorted given xs → AreSorted given ys → xs ≡ ys
unfolding field_before
one_sorting mark given xs ys apart marks one other = one_sorted field_before fields_rank xs ys one.in_order other.in_order (names_apart xs one) (names_apart ys other) (λ f. (λ h. Contains-permutation given ys f other.exact (Contains-permutation xs given f (IsPermutation-sym given xs one.exact) h), λ h. Contains-permutation given xs f one.exact (Contains-permutation ys given f (IsPermutation-sym given ys other.exact) h)))
  where
    names_apart : (zs : List FieldDef) → AreSorted given zs → AreInOrder (λ f g. field_before f g ≡ false → field_before g f ≡ false → ⊥) zs
    names_apart zs s = weaker (λ f g. is_same_field f g ≡ false) (λ f g. field_before f g ≡ false → field_before g f ≡ false → ⊥) zs (λ f g i k not_same high low. impossible (sym not_same ∙ from_key f g (λ j. record { is_static = (marks f (Contains-permutation zs given f (IsPermutation-sym given zs s.exact) i) ∙ sym (marks g (Contains-permutation zs given g (IsPermutation-sym given zs s.exact) k))) j; name = tied_name f.name g.name high low j }))) (moved given zs s.exact apart)
