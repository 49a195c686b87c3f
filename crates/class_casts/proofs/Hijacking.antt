-- The cast of a hijacked class gives null and instances, by the world.
use Rattle.std.proofs.Common.{arith, ◌≡◌, ◌≢◌, ◌<◌, ◌^◌, ℕ, ℤ, pos, negsuc, ◌≤ℤ◌, suc, Bool, true, false, List, [], ◌∷◌, Contains, Option, Some, None, refl, sym, ap, ◌∙◌, subst, cond, ◌||◌, ◌⊎◌, inl, inr}
use Rattle.std.specs.Prelude.{FitsSigned, is_some, if◌then◌else◌}
use Rattle.std.specs.Int.{w8, w16}
use Rattle.std.specs.List.{filter}
use Rattle.std.proofs.lemmas.List.Elements.{Contains-append_cases, Contains-append_left, Contains-append_right, Contains-push_cases}
use Rattle.js_tree.specs.Terms.{Name}
use Rattle.sj_trees.specs.declared.classes.ClassDef.{ClassDef}
use Rattle.class_tests.specs.Ancestors.{listed, written_in, above_in, directly_above, IsParent, Way, by_path, is_object, IsAncestor}
use Rattle.class_tests.specs.Calls.{IsInstance, IsByte, IsShort}
use Rattle.class_tests.specs.Known.{Classes, class_of, is_known, is_hijacked, stands_as, object as object_name}
use Rattle.class_tests.specs.Laws.{IsPlain}
use Rattle.class_tests.specs.Paths.{Path, stay, on}
use Rattle.js_mean.specs.States.{Value, undefined, null, boolean, number, big_int, text, object, function, class, method, ClassLink, State}
use Rattle.class_tests.specs.Kind.{Kind}
use Rattle.class_tests.specs.KindVariants.{Undefined, Boolean, Char, Byte, Short, Int, Long, Text}
use Rattle.class_tests.specs.Words.{all_kinds, kind_class}
use Rattle.class_tests.specs.Pieces.{kind_of_class}
use Rattle.class_tests.specs.Kinds.{is_box, is_of, is_told}
use Rattle.class_tests.proofs.Smallest.{small_tests_tell}
use Rattle.class_tests.proofs.Telling.{nothing_in, one_kind}
use Rattle.class_casts.specs.Kinds.{passes}
use Rattle.class_casts.specs.Hijacked.{number_in, HijackedCastsAreOfTheWorld}
use Rattle.class_casts.proofs.Classed.{hijacked_casts_tell}
use Rattle.class_casts.proofs.Kinded.{passes_other}
use Rattle.class_casts.proofs.Worldly.{gives_by}

front_or_behind : (y : Name) (ys : List Name) (x : Name) → Contains (y ∷ ys) x → (y ≡ x) ⊎ Contains ys x
front_or_behind y ys x h = go (Contains-append_cases (y ∷ []) ys x h)
  where
    at_front : Contains [] x ⊎ (y ≡ x) → (y ≡ x) ⊎ Contains ys x
    at_front (inl none) = nothing_in none
    at_front (inr e) = inl e

    go : Contains (y ∷ []) x ⊎ Contains ys x → (y ≡ x) ⊎ Contains ys x
    go (inl front) = at_front (Contains-push_cases [] y x front)
    go (inr later) = inr later

from_filter : (p : Name → Bool) (xs : List Name) (x : Name) → Contains (filter p xs) x → Contains xs x
from_filter p [] x h = h
from_filter p (y ∷ ys) x h = go (p y) h (from_filter p ys x)
  where
    behind : Contains ys x → Contains (y ∷ ys) x
    behind k = Contains-append_right (y ∷ []) ys x k

    go : (b : Bool) → Contains (cond b (y ∷ filter p ys) (filter p ys)) x → (Contains (filter p ys) x → Contains ys x) → Contains (y ∷ ys) x
    go false k below = behind (below k)
    go true k below = split (Contains-append_cases (y ∷ []) (filter p ys) x k)
      where
        split : Contains (y ∷ []) x ⊎ Contains (filter p ys) x → Contains (y ∷ ys) x
        split (inl front) = Contains-append_left (y ∷ []) ys x front
        split (inr later) = behind (below later)

-- what stands directly above an absent class
absent_above : (b : Bool) (x : Name) → Contains (listed (if b then Some object_name else None)) x → x ≡ object_name
absent_above true x h = go (front_or_behind object_name [] x h)
  where
    go : (object_name ≡ x) ⊎ Contains [] x → x ≡ object_name
    go (inl e) = sym e
    go (inr none) = nothing_in none
absent_above false x h = nothing_in h

-- nothing but itself stands below a hijacked class
module _ (w : Classes) (plain : IsPlain w) (h : Name) (hijacked : is_hijacked h ≡ true) where
  not_object : h ≡ object_name → ⊥
  not_object e = let f : true ≡ false = sym hijacked ∙ ap is_hijacked e in cc

  no_child : (d : Name) → IsParent w d h → ⊥
  no_child d i = go (class_of w (stands_as d)) refl (from_filter (is_known w) (directly_above w (stands_as d)) h i)
    where
      go : (o : Option ClassDef) → class_of w (stands_as d) ≡ o → Contains (above_in o (stands_as d)) h → ⊥
      go None e k = not_object (absent_above (is_hijacked (stands_as d)) h k)
      go (Some c) e k = let f : true ≡ false = sym hijacked ∙ plain.apart (stands_as d) h (subst (λ (o : Option ClassDef). Contains (written_in o) h) (sym e) k) in cc

  below_it : (c d : Name) → Path (IsParent w) c d → d ≡ h → c ≡ h
  below_it c _ stay e = e
  below_it c _ (on b d path step) e = absurd (no_child b (subst (λ (x : Name). IsParent w b x) e step))

  pub alone : (c : Name) → IsAncestor w c h → c ≡ h
  alone c a = go a.way
    where
      go : Way w c h → c ≡ h
      go (by_path path) = below_it c h path refl
      go (is_object e) = absurd (not_object e)

  pub itself : IsAncestor w h h
  itself = record { known = ap (λ (b : Bool). is_some (class_of w h) || b) hijacked ∙ or_true (is_some (class_of w h)); way = by_path stay }
    where
      or_true : (a : Bool) → (a || true) ≡ true
      or_true true = refl
      or_true false = refl

pub kind_hijacked : (k : Kind) → is_hijacked (kind_class k) ≡ true
kind_hijacked Undefined = refl
kind_hijacked Boolean = refl
kind_hijacked Char = refl
kind_hijacked Byte = refl
kind_hijacked Short = refl
kind_hijacked Int = refl
kind_hijacked Long = refl
kind_hijacked Text = refl

kind_named : (k : Kind) → kind_of_class (kind_class k) all_kinds ≡ Some k
kind_named Undefined = refl
kind_named Boolean = refl
kind_named Char = refl
kind_named Byte = refl
kind_named Short = refl
kind_named Int = refl
kind_named Long = refl
kind_named Text = refl

same_kind : (j k : Kind) → kind_class j ≡ kind_class k → j ≡ k
same_kind j k e = let f : Some j ≡ Some k = sym (kind_named j) ∙ ap (λ (c : Name). kind_of_class c all_kinds) e ∙ kind_named k in cc

passes_told : (s : State) (boxes : List ClassLink) (k : Kind) (v : Value) → is_told k ≡ true → passes s boxes k v ≡ is_of s boxes k v
passes_told s boxes Undefined v told = refl
passes_told s boxes Boolean v told = refl
passes_told s boxes Char v told = refl
passes_told s boxes Byte v told = cc
passes_told s boxes Short v told = cc
passes_told s boxes Int v told = refl
passes_told s boxes Long v told = refl
passes_told s boxes Text v told = refl

pub object_fails : (s : State) (boxes : List ClassLink) (k : Kind) (a : ℕ) → is_box s boxes (object a) ≡ false → passes s boxes k (object a) ≡ false
object_fails s boxes Undefined a e = refl
object_fails s boxes Boolean a e = refl
object_fails s boxes Char a e = e
object_fails s boxes Byte a e = refl
object_fails s boxes Short a e = refl
object_fails s boxes Int a e = refl
object_fails s boxes Long a e = refl
object_fails s boxes Text a e = refl

-- bytes and shorts by their ranges
byte_range : (z : ℤ) → FitsSigned w8 z → (negsuc 127 ≤ℤ z) × (z ≤ℤ pos 127)
byte_range (pos m) f = let h : m < 2 ^ 7 = f.sfits in (grind arith, grind arith)
byte_range (negsuc m) f = let h : m < 2 ^ 7 = f.sfits in (grind arith, grind arith)

short_range : (z : ℤ) → FitsSigned w16 z → (negsuc 32767 ≤ℤ z) × (z ≤ℤ pos 32767)
short_range (pos m) f = let h : m < 2 ^ 15 = f.sfits in (grind arith, grind arith)
short_range (negsuc m) f = let h : m < 2 ^ 15 = f.sfits in (grind arith, grind arith)

in_byte : (z : ℤ) → negsuc 127 ≤ℤ z → z ≤ℤ pos 127 → FitsSigned w8 z
in_byte (pos m) low high = let h : m < 2 ^ 7 = grind arith in record { sfits = h }
in_byte (negsuc m) low high = let h : m < 2 ^ 7 = grind arith in record { sfits = h }

in_short : (z : ℤ) → negsuc 32767 ≤ℤ z → z ≤ℤ pos 32767 → FitsSigned w16 z
in_short (pos m) low high = let h : m < 2 ^ 15 = grind arith in record { sfits = h }
in_short (negsuc m) low high = let h : m < 2 ^ 15 = grind arith in record { sfits = h }

byte_passes : (s : State) (boxes : List ClassLink) (z : ℤ) → passes s boxes Byte (number z) ≡ true → IsByte z (kind_class Byte)
byte_passes s boxes z e = let f = byte_range z ((small_tests_tell.byte_range z).0 e) in record { low = f.0; high = f.1; class_is = refl }

short_passes : (s : State) (boxes : List ClassLink) (z : ℤ) → passes s boxes Short (number z) ≡ true → IsShort z (kind_class Short)
short_passes s boxes z e = let f = short_range z ((small_tests_tell.short_range z).0 e) in record { low = f.0; high = f.1; class_is = refl }

passes_byte : (s : State) (boxes : List ClassLink) (z : ℤ) (d : Name) → IsByte z d → passes s boxes Byte (number z) ≡ true
passes_byte s boxes z d b = (small_tests_tell.byte_range z).1 (in_byte z b.low b.high)

passes_short : (s : State) (boxes : List ClassLink) (z : ℤ) (d : Name) → IsShort z d → passes s boxes Short (number z) ≡ true
passes_short s boxes z d b = (small_tests_tell.short_range z).1 (in_short z b.low b.high)

module _ (w : Classes) (plain : IsPlain w) (s : State) (boxes : List ClassLink) (j : Kind) (told : is_told j ≡ true) where
  abbrev Instance : Kind → Value → Type 0
  Instance k v = IsInstance w (kind_class j) (number_in v) (kind_class k)

  same_is : (k : Kind) (v : Value) → j ≡ k → Instance k v
  same_is k v e = inl (subst (λ (z : Kind). IsAncestor w (kind_class j) (kind_class z)) e (itself w plain (kind_class j) (kind_hijacked j)))

  -- what passes is an instance
  pub passed_is : (k : Kind) (v : Value) → is_of s boxes j v ≡ true → passes s boxes k v ≡ true → Instance k v
  passed_is Undefined v of_j e = same_is Undefined v (one_kind s boxes v j Undefined of_j e)
  passed_is Boolean v of_j e = same_is Boolean v (one_kind s boxes v j Boolean of_j e)
  passed_is Char v of_j e = same_is Char v (one_kind s boxes v j Char of_j e)
  passed_is Byte undefined of_j e = cc
  passed_is Byte null of_j e = cc
  passed_is Byte (boolean b) of_j e = cc
  passed_is Byte (number z) of_j e = inr (inl (byte_passes s boxes z e))
  passed_is Byte (big_int z) of_j e = cc
  passed_is Byte (text us) of_j e = cc
  passed_is Byte (object a) of_j e = cc
  passed_is Byte (function f y) of_j e = cc
  passed_is Byte (class ls) of_j e = cc
  passed_is Byte (method ls y) of_j e = cc
  passed_is Short undefined of_j e = cc
  passed_is Short null of_j e = cc
  passed_is Short (boolean b) of_j e = cc
  passed_is Short (number z) of_j e = inr (inr (short_passes s boxes z e))
  passed_is Short (big_int z) of_j e = cc
  passed_is Short (text us) of_j e = cc
  passed_is Short (object a) of_j e = cc
  passed_is Short (function f y) of_j e = cc
  passed_is Short (class ls) of_j e = cc
  passed_is Short (method ls y) of_j e = cc
  passed_is Int v of_j e = same_is Int v (one_kind s boxes v j Int of_j e)
  passed_is Long v of_j e = same_is Long v (one_kind s boxes v j Long of_j e)
  passed_is Text v of_j e = same_is Text v (one_kind s boxes v j Text of_j e)

  -- and an instance passes
  same_passes : (k : Kind) (v : Value) → is_of s boxes j v ≡ true → j ≡ k → passes s boxes k v ≡ true
  same_passes k v of_j e = subst (λ (z : Kind). passes s boxes z v ≡ true) e (passes_told s boxes j v told ∙ of_j)

  small_passes : (k : Kind) (z : ℤ) → IsByte z (kind_class k) ⊎ IsShort z (kind_class k) → passes s boxes k (number z) ≡ true
  small_passes k z (inl b) = subst (λ (i : Kind). passes s boxes i (number z) ≡ true) (same_kind Byte k (sym b.class_is)) (passes_byte s boxes z (kind_class k) b)
  small_passes k z (inr b) = subst (λ (i : Kind). passes s boxes i (number z) ≡ true) (same_kind Short k (sym b.class_is)) (passes_short s boxes z (kind_class k) b)

  pub is_passed : (k : Kind) (v : Value) → is_of s boxes j v ≡ true → Instance k v → passes s boxes k v ≡ true
  is_passed k v of_j (inl a) = same_passes k v of_j (same_kind j k (alone w plain (kind_class k) (kind_hijacked k) (kind_class j) a))
  is_passed k undefined of_j (inr small) = absurd small
  is_passed k null of_j (inr small) = absurd small
  is_passed k (boolean b) of_j (inr small) = absurd small
  is_passed k (number z) of_j (inr small) = small_passes k z small
  is_passed k (big_int z) of_j (inr small) = absurd small
  is_passed k (text us) of_j (inr small) = absurd small
  is_passed k (object a) of_j (inr small) = absurd small
  is_passed k (function f y) of_j (inr small) = absurd small
  is_passed k (class ls) of_j (inr small) = absurd small
  is_passed k (method ls y) of_j (inr small) = absurd small

no_instance : (w : Classes) (plain : IsPlain w) (k : Kind) (d : Name) → is_hijacked d ≡ false → IsInstance w d None (kind_class k) → ⊥
no_instance w plain k d free (inl a) = let e : true ≡ false = sym (kind_hijacked k) ∙ ap is_hijacked (sym (alone w plain (kind_class k) (kind_hijacked k) d a)) ∙ free in cc
no_instance w plain k d free (inr small) = small

other_object : (a : ℕ) → object a ≢ null
other_object a e = cc

kind_other : (s : State) (boxes : List ClassLink) (j : Kind) (v : Value) → is_told j ≡ true → is_of s boxes j v ≡ true → v ≢ null
kind_other s boxes j v told of_j = passes_other s boxes j v (passes_told s boxes j v told ∙ of_j)

pub hijacked_casts_are_of_the_world : HijackedCastsAreOfTheWorld
hijacked_casts_are_of_the_world = record {
  of_told = λ w p n g boxes s k j v st plain told of_j. gives_by p (suc (suc n)) g st.cast.throwing_home s (kind_class k) v (IsInstance w (kind_class j) (number_in v) (kind_class k)) (passes s boxes k v) (hijacked_casts_tell p n g boxes s (kind_class k) k v st (kind_other s boxes j v told of_j)) (λ e. passed_is w plain s boxes j told k v of_j e, λ i. is_passed w plain s boxes j told k v of_j i);
  of_object = λ w p n g boxes s k a d st plain no_box free. gives_by p (suc (suc n)) g st.cast.throwing_home s (kind_class k) (object a) (IsInstance w d None (kind_class k)) (passes s boxes k (object a)) (hijacked_casts_tell p n g boxes s (kind_class k) k (object a) st (other_object a)) (λ e. absurd (fails s boxes k a no_box e), λ i. absurd (no_instance w plain k d free i));
}
  where
    fails : (s : State) (boxes : List ClassLink) (k : Kind) (a : ℕ) → is_box s boxes (object a) ≡ false → passes s boxes k (object a) ≡ true → ⊥
    fails s boxes k a no_box e = let f : true ≡ false = sym e ∙ object_fails s boxes k a no_box in cc
