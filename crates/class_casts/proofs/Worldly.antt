-- The cast of a class gives null and instances, by the world.
use Rattle.std.proofs.Common.{arith, ◌≡◌, ◌≢◌, ℕ, ◌+◌, suc, Bool, true, false, List, [], ◌∷◌, slice_get, Option, Some, None, refl, sym, ap, ◌∙◌, cond, ◌||◌, inl, inr}
use Rattle.std.specs.Prelude.{◌↔◌, codes, is_some}
use Rattle.js_tree.specs.Terms.{Name, no_statements}
use Rattle.outcomes.specs.Outcome.{done, then_do}
use Rattle.class_tests.specs.Known.{Classes, is_hijacked}
use Rattle.class_tests.specs.Calls.{IsInstance}
use Rattle.js_mean.specs.Objects.{property, or_value, stored_has}
use Rattle.js_mean.specs.States.{Value, undefined, null, boolean, number, big_int, text, object, function, class, method, ClassLink, Stored, plain, Scope, State, gives, with_value, Program}
use Rattle.js_mean.specs.Meaning.{Code, below, code_call, function_scope, value_or_wrong, truth_or_wrong, has}
use Rattle.class_tests.proofs.Bridge.{return_hands_on}
use Rattle.class_tests.specs.Kind.{Kind}
use Rattle.class_tests.specs.KindVariants.{Undefined, Boolean, Char, Byte, Short, Int, Long, Text}
use Rattle.class_tests.specs.Words.{kind_class, marker, worded_kinds, units_of}
use Rattle.class_tests.specs.Classes.{AreInstances}
use Rattle.class_tests.specs.Pieces.{instance_test}
use Rattle.class_tests.specs.Kinds.{is_of}
use Rattle.class_tests.specs.Tests.{HasMarker, on_object, on_undefined, on_boolean, on_number, on_big_int, on_text, TestsStand, class_test_code, class_told}
use Rattle.class_tests.specs.Instances.{is_worded}
use Rattle.class_tests.proofs.Instanced.{tests_tell_instances}
use Rattle.class_tests.proofs.Marked.{markers_tell, class_tests_tell}
use Rattle.class_casts.specs.Kinds.{failed}
use Rattle.class_casts.specs.Classes.{class_cast_code}
use Rattle.class_casts.specs.Worlds.{test_units, TestedCastStands, HasConstantsOf, GivesInstances, CastsAreOfTheWorld}
use Rattle.class_casts.proofs.Classed.{class_casts_tell}

-- a primitive value of a worded kind has no marker
unmarked : (p : Program) (s : State) (boxes : List ClassLink) (c : Name) (k : Kind) (v : Value) → is_worded k ≡ true → is_of s boxes k v ≡ true → HasMarker p s c v false
unmarked p s boxes c Undefined undefined word of_k = on_undefined
unmarked p s boxes c Undefined null word of_k = cc
unmarked p s boxes c Undefined (boolean b) word of_k = cc
unmarked p s boxes c Undefined (number z) word of_k = cc
unmarked p s boxes c Undefined (big_int z) word of_k = cc
unmarked p s boxes c Undefined (text us) word of_k = cc
unmarked p s boxes c Undefined (object a) word of_k = cc
unmarked p s boxes c Undefined (function f y) word of_k = cc
unmarked p s boxes c Undefined (class ls) word of_k = cc
unmarked p s boxes c Undefined (method ls y) word of_k = cc
unmarked p s boxes c Boolean undefined word of_k = cc
unmarked p s boxes c Boolean null word of_k = cc
unmarked p s boxes c Boolean (boolean b) word of_k = on_boolean b
unmarked p s boxes c Boolean (number z) word of_k = cc
unmarked p s boxes c Boolean (big_int z) word of_k = cc
unmarked p s boxes c Boolean (text us) word of_k = cc
unmarked p s boxes c Boolean (object a) word of_k = cc
unmarked p s boxes c Boolean (function f y) word of_k = cc
unmarked p s boxes c Boolean (class ls) word of_k = cc
unmarked p s boxes c Boolean (method ls y) word of_k = cc
unmarked p s boxes c Char v word of_k = cc
unmarked p s boxes c Byte v word of_k = cc
unmarked p s boxes c Short v word of_k = cc
unmarked p s boxes c Int undefined word of_k = cc
unmarked p s boxes c Int null word of_k = cc
unmarked p s boxes c Int (boolean b) word of_k = cc
unmarked p s boxes c Int (number z) word of_k = on_number z
unmarked p s boxes c Int (big_int z) word of_k = cc
unmarked p s boxes c Int (text us) word of_k = cc
unmarked p s boxes c Int (object a) word of_k = cc
unmarked p s boxes c Int (function f y) word of_k = cc
unmarked p s boxes c Int (class ls) word of_k = cc
unmarked p s boxes c Int (method ls y) word of_k = cc
unmarked p s boxes c Long undefined word of_k = cc
unmarked p s boxes c Long null word of_k = cc
unmarked p s boxes c Long (boolean b) word of_k = cc
unmarked p s boxes c Long (number z) word of_k = cc
unmarked p s boxes c Long (big_int z) word of_k = on_big_int z
unmarked p s boxes c Long (text us) word of_k = cc
unmarked p s boxes c Long (object a) word of_k = cc
unmarked p s boxes c Long (function f y) word of_k = cc
unmarked p s boxes c Long (class ls) word of_k = cc
unmarked p s boxes c Long (method ls y) word of_k = cc
unmarked p s boxes c Text undefined word of_k = cc
unmarked p s boxes c Text null word of_k = cc
unmarked p s boxes c Text (boolean b) word of_k = cc
unmarked p s boxes c Text (number z) word of_k = cc
unmarked p s boxes c Text (big_int z) word of_k = cc
unmarked p s boxes c Text (text us) word of_k = on_text us
unmarked p s boxes c Text (object a) word of_k = cc
unmarked p s boxes c Text (function f y) word of_k = cc
unmarked p s boxes c Text (class ls) word of_k = cc
unmarked p s boxes c Text (method ls y) word of_k = cc

-- the test of a class that asks for no kind
module _ (p : Program) (n : ℕ) (g : Name) (s : State) (c : Name) where
  abbrev sc : Value → Scope
  sc v = function_scope g (class_test_code c []) (v ∷ [])

  object_marked : (a b : ℕ) (own : Name → Option Value) → property p s (object a) (codes "k") ≡ Some (object b) → slice_get s.heap b ≡ Some (plain [] own) → code_call (below p (suc n)) g (Some (class_test_code c [])) (object a ∷ []) s ≡ done (gives (boolean (is_some (own (marker c)))) s)
  object_marked a b own h k =
      return_hands_on p (below p n) (instance_test c [] None) no_statements (sc (object a)) s
      ∙ ap (λ (o : Option Value). then_do (value_or_wrong o (sc (object a)) s) (with_value (λ w. has p (text (marker c) ∷ w ∷ []) (sc (object a))))) h
      ∙ ap (λ (o : Option Stored). truth_or_wrong (stored_has p o (text (marker c))) (sc (object a)) s) k
      ∙ ap (λ (z : Bool). done (gives (boolean z) s)) (go (own (marker c)))
    where
      go : (o : Option Value) → (is_some (or_value o None) || false) ≡ is_some o
      go None = refl
      go (Some w) = refl

  marker_tells : (v : Value) (b : Bool) → HasMarker p s c v b → code_call (below p (suc n)) g (Some (class_test_code c [])) (v ∷ []) s ≡ done (gives (boolean b) s)
  marker_tells v b (on_object a d own h k) = object_marked a d own h k
  marker_tells v b on_undefined = refl
  marker_tells v b (on_boolean a) = refl
  marker_tells v b (on_number z) = refl
  marker_tells v b (on_big_int z) = refl
  marker_tells v b (on_text us) = refl

pub test_tells : (p : Program) (n : ℕ) (g : Name) (boxes : List ClassLink) (s : State) (c : Name) (kinds : List Kind) (v : Value) (b : Bool) → TestsStand p g boxes s kinds → HasMarker p s c v b → code_call (below p (test_units kinds + n)) g (Some (class_test_code c kinds)) (v ∷ []) s ≡ done (gives (boolean (class_told s boxes kinds v b)) s)
test_tells p n g boxes s c [] v b tests has_it = let more : 1 + n ≡ suc n = omega arith in ap (λ (m : ℕ). code_call (below p m) g (Some (class_test_code c [])) (v ∷ []) s) more ∙ marker_tells p n g s c v b has_it
test_tells p n g boxes s c (k ∷ ks) v b tests has_it = let more : 2 + n ≡ suc (suc n) = omega arith in ap (λ (m : ℕ). code_call (below p m) g (Some (class_test_code c (k ∷ ks))) (v ∷ []) s) more ∙ class_tests_tell p n g boxes s c (k ∷ ks) v b tests has_it

marker_other : (p : Program) (s : State) (c : Name) (v : Value) (b : Bool) → HasMarker p s c v b → v ≢ null
marker_other p s c v b (on_object a d own h k) e = cc
marker_other p s c v b on_undefined e = cc
marker_other p s c v b (on_boolean a) e = cc
marker_other p s c v b (on_number z) e = cc
marker_other p s c v b (on_big_int z) e = cc
marker_other p s c v b (on_text us) e = cc

-- a cast that is decided by a test gives what the test tells
pub gives_by : (p : Program) (units : ℕ) (g home : Name) (s : State) (c : Name) (v : Value) (is_instance : Type 0) (b : Bool) → code_call (below p (suc units)) g (Some (class_cast_code c)) (v ∷ []) s ≡ cond b (done (gives v s)) (failed p units home (units_of c) s) → (b ≡ true) ↔ is_instance → GivesInstances p units g home s c v is_instance
gives_by p units g home s c v is_instance true runs tells = record { given = λ i. runs; refused = λ not. absurd (not (tells.0 refl)) }
gives_by p units g home s c v is_instance false runs tells = record { given = λ i. let e : false ≡ true = tells.1 i in cc; refused = λ not. runs }

module _ (p : Program) (n : ℕ) (g : Name) (boxes : List ClassLink) (s : State) (c : Name) (kinds : List Kind) (st : TestedCastStands p g boxes s c kinds) where
  -- what the cast comes to, by what its test tells
  cast_told : (v : Value) (b : Bool) → HasMarker p s c v b → code_call (below p (suc (test_units kinds + n))) g (Some (class_cast_code c)) (v ∷ []) s ≡ cond (class_told s boxes kinds v b) (done (gives v s)) (failed p (test_units kinds + n) st.cast.throwing_home (units_of c) s)
  cast_told v b has_it = class_casts_tell.of_other p (test_units kinds + n) g s c v (class_told s boxes kinds v b) st.cast (marker_other p s c v b has_it) (ap (λ (o : Option Code). code_call (below p (test_units kinds + n)) st.cast.test_home o (v ∷ []) s) st.test_is ∙ test_tells p n st.cast.test_home boxes s c kinds v b st.tests has_it)

  gives_told : (v : Value) (b : Bool) (is_instance : Type 0) → HasMarker p s c v b → (class_told s boxes kinds v b ≡ true) ↔ is_instance → GivesInstances p (test_units kinds + n) g st.cast.throwing_home s c v is_instance
  gives_told v b is_instance has_it tells = gives_by p (test_units kinds + n) g st.cast.throwing_home s c v is_instance (class_told s boxes kinds v b) (cast_told v b has_it) tells

  module _ (w : Classes) (free : is_hijacked c ≡ false) (are : AreInstances w c worded_kinds kinds) (a : ℕ) (d : Name) (k : HasConstantsOf w p s a d) where
    abbrev is_marked : Bool
    is_marked = is_some (k.own (marker c))

    told : class_told s boxes kinds (object a) is_marked ≡ is_marked
    told = (tests_tell_instances w c kinds free are).object s boxes a is_marked

    instance_told : (class_told s boxes kinds (object a) is_marked ≡ true) ↔ IsInstance w d None c
    instance_told = (λ e. inl ((markers_tell w d c k.ancestors k.own k.above k.constants_are).0 (sym told ∙ e)), to)
      where
        to : IsInstance w d None c → class_told s boxes kinds (object a) is_marked ≡ true
        to (inl i) = told ∙ (markers_tell w d c k.ancestors k.own k.above k.constants_are).1 i
        to (inr small) = absurd small

    object_given : GivesInstances p (test_units kinds + n) g st.cast.throwing_home s c (object a) (IsInstance w d None c)
    object_given = gives_told (object a) is_marked (IsInstance w d None c) (on_object a k.at k.own k.constants_at k.stored) instance_told

pub casts_are_of_the_world : CastsAreOfTheWorld
casts_are_of_the_world = record {
  of_primitive = λ w p n g boxes s c kinds st k v number free are word of_k. gives_told p n g boxes s c kinds st v false (IsInstance w (kind_class k) number c) (unmarked p s boxes c k v word of_k) ((tests_tell_instances w c kinds free are).primitive s boxes k v number word of_k);
  of_object = λ w p n g boxes s c kinds st a d free are k. object_given p n g boxes s c kinds st w free are a d k;
}
