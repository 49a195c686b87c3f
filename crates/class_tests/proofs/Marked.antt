-- Tests of classes and their markers.
use Rattle.std.proofs.Common.{◌≡◌, ℕ, pos, zero, suc, Bool, true, false, List, [], ◌∷◌, map, Contains, slice_get, Option, Some, None, refl, sym, ap, ◌∙◌, subst, cond, ◌||◌, inl, inr}
use Rattle.std.specs.Prelude.{codes, is_some, ◌⊎◌}
use Rattle.std.proofs.lemmas.Slice.Eq.{bytes_eq-Decides}
use Rattle.std.proofs.lemmas.List.{append_cancel_left}
use Rattle.js_tree.specs.Names.{is_same_text}
use Rattle.js_tree.specs.Terms.{Name, Expression, expression, no_expressions, no_statements}
use Rattle.outcomes.specs.Outcome.{Out, done, then_do}
use Rattle.sj_mangling.specs.Mangling.{mangled}
use Rattle.sj_mangling.proofs.Injective.{mangled_texts_differ}
use Rattle.class_code.specs.Ancestors.{IsAncestor}
use Rattle.class_code.proofs.Searches.{stands_at, contains_at}
use Rattle.js_mean.specs.Objects.{property, no_properties, with_property, or_value, stored_has}
use Rattle.js_mean.specs.States.{Value, boolean, number, text, object, ClassLink, absent, Stored, plain, Scope, State, ExpressionEnd, gives, with_value, Program}
use Rattle.js_mean.specs.Meaning.{Low, Code, below, code_call, function_scope, evaluate, one_of, both_of, value_or_wrong, truth_or_wrong, has}
use Rattle.class_code.specs.Tops.{literal_properties}
use Rattle.class_code.proofs.Bridge.{same_text, call_given, return_hands_on}
use Rattle.class_code.specs.Kind.{Kind}
use Rattle.class_code.specs.KindVariants.{Undefined, Boolean, Char, Byte, Short, Int, Long, Text}
use Rattle.class_code.specs.Words.{is_name, marker, x, not_null, either}
use Rattle.class_code.specs.Helpers.{marker_property}
use Rattle.class_code.specs.Pieces.{kind_test, joined, any_of, has_marker, instance_test}
use Rattle.class_tests.specs.Kinds.{is_of}
use Rattle.class_tests.specs.Tests.{MarkersTell, HasMarker, on_object, on_undefined, on_boolean, on_number, on_big_int, on_text, TestStands, TestsStand, tests_none, tests_more, class_test_code, class_told, ClassTestsTell, NullIsNoInstance}
use Rattle.class_tests.proofs.Telling.{tests_tell}

same_is : (a b : Name) → is_same_text a b ≡ true → a ≡ b
same_is a b = (bytes_eq-Decides a b).0

same_own : (a b : Name → Option Value) → Some a ≡ Some b → a ≡ b
same_own a b e = cc

-- what markers come to, in front of what was there
marks : List Name → (Name → Option Value) → Name → Option Value
marks [] own = own
marks (a ∷ names) own = marks names (with_property (marker a) (number (pos 1)) own)

marks_are : (names : List Name) (own : Name → Option Value) → literal_properties (map marker_property names) own ≡ Some (marks names own)
unfolding marks
marks_are [] own = refl
marks_are (a ∷ names) own = marks_are names (with_property (marker a) (number (pos 1)) own)

marked_before : (names : List Name) (own : Name → Option Value) (y : Name) → is_some (own y) ≡ true → is_some (marks names own y) ≡ true
unfolding marks
marked_before [] own y h = h
marked_before (a ∷ names) own y h = marked_before names (with_property (marker a) (number (pos 1)) own) y (go (is_same_text y (marker a)))
  where
    go : (b : Bool) → is_some (cond b (Some (number (pos 1))) (own y)) ≡ true
    go true = refl
    go false = h

marked : (names : List Name) (own : Name → Option Value) (i : ℕ) (c : Name) → slice_get names i ≡ Some c → is_some (marks names own (marker c)) ≡ true
unfolding marks
marked [] own i c h = cc
marked (a ∷ names) own zero c h =
    let e : a ≡ c = cc in
    marked_before names (with_property (marker a) (number (pos 1)) own) (marker c) (ap (λ (b : Bool). is_some (cond b (Some (number (pos 1))) (own (marker c)))) (ap (λ (z : Name). is_same_text (marker c) (marker z)) e ∙ same_text (marker c)))
marked (a ∷ names) own (suc i) c h = marked names (with_property (marker a) (number (pos 1)) own) i c h

record Among (names : List Name) (y : Name) : Type 0 where
  class : Name
  among : Contains names class
  is_marker : y ≡ marker class

further : (a : Name) (names : List Name) (y : Name) → Among names y → Among (a ∷ names) y
further a names y h = record { class = h.class; among = contains_at (a ∷ names) (suc h.among.0) h.class (stands_at names h.class h.among); is_marker = h.is_marker }

-- what is marked is one of them, or was there
marked_by : (names : List Name) (own : Name → Option Value) (y : Name) → is_some (marks names own y) ≡ true → Among names y ⊎ (is_some (own y) ≡ true)
unfolding marks
marked_by [] own y h = inr h
marked_by (a ∷ names) own y h = go (marked_by names (with_property (marker a) (number (pos 1)) own) y h) (is_same_text y (marker a)) refl
  where
    go : Among names y ⊎ (is_some (with_property (marker a) (number (pos 1)) own y) ≡ true) → (b : Bool) → is_same_text y (marker a) ≡ b → Among (a ∷ names) y ⊎ (is_some (own y) ≡ true)
    go (inl k) b e = inl (further a names y k)
    go (inr k) true e = inl (record { class = a; among = contains_at (a ∷ names) 0 a refl; is_marker = same_is y (marker a) e })
    go (inr k) false e = inr (sym (ap (λ (b : Bool). is_some (cond b (Some (number (pos 1))) (own y))) e) ∙ k)

-- the constants begin with the name of the class's own marker under `s`
start : Name → Name → Option Value
start d = with_property (codes "s") (text (marker d)) no_properties

no_start : (d c : Name) → is_some (start d (marker c)) ≡ true → ⊥
unfolding start
no_start d c h = cc

pub markers_tell : MarkersTell
unfolding start
markers_tell w d c names own are h = (λ k. to k, λ a. from a)
  where
    own_is : own ≡ marks names (start d)
    own_is = same_own own (marks names (start d)) (sym h ∙ marks_are names (start d))

    to : is_some (own (marker c)) ≡ true → IsAncestor w d c
    to k = go (marked_by names (start d) (marker c) (sym (ap (λ (o : Name → Option Value). is_some (o (marker c))) own_is) ∙ k))
      where
        go : Among names (marker c) ⊎ (is_some (start d (marker c)) ≡ true) → IsAncestor w d c
        go (inl b) = subst (λ (z : Name). IsAncestor w d z) (sym (mangled_texts_differ c b.class (append_cancel_left (codes "i_") (mangled c) (mangled b.class) b.is_marker))) ((are.exact b.class).0 b.among)
        go (inr n) = absurd (no_start d c n)

    from : IsAncestor w d c → is_some (own (marker c)) ≡ true
    from a = let k = (are.exact c).1 a in ap (λ (o : Name → Option Value). is_some (o (marker c))) own_is ∙ marked names (start d) k.0 c (stands_at names c k)

module _ (p : Program) (n : ℕ) (g : Name) (boxes : List ClassLink) (s : State) (c : Name) (all : List Kind) (v : Value) where
  abbrev low : Low
  low = below p (suc n)

  abbrev sc : Scope
  sc = function_scope g (class_test_code c all) (v ∷ [])

  abbrev ComesTo : Expression → Bool → Type 0
  ComesTo e b = evaluate p low e sc s ≡ done (gives (boolean b) s)

  test_name_free : (k : Kind) → sc.bindings (is_name k) ≡ absent
  test_name_free Undefined = refl
  test_name_free Boolean = refl
  test_name_free Char = refl
  test_name_free Byte = refl
  test_name_free Short = refl
  test_name_free Int = refl
  test_name_free Long = refl
  test_name_free Text = refl

  test_comes : (k : Kind) → TestStands p g boxes s k → ComesTo (kind_test k) (is_of s boxes k v)
  test_comes k st =
      call_given p low (is_name k) st.home st.test.const (expression x no_expressions) sc s (test_name_free k) st.test.cell_is
      ∙ ap (λ (o : Option Code). code_call low st.home o (v ∷ []) s) st.test_is
      ∙ tests_tell p n st.home boxes s k v st.kind_told st.boxes_stand

  either_comes : (e f : Expression) (a b : Bool) → ComesTo e a → ComesTo f b → ComesTo (either e f) (a || b)
  either_comes e f a b h k = ap (λ (o : Out ExpressionEnd). then_do o (with_value (λ w. one_of (evaluate p low f) w sc))) h ∙ go a
    where
      go : (a : Bool) → one_of (evaluate p low f) (boolean a) sc s ≡ done (gives (boolean (a || b)) s)
      go true = refl
      go false = k

  or_associative : (a b c : Bool) → ((a || b) || c) ≡ (a || (b || c))
  or_associative true b c = refl
  or_associative false b c = refl

  joined_comes : (e : Expression) (a : Bool) (ks : List Kind) → ComesTo e a → TestsStand p g boxes s ks → ComesTo (joined e ks) (a || class_told s boxes ks v false)
  joined_comes e a [] h tests_none = h ∙ ap (λ (z : Bool). done (gives (boolean z) s)) (none_more a)
    where
      none_more : (a : Bool) → a ≡ (a || false)
      none_more true = refl
      none_more false = refl
  joined_comes e a (j ∷ ks) h (tests_more _ _ st rest) = joined_comes (either e (kind_test j)) (a || is_of s boxes j v) ks (either_comes e (kind_test j) a (is_of s boxes j v) h (test_comes j st)) rest ∙ ap (λ (z : Bool). done (gives (boolean z) s)) (or_associative a (is_of s boxes j v) (class_told s boxes ks v false))

  told_or : (ks : List Kind) (b : Bool) → (class_told s boxes ks v false || b) ≡ class_told s boxes ks v b
  told_or [] b = refl
  told_or (j ∷ ks) b = or_associative (is_of s boxes j v) (class_told s boxes ks v false) b ∙ ap (λ (z : Bool). is_of s boxes j v || z) (told_or ks b)

  any_comes : (ks : List Kind) (last : Expression) (b : Bool) → TestsStand p g boxes s ks → ComesTo last b → ComesTo (any_of ks last) (class_told s boxes ks v b)
  any_comes [] last b tests_none k = k
  any_comes (j ∷ ks) last b (tests_more _ _ st rest) k = either_comes (joined (kind_test j) ks) last (is_of s boxes j v || class_told s boxes ks v false) b (joined_comes (kind_test j) (is_of s boxes j v) ks (test_comes j st) rest) k ∙ ap (λ (z : Bool). done (gives (boolean z) s)) (told_or (j ∷ ks) b)

-- the marker of a value
module _ (p : Program) (n : ℕ) (g : Name) (boxes : List ClassLink) (s : State) (c : Name) (all : List Kind) where
  object_marked : (a b : ℕ) (own : Name → Option Value) → property p s (object a) (codes "k") ≡ Some (object b) → slice_get s.heap b ≡ Some (plain [] own) → ComesTo p n g boxes s c all (object a) (has_marker c) (is_some (own (marker c)))
  object_marked a b own h k =
      ap (λ (o : Option Value). then_do (value_or_wrong o (sc p n g boxes s c all (object a)) s) (with_value (λ w. has p (text (marker c) ∷ w ∷ []) (sc p n g boxes s c all (object a))))) h
      ∙ ap (λ (o : Option Stored). truth_or_wrong (stored_has p o (text (marker c))) (sc p n g boxes s c all (object a)) s) k
      ∙ ap (λ (z : Bool). done (gives (boolean z) s)) (go (own (marker c)))
    where
      go : (o : Option Value) → (is_some (or_value o None) || false) ≡ is_some o
      go None = refl
      go (Some w) = refl

  marker_comes : (v : Value) (b : Bool) → HasMarker p s c v b → ComesTo p n g boxes s c all v (has_marker c) b
  marker_comes v b (on_object a d own h k) = object_marked a d own h k
  marker_comes v b on_undefined = refl
  marker_comes v b (on_boolean a) = refl
  marker_comes v b (on_number z) = refl
  marker_comes v b (on_big_int z) = refl
  marker_comes v b (on_text us) = refl

  not_null_comes : (v : Value) (b : Bool) → HasMarker p s c v b → ComesTo p n g boxes s c all v (not_null x) true
  not_null_comes v b (on_object a d own h k) = refl
  not_null_comes v b on_undefined = refl
  not_null_comes v b (on_boolean a) = refl
  not_null_comes v b (on_number z) = refl
  not_null_comes v b (on_big_int z) = refl
  not_null_comes v b (on_text us) = refl

pub class_tests_tell : ClassTestsTell
class_tests_tell p n g boxes s c kinds v b tests has_it =
    return_hands_on p (below p (suc n)) (instance_test c kinds None) no_statements (function_scope g (class_test_code c kinds) (v ∷ [])) s
    ∙ ap (λ (o : Out ExpressionEnd). then_do o (with_value (λ w. both_of (evaluate p (below p (suc n)) (any_of kinds (has_marker c))) w (function_scope g (class_test_code c kinds) (v ∷ []))))) (not_null_comes p n g boxes s c kinds v b has_it)
    ∙ any_comes p n g boxes s c kinds v kinds (has_marker c) b tests (marker_comes p n g boxes s c kinds v b has_it)

pub null_is_no_instance : NullIsNoInstance
null_is_no_instance p n g s c kinds = refl
