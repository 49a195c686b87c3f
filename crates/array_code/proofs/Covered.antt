-- Which arrays are of which types.
use Rattle.std.proofs.Common.{◌≡◌, ℕ, suc, Bool, true, false, List, [], ◌∷◌, pos, slice_get, Option, Some, None, refl, sym, ap, ◌∙◌, cond, ◌&&◌, ◌||◌, arith, nat_eq, nat_lt, int_eq}
use Rattle.std.proofs.lemmas.Bool.Decides.{nat_tests}
use Rattle.std.specs.Prelude.{is_some, codes, if◌then◌else◌}
use Rattle.js_tree.specs.Names.{is_same_text}
use Rattle.js_tree.specs.Terms.{Name, Expression, text_literal, binary_of, conditional_of, Statements, no_statements, statement, return_of}
use Rattle.js_tree.specs.declared.operators.BinaryOperator.TheVariants.{Greater, In, StrictEqual}
use Rattle.outcomes.specs.Outcome.{Out, done, then_do}
use Rattle.js_mean.specs.Objects.{or_value, stored_has}
use Rattle.js_mean.specs.States.{Value, boolean, number, text, object, Stored, Scope, State, ExpressionEnd, gives, Program}
use Rattle.js_mean.specs.Meaning.{Low, below, evaluate, execute_all, function_scope, has, returned, truth_or_wrong}
use Rattle.class_casts.specs.Helpers.{at, var, word}
use Rattle.class_casts.specs.HelperVariants.{Covers}
use Rattle.class_casts.specs.Words.{both, has_word, marker, object_class}
use Rattle.class_casts.proofs.Bridge.{return_hands_on}
use Rattle.array_code.specs.Codes.{helper_code}
use Rattle.array_code.specs.Covering.{AreConstants, IsElementType, primitive, of_class, own_of, text_in, marker_at, covers_element, is_object_class, covers, CoversTells, CoverCases}
use Rattle.array_code.proofs.Stepping.{own_property, one_more, property_comes, operands_come, and_comes, returned_first}

same_numbers : (n m : ℕ) → int_eq (pos n) (pos m) ≡ nat_eq n m
same_numbers n m = grind (arith, nat_tests)

-- the marker of a class whose constants stand at an address
marker_there : (s : State) (b : ℕ) (d : Name) (own : Name → Option Value) → AreConstants s b d own → marker_at s b ≡ marker d
marker_there s b d own are = ap (λ (o : Option Stored). text_in (own_of o (codes "s"))) are.stored ∙ ap text_in are.marker_is

own_there : (s : State) (a : ℕ) (c : Name) (own : Name → Option Value) → AreConstants s a c own → own_of (slice_get s.heap a) ≡ own
own_there s a c own are = ap own_of are.stored

-- a marker in constants
module _ (p : Program) (low : Low) (sc : Scope) (s : State) where
  pub marker_comes : (e : Expression) (b : ℕ) (d : Name) (other : Name → Option Value) → AreConstants s b d other → evaluate p low e sc s ≡ done (gives (object b) s) → evaluate p low (at e (codes "s")) sc s ≡ done (gives (text (marker d)) s)
  marker_comes e b d other are held = property_comes p low sc s e (codes "s") (object b) (text (marker d)) held (own_property p s b [] other (codes "s") (text (marker d)) are.stored are.marker_is)

  pub has_marker_comes : (e f : Expression) (a : ℕ) (c : Name) (own : Name → Option Value) (d : Name) → AreConstants s a c own → evaluate p low e sc s ≡ done (gives (text (marker d)) s) → evaluate p low f sc s ≡ done (gives (object a) s) → evaluate p low (binary_of e In f) sc s ≡ done (gives (boolean (is_some (own (marker d)))) s)
  has_marker_comes e f a c own d are e_held f_held =
      one_more p (evaluate p low e) (evaluate p low f ∷ []) (has p) (text (marker d)) sc s e_held
      ∙ one_more p (evaluate p low f) [] (λ vs. has p (text (marker d) ∷ vs)) (object a) sc s f_held
      ∙ ap (λ (o : Option Stored). truth_or_wrong (stored_has p o (text (marker d))) sc s) are.stored
      ∙ ap (λ (t : Bool). done (gives (boolean t) s)) (go (own (marker d)))
    where
      go : (o : Option Value) → (is_some (or_value o None) || false) ≡ is_some o
      go None = refl
      go (Some w) = refl

module _ (p : Program) (i : ℕ) (g : Name) (s : State) (n m : ℕ) (e d : Value) where
  abbrev low : Low
  low = below p i

  abbrev sc : Scope
  sc = function_scope g (helper_code Covers) (number (pos n) ∷ e ∷ number (pos m) ∷ d ∷ [])

  abbrev ComesTo : Expression → Bool → Type 0
  ComesTo f b = evaluate p low f sc s ≡ done (gives (boolean b) s)

abbrev same_depth : Expression
same_depth = binary_of (var (codes "n")) StrictEqual (var (codes "m"))

abbrev marker_in : Expression
marker_in = binary_of (at (var (codes "d")) (codes "s")) In (var (codes "e"))

abbrev same_element : Expression
same_element = conditional_of (has_word (codes "string") (var (codes "d"))) (binary_of (var (codes "e")) StrictEqual (var (codes "d"))) (both (has_word (codes "object") (var (codes "e"))) marker_in)

abbrev is_deeper : Expression
is_deeper = both (binary_of (var (codes "n")) Greater (var (codes "m"))) (has_word (codes "object") (var (codes "d")))

abbrev of_all_objects : Expression
of_all_objects = binary_of (at (var (codes "d")) (codes "s")) StrictEqual (word (marker object_class))

abbrev other_depth : Expression
other_depth = both is_deeper of_all_objects

-- of equal depth
element_comes : (p : Program) (i : ℕ) (g : Name) (s : State) (n m : ℕ) (e d : Value) → IsElementType s e → IsElementType s d → ComesTo p i g s n m e d same_element (covers_element s e d)
element_comes p i g s n m _ _ (primitive us) (primitive vs) = refl
element_comes p i g s n m _ _ (of_class a c own are) (primitive vs) = refl
element_comes p i g s n m _ _ (primitive us) (of_class b d other those) = refl
element_comes p i g s n m _ _ (of_class a c own are) (of_class b d other those) =
    has_marker_comes p (below p i) (sc p i g s n m (object a) (object b)) s (at (var (codes "d")) (codes "s")) (var (codes "e")) a c own d are (marker_comes p (below p i) (sc p i g s n m (object a) (object b)) s (var (codes "d")) b d other those refl) refl
    ∙ ap (λ (y : Name). done (gives (boolean (is_some (own y))) s)) (sym (marker_there s b d other those))
    ∙ ap (λ (f : Name → Option Value). done (gives (boolean (is_some (f (marker_at s b)))) s)) (sym (own_there s a c own are))

-- of another depth
module _ (p : Program) (i : ℕ) (g : Name) (s : State) (n m : ℕ) (e d : Value) where
  other_comes : (b w : Bool) → ComesTo p i g s n m e d (has_word (codes "object") (var (codes "d"))) b → ComesTo p i g s n m e d of_all_objects w → ComesTo p i g s n m e d other_depth ((nat_lt m n && b) && w)
  other_comes b w h k = and_comes p (below p i) (sc p i g s n m e d) s is_deeper of_all_objects (nat_lt m n && b) w (and_comes p (below p i) (sc p i g s n m e d) s (binary_of (var (codes "n")) Greater (var (codes "m"))) (has_word (codes "object") (var (codes "d"))) (nat_lt m n) b refl h) k

never : (t : Bool) → ((t && false) && false) ≡ (t && false)
never true = refl
never false = refl

only_last : (t w : Bool) → ((t && true) && w) ≡ (t && w)
only_last true w = refl
only_last false w = refl

depth_comes : (p : Program) (i : ℕ) (g : Name) (s : State) (n m : ℕ) (e d : Value) → IsElementType s d → ComesTo p i g s n m e d other_depth (nat_lt m n && is_object_class s d)
depth_comes p i g s n m e _ (primitive vs) = other_comes p i g s n m e (text vs) false false refl refl ∙ ap (λ (t : Bool). done (gives (boolean t) s)) (never (nat_lt m n))
depth_comes p i g s n m e _ (of_class b d other those) =
    other_comes p i g s n m e (object b) true (is_same_text (marker d) (marker object_class)) refl
    (operands_come p (below p i) (sc p i g s n m e (object b)) s StrictEqual (at (var (codes "d")) (codes "s")) (word (marker object_class)) (text (marker d)) (text (marker object_class)) (boolean (is_same_text (marker d) (marker object_class))) (marker_comes p (below p i) (sc p i g s n m e (object b)) s (var (codes "d")) b d other those refl) refl refl)
    ∙ ap (λ (t : Bool). done (gives (boolean t) s)) (only_last (nat_lt m n) (is_same_text (marker d) (marker object_class)))
    ∙ ap (λ (y : Name). done (gives (boolean (nat_lt m n && is_same_text y (marker object_class))) s)) (sym (marker_there s b d other those))

pub covers_tells : CoversTells
covers_tells p i g s n m e d e_is d_is =
    returned_first p (below p i) (sc p i g s n m e d) s same_depth same_element (statement (return_of other_depth) no_statements) (nat_eq n m) (ap (λ (b : Bool). done (gives (boolean b) s)) (same_numbers n m))
    ∙ go (nat_eq n m)
  where
    go : (b : Bool) → cond b (evaluate p (below p i) same_element (sc p i g s n m e d) s) (then_do (execute_all p (below p i) (statement (return_of other_depth) no_statements) (sc p i g s n m e d) s) returned) ≡ done (gives (boolean (cond b (covers_element s e d) (nat_lt m n && is_object_class s d))) s)
    go true = element_comes p i g s n m e d e_is d_is
    go false = return_hands_on p (below p i) other_depth no_statements (sc p i g s n m e d) s ∙ depth_comes p i g s n m e d d_is

-- the cases
same_is : (n : ℕ) → nat_eq n n ≡ true
same_is n = grind (arith, nat_tests)

deeper_differs : (n m : ℕ) → nat_lt m n ≡ true → nat_eq n m ≡ false
deeper_differs n m h = grind (arith, nat_tests)

shallower_differs : (n m : ℕ) → nat_lt n m ≡ true → nat_eq n m ≡ false
shallower_differs n m h = grind (arith, nat_tests)

shallower_not : (n m : ℕ) → nat_lt n m ≡ true → nat_lt m n ≡ false
shallower_not n m h = grind (arith, nat_tests)

by_element : (s : State) (n : ℕ) (e d : Value) → covers s n e n d ≡ covers_element s e d
by_element s n e d = ap (λ (b : Bool). cond b (covers_element s e d) (nat_lt n n && is_object_class s d)) (same_is n)

deeper : (s : State) (n m : ℕ) (e d : Value) → nat_lt m n ≡ true → covers s n e m d ≡ is_object_class s d
deeper s n m e d h =
    ap (λ (b : Bool). cond b (covers_element s e d) (nat_lt m n && is_object_class s d)) (deeper_differs n m h)
    ∙ ap (λ (b : Bool). b && is_object_class s d) h

pub cover_cases : CoverCases
cover_cases = record {
  primitives = λ s n us vs. by_element s n (text us) (text vs);
  class_by_primitive = λ s n a vs. by_element s n (object a) (text vs);
  primitive_by_class = λ s n us b. by_element s n (text us) (object b);
  classes = λ s n a b c d own other are those. by_element s n (object a) (object b) ∙ ap (λ (y : Name). is_some (own_of (slice_get s.heap a) y)) (marker_there s b d other those) ∙ ap (λ (f : Name → Option Value). is_some (f (marker d))) (own_there s a c own are);
  deeper_by_class = λ s n m e b d other h those. deeper s n m e (object b) h ∙ ap (λ (y : Name). is_same_text y (marker object_class)) (marker_there s b d other those);
  deeper_by_primitive = λ s n m e vs h. deeper s n m e (text vs) h;
  shallower = λ s n m e d h.
      ap (λ (b : Bool). cond b (covers_element s e d) (nat_lt m n && is_object_class s d)) (shallower_differs n m h)
      ∙ ap (λ (b : Bool). b && is_object_class s d) (shallower_not n m h);
}
