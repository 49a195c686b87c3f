-- The class of a value, and which values are elements of an array.
use Rattle.std.proofs.Common.{◌≡◌, ℕ, suc, ◌^◌, Bool, true, false, List, [], ◌∷◌, pos, Option, Some, None, refl, sym, ap, ◌∙◌, cond, true≢false, arith, ◌<◌, ◌&&◌, ◌||◌, nat_lt}
use Rattle.std.proofs.lemmas.Bool.Decides.{nat_tests}
use Rattle.std.specs.Prelude.{ℤ, ◌-ℤ◌, nat_le, is_some, codes, FitsSigned, if◌then◌else◌}
use Rattle.std.proofs.lemmas.Int.{ints}
use Rattle.std.specs.Int.{w32}
use Rattle.int_arithmetic.specs.Numbers.{is_exact}
use Rattle.int_arithmetic.proofs.Words.{or_zero-is, wrapped-same}
use Rattle.js_tree.specs.Names.{is_same_text}
use Rattle.js_tree.specs.Terms.{Name, Expression, binary_of, name_use, property_of, Statements, no_statements, statement, return_of, if_only}
use Rattle.js_tree.specs.Views.{expressions_of, statements_of}
use Rattle.js_tree.specs.declared.operators.BinaryOperator.TheVariants.{BitOr, Greater, In, InstanceOf, StrictEqual, Subtract}
use Rattle.outcomes.specs.Outcome.{Out, done, going, then_do}
use Rattle.js_mean.specs.Objects.{is_below, stored_below}
use Rattle.js_mean.specs.Operators.{exact}
use Rattle.js_mean.specs.States.{Value, boolean, number, text, object, ClassLink, absent, Stored, Scope, State, ExpressionEnd, gives, with_value, in_statement, next_statement, Program}
use Rattle.js_mean.specs.Meaning.{Low, Code, below, code_call, evaluate, execute_all, function_scope, has, in_block, nothing, returned, taken, value_or_wrong}
use Rattle.class_casts.specs.ClassTestsKinds.{is_box, is_of, test_code}
use Rattle.class_casts.specs.Helpers.{at, calls, helper_name, num, v_returns, var, word}
use Rattle.class_casts.specs.HelperVariants.{ArrayClass, ClassOf, ConstantsOf, Covers, Fits, TestOf}
use Rattle.class_casts.specs.Kind.{Kind}
use Rattle.class_casts.specs.KindVariants.{Undefined, Boolean, Char, Byte, Short, Int, Long, Text}
use Rattle.class_casts.specs.Tests.{TestStands}
use Rattle.class_casts.specs.Words.{both, call1, is_name, kind_class, marker, only_return, worded_kinds}
use Rattle.class_casts.proofs.Bridge.{same_text, name_at_top, return_hands_on}
use Rattle.class_casts.proofs.Smallest.{small_tests_tell}
use Rattle.class_casts.proofs.Telling.{tests_tell}
use Rattle.array_code.specs.Arrays.{IsArrayObject}
use Rattle.array_code.specs.Codes.{helper_code, helper_call, UsesHelper}
use Rattle.array_code.specs.Covering.{AreConstants}
use Rattle.array_code.specs.Fitting.{ConstantsStand, ClassesStand, classes_none, classes_more, class_value, ClassesTell, FitsStand, DeepFitsTell, FlatFitsTell, ShortFitsGo}
use Rattle.array_code.proofs.Covered.{marker_comes, has_marker_comes, covers_tells}
use Rattle.array_code.proofs.Indexing.{depth_comes, element_comes}
use Rattle.array_code.proofs.Stepping.{one_more, both_come, call_comes, instance_comes, operands_come, returned_first}

-- the class of a value
module _ (g : Name) (v : Value) where
  abbrev of_value : Scope
  of_value = function_scope g (helper_code ClassOf) (v ∷ [])

  test_free : (k : Kind) → of_value.bindings (is_name k) ≡ absent
  test_free Undefined = refl
  test_free Boolean = refl
  test_free Char = refl
  test_free Byte = refl
  test_free Short = refl
  test_free Int = refl
  test_free Long = refl
  test_free Text = refl

  constants_free : (k : Kind) → of_value.bindings (helper_name (ConstantsOf k)) ≡ absent
  constants_free Undefined = refl
  constants_free Boolean = refl
  constants_free Char = refl
  constants_free Byte = refl
  constants_free Short = refl
  constants_free Int = refl
  constants_free Long = refl
  constants_free Text = refl

module _ (p : Program) (g : Name) (boxes : List ClassLink) (s : State) (at_of : Kind → ℕ) (v : Value) where
  test_called : (low : Low) (k : Kind) (st : TestStands p g boxes s k) → evaluate p low (call1 (is_name k) (var (codes "v"))) (of_value g v) s ≡ code_call low st.home (Some (test_code k)) (v ∷ []) s
  test_called low k st =
      call_comes p low (of_value g v) s (is_name k) st.home (expressions_of (var (codes "v") ∷ [])) (v ∷ []) (test_free g v k) st.test (λ act. refl)
      ∙ ap (λ (o : Option Code). code_call low st.home o (v ∷ []) s) st.test_is

  told : (n : ℕ) (ks : List Kind) (w : Value) → ClassesStand p g boxes s at_of ks → class_value p s boxes at_of ks v ≡ Some w → then_do (execute_all p (below p (suc n)) (statements_of (v_returns ks)) (of_value g v) s) returned ≡ done (gives w s)
  told n [] w classes_none h = return_hands_on p (below p (suc n)) (property_of (var (codes "v")) (codes "k")) no_statements (of_value g v) s ∙ ap (λ (o : Option Value). value_or_wrong o (of_value g v) s) h
  told n (k ∷ ks) w (classes_more _ _ test constants rest) h =
      returned_first p (below p (suc n)) (of_value g v) s (call1 (is_name k) (var (codes "v"))) (name_use (helper_name (ConstantsOf k))) (statements_of (v_returns ks)) (is_of s boxes k v) (test_called (below p (suc n)) k test ∙ tests_tell p n test.home boxes s k v test.kind_told test.boxes_stand)
      ∙ go (is_of s boxes k v) h (λ e. told n ks w rest e)
    where
      go : (b : Bool) → cond b (Some (object (at_of k))) (class_value p s boxes at_of ks v) ≡ Some w → (class_value p s boxes at_of ks v ≡ Some w → then_do (execute_all p (below p (suc n)) (statements_of (v_returns ks)) (of_value g v) s) returned ≡ done (gives w s)) →
          cond b (evaluate p (below p (suc n)) (name_use (helper_name (ConstantsOf k))) (of_value g v) s) (then_do (execute_all p (below p (suc n)) (statements_of (v_returns ks)) (of_value g v) s) returned) ≡ done (gives w s)
      go true e behind =
          let same : object (at_of k) ≡ w = cc in
          name_at_top p (helper_name (ConstantsOf k)) constants.const (object (at_of k)) (of_value g v) s (constants_free g v k) constants.cell_is ∙ ap (λ (u : Value). done (gives u s)) same
      go false e behind = behind e

  asks_first : (k : Kind) (ks : List Kind) → TestStands p g boxes s k → then_do (execute_all p (below p 0) (statements_of (v_returns (k ∷ ks))) (of_value g v) s) returned ≡ going
  asks_first k ks st = ap (λ (o : Out ExpressionEnd). then_do (then_do (then_do o (in_statement (of_value g v) (λ w. taken (in_block (only_return (name_use (helper_name (ConstantsOf k)))) (execute_all p (below p 0) (only_return (name_use (helper_name (ConstantsOf k)))))) nothing w (of_value g v)))) (next_statement (execute_all p (below p 0) (statements_of (v_returns ks))))) returned) (test_called (below p 0) k st)

  first_test : ClassesStand p g boxes s at_of worded_kinds → TestStands p g boxes s Undefined
  first_test (classes_more _ _ st constants rest) = st

pub classes_tell : ClassesTell
classes_tell = record {
  tells = λ p n g boxes s at_of v w st h. told p g boxes s at_of v n worded_kinds w st h;
  within_1 = λ p g boxes s at_of v st. asks_first p g boxes s at_of v Undefined (Boolean ∷ Int ∷ Long ∷ Text ∷ []) (first_test p g boxes s at_of v st);
  of_undefined = λ p s boxes at_of. refl;
  of_boolean = λ p s boxes at_of b. refl;
  of_number = λ p s boxes at_of z. refl;
  of_big_int = λ p s boxes at_of z. refl;
  of_text = λ p s boxes at_of us. refl;
  of_object = λ p s boxes at_of a. refl;
}

-- the depth of elements
exact_there : (m : ℕ) → nat_lt m (2 ^ 31) ≡ true → is_exact (pos m) ≡ true
exact_there m h = let e : nat_le m (2 ^ 53) ≡ true = grind (arith, nat_tests) in e

minus_one : (m : ℕ) → (pos (suc m) -ℤ pos 1) ≡ pos m
minus_one m = omega (arith, ints)

fits_word : (m : ℕ) → nat_lt m (2 ^ 31) ≡ true → FitsSigned w32 (pos m)
fits_word m h = let small : m < 2 ^ 31 = grind (arith, nat_tests) in record { sfits = small }

abbrev one_less : Expression
one_less = binary_of (var (codes "n")) Subtract (num 1)

abbrev lower : Expression
lower = binary_of one_less BitOr (num 0)

module _ (p : Program) (low : Low) (sc : Scope) (s : State) (m : ℕ) (held : evaluate p low (var (codes "n")) sc s ≡ done (gives (number (pos (suc m))) s)) (small : nat_lt m (2 ^ 31) ≡ true) where
  subtracted : evaluate p low one_less sc s ≡ done (gives (number (pos m)) s)
  subtracted = operands_come p low sc s Subtract (var (codes "n")) (num 1) (number (pos (suc m))) (number (pos 1)) (number (pos m)) held refl (ap exact (minus_one m) ∙ ap (λ (b : Bool). if b then Some (number (pos m)) else None) (exact_there m small))

  pub lower_comes : evaluate p low lower sc s ≡ done (gives (number (pos m)) s)
  lower_comes = operands_come p low sc s BitOr one_less (num 0) (number (pos m)) (number (pos 0)) (number (pos m)) subtracted refl (ap (λ (z : ℤ). Some (number z)) (or_zero-is (pos m) ∙ wrapped-same (pos m) (fits_word m small)))

-- an array object is an array
pub is_array : (l : ClassLink) (above : List ClassLink) (s : State) (a n : ℕ) (f : Value) (b : ℕ) (items : List Value) → IsArrayObject (l ∷ above) s a n f b items → is_box s (l ∷ above) (object a) ≡ true
is_array l above s a n f b items is =
    ap (λ (o : Option Stored). stored_below o (l ∷ above)) is.stored
    ∙ ap (λ (t : Bool). (t && is_same_text l.name l.name) || is_below above (l ∷ above)) (same_text l.file)
    ∙ ap (λ (t : Bool). t || is_below above (l ∷ above)) (same_text l.name)

-- a call of the helper that tells types of arrays, for the array under a name
module _ (p : Program) (low : Low) (sc : Scope) (links : List ClassLink) (s : State) (a n : ℕ) (f : Value) (b : ℕ) (items : List Value) (is : IsArrayObject links s a n f b items) (y : Name) (depth type : Expression) (m : Value) (d : Value) (y_held : evaluate p low (var y) sc s ≡ done (gives (object a) s)) (depth_held : evaluate p low depth sc s ≡ done (gives m s)) (type_held : evaluate p low type sc s ≡ done (gives d s)) (free : sc.bindings (helper_name Covers) ≡ absent) (covering : UsesHelper p sc.file Covers s) where
  pub cover_called : evaluate p low (calls Covers (at (var y) (codes "n") ∷ at (var y) (codes "e") ∷ depth ∷ type ∷ [])) sc s ≡ code_call low covering.home (Some (helper_code Covers)) (number (pos n) ∷ f ∷ m ∷ d ∷ []) s
  cover_called =
      call_comes p low sc s (helper_name Covers) covering.home (expressions_of (at (var y) (codes "n") ∷ at (var y) (codes "e") ∷ depth ∷ type ∷ [])) (number (pos n) ∷ f ∷ m ∷ d ∷ []) free covering.top
      (λ act.
      one_more p (evaluate p low (at (var y) (codes "n"))) (evaluate p low (at (var y) (codes "e")) ∷ evaluate p low depth ∷ evaluate p low type ∷ []) act (number (pos n)) sc s (depth_comes p low sc links s a n f b items is (var y) y_held)
      ∙ one_more p (evaluate p low (at (var y) (codes "e"))) (evaluate p low depth ∷ evaluate p low type ∷ []) (λ vs. act (number (pos n) ∷ vs)) f sc s (element_comes p low sc links s a n f b items is (var y) y_held)
      ∙ one_more p (evaluate p low depth) (evaluate p low type ∷ []) (λ vs. act (number (pos n) ∷ f ∷ vs)) m sc s depth_held
      ∙ one_more p (evaluate p low type) [] (λ vs. act (number (pos n) ∷ f ∷ m ∷ vs)) d sc s type_held)
      ∙ ap (λ (o : Option Code). code_call low covering.home o (number (pos n) ∷ f ∷ m ∷ d ∷ []) s) covering.code_is

-- `$fits`
abbrev is_deep : Expression
is_deep = binary_of (var (codes "n")) Greater (num 1)

abbrev covered : Expression
covered = calls Covers (at (var (codes "v")) (codes "n") ∷ at (var (codes "v")) (codes "e") ∷ lower ∷ var (codes "e") ∷ [])

abbrev value_is_array : Expression
value_is_array = binary_of (var (codes "v")) InstanceOf (name_use (helper_name ArrayClass))

abbrev deep_fit : Expression
deep_fit = both value_is_array covered

abbrev of_kind : Kind → Expression
of_kind k = binary_of (at (var (codes "e")) (codes "s")) StrictEqual (word (marker (kind_class k)))

abbrev test_of : Kind → Expression
test_of k = calls (TestOf k) (var (codes "v") ∷ [])

abbrev class_asked : Expression
class_asked = calls ClassOf (var (codes "v") ∷ [])

abbrev has_marker : Expression
has_marker = binary_of (at (var (codes "e")) (codes "s")) In class_asked

abbrev marker_rest : Statements
marker_rest = statement (return_of has_marker) no_statements

abbrev short_rest : Statements
short_rest = statement (if_only (of_kind Short) (only_return (test_of Short))) marker_rest

abbrev byte_rest : Statements
byte_rest = statement (if_only (of_kind Byte) (only_return (test_of Byte))) short_rest

deep_there : (m : ℕ) → nat_lt 0 m ≡ true → nat_lt 1 (suc m) ≡ true
deep_there m h = grind (arith, nat_tests)

module _ (p : Program) (i : ℕ) (g : Name) (links : List ClassLink) (s : State) (v e : Value) (uses : FitsStand p g links s) where
  abbrev low : Low
  low = below p i

  abbrev scope_at : ℕ → Scope
  scope_at n = function_scope g (helper_code Fits) (v ∷ number (pos n) ∷ e ∷ [])

  abbrev Fitted : ℕ → Out ExpressionEnd → Type 0
  Fitted n o = code_call (below p (suc i)) g (Some (helper_code Fits)) (v ∷ number (pos n) ∷ e ∷ []) s ≡ o

  deeply : (m : ℕ) → nat_lt 0 m ≡ true → (b : Bool) (o : Out ExpressionEnd) → is_box s links v ≡ b → (b ≡ true → evaluate p low covered (scope_at (suc m)) s ≡ o) → Fitted (suc m) (cond b o (done (gives (boolean false) s)))
  deeply m h b o is_b k =
      returned_first p low (scope_at (suc m)) s is_deep deep_fit byte_rest true (ap (λ (t : Bool). done (gives (boolean t) s)) (deep_there m h))
      ∙ both_come p low (scope_at (suc m)) s value_is_array covered b o (instance_comes p low (scope_at (suc m)) s (codes "v") v links refl refl uses.arrays ∙ ap (λ (t : Bool). done (gives (boolean t) s)) is_b) k

  module _ (a : ℕ) (c : Name) (own : Name → Option Value) (are : AreConstants s a c own) (e_is : e ≡ object a) where
    abbrev sc : Scope
    sc = scope_at 1

    type_held : evaluate p low (var (codes "e")) sc s ≡ done (gives (object a) s)
    type_held = ap (λ (w : Value). done (gives w s)) e_is

    kind_comes : (k : Kind) (b : Bool) → is_same_text (marker c) (marker (kind_class k)) ≡ b → evaluate p low (of_kind k) sc s ≡ done (gives (boolean b) s)
    kind_comes k b h =
        operands_come p low sc s StrictEqual (at (var (codes "e")) (codes "s")) (word (marker (kind_class k))) (text (marker c)) (text (marker (kind_class k))) (boolean (is_same_text (marker c) (marker (kind_class k)))) (marker_comes p low sc s (var (codes "e")) a c own are type_held) refl refl
        ∙ ap (λ (t : Bool). done (gives (boolean t) s)) h

    flatly : (b : Bool) → is_same_text (marker c) (marker (kind_class Byte)) ≡ b → Fitted 1 (cond b (evaluate p low (test_of Byte) sc s) (then_do (execute_all p low short_rest sc s) returned))
    flatly b h =
        returned_first p low sc s is_deep deep_fit byte_rest false refl
        ∙ returned_first p low sc s (of_kind Byte) (test_of Byte) short_rest b (kind_comes Byte b h)

    then_short : (b : Bool) → is_same_text (marker c) (marker (kind_class Short)) ≡ b → then_do (execute_all p low short_rest sc s) returned ≡ cond b (evaluate p low (test_of Short) sc s) (then_do (execute_all p low marker_rest sc s) returned)
    then_short b h = returned_first p low sc s (of_kind Short) (test_of Short) marker_rest b (kind_comes Short b h)

    byte_called : evaluate p low (test_of Byte) sc s ≡ code_call low uses.byte.home (Some (test_code Byte)) (v ∷ []) s
    byte_called = call_comes p low sc s (is_name Byte) uses.byte.home (expressions_of (var (codes "v") ∷ [])) (v ∷ []) refl uses.byte.top (λ act. refl) ∙ ap (λ (o : Option Code). code_call low uses.byte.home o (v ∷ []) s) uses.byte.code_is

    short_called : evaluate p low (test_of Short) sc s ≡ code_call low uses.short.home (Some (test_code Short)) (v ∷ []) s
    short_called = call_comes p low sc s (is_name Short) uses.short.home (expressions_of (var (codes "v") ∷ [])) (v ∷ []) refl uses.short.top (λ act. refl) ∙ ap (λ (o : Option Code). code_call low uses.short.home o (v ∷ []) s) uses.short.code_is

    class_called : evaluate p low class_asked sc s ≡ helper_call p i uses.class_of.home ClassOf (v ∷ []) s
    class_called = call_comes p low sc s (helper_name ClassOf) uses.class_of.home (expressions_of (var (codes "v") ∷ [])) (v ∷ []) refl uses.class_of.top (λ act. refl)

    -- neither a byte nor a short
    by_marker : is_same_text (marker c) (marker (kind_class Byte)) ≡ false → is_same_text (marker c) (marker (kind_class Short)) ≡ false → Fitted 1 (evaluate p low has_marker sc s)
    by_marker no_byte no_short = flatly false no_byte ∙ then_short false no_short ∙ return_hands_on p low has_marker no_statements sc s

    marker_told : (k : ℕ) (d : Name) (other : Name → Option Value) → helper_call p i uses.class_of.home ClassOf (v ∷ []) s ≡ done (gives (object k) s) → AreConstants s k d other → evaluate p low has_marker sc s ≡ done (gives (boolean (is_some (other (marker c)))) s)
    marker_told k d other h those = has_marker_comes p low sc s (at (var (codes "e")) (codes "s")) class_asked k d other c those (marker_comes p low sc s (var (codes "e")) a c own are type_held) (class_called ∙ h)

    marker_goes : helper_call p i uses.class_of.home ClassOf (v ∷ []) s ≡ going → evaluate p low has_marker sc s ≡ going
    marker_goes h =
        one_more p (evaluate p low (at (var (codes "e")) (codes "s"))) (evaluate p low class_asked ∷ []) (has p) (text (marker c)) sc s (marker_comes p low sc s (var (codes "e")) a c own are type_held)
        ∙ ap (λ (o : Out ExpressionEnd). then_do o (with_value (λ w. has p (text (marker c) ∷ w ∷ []) sc))) (class_called ∙ h)

module _ (p : Program) (i : ℕ) (g : Name) (l : ClassLink) (above : List ClassLink) (s : State) (a n : ℕ) (f : Value) (b : ℕ) (items : List Value) (e : Value) (m : ℕ) (uses : FitsStand p g (l ∷ above) s) (deep : nat_lt 0 m ≡ true) (small : nat_lt m (2 ^ 31) ≡ true) (is : IsArrayObject (l ∷ above) s a n f b items) where
  abbrev array_scope : Scope
  array_scope = function_scope g (helper_code Fits) (object a ∷ number (pos (suc m)) ∷ e ∷ [])

  pub asks_cover : code_call (below p (suc i)) g (Some (helper_code Fits)) (object a ∷ number (pos (suc m)) ∷ e ∷ []) s ≡ code_call (below p i) uses.covering.home (Some (helper_code Covers)) (number (pos n) ∷ f ∷ number (pos m) ∷ e ∷ []) s
  asks_cover = deeply p i g (l ∷ above) s (object a) e uses m deep true (code_call (below p i) uses.covering.home (Some (helper_code Covers)) (number (pos n) ∷ f ∷ number (pos m) ∷ e ∷ []) s) (is_array l above s a n f b items is)
      (λ t. cover_called p (below p i) array_scope (l ∷ above) s a n f b items is (codes "v") lower (var (codes "e")) (number (pos m)) e refl (lower_comes p (below p i) array_scope s m refl small) refl refl uses.covering)

pub deep_fits_tell : DeepFitsTell
deep_fits_tell = record {
  of_other = λ p i g links s v e m uses deep no. deeply p i g links s v e uses m deep false going no (λ t. absurd (true≢false (sym t)));
  of_array = λ p i g l above s a n f b items e m uses deep small is f_is e_is. asks_cover p (suc i) g l above s a n f b items e m uses deep small is ∙ covers_tells p i uses.covering.home s n m f e f_is e_is;
}

pub flat_fits_tell : FlatFitsTell
flat_fits_tell = record {
  of_byte = λ p i g links s v a own uses are. flatly p (suc i) g links s v (object a) uses a (kind_class Byte) own are refl true (same_text (marker (kind_class Byte))) ∙ byte_called p (suc i) g links s v (object a) uses a (kind_class Byte) own are refl ∙ small_tests_tell.byte p i uses.byte.home s v;
  of_short = λ p i g links s v a own uses are. flatly p (suc i) g links s v (object a) uses a (kind_class Short) own are refl false refl ∙ then_short p (suc i) g links s v (object a) uses a (kind_class Short) own are refl true (same_text (marker (kind_class Short))) ∙ short_called p (suc i) g links s v (object a) uses a (kind_class Short) own are refl ∙ small_tests_tell.short p i uses.short.home s v;
  of_class = λ p i g links s v a c own k d other uses are no_byte no_short h those. by_marker p i g links s v (object a) uses a c own are refl no_byte no_short ∙ marker_told p i g links s v (object a) uses a c own are refl k d other h those;
}

pub short_fits_go : ShortFitsGo
short_fits_go = record {
  of_array = λ p g l above s a n f b items e m uses deep small is. asks_cover p 0 g l above s a n f b items e m uses deep small is;
  of_byte = λ p g links s v a own uses are. flatly p 0 g links s v (object a) uses a (kind_class Byte) own are refl true (same_text (marker (kind_class Byte))) ∙ byte_called p 0 g links s v (object a) uses a (kind_class Byte) own are refl;
  of_short = λ p g links s v a own uses are. flatly p 0 g links s v (object a) uses a (kind_class Short) own are refl false refl ∙ then_short p 0 g links s v (object a) uses a (kind_class Short) own are refl true (same_text (marker (kind_class Short))) ∙ short_called p 0 g links s v (object a) uses a (kind_class Short) own are refl;
  of_class = λ p i g links s v a c own uses are no_byte no_short h. by_marker p i g links s v (object a) uses a c own are refl no_byte no_short ∙ marker_goes p i g links s v (object a) uses a c own are refl h;
}
