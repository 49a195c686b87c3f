-- The casts of kinds.
use Rattle.std.specs.Prelude.{◌≡◌, ◌≢◌, ℕ, suc, Bool, true, false, List, [], ◌∷◌, Option, Some, pos, codes}
use Rattle.int_arithmetic.specs.Signed.{wrapped_to_byte, wrapped_to_short}
use Rattle.js_tree.specs.Terms.{Name}
use Rattle.outcomes.specs.Outcome.{Out, done}
use Rattle.js_mean.specs.Objects.{property}
use Rattle.js_mean.specs.States.{Value, undefined, null, boolean, number, big_int, text, ClassLink, State, ExpressionEnd, gives, Program}
use Rattle.js_mean.specs.Meaning.{Code, below, code_of, code_call}
use Rattle.class_tests.specs.Bridges.{IsTopFunction}
use Rattle.class_tests.specs.Kind.{Kind}
use Rattle.class_tests.specs.KindVariants.{Undefined, Boolean, Char, Byte, Short, Long, Text}
use Rattle.class_tests.specs.Words.{is_name, only_return}
use Rattle.class_tests.specs.Helpers.{cast_of, kind_word}
use Rattle.class_tests.specs.Kinds.{is_of, test_code, BoxesStand}
use Rattle.class_tests.specs.Small.{is_small_number}

-- what the test of a kind tells of a value
abbrev pub passes : State → List ClassLink → Kind → Value → Bool
passes s boxes Byte v = is_small_number wrapped_to_byte v
passes s boxes Short v = is_small_number wrapped_to_short v
passes s boxes k v = is_of s boxes k v

-- the zero of the type of a kind
abbrev pub zero_value : Kind → Value
zero_value Undefined = undefined
zero_value Boolean = boolean false
zero_value Long = big_int (pos 0)
zero_value Text = text []
zero_value _ = number (pos 0)

-- what a cast gives of a value of its kind: of a boxed char its unit, of any other the value itself
abbrev pub unboxed_value : Program → State → Kind → Value → Option Value
unboxed_value p s Char v = property p s v (codes "c")
unboxed_value p s _ v = Some v

abbrev pub cast_code : Kind → Code
cast_code k = record { parameters = codes "x" ∷ []; body = only_return (cast_of k) }

abbrev pub throwing_name : Name
throwing_name = codes "$cce"

-- what `$cce` comes to on a text
abbrev pub failed : Program → ℕ → Name → List ℕ → State → Out ExpressionEnd
failed p n home us s = code_call (below p n) home (code_of p home throwing_name) (text us ∷ []) s

-- the test of a kind stands in the program, and that of chars where their class stands
pub record KindTestStands (p : Program) (g : Name) (boxes : List ClassLink) (s : State) (k : Kind) : Type 0 where
  pub home : Name
  pub test : IsTopFunction p g (is_name k) home s
  pub test_is : code_of p home (is_name k) ≡ Some (test_code k)
  pub boxes_stand : k ≡ Char → BoxesStand p home boxes s

-- what the cast of a kind uses: the test of the kind, and the function that throws
pub record CastStands (p : Program) (g : Name) (boxes : List ClassLink) (s : State) (k : Kind) : Type 0 where
  pub tested : KindTestStands p g boxes s k
  pub throwing_home : Name
  pub throwing : IsTopFunction p g throwing_name throwing_home s

-- on null `$asX` costs one unit and gives the zero; on any other value it costs two, and gives the value if it is of the kind; else it comes, at one unit more, to what `$cce` comes to on the word of the kind
pub record CastsTell : Type 0 where
  pub of_null : (p : Program) (n : ℕ) (g : Name) (s : State) (k : Kind) → code_call (below p (suc n)) g (Some (cast_code k)) (null ∷ []) s ≡ done (gives (zero_value k) s)
  pub of_kind : (p : Program) (n : ℕ) (g : Name) (boxes : List ClassLink) (s : State) (k : Kind) (v u : Value) → CastStands p g boxes s k → passes s boxes k v ≡ true → unboxed_value p s k v ≡ Some u → code_call (below p (suc (suc n))) g (Some (cast_code k)) (v ∷ []) s ≡ done (gives u s)
  pub of_other : (p : Program) (n : ℕ) (g : Name) (boxes : List ClassLink) (s : State) (k : Kind) (v : Value) (st : CastStands p g boxes s k) → v ≢ null → passes s boxes k v ≡ false → code_call (below p (suc (suc n))) g (Some (cast_code k)) (v ∷ []) s ≡ failed p (suc n) st.throwing_home (kind_word k) s
