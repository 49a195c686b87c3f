-- The cast of a class.
use Rattle.std.specs.Prelude.{◌≡◌, ◌≢◌, ℕ, suc, Bool, List, [], ◌∷◌, Some, codes, if◌then◌else◌}
use Rattle.js_tree.specs.Terms.{Name}
use Rattle.outcomes.specs.Outcome.{done}
use Rattle.sj_mangling.specs.Bindings.{class_binding}
use Rattle.sj_mangling.specs.declared.bindings.ClassBinding.TheVariants.{IsInstance}
use Rattle.js_mean.specs.States.{Value, null, boolean, ClassLink, State, gives, Program}
use Rattle.js_mean.specs.Meaning.{Code, below, code_of, code_call}
use Rattle.class_tests.specs.Bridges.{IsTopFunction}
use Rattle.class_tests.specs.Kind.{Kind}
use Rattle.class_tests.specs.Words.{units_of, only_return}
use Rattle.class_tests.specs.Pieces.{kind_test, cast_value}
use Rattle.class_casts.specs.Kinds.{passes, throwing_name, failed, KindTestStands}

abbrev pub class_cast_code : Name → Code
class_cast_code c = record { parameters = codes "x" ∷ []; body = only_return (cast_value c) }

abbrev pub class_test_name : Name → Name
class_test_name = class_binding IsInstance

-- what the cast of a class uses: its test, and the function that throws
pub record ClassCastStands (p : Program) (g : Name) (s : State) (c : Name) : Type 0 where
  pub test_home : Name
  pub test : IsTopFunction p g (class_test_name c) test_home s
  pub throwing_home : Name
  pub throwing : IsTopFunction p g throwing_name throwing_home s

-- on null `as_C` costs one unit and gives null; on any other value it costs one more than `is_C`, and gives the value where that is true; else it comes, at one unit more, to what `$cce` comes to on the name of the class
pub record ClassCastsTell : Type 0 where
  pub of_null : (p : Program) (n : ℕ) (g : Name) (s : State) (c : Name) → code_call (below p (suc n)) g (Some (class_cast_code c)) (null ∷ []) s ≡ done (gives null s)
  pub of_other : (p : Program) (n : ℕ) (g : Name) (s : State) (c : Name) (v : Value) (b : Bool) (st : ClassCastStands p g s c) → v ≢ null →
      code_call (below p n) st.test_home (code_of p st.test_home (class_test_name c)) (v ∷ []) s ≡ done (gives (boolean b) s) →
      code_call (below p (suc n)) g (Some (class_cast_code c)) (v ∷ []) s ≡ (if b then done (gives v s) else failed p n st.throwing_home (units_of c) s)

abbrev pub hijacked_test_code : Kind → Code
hijacked_test_code k = record { parameters = codes "x" ∷ []; body = only_return (kind_test k) }

-- the cast of a hijacked class and its test, which is that of the kind of the class
pub record HijackedCastStands (p : Program) (g : Name) (boxes : List ClassLink) (s : State) (c : Name) (k : Kind) : Type 0 where
  pub cast : ClassCastStands p g s c
  pub test_is : code_of p cast.test_home (class_test_name c) ≡ Some (hijacked_test_code k)
  pub tested : KindTestStands p cast.test_home boxes s k

-- on a value other than null it costs three units, and gives a value of the kind as it is, also a boxed char
abbrev pub HijackedCastsTell : Type 0
HijackedCastsTell = (p : Program) (n : ℕ) (g : Name) (boxes : List ClassLink) (s : State) (c : Name) (k : Kind) (v : Value) (st : HijackedCastStands p g boxes s c k) → v ≢ null →
    code_call (below p (suc (suc (suc n)))) g (Some (class_cast_code c)) (v ∷ []) s ≡ (if passes s boxes k v then done (gives v s) else failed p (suc (suc n)) st.cast.throwing_home (units_of c) s)
