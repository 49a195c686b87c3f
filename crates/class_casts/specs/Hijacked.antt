-- The cast of a hijacked class gives null and instances, by the world.
use Rattle.std.specs.Prelude.{◌≡◌, ℕ, ℤ, suc, true, false, List, Option, Some, None}
use Rattle.js_tree.specs.Terms.{Name}
use Rattle.class_tests.specs.Known.{Classes, is_hijacked}
use Rattle.class_tests.specs.Calls.{IsInstance}
use Rattle.class_tests.specs.Laws.{IsPlain}
use Rattle.js_mean.specs.States.{Value, number, object, ClassLink, State, Program}
use Rattle.class_tests.specs.Kind.{Kind}
use Rattle.class_tests.specs.Words.{kind_class}
use Rattle.class_tests.specs.Kinds.{is_box, is_of, is_told}
use Rattle.class_casts.specs.Classes.{HijackedCastStands}
use Rattle.class_casts.specs.Worlds.{GivesInstances}

-- the number that a value is, if it is one
abbrev pub number_in : Value → Option ℤ
number_in (number z) = Some z
number_in _ = None

-- in a world where no class writes a hijacked class: on a primitive value or a boxed char, which is of a kind that a call tells, and on an object that is no boxed char
pub record HijackedCastsAreOfTheWorld : Type 0 where
  pub of_told : (w : Classes) (p : Program) (n : ℕ) (g : Name) (boxes : List ClassLink) (s : State) (k j : Kind) (v : Value) (st : HijackedCastStands p g boxes s (kind_class k) k) →
      IsPlain w → is_told j ≡ true → is_of s boxes j v ≡ true → GivesInstances p (suc (suc n)) g st.cast.throwing_home s (kind_class k) v (IsInstance w (kind_class j) (number_in v) (kind_class k))
  pub of_object : (w : Classes) (p : Program) (n : ℕ) (g : Name) (boxes : List ClassLink) (s : State) (k : Kind) (a : ℕ) (d : Name) (st : HijackedCastStands p g boxes s (kind_class k) k) →
      IsPlain w → is_box s boxes (object a) ≡ false → is_hijacked d ≡ false → GivesInstances p (suc (suc n)) g st.cast.throwing_home s (kind_class k) (object a) (IsInstance w d None (kind_class k))
