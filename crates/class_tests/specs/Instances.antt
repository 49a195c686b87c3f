-- The test of a class gives what the world says of instances.
use Rattle.std.specs.Prelude.{◌≡◌, ◌↔◌, ℕ, ℤ, Bool, true, false, List, Option}
use Rattle.js_tree.specs.Terms.{Name}
use Rattle.class_code.specs.Known.{Classes, is_hijacked}
use Rattle.class_code.specs.Calls.{IsInstance}
use Rattle.js_mean.specs.States.{Value, ClassLink, State}
use Rattle.class_code.specs.Kind.{Kind}
use Rattle.class_code.specs.KindVariants.{Char, Byte, Short}
use Rattle.class_code.specs.Words.{kind_class, worded_kinds}
use Rattle.class_code.specs.Classes.{AreInstances}
use Rattle.class_tests.specs.Kinds.{is_of}
use Rattle.class_tests.specs.Tests.{class_told}

abbrev pub is_worded : Kind → Bool
is_worded Char = false
is_worded Byte = false
is_worded Short = false
is_worded _ = true

-- for a class that isn't hijacked: on a primitive value but a char the test tells whether it is an instance, and on an object the marker does
pub record InstancesTell (w : Classes) (c : Name) (kinds : List Kind) : Type 0 where
  pub primitive : (s : State) (boxes : List ClassLink) (k : Kind) (v : Value) (number : Option ℤ) → is_worded k ≡ true → is_of s boxes k v ≡ true → (class_told s boxes kinds v false ≡ true) ↔ IsInstance w (kind_class k) number c
  pub object : (s : State) (boxes : List ClassLink) (a : ℕ) (b : Bool) → class_told s boxes kinds (Value.object a) b ≡ b

abbrev pub TestsTellInstances : Type 0
TestsTellInstances = (w : Classes) (c : Name) (kinds : List Kind) → is_hijacked c ≡ false → AreInstances w c worded_kinds kinds → InstancesTell w c kinds
