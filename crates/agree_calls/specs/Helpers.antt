-- Helpers that fail: what each does, and its function; the class of objects that hold chars; helpers that tell values apart; and tests.
use Rattle.std.specs.Prelude.{◌≡◌, ℕ, true, false, List, [], ◌∷◌, Option, Some, None, codes}
use Rattle.std.specs.List.{Contains}
pub use Rattle.array_code.specs.Codes.{code_of_item, helper_code}
use Rattle.array_code.specs.Classes.{hijacked_test_code}
use Rattle.array_code.specs.Tests.{class_test_code}
use Rattle.dispatch_laws.specs.States as ir
use Rattle.js_mean.specs.Classes.{members_of}
use Rattle.js_mean.specs.Files.{owner}
use Rattle.js_mean.specs.Meaning as js_meaning
use Rattle.js_mean.specs.Objects.{no_properties, with_property}
use Rattle.js_mean.specs.States as js
use Rattle.js_tree.specs.Terms.{Name, Expression, throw_of, return_of, text_literal}
use Rattle.js_tree.specs.Views.{statements_of}
use Rattle.array_code.specs.Helpers.{raise, zero_check, helper_name, box_constructor}
use Rattle.array_code.specs.Words.{kind_class, worded_kinds}
use Rattle.agree_bodies.specs.Helper.{Helper}
use Rattle.array_code.specs.HelperVariants.{BoxedChar, ConstantsOf, Equal, NotNull, TestOf}
use Rattle.array_code.specs.Kind.{Kind}
use Rattle.array_code.specs.KindVariants as kinds
use Rattle.array_code.specs.SjEmitClassSpecClasses.{AreInstances}
use Rattle.dispatch_laws.specs.Meaning.{with_message}
use Rattle.dispatch_laws.specs.Tests.{test_name}
use Rattle.agree_bodies.specs.Desugar.{member}
use Rattle.agree_bodies.specs.Settings.{Place, Reaches, a_test, a_helper, box_link, division_helper, SameState}
use Rattle.agree_bodies.specs.Worlds.{World, Grows, SameValue}
use Rattle.sj_names.specs.declared.method_names.Namespace.TheVariants.{Constructor}
use Rattle.sj_trees.specs.declared.operators.BinaryOp.{BinaryOp}
use Rattle.sj_trees.specs.declared.types.IrType.{IrType}
use Rattle.sj_trees.specs.declared.types.IrType.TheVariants.{Any, Undefined, Boolean, Char, Byte, Short, Int, Long, String, Class}
use Rattle.dispatch_laws.specs.Known.{is_hijacked}

-- the function that throws an exception of this class with this message, and the one that hands on what isn't null
abbrev pub failing_code : List ℕ → List ℕ → js_meaning.Code
failing_code e message = record { parameters = []; body = statements_of (throw_of (raise e (text_literal message)) ∷ []) }

abbrev pub checking_code : js_meaning.Code
checking_code = helper_code NotNull

-- the function that throws where its divisor is zero, and gives what the division comes to elsewhere; and that of each division
abbrev pub dividing_code : Expression → Expression → js_meaning.Code
dividing_code zero result = record { parameters = codes "a" ∷ codes "b" ∷ []; body = statements_of (zero_check zero ∷ return_of result ∷ []) }

abbrev pub division_code : BinaryOp → js_meaning.Code
division_code o = helper_code (division_helper o)

-- the function of a helper stands in its file
abbrev pub HelperStands : Place → Helper → js_meaning.Code → Type 0
HelperStands p h code = js_meaning.code_of p.program (p.home (a_helper h)) (helper_name h) ≡ Some code

-- the helper stands in its file with its function; this file reaches it, and the code of some file can use it
pub record ReachesHelper (p : Place) (f : Name) (h : Helper) : Type 0 where
  pub stands : HelperStands p h (helper_code h)
  pub owned : owner p.program f (helper_name h) ≡ Some (p.home (a_helper h))
  pub user : Name
  pub usable : (p.has user).helper (helper_name h) ≡ true

-- and one that throws an exception of this class, which can be made in its file
pub record ReachesThrower (p : Place) (f : Name) (h : Helper) (e : List ℕ) : Type 0 where
  pub failure : HelperStands p h (helper_code h)
  pub owned : owner p.program f (helper_name h) ≡ Some (p.home (a_helper h))
  pub user : Name
  pub usable : (p.has user).helper (helper_name h) ≡ true
  pub reaches : Reaches p (p.home (a_helper h))
  pub built : (p.has (p.home (a_helper h))).built (member e Constructor with_message) ≡ true
  pub made : (p.has (p.home (a_helper h))).made e ≡ true

-- the class of objects that hold chars stands in its file, with its constructor alone; its file reaches the constants of java.lang.Character; and the code
-- of some file can use them
pub record BoxStands (p : Place) : Type 0 where
  pub members_are : members_of p.program (box_link p) ≡ Some (box_constructor ∷ [])
  pub reached : owner p.program (p.home (a_helper BoxedChar)) (helper_name (ConstantsOf kinds.Char)) ≡ Some (p.home (a_helper (ConstantsOf kinds.Char)))
  pub user : Name
  pub usable : (p.has user).helper (helper_name (ConstantsOf kinds.Char)) ≡ true

-- this file reaches the class of objects that hold chars, and the code of some file can use it
pub record ReachesBoxes (p : Place) (f : Name) : Type 0 where
  pub reached : owner p.program f (helper_name BoxedChar) ≡ Some (p.home (a_helper BoxedChar))
  pub user : Name
  pub usable : (p.has user).helper (helper_name BoxedChar) ≡ true

-- the helper that tells whether two values are the same stands in its file, which reaches the class of objects that hold chars
pub record CanCompare (p : Place) : Type 0 where
  pub equality : HelperStands p Equal (helper_code Equal)
  pub boxes : ReachesBoxes p (p.home (a_helper Equal))

-- the kind of the values of a primitive type, by whose helper they are told
abbrev pub kind_of : IrType → Option Kind
kind_of Undefined = Some kinds.Undefined
kind_of Boolean = Some kinds.Boolean
kind_of Char = Some kinds.Char
kind_of Byte = Some kinds.Byte
kind_of Short = Some kinds.Short
kind_of Int = Some kinds.Int
kind_of Long = Some kinds.Long
kind_of String = Some kinds.Text
kind_of _ = None

-- the test of a primitive type stands in its file, as the helper of its kind; that of chars reaches the class of objects that hold them
pub record CanTest (p : Place) (t : IrType) : Type 0 where
  pub kind : Kind
  pub its_kind : kind_of t ≡ Some kind
  pub test : js_meaning.code_of p.program (p.home (a_test t)) (test_name t) ≡ Some (helper_code (TestOf kind))
  pub boxes : kind ≡ kinds.Char → ReachesBoxes p (p.home (a_test t))

-- the test of a kind stands in its file, with the class of objects that hold chars in reach where it needs that; this file reaches it, and the code of some
-- file can use it
pub record ReachesTest (p : Place) (f : Name) (k : Kind) : Type 0 where
  pub test : HelperStands p (TestOf k) (helper_code (TestOf k))
  pub boxes : k ≡ kinds.Char → ReachesBoxes p (p.home (a_helper (TestOf k)))
  pub owned : owner p.program f (helper_name (TestOf k)) ≡ Some (p.home (a_helper (TestOf k)))
  pub user : Name
  pub usable : (p.has user).helper (helper_name (TestOf k)) ≡ true

-- the test of a class stands in its file: that of one that isn't hijacked tells the kinds whose values are instances of it, and objects by its marker; that of
-- a hijacked one tells its kind
pub data ClassTest (p : Place) : List ℕ → Type 0 where
  by_marker : (c : List ℕ) (kinds : List Kind) → is_hijacked c ≡ false → AreInstances p.classes c worded_kinds kinds → js_meaning.code_of p.program (p.home (a_test (Class c))) (test_name (Class c)) ≡ Some (class_test_code c kinds) → ((k : Kind) → Contains kinds k → ReachesTest p (p.home (a_test (Class c))) k) → ClassTest p c
  by_kind : (k : Kind) → js_meaning.code_of p.program (p.home (a_test (Class (kind_class k)))) (test_name (Class (kind_class k))) ≡ Some (hijacked_test_code k) → ReachesTest p (p.home (a_test (Class (kind_class k)))) k → ClassTest p (kind_class k)

-- the properties of an object that holds this value, with its constants at this address
abbrev pub box_properties : ℕ → js.Value → Name → Option js.Value
box_properties k v = with_property (codes "c") v (with_property (codes "k") (js.object k) no_properties)

-- a throw on both sides
pub data Failed (p : Place) (from : World) (env : ir.Env) : ir.Ended → js.ExpressionEnd → Type 0 where
  failed_so : (w : World) (v : ir.Value) (y : js.Value) (s : ir.State) (u : js.State) → Grows from w → SameValue w Any v y → SameState p w s u → Failed p from env (ir.ends (ir.throws v) env s) (js.throws y u)
