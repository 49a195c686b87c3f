-- Receivers that are called by a reflective name: what each class has under it, the entries of objects, and the function of the name.
use Rattle.std.specs.Prelude.{◌≡◌, ℕ, true, List, [], ◌∷◌, Contains, Some, None, codes}
use Rattle.array_code.specs.ClassTestsKinds.{is_told}
use Rattle.array_code.specs.Dispatch.{Reflected}
use Rattle.array_code.specs.FailureVariants.{Method}
use Rattle.array_code.specs.HelperVariants.{Throws}
use Rattle.array_code.specs.Kind.{Kind}
use Rattle.array_code.specs.Pieces.{is_char}
use Rattle.array_code.specs.Reflecting.{reflective_code, proxy_code}
use Rattle.array_code.specs.Words.{kind_class, parameters_of, units_of}
use Rattle.dispatch_laws.specs.Dispatch.{proxy_target}
use Rattle.dispatch_laws.specs.Meaning.{no_such_method}
use Rattle.js_mean.specs.Classes.{method_code}
use Rattle.js_mean.specs.Files.{owner}
use Rattle.js_mean.specs.Meaning as js_meaning
use Rattle.js_mean.specs.Objects.{method_on}
use Rattle.js_mean.specs.Proper.{are_distinct}
use Rattle.js_mean.specs.States as js
use Rattle.js_tree.specs.Terms.{Name}
use Rattle.agree_bodies.specs.Settings.{Place, MadeSomewhere, a_class, a_reflection, box_link, link_of, links_of}
use Rattle.agree_calls.specs.Helpers.{ReachesThrower, ReachesBoxes, ReachesTest}
use Rattle.agree_calls.specs.Looked.{RunsTarget, FindsTarget}
use Rattle.sj_mangling.specs.Bindings.{method_binding}
use Rattle.sj_mangling.specs.declared.bindings.MethodBinding.TheVariants.{Entry, Reflective}
use Rattle.sj_names.specs.MethodNames.{spelled_method}
use Rattle.sj_names.specs.declared.method_names.MethodName.{MethodName}
use Rattle.sj_trees.specs.declared.classes.MethodDef.{MethodDef}

-- an object of the class has, in a class of its chain, an entry of the name, which hands on to the entry of this method, and reaches the class of objects that hold chars where it has to
pub record HandsOn (p : Place) (c : List ℕ) (m t : MethodName) : Type 0 where
  pub at : List ℕ
  pub above : List js.ClassLink
  pub lookup : method_on p.program (links_of p c) (method_binding Entry m) ≡ Some (js.method (link_of p at ∷ above) (method_binding Entry m))
  pub code : method_code p.program (link_of p at) (method_binding Entry m) ≡ Some (proxy_code t (parameters_of m))
  pub boxes : is_char t.result ≡ true → ReachesBoxes p (p.home (a_class at))

-- an object of the class has no method of the name, and no entry; or it has one, of the same parameters, to which its entry of the name hands on
pub data ObjectAnswers (p : Place) (c : List ℕ) (m : MethodName) : Type 0 where
  no_entry : proxy_target p.classes c m ≡ None → method_on p.program (links_of p c) (method_binding Entry m) ≡ None → ObjectAnswers p c m
  has_entry : (d : MethodDef) → proxy_target p.classes c m ≡ Some d → d.name.params ≡ m.params → HandsOn p c m d.name → FindsTarget p c d.name → ObjectAnswers p c m

-- a case of the function of the name: the test of its kind, the method that the class of the kind has under the name, its target, and for a char the class of objects that hold them
pub record ReflectedRuns (p : Place) (m : MethodName) (t : Reflected) : Type 0 where
  pub told : is_told t.kind ≡ true
  pub test : ReachesTest p (p.home (a_reflection m)) t.kind
  pub definition : MethodDef
  pub proxy : proxy_target p.classes (kind_class t.kind) m ≡ Some definition
  pub method_is : t.method ≡ definition.name
  pub params : t.method.params ≡ m.params
  pub its : RunsTarget p (p.home (a_reflection m)) (kind_class t.kind) t.method
  pub owner_is : its.owner ≡ t.owner
  pub boxes : is_char t.method.result ≡ true → ReachesBoxes p (p.home (a_reflection m))

pub record HasReflected (cases : List Reflected) (k : Kind) : Type 0 where
  pub case : Reflected
  pub among : Contains cases case
  pub kind_is : case.kind ≡ k

-- a kind whose class has no method of the name, or one that has a case
pub data KindAnswers (p : Place) (m : MethodName) (cases : List Reflected) (k : Kind) : Type 0 where
  no_case : proxy_target p.classes (kind_class k) m ≡ None → KindAnswers p m cases k
  has_case : HasReflected cases k → KindAnswers p m cases k

-- the helper that throws where there is no method stands in its file; this file reaches it, the code of some file can use it, and the exception can be made there
abbrev pub ThrowsMethod : Place → Name → Type 0
ThrowsMethod p f = ReachesThrower p f (Throws Method) no_such_method

-- the function of the name stands in its file, with a case for each kind whose class has a method of the name; each object answers it; and objects that hold chars have no entry
pub record ReflectionStands (p : Place) (m : MethodName) : Type 0 where
  pub cases : List Reflected
  pub code : js_meaning.code_of p.program (p.home (a_reflection m)) (method_binding Reflective m) ≡ Some (reflective_code m (units_of (spelled_method m)) cases)
  pub distinct : are_distinct (codes "x" ∷ parameters_of m) ≡ true
  pub entries : are_distinct (parameters_of m) ≡ true
  pub runs : (t : Reflected) → Contains cases t → ReflectedRuns p m t
  pub each : (k : Kind) → is_told k ≡ true → KindAnswers p m cases k
  pub objects : (d : List ℕ) → MadeSomewhere p d → ObjectAnswers p d m
  pub boxless : method_on p.program (box_link p ∷ []) (method_binding Entry m) ≡ None
  pub throws : ThrowsMethod p (p.home (a_reflection m))
