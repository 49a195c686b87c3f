-- Methods that are looked up: where an object of a class finds the method, and the function that tells primitive receivers apart.
use Rattle.std.specs.Prelude.{◌≡◌, ℕ, Bool, true, false, List, ◌∷◌, Contains, Some, codes}
use Rattle.array_code.specs.Bridges.{bridge}
use Rattle.array_code.specs.ClassTestsKinds.{dispatch_code, is_told}
use Rattle.array_code.specs.Dispatch.{Told}
use Rattle.array_code.specs.Kind.{Kind}
use Rattle.array_code.specs.Words.{kind_class, parameters_of}
use Rattle.dispatch_laws.specs.Dispatch.{is_ancestor}
use Rattle.dispatch_laws.specs.Known.{is_hijacked}
use Rattle.dispatch_laws.specs.Targets.{IsTargetOf}
use Rattle.dispatch_laws.specs.Templates.{member_name}
use Rattle.js_mean.specs.Classes.{method_code}
use Rattle.js_mean.specs.Files as files
use Rattle.js_mean.specs.Meaning as js_meaning
use Rattle.js_mean.specs.Objects.{method_on}
use Rattle.js_mean.specs.Proper.{are_distinct}
use Rattle.js_mean.specs.States as js
use Rattle.js_tree.specs.Terms.{Name}
use Rattle.agree_bodies.specs.Desugar.{member}
use Rattle.agree_bodies.specs.Settings.{Place, MadeSomewhere, a_class, a_dispatch, a_method, link_of, links_of}
use Rattle.agree_calls.specs.Helpers.{ReachesTest}
use Rattle.agree_calls.specs.Objects.{RunsOn}
use Rattle.sj_mangling.specs.Bindings.{method_binding}
use Rattle.sj_mangling.specs.declared.bindings.MethodBinding.TheVariants.{Dispatch, Entry}
use Rattle.sj_names.specs.declared.method_names.MethodName.{MethodName}
use Rattle.sj_names.specs.declared.method_names.Namespace.TheVariants.{Public}

-- what a call of the method runs on a value of this class: its target, whose function this file reaches, and the code of some file can call
pub record RunsTarget (p : Place) (f : Name) (c : List ℕ) (m : MethodName) : Type 0 where
  pub owner : List ℕ
  pub target : IsTargetOf p.classes (member c Public m) (member owner Public m)
  pub runs : RunsOn p (member owner Public m)
  pub reached : files.owner p.program f (member_name (member owner Public m)) ≡ Some (p.home (a_method (member owner Public m)))
  pub user : Name
  pub usable : (p.has user).received (member owner Public m) ≡ true

-- an object of the class finds, in a class of its chain, a method that hands on to the function of the target
pub record FindsTarget (p : Place) (c : List ℕ) (m : MethodName) : Type 0 where
  pub at : List ℕ
  pub above : List js.ClassLink
  pub lookup : method_on p.program (links_of p c) (method_binding Entry m) ≡ Some (js.method (link_of p at ∷ above) (method_binding Entry m))
  pub its : RunsTarget p (p.home (a_class at)) c m
  pub code : method_code p.program (link_of p at) (method_binding Entry m) ≡ Some (bridge (member_name (member its.owner Public m)) (parameters_of m))
  pub distinct : are_distinct (parameters_of m) ≡ true

-- a case of the function that tells primitive receivers apart: the test of its kind, and the target for the class of the kind
pub record CaseRuns (p : Place) (m : MethodName) (t : Told) : Type 0 where
  pub told : is_told t.kind ≡ true
  pub test : ReachesTest p (p.home (a_dispatch m)) t.kind
  pub its : RunsTarget p (p.home (a_dispatch m)) (kind_class t.kind) m
  pub owner_is : its.owner ≡ t.owner

pub record HasCase (cases : List Told) (k : Kind) : Type 0 where
  pub case : Told
  pub among : Contains cases case
  pub kind_is : case.kind ≡ k

-- the function stands in its file, with a case for each kind whose class is at or below this one, of which there are some
pub record DispatchStands (p : Place) (c : List ℕ) (m : MethodName) : Type 0 where
  pub first : Told
  pub others : List Told
  pub code : js_meaning.code_of p.program (p.home (a_dispatch m)) (method_binding Dispatch m) ≡ Some (dispatch_code m (first ∷ others))
  pub distinct : are_distinct (codes "x" ∷ parameters_of m) ≡ true
  pub runs : (t : Told) → Contains (first ∷ others) t → CaseRuns p m t
  pub each : (k : Kind) → is_told k ≡ true → is_ancestor p.classes (kind_class k) c ≡ true → HasCase (first ∷ others) k

-- by whether a hijacked class stands at or below this one
pub data KindsRun (p : Place) (c : List ℕ) (m : MethodName) : Bool → Type 0 where
  no_kinds : ((h : List ℕ) → is_hijacked h ≡ true → is_ancestor p.classes h c ≡ false) → KindsRun p c m false
  some_kinds : DispatchStands p c m → KindsRun p c m true

-- the method can be looked up on each instance of the class
pub record LooksUpThere (p : Place) (c : List ℕ) (m : MethodName) (hijacked : Bool) : Type 0 where
  pub objects : (d : List ℕ) → MadeSomewhere p d → is_ancestor p.classes d c ≡ true → FindsTarget p d m
  pub kinds : KindsRun p c m hijacked
