-- What can run, where the pieces of some classes of a folder are written: what is written finds there what it uses.
use Rattle.std.specs.Prelude.{◌≡◌, true, List}
use Rattle.std.specs.List.{Contains}
use Rattle.linked_entries.specs.Typing.{is_built_with}
use Rattle.linked_entries.specs.AgreeSoundnessLaws.{IsClassBelow, Answers, AnswersByName}
use Rattle.sj_emit_help_spec.specs.Helpers.{failure_class, used_helpers}
use Rattle.sj_emit_help_spec.specs.declared.kinds.Failure.{Failure}
use Rattle.sj_emit_help_spec.specs.declared.kinds.Failure.TheVariants.{Cast}
use Rattle.sj_emit_help_spec.specs.declared.kinds.Helper.{Helper}
use Rattle.sj_emit_help_spec.specs.declared.kinds.Helper.TheVariants.{Throws}
use Rattle.linked_entries.specs.Used.{used_of, is_cast, is_loaded}
use Rattle.linked_entries.specs.Reachable.{Reachable}
use Rattle.linked_entries.specs.SjReachSpecRules.{message_constructor, plain_constructor}
use Rattle.linked_entries.specs.EmittedMethods.{EmittedMethod, HasFunction}
use Rattle.sj_names.specs.WellKnown.{object}
use Rattle.sj_names.specs.declared.entry_points.EntryPoint.{EntryPoint}
use Rattle.sj_world.specs.Known.{Name, Classes}
use Rattle.sj_world.specs.declared.facts.Fact.{Fact}
use Rattle.sj_names.specs.declared.method_names.MethodName.{MethodName}
use Rattle.sj_world.specs.declared.facts.Fact.TheVariants.{Body, Made}

-- an exception of this class can be made: it is made, the class is written, and its constructor with a message is among the methods
pub record CanBeThrown (facts : List Fact) (all : List EmittedMethod) (written : List Name) (c : Name) : Type 0 where
  pub is_made : Contains facts (Made c)
  pub is_written : Contains written c
  pub constructor : HasFunction all (message_constructor c)

-- The facts are those that are reachable; each written method is built with what can be used; a helper has those that it uses; and where helpers
-- are written, what a helper throws can be made. The facts tell of the methods; where a class is written to which bodies cast, so is what its cast throws; a class that bodies load as a module
-- is made, and has its constructor; and where a method
-- can be looked up, each class below has a target that is written, one that can be called on arrays in the class of all objects where that is made, and a reflective name by which receivers are called has an answer in each class.
pub record CanRun (w : Classes) (entries : List EntryPoint) (facts : List Fact) (all : List EmittedMethod) (live : List Name) (helpers : List Helper) (written : List Name) : Type 0 where
  pub reached : (f : Fact) → Contains facts f → Reachable w entries f
  pub whole : (f : Fact) → Reachable w entries f → Contains facts f
  pub are_built : (e : EmittedMethod) → Contains all e → Contains written e.member.class → is_built_with (used_of w facts all live helpers written) e.definition e.its_body ≡ true
  pub closed : (h g : Helper) → Contains helpers h → Contains (used_helpers h) g → Contains helpers g
  pub thrown : (f : Failure) → Contains helpers (Throws f) → Contains written object → CanBeThrown facts all written (failure_class f)
  pub listed : (e : EmittedMethod) → Contains all e → Contains facts (Body e.member)
  pub casts : (c : Name) → Contains written c → is_cast all c ≡ true → Contains written object × Contains helpers (Throws Cast)
  pub loads : (c : Name) → is_loaded all c ≡ true → Contains facts (Made c) × HasFunction all (plain_constructor c)
  pub on_arrays : (m : MethodName) → (used_of w facts all live helpers written).on_arrays m ≡ true → (used_of w facts all live helpers written).made object ≡ true → Answers w (used_of w facts all live helpers written) object object m
  pub looked : (c : Name) (m : MethodName) → (used_of w facts all live helpers written).looked_up c m ≡ true → (d : Name) → IsClassBelow w (used_of w facts all live helpers written) c d → Answers w (used_of w facts all live helpers written) c d m
  pub reflected : (p : MethodName) → (used_of w facts all live helpers written).reflected p ≡ true → (d : Name) → IsClassBelow w (used_of w facts all live helpers written) object d → AnswersByName w (used_of w facts all live helpers written) d p
