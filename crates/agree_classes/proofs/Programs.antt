-- Programs of classes that break none of the local rules agree with their file.
use Rattle.std.proofs.Common.{◌≡◌, ℕ, true, List, ap, ◌∙◌, subst, Contains}
use Rattle.outcomes.specs.Agreement.{Agree}
use Rattle.sj_agree.specs.Shows.{initializers, ir_shows}
use Rattle.sj_agree.specs.World.{World}
use Rattle.js_mean.specs.Shows.{js_shows}
use Rattle.sj_names.specs.declared.entry_points.EntryPoint.{EntryPoint}
use Rattle.sj_names.specs.declared.method_names.MethodName.{MethodName}
use Rattle.agree_programs.specs.EmittedMethods.{EmittedMethod, HaveOwnMembers}
use Rattle.agree_programs.specs.Files.{program_with}
use Rattle.agree_programs.specs.Linked.{have_functions, IsRight, IsWhole}
use Rattle.agree_programs.specs.Methods.{HaveTypes}
use Rattle.sj_world.specs.Laws.{IsPlain}
use Rattle.agree_programs.specs.Standing.{call_type}
use Rattle.agree_programs.proofs.Whole.{linked_agrees}
use Rattle.agree_classes.specs.Programs.{IsAccepted}
use Rattle.agree_typing.proofs.Classes.{class-keeps, signature-keeps}
use Rattle.agree_typing.proofs.Methods.{names_keep}

module _ (w typing : World) (fs : List EmittedMethod) (e : EmittedMethod) (h : IsAccepted w typing fs e) where
  types : HaveTypes e.definition.params e.definition.name.params × (e.definition.result ≡ call_type e.definition.name.result)
  types = signature-keeps h.owner h.unbroken e.definition h.listed

  right : IsRight w typing fs e
  right = record {
    found = h.found;
    has_body = h.has_body;
    parameters = subst (λ (n : MethodName). HaveTypes e.definition.params n.params) h.named types.0;
    result_is = types.1 ∙ ap (λ (n : MethodName). call_type n.result) h.named;
    rules = h.rules;
    names = names_keep h.owner e.definition e.its_body h.has_body (class-keeps h.owner h.unbroken e.definition h.listed);
  }

  pub whole : IsWhole w typing fs e
  whole = record { right = right; class_name = h.class_name; method_name = h.method_name }

pub classes_agree : (w typing : World) → IsPlain typing → (entries : List EntryPoint) (id : List ℕ) (fs : List EmittedMethod) → ((e : EmittedMethod) → Contains fs e → IsAccepted w typing fs e) → HaveOwnMembers fs → have_functions fs (initializers entries id) ≡ true → Agree (ir_shows w entries id) (js_shows (program_with id fs (initializers entries id)) id)
classes_agree w typing plain entries id fs all own called = linked_agrees w typing plain entries id fs (λ e i. whole w typing fs e (all e i)) own called
