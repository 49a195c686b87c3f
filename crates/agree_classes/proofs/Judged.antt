-- Methods that are judged have what the theorem on classes asks.
use Rattle.std.proofs.Common.{◌≡◌, ℕ, true, List, Option, sym, subst, Contains}
use Rattle.std.specs.Prelude.{IsTrue, MatchOption}
use Rattle.std.proofs.lemmas.List.Elements.{All-contains}
use Rattle.outcomes.specs.Agreement.{Agree}
use Rattle.sj_agree.specs.Shows.{initializers, ir_shows}
use Rattle.sj_agree.specs.World.{World}
use Rattle.js_mean.specs.Shows.{js_shows}
use Rattle.sj_names.specs.Grammar.{is_class_name}
use Rattle.sj_names.specs.MethodNames.{IsMethodName}
use Rattle.sj_names.specs.declared.entry_points.EntryPoint.{EntryPoint}
use Rattle.sj_trees.specs.declared.classes.ClassDef.{ClassDef}
use Rattle.agree_typing.specs.Rules.{HasListing, IsListedMethod, IsListedTree}
use Rattle.sj_text_files.proofs.ListedClasses.{file_is_listed}
use Rattle.agree_programs.specs.EmittedMethods.{EmittedMethod, HaveOwnMembers}
use Rattle.agree_programs.specs.Files.{program_with}
use Rattle.agree_programs.specs.Linked.{have_functions, functions_of}
use Rattle.agree_classes.specs.Programs.{IsAccepted}
use Rattle.agree_typing.proofs.Classes.{class-keeps, keeps-superclass, keeps-hijacked, signature-keeps}
use Rattle.agree_classes.proofs.Programs.{classes_agree}
use Rattle.agree_programs.proofs.Plain.{plain_world}
use Rattle.agree_programs.specs.Methods.{KeepsRules}
use Rattle.agree_programs.specs.Methods.{HaveTypes}
use Rattle.agree_programs.specs.Standing.{call_type}
use Rattle.sj_trees.specs.Term.{Term}
use Rattle.sj_world.specs.Laws.{IsPlain}
use Rattle.agree_typing.proofs.RulesGive.{result_is}
use Rattle.agree_typing.proofs.Bodies.{rules_kept}
use Rattle.agree_typing.proofs.Values.{parameters_have_values}
use Rattle.agree_classes.specs.Judged.{IsJudgedClass, IsJudgedMethod}
use Rattle.agree_classes.proofs.Found.{OwnerOf, owner_of}

module _ (w : World) (fs : List EmittedMethod) (classes : (c : ClassDef) → Contains w c → IsJudgedClass c) (e : EmittedMethod) (h : IsJudgedMethod w fs e) where
  its : OwnerOf w e.member e.definition
  its = owner_of w e.member e.definition h.found

  judged : IsJudgedClass its.owner
  judged = classes its.owner its.in_world

  listing : HasListing its.owner
  listing = file_is_listed judged.bytes its.owner judged.read

  method : IsListedMethod e.definition
  method = All-contains IsListedMethod its.owner.methods e.definition listing.methods its.listed

  body : IsListedTree e.its_body
  body = subst (λ (o : Option Term). MatchOption o (Unit {0}) IsListedTree) h.has_body method.3

  types : HaveTypes e.definition.params e.definition.name.params × (e.definition.result ≡ call_type e.definition.name.result)
  types = signature-keeps its.owner judged.unbroken e.definition its.listed

  pub accepted : IsAccepted w w fs e
  accepted = record {
    owner = its.owner;
    unbroken = judged.unbroken;
    listed = its.listed;
    named = sym its.named;
    found = h.found;
    has_body = h.has_body;
    rules = subst (λ c. KeepsRules w (functions_of fs) c e.definition e.its_body) (sym its.class_is) (rules_kept w (functions_of fs) its.owner e.definition e.its_body h.has_body (class-keeps its.owner judged.unbroken e.definition its.listed) h.typed h.built body (result_is e.definition.name.result e.definition.result types.1) (parameters_have_values e.definition.params e.definition.name.params types.0 method.0.0.params));
    class_name = subst (λ (n : List ℕ). IsTrue (is_class_name n)) (sym its.class_is) listing.name.0;
    method_name = subst IsMethodName (sym its.named) method.0.0;
  }

-- no class writes a hijacked class or stands above `java.lang.Object` where none breaks a local rule
pub judged_plain : (w : World) → ((c : ClassDef) → Contains w c → IsJudgedClass c) → IsPlain w
judged_plain w classes = plain_world w (λ c i. keeps-superclass c (classes c i).unbroken) (λ c i. keeps-hijacked c (classes c i).unbroken)

pub judged_agree : (w : World) (entries : List EntryPoint) (id : List ℕ) (fs : List EmittedMethod) → ((c : ClassDef) → Contains w c → IsJudgedClass c) → ((e : EmittedMethod) → Contains fs e → IsJudgedMethod w fs e) → HaveOwnMembers fs → have_functions fs (initializers entries id) ≡ true → Agree (ir_shows w entries id) (js_shows (program_with id fs (initializers entries id)) id)
judged_agree w entries id fs classes methods own called = classes_agree w w (judged_plain w classes) entries id fs (λ e i. accepted w fs classes e (methods e i)) own called
