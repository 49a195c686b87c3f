-- The methods that can be used are found, and their bodies keep the rules.
use Rattle.std.proofs.Common.{◌≡◌, true, List, Option, Some, sym, subst, Contains}
use Rattle.std.specs.Prelude.{MatchOption}
use Rattle.std.proofs.lemmas.List.Elements.{All-contains}
use Rattle.linked_entries.proofs.Calls.{needed}
use Rattle.linked_entries.proofs.Members.{defined}
use Rattle.linked_entries.proofs.Worlds.{judged}
use Rattle.linked_entries.specs.Accepted.{IsAccepted}
use Rattle.linked_entries.specs.Bodies.{AreBodies}
use Rattle.linked_entries.proofs.RulesGive.{result_is}
use Rattle.linked_entries.specs.Standing.{call_type}
use Rattle.linked_entries.specs.Typing.{is_built_with}
use Rattle.linked_entries.specs.Rules.{RightMember}
use Rattle.linked_entries.specs.Built.{Usable}
use Rattle.sj_text_files.proofs.ListedClasses.{file_is_listed}
use Rattle.ir_mean.specs.World.{member_of}
use Rattle.sj_text_spec.specs.Rules.{HasListing, IsListedMethod, IsListedTree}
use Rattle.linked_entries.specs.EmittedMethods.{EmittedMethod, HasFunction}
use Rattle.linked_entries.proofs.Found.{OwnerOf, owner_of}
use Rattle.linked_entries.specs.Judged.{IsJudgedClass}
use Rattle.linked_entries.proofs.Classes.{class-keeps, signature-keeps}
use Rattle.linked_entries.proofs.Methods as methods
use Rattle.sj_names.specs.declared.entry_points.EntryPoint.{EntryPoint}
use Rattle.sj_names.specs.declared.folders.SourceFile.{SourceFile}
use Rattle.sj_names.specs.declared.method_names.Member.{Member}
use Rattle.sj_names.specs.declared.method_names.MethodName.{MethodName}
use Rattle.linked_entries.specs.Methods.{HaveTypes, KeepsRules}
use Rattle.linked_entries.specs.Once.{NamesOnce}
use Rattle.sj_trees.specs.Term.{Term}
use Rattle.sj_trees.specs.declared.classes.MethodDef.{MethodDef}
use Rattle.linked_entries.proofs.Bodies.{rules_kept}
use Rattle.linked_entries.proofs.Values.{parameters_have_values}
use Rattle.sj_world.specs.Known.{Classes}

module _ (entries : List EntryPoint) (files : List SourceFile) (w : Classes) (a : IsAccepted entries files w) where
  -- whatever the method of a member is, it defines no name twice
  abbrev once : (m : Member) (d : MethodDef) (e : Term) → member_of w m.class m.namespace m.method ≡ Some d → d.body ≡ Some e → NamesOnce d e
  once m d e found has_body = let its = owner_of w m d found in methods.names_keep its.owner d e has_body (class-keeps its.owner (judged entries files w a its.owner its.in_world).unbroken d its.listed)

  module _ (all : List EmittedMethod) (bodies : AreBodies w entries all) (has : Usable) where
    module _ (e : EmittedMethod) (i : Contains all e) (built : is_built_with has e.definition e.its_body ≡ true) where
      pub its : OwnerOf w e.member e.definition
      its = owner_of w e.member e.definition (bodies.found e i).found

      owner_judged : IsJudgedClass its.owner
      owner_judged = judged entries files w a its.owner its.in_world

      listing : HasListing its.owner
      listing = file_is_listed owner_judged.bytes its.owner owner_judged.read

      method : IsListedMethod e.definition
      method = All-contains IsListedMethod its.owner.methods e.definition listing.methods its.listed

      body : IsListedTree e.its_body
      body = subst (λ (o : Option Term). MatchOption o (Unit {0}) IsListedTree) (bodies.found e i).has_body method.3

      pub types : HaveTypes e.definition.params e.definition.name.params × (e.definition.result ≡ call_type e.definition.name.result)
      types = signature-keeps its.owner owner_judged.unbroken e.definition its.listed

      pub kept : KeepsRules w has its.owner.name e.definition e.its_body
      kept = rules_kept w has its.owner e.definition e.its_body (bodies.found e i).has_body (class-keeps its.owner owner_judged.unbroken e.definition its.listed) (a.typed e.member e.definition (needed w entries all bodies e i) (defined w e.member e.definition (bodies.found e i).found)) built body (result_is e.definition.name.result e.definition.result types.1) (parameters_have_values e.definition.params e.definition.name.params types.0 method.0.0.params)

      abbrev pub right_method : RightMember w w has e.member
      right_method = record {
        definition = e.definition;
        its_body = e.its_body;
        found = (bodies.found e i).found;
        has_body = (bodies.found e i).has_body;
        rules = subst (λ c. KeepsRules w has c e.definition e.its_body) (sym its.class_is) kept;
        names = once e.member e.definition e.its_body (bodies.found e i).found (bodies.found e i).has_body;
        parameters = subst (λ (m : MethodName). HaveTypes e.definition.params m.params) (sym its.named) types.0;
        result_is = subst (λ (m : MethodName). e.definition.result ≡ call_type m.result) (sym its.named) types.1;
      }

    pub right_member : (m : Member) (f : HasFunction all m) → is_built_with has f.method.definition f.method.its_body ≡ true → RightMember w w has m
    right_member m f built = subst (λ (k : Member). RightMember w w has k) f.is (right_method f.method f.listed built)
