-- The functions of needed bodies have names of their own.
use Rattle.std.proofs.Common.{◌≡◌, ℕ, List, Contains, IsTrue, sym, subst}
use Rattle.std.proofs.lemmas.List.Elements.{All-contains}
use Rattle.sj_text_files.proofs.ListedClasses.{file_is_listed}
use Rattle.sj_text_spec.specs.Rules.{HasListing, IsListedMethod}
use Rattle.declared_pieces.specs.EmittedMethods.{EmittedMethod}
use Rattle.sj_emit_expr_spec.specs.Templates.{member_name}
use Rattle.declared_pieces.proofs.Found.{OwnerOf, owner_of}
use Rattle.declared_pieces.specs.Judged.{IsJudgedClass}
use Rattle.sj_mangling.proofs.FunctionNames.{function_names_differ}
use Rattle.sj_names.specs.Grammar.{is_class_name}
use Rattle.sj_names.specs.MethodNames.{IsMethodName}
use Rattle.sj_names.specs.declared.entry_points.EntryPoint.{EntryPoint}
use Rattle.sj_names.specs.declared.folders.SourceFile.{SourceFile}
use Rattle.sj_world.specs.Known.{Classes}
use Rattle.declared_pieces.proofs.Worlds.{judged}
use Rattle.declared_pieces.specs.Accepted.{IsAccepted}
use Rattle.declared_pieces.specs.Bodies.{AreBodies}

module _ (entries : List EntryPoint) (files : List SourceFile) (w : Classes) (all : List EmittedMethod) (a : IsAccepted entries files w) (bodies : AreBodies w entries all) where
  module _ (e : EmittedMethod) (i : Contains all e) where
    its : OwnerOf w e.member e.definition
    its = owner_of w e.member e.definition (bodies.found e i).found

    owner_judged : IsJudgedClass its.owner
    owner_judged = judged entries files w a its.owner its.in_world

    listing : HasListing its.owner
    listing = file_is_listed owner_judged.bytes its.owner owner_judged.read

    method : IsListedMethod e.definition
    method = All-contains IsListedMethod its.owner.methods e.definition listing.methods its.listed

    class_name : IsTrue (is_class_name e.member.class)
    class_name = subst (λ (n : List ℕ). IsTrue (is_class_name n)) (sym its.class_is) listing.name.0

    method_name : IsMethodName e.member.method
    method_name = subst IsMethodName (sym its.named) method.0.0

  pub names_tell : (e o : EmittedMethod) → Contains all e → Contains all o → member_name e.member ≡ member_name o.member → e.member ≡ o.member
  names_tell e o i j same =
      let one = function_names_differ e.member.namespace o.member.namespace e.member.class o.member.class e.member.method o.member.method (class_name e i) (class_name o j) (method_name e i) (method_name o j) same in
      λ i. record { class = one.1 i; namespace = one.0 i; method = one.2 i }
