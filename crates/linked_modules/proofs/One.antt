-- The classes of an accepted folder are linked to one list of files in each style.
use Rattle.std.proofs.Common.{◌≡◌, ◌∙◌, List, [], ◌∷◌, refl, sym, subst}
use Rattle.js_mean.specs.Shows.{File}
use Rattle.js_tree.specs.Terms.{Piece}
use Rattle.declared_modules.proofs.One.{one_pieces, spelled_once}
use Rattle.declared_modules.specs.Files.{IsFileOf, AreFilesOf}
use Rattle.module_names.specs.Names.{sha1_digest}
use Rattle.sj_emit_module_spec.specs.Modules.{module_of}
use Rattle.sj_split_laws.proofs.Digests.{digests_have_one_length}
use Rattle.sj_split_laws.proofs.Names.{ids_are_not_internal}
use Rattle.sj_split_laws.proofs.OnePlan.{plans_are_one}
use Rattle.sj_graph.specs.References.{IsGraph}
use Rattle.sj_split.specs.Modules.{IsPlan}
use Rattle.sj_split.specs.declared.plans.PlannedModule.{PlannedModule}
use Rattle.linked_modules.proofs.Graphs.{same_plan}
use Rattle.linked_modules.specs.Laws.{LinkIsOne}

-- the files of modules are one list
module _ (modules : List PlannedModule) (ps : List Piece) where
  same_file : (m : PlannedModule) (f g : File) → IsFileOf modules ps m f → IsFileOf modules ps m g → f ≡ g
  same_file m f g one other =
      let named : f.name ≡ g.name = one.named ∙ sym other.named in
      let spelled : f.bytes ≡ g.bytes = spelled_once (module_of modules m ps) f.bytes g.bytes one.spelled other.spelled in
      (λ i. record { name = named i; bytes = spelled i })

  same_files : (ms : List PlannedModule) (fs gs : List File) → AreFilesOf modules ps ms fs → AreFilesOf modules ps ms gs → fs ≡ gs
  same_files [] [] [] one other = refl
  same_files [] (f ∷ fs) gs one other = absurd one
  same_files [] [] (g ∷ gs) one other = absurd other
  same_files (m ∷ ms) [] gs one other = absurd one
  same_files (m ∷ ms) (f ∷ fs) [] one other = absurd other
  same_files (m ∷ ms) (f ∷ fs) (g ∷ gs) one other = (λ i. same_file m f g one.0 other.0 i ∷ same_files ms fs gs one.1 other.1 i)

pub link_is_one : LinkIsOne
link_is_one entries files w style one other a valid link k = same_files link.plan link.pieces link.plan one other link.files_are (subst (λ (ms : List PlannedModule). AreFilesOf ms link.pieces ms other) (sym plans) (subst (λ (ps : List Piece). AreFilesOf k.plan ps k.plan other) (sym pieces) k.files_are))
  where
    pieces : link.pieces ≡ k.pieces
    pieces = one_pieces entries files w a link.pieces k.pieces link.are_pieces k.are_pieces

    other_plan : IsPlan sha1_digest link.graph entries style k.plan
    other_plan = same_plan sha1_digest link.pieces k.graph link.graph entries style k.plan (subst (λ (ps : List Piece). IsGraph ps k.graph) (sym pieces) k.is_graph) link.is_graph k.is_plan

    plans : link.plan ≡ k.plan
    plans = plans_are_one sha1_digest link.graph entries style link.plan k.plan (record { one_length = digests_have_one_length; none_internal = ids_are_not_internal entries valid }) link.is_plan other_plan
