use Rattle.std.proofs.Common.{◌∙◌, subst, sym, List, ℕ}
use Rattle.std.proofs.lemmas.Result.{IfOk-weaker}
use Rattle.folder_files.specs.Walking.{ArePathsOf}
use Rattle.folder_files.proofs.reading.read_folder.Goals as goal

pub returns-clause-told : goal.returns-clause-told
returns-clause-told g c contents tells =
    let are : ArePathsOf contents c.args.path.now c.as_slice.result.now = subst (λ (ps : List (List ℕ)). ArePathsOf contents c.args.path.now ps) (sym c.as_slice.ensures.value) (c.in_ok-paths.ensures.told contents tells) in
    IfOk-weaker c.read_files.result _ _ (λ files read. record { files = are.files; are_files = are.are_files; is_read = read }) (c.read_files.ensures.told contents (c.in_ok-paths.ensures.same ∙ tells) are)

pub returns-clause-missing : goal.returns-clause-missing
returns-clause-missing g c contents tells some =
    let are : ArePathsOf contents c.args.path.now c.as_slice.result.now = subst (λ (ps : List (List ℕ)). ArePathsOf contents c.args.path.now ps) (sym c.as_slice.ensures.value) (c.in_ok-paths.ensures.told contents tells) in
    c.read_files.ensures.missing contents (c.in_ok-paths.ensures.same ∙ tells) are ∙ c.in_ok-paths.ensures.missing contents tells some
