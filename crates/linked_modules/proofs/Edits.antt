-- An edit has one list of files in each style and one amount of work, and its files agree with the folder.
use Rattle.std.proofs.Common.{◌∙◌, ℕ, sym, ap, subst, length}
use Rattle.declared_modules.specs.Bodies.{AreBodies}
use Rattle.declared_modules.proofs.Edits.{same_world, as_many}
use Rattle.sj_world.specs.Known.{Classes}
use Rattle.linked_modules.proofs.One.{link_is_one}
use Rattle.linked_modules.proofs.Whole.{linked_modules_agree}
use Rattle.linked_modules.specs.Laws.{FolderLinkIsOne, WorkIsOne, LinkedFoldersAgree}
use Rattle.linked_modules.specs.Link.{IsLink}

pub one_folder_link : FolderLinkIsOne
one_folder_link entries files style one other valid h k =
    link_is_one entries files h.world style one other h.is_accepted valid h.link (subst (λ (w : Classes). IsLink w entries style other) (same_world entries files k.world h.world k.is_accepted h.is_accepted) k.link)

pub one_work : WorkIsOne
one_work entries files one other h k =
    let moved : AreBodies h.world entries k.all = subst (λ (w : Classes). AreBodies w entries k.all) (same_world entries files k.world h.world k.is_accepted h.is_accepted) k.bodies in
    h.is ∙ ap (λ (n : ℕ). record { read = length files; checked = n; optimised = 0; emitted = n }) (as_many h.world entries h.all k.all h.bodies moved) ∙ sym k.is

pub linked_folders_agree : LinkedFoldersAgree
linked_folders_agree entries files style id links valid linked entered =
    linked_modules_agree entries files linked.world style id links linked.is_accepted valid linked.link entered
