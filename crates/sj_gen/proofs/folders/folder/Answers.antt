use Rattle.std.proofs.Common.{◌≡◌, ◌∷◌, ◌++◌, [], List, sym, ◌∙◌, subst, rules}
use Rattle.std.specs.List.Sorted.{IsPermutation, IsSortedByKey}
use Rattle.std.specs.Cmp.Lexicographic.{slice_cmp, nat_list_cmp_total}
use Rattle.std.specs.Ordering.{nat_cmp, is_lt}
use Rattle.std.proofs.lemmas.List.Sorted.{ranks_by, answers_always}
use Rattle.sj_names.specs.declared.folders.SourceFile.{SourceFile}
use Rattle.sj_gen.specs.Classes.{object_of}
use Rattle.sj_gen.specs.Folder.{IsGenerated, class_files, file_of}
use Rattle.sj_gen.proofs.folders.folder.Goals as goal

pub returns : goal.returns
returns c =
    let path = λ (f : SourceFile). f.path in
    let before : c.push.new.self.items ≡ class_files c.args.edited c.args.n ++ file_of (object_of c.args.n) ∷ [] = c.in_ok-push.ensures.items ∙ (λ i. c.in_ok-files.ensures i ++ c.in_ok-object_file.ensures i ∷ []) in
    let Once : List SourceFile → Type 0 = λ (xs : List SourceFile). IsPermutation xs c.sort_by.new.self.items in
    let once = subst Once before c.in_ok-sort_by.ensures.permutation in
    let sorted : IsSortedByKey (λ (f : SourceFile). f.path) (slice_cmp nat_cmp) c.sort_by.new.self.items = c.in_ok-sort_by.ensures.sorted (λ x y. is_lt (slice_cmp nat_cmp x.path y.path)) (ranks_by nat_list_cmp_total (λ (f : SourceFile). f.path)) (answers_always _ _ _ (λ f a r g called. search rules)) in
    let Is : List SourceFile → Type 0 = λ (xs : List SourceFile). IsGenerated c.args.n c.args.edited xs in
    subst Is (sym c.from_vec.ensures) (record { each_once = once; in_order = sorted })
