-- Files that are read, one after the other.
use Rattle.std.proofs.Common.{◌≡◌, ℕ, zero, suc, ◌+◌, ◌<◌, List, [], ◌∷◌, ◌++◌, Some, Err, slice_get, length, refl, sym, ap, ◌∙◌, subst, inl, inr, arith, length-append}
use Rattle.std.specs.Prelude.{◌⊎◌, codes, decimal}
use Rattle.sj_names.specs.declared.entry_points.EntryPoint.{EntryPoint}
use Rattle.sj_names.specs.declared.folders.SourceFile.{SourceFile}
use Rattle.sj_trees.specs.declared.classes.ClassDef.{ClassDef}
use Rattle.sj_trees.specs.declared.refusals.Code.{Code}
use Rattle.sj_trees.specs.Refusals.{number_of}
use Rattle.sj_trees.specs.declared.refusals.ReadRefusal.{ReadRefusal}
use Rattle.sj_trees.specs.declared.refusals.ReadRefusal.TheVariants.{Bad}
use Rattle.sj_read_spec.specs.Answers.{IsRead}
use Rattle.sj_read_spec.specs.Files.{FileIs, Fails}
use Rattle.sj_read_spec.proofs.ExactFiles.{one_answer}
use Rattle.sj_world.specs.Known.{Classes}
use Rattle.sj_world.specs.Paths.{IsFirst}
use Rattle.folder_judging_spec.specs.Stages.{HasFault, AreRead}
use Rattle.folder_judging_spec.specs.Verdicts.{refused, ByFiles, faulty}
use Rattle.folder_judging.specs.Reading.{IsFaultOf}
use Rattle.folder_judging.specs.Refusals.{IsRefusal}
use Rattle.folder_judging.specs.declared.errors.JudgeError.{JudgeError}
use Rattle.folder_judging.specs.declared.errors.JudgeError.TheVariants.{Refused, NoMemory}

-- the first files have these classes
pub record AreFirstRead (files : List SourceFile) (n : ℕ) (classes : Classes) : Type 0 where
  pub many : length classes ≡ n
  pub each : (i : ℕ) (file : SourceFile) (class : ClassDef) → slice_get files i ≡ Some file → slice_get classes i ≡ Some class → FileIs file.bytes class

same_some : {X : Type 0} (x y : X) → Some x ≡ Some y → x ≡ y
same_some x y e = cc

-- what stands at a place of a list to which one was put is older, or the new one
older_or_new : {X : Type 0} (xs : List X) (x : X) (i : ℕ) (y : X) → slice_get (xs ++ x ∷ []) i ≡ Some y → (slice_get xs i ≡ Some y) ⊎ ((i ≡ length xs) × (x ≡ y))
older_or_new [] x zero y at = inr (refl, same_some x y at)
older_or_new [] x (suc i) y at = cc
older_or_new (z ∷ xs) x zero y at = inl at
older_or_new (z ∷ xs) x (suc i) y at = elim (older_or_new xs x i y at) [ inl old ↦ inl old | inr new ↦ inr (ap suc new.0, new.1) ]

record Standing {X : Type 0} (xs : List X) (i : ℕ) : Type 0 where
  pub item : X
  pub at : slice_get xs i ≡ Some item

within : {X : Type 0} (xs : List X) (i : ℕ) → i < length xs → Standing xs i
within [] i l = absurd (omega arith)
within (x ∷ xs) zero l = record { item = x; at = refl }
within (x ∷ xs) (suc i) l = let s = within xs i (omega arith) in record { item = s.item; at = s.at }

module _ (files : List SourceFile) where
  pub none_read : AreFirstRead files 0 []
  none_read = record { many = refl; each = λ i file class at there. (let wrong : slice_get [] i ≡ Some class = there in cc) }

  pub more_read : (n : ℕ) (classes : Classes) (file : SourceFile) (class : ClassDef) → AreFirstRead files n classes → slice_get files n ≡ Some file → FileIs file.bytes class → AreFirstRead files (n + 1) (classes ++ class ∷ [])
  more_read n classes file class h at is = record { many = omega (arith, length-append classes (class ∷ []), h.many); each = λ i other found there stands. go i other found there (older_or_new classes class i found stands) }
    where
      go : (i : ℕ) (other : SourceFile) (found : ClassDef) → slice_get files i ≡ Some other → (slice_get classes i ≡ Some found) ⊎ ((i ≡ length classes) × (class ≡ found)) → FileIs other.bytes found
      go i other found there (inl old) = h.each i other found there old
      go i other found there (inr new) =
          let same : file ≡ other = same_some file other (sym at ∙ ap (slice_get files) (sym h.many ∙ sym new.0) ∙ there) in
          subst (λ (f : SourceFile). FileIs f.bytes found) same (subst (FileIs file.bytes) new.1 is)

  pub all_read : (n : ℕ) (classes : Classes) → AreFirstRead files n classes → n ≡ length files → AreRead files classes
  all_read n classes h e = record { whole = h.many ∙ e; each = h.each }

  -- the first file that fails
  first_fault : (n : ℕ) (classes : Classes) (file : SourceFile) → AreFirstRead files n classes → slice_get files n ≡ Some file → HasFault file → IsFirst HasFault files file
  first_fault n classes file h at fault = record { place = n; stands = at; has = fault; none_before = λ i other lt there wrong. go i other there wrong (front i lt) }
    where
      front : (i : ℕ) → i < n → Standing classes i
      front i lt = within classes i (omega (arith, h.many))

      go : (i : ℕ) (other : SourceFile) → slice_get files i ≡ Some other → HasFault other → Standing classes i → ⊥
      go i other there wrong s = (one_answer other.bytes).not_both s.item wrong.code wrong.place (h.each i other s.item there s.at) wrong.fails

  pub fault_told : (n : ℕ) (classes : Classes) (file : SourceFile) (e : JudgeError) → AreFirstRead files n classes → slice_get files n ≡ Some file → IsRefusal (IsFaultOf file) e → IsRefusal (λ v. (entries : List EntryPoint) → ByFiles entries files v) e
  fault_told n classes file (Refused code place) h at told = λ entries. subst (ByFiles entries files) (sym told.told) (faulty file told.fault (first_fault n classes file h at told.fault))
  fault_told n classes file NoMemory h at told = tt

-- a refusal is that of a file that fails so
pub has_fault : (file : SourceFile) (bytes : List ℕ) (e : ReadRefusal) (code : Code) (place n : ℕ) → e ≡ Bad code place → bytes ≡ file.bytes → IsRead bytes (Err e) → n ≡ number_of code → IsFaultOf file (refused n (file.path ++ codes ":" ++ decimal place))
has_fault file bytes e code place n is same h number = record {
  fault = record { code = code; place = place; fails = subst (λ (b : List ℕ). Fails b code place) same (subst (λ (r : ReadRefusal). IsRead bytes (Err r)) is h) };
  told = ap (λ m. refused m (file.path ++ codes ":" ++ decimal place)) number;
}
