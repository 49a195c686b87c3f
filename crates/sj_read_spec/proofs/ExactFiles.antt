-- Class files.
use Rattle.std.proofs.Common.{◌≡◌, ℕ, ◌-◌, List, [], ◌∷◌, ◌++◌, length, eqb, Ok, Err, Result, refl, sym, ap, ◌∙◌, inl, inr, subst}
use Rattle.std.proofs.lemmas.List.{append-nil}
use Rattle.std.specs.Prelude.{◌⊎◌, nat_eq, codes}
use Rattle.std.specs.Cmp.Lexicographic.{pointwise}
use Rattle.sj_trees.specs.declared.classes.ClassDef.{ClassDef}
use Rattle.sj_read_spec.specs.declared.faults.Fault.{Fault}
use Rattle.sj_trees.specs.declared.refusals.Code.{Code}
use Rattle.sj_trees.specs.declared.refusals.Code.TheVariants.{BadMagic, BadVersion}
use Rattle.exact_place.specs.Reading.{◌>>=◌}
use Rattle.sj_read_spec.specs.Reading.{Reading}
use Rattle.sj_read_spec.specs.Files.{magic_at, IsMagic, version_at, IsVersion, tables_at, IsTables, contents_at, IsContents, ended, file_of, FileIs, Fails, HasOneAnswer}
use Rattle.sj_read_spec.proofs.Exact.{Exact, bind_ok, exact_from, exact_then, exact_value, exact_tested, exact_number, exact_bytes, exact_list}
use Rattle.sj_read_spec.proofs.ExactTables.{exact_text, exact_string}
use Rattle.sj_read_spec.proofs.ExactReferences.{exact_method_name}
use Rattle.sj_read_spec.proofs.ExactClasses.{exact_class}

exact_magic : Exact magic_at IsMagic
exact_magic = exact_from _ _ _ _ (exact_number 4) (λ front n. exact_tested BadMagic (eqb n 0xCAFE4A53) n front)

exact_version : Exact version_at IsVersion
exact_version = exact_from _ _ _ _ (exact_then _ _ _ _ (exact_number 2) (λ n. exact_bytes n)) (λ front t. exact_tested BadVersion (pointwise nat_eq t (codes "1.0-i1")) t front)

exact_tables : Exact tables_at IsTables
unfolding tables_at IsTables
exact_tables = exact_then _ _ _ _ (exact_list _ _ exact_text) (λ files. exact_then _ _ _ _ (exact_list _ _ exact_text) (λ names. exact_then _ _ _ _ (exact_list _ _ (exact_method_name names)) (λ methods. exact_then _ _ _ _ (exact_list _ _ exact_string) (λ strings. exact_value _))))

exact_contents : Exact contents_at IsContents
unfolding contents_at IsContents
exact_contents = exact_then _ _ _ _ exact_magic (λ magic. exact_then _ _ _ _ exact_version (λ version. exact_then _ _ _ _ exact_tables (λ tables. exact_class tables)))

abbrev file_ok : ClassDef → Result ClassDef Fault
file_ok class = Ok class

ended_ok : (found : ClassDef) (rest : List ℕ) (class : ClassDef) → ended found rest ≡ Ok class → (found ≡ class) × (rest ≡ [])
ended_ok found [] class e = (cc, refl)
ended_ok found (b ∷ rest) class e = absurd cc

-- what is read is a file
pub file_found : (bytes : List ℕ) (class : ClassDef) → file_of bytes ≡ Ok class → FileIs bytes class
unfolding file_of FileIs
file_found bytes class e =
    let b = bind_ok (contents_at bytes) (λ c. ended c.0 c.1) class e in
    let end = ended_ok b.0.0 b.0.1 class b.2 in
    let taken = exact_contents.takes bytes b.0.0 b.0.1 b.1 in
    let whole : bytes ≡ taken.text = taken.parts ∙ ap (λ (t : List ℕ). taken.text ++ t) end.1 ∙ append-nil taken.text in
    subst (λ (p : ClassDef × List ℕ). IsContents p.0 p.1) (ap (λ (c : ClassDef). (c, taken.text)) end.0 ∙ ap (λ (t : List ℕ). (class, t)) (sym whole)) taken.spelled

-- a file is read
pub file_read : (bytes : List ℕ) (class : ClassDef) → FileIs bytes class → file_of bytes ≡ Ok class
unfolding file_of FileIs
file_read bytes class is =
    let again : contents_at bytes ≡ Ok (class, []) = ap contents_at (sym (append-nil bytes)) ∙ exact_contents.again class bytes [] is in
    ap (λ (r : Reading ClassDef). r >>= λ c. ended c.0 c.1) again

some_answer : (bytes : List ℕ) (answer : Result ClassDef Fault) → file_of bytes ≡ answer → ((class : ClassDef) × FileIs bytes class) ⊎ ((code : Code) × (place : ℕ) × Fails bytes code place)
some_answer bytes (Ok class) e = inl (class, file_found bytes class e)
some_answer bytes (Err f) e = inr (f.code, length bytes - f.left, record { fault = f; first = e; code_is = refl; place_is = refl })

same_class : (class other : ClassDef) → file_ok class ≡ file_ok other → class ≡ other
same_class class other e = cc

abbrev file_err : Fault → Result ClassDef Fault
file_err f = Err f

same_fault : (f g : Fault) → file_err f ≡ file_err g → f ≡ g
same_fault f g e = cc

never_both : (class : ClassDef) (f : Fault) → file_ok class ≡ file_err f → ⊥
never_both class f e = cc

pub one_answer : (bytes : List ℕ) → HasOneAnswer bytes
one_answer bytes = record {
  some = some_answer bytes (file_of bytes) refl;
  one_class = λ class other is_one is_other. same_class class other (sym (file_read bytes class is_one) ∙ file_read bytes other is_other);
  one_failure = λ code other place another one two.
      let same : one.fault ≡ two.fault = same_fault one.fault two.fault (sym one.first ∙ two.first) in
      (one.code_is ∙ ap (λ (f : Fault). f.code) same ∙ sym two.code_is, one.place_is ∙ ap (λ (f : Fault). length bytes - f.left) same ∙ sym two.place_is);
  not_both = λ class code place is fails. never_both class fails.fault (sym (file_read bytes class is) ∙ fails.first);
}
