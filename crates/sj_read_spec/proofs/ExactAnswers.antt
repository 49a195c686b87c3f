-- What the reading function gives is what reading answers.
use Rattle.std.proofs.Common.{◌≡◌, ℕ, ◌-◌, List, length, Ok, Err, Result, refl, ap, ◌∙◌}
use Rattle.sj_trees.specs.declared.classes.ClassDef.{ClassDef}
use Rattle.sj_read_spec.specs.declared.faults.Fault.{Fault}
use Rattle.sj_trees.specs.declared.refusals.Code.{Code}
use Rattle.sj_trees.specs.declared.refusals.ReadRefusal.{ReadRefusal}
use Rattle.sj_trees.specs.declared.refusals.ReadRefusal.TheVariants.{Bad, NoMemory}
use Rattle.sj_read_spec.specs.Files.{file_of, Fails}
use Rattle.sj_read_spec.specs.Answers.{Reads}
use Rattle.sj_read_spec.proofs.ExactFiles.{file_found, one_answer}

abbrev found : ClassDef → Result ClassDef ReadRefusal
found class = Ok class

abbrev refused : Code → ℕ → Result ClassDef ReadRefusal
refused code place = Err (Bad code place)

pub reads_class : (bytes : List ℕ) (class : ClassDef) → file_of bytes ≡ Ok class → Reads bytes (Ok class)
reads_class bytes class e =
    let is = file_found bytes class e in
    record {
      right = is;
      each_class = λ other is_other. ap found ((one_answer bytes).one_class other class is_other is);
      each_failure = λ code place fails. absurd ((one_answer bytes).not_both class code place is fails);
    }

pub reads_failure : (bytes : List ℕ) (f : Fault) → file_of bytes ≡ Err f → Reads bytes (Err (Bad f.code (length bytes - f.left)))
reads_failure bytes f e =
    let fails : Fails bytes f.code (length bytes - f.left) = record { fault = f; first = e; code_is = refl; place_is = refl } in
    record {
      right = fails;
      each_class = λ class is. absurd ((one_answer bytes).not_both class f.code (length bytes - f.left) is fails);
      each_failure = λ code place other.
          let same = (one_answer bytes).one_failure code f.code place (length bytes - f.left) other fails in
          ap (λ (c : Code). refused c place) same.0 ∙ ap (λ (p : ℕ). refused f.code p) same.1;
    }

pub reads_nothing : (bytes : List ℕ) → Reads bytes (Err NoMemory)
reads_nothing bytes = record { right = tt; each_class = λ class is. tt; each_failure = λ code place fails. tt }

pub ruleset reads = (reads_class, reads_failure, reads_nothing)
