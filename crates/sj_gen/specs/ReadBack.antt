-- The generated files are those of the generated classes.
use Rattle.std.specs.Prelude.{ℕ, ◌≤◌, Bool}
use Rattle.sj_read_spec.specs.Files.{FileIs}
use Rattle.sj_write_spec.specs.Written.{written_class}
use Rattle.sj_gen.specs.Classes.{class_of, object_of}

pub record GeneratedFilesAreReadBack : Type 0 where
  pub classes : (edited : Bool) (k : ℕ) → k ≤ 20000 → FileIs (written_class (class_of edited k)) (class_of edited k)
  pub object : (n : ℕ) → n ≤ 20000 → FileIs (written_class (object_of n)) (object_of n)
