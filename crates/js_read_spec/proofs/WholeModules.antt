-- Whole modules: what the law of the reader says at the end of the bytes.
use Rattle.std.proofs.Common.{◌≡◌, ℕ, suc, ◌+◌, List, [], ◌∷◌, length, Result, Ok, Err, sym, ◌∙◌, arith}
use Rattle.js_tree.specs.Terms.{Module}
use Rattle.js_tree.specs.Spelling.{Spells}
use Rattle.js_read_spec.specs.declared.words.Stage.TheVariants.{Imports}
use Rattle.exact_place.specs.Reading.{map_at, end_at}
use Rattle.exact_place.specs.Place.{Place}
use Rattle.exact_place.proofs.Steps.{good_is, bind_ok}
use Rattle.exact_place.proofs.Whole.{whole_reads, whole_takes, whole_place, one_value}
use Rattle.js_read_spec.specs.Modules.{Line, module_of, module_lines_at, module_at}
use Rattle.js_read_spec.proofs.ModuleLaws.{law_module}

pub one_module : (m k : Module) (text : List ℕ) → Spells m text → Spells k text → m ≡ k
one_module = one_value Spells module_at law_module

pub module_read : (m : Module) (bytes : List ℕ) → Spells m bytes → module_at (suc (length bytes)) bytes ≡ Ok (m, [])
module_read m bytes s = whole_reads Spells module_at law_module m bytes (suc (length bytes)) (omega arith) s

pub module_spelled : (m : Module) (bytes : List ℕ) → module_at (suc (length bytes)) bytes ≡ Ok (m, []) → Spells m bytes
module_spelled m bytes e = whole_takes Spells module_at law_module m bytes (suc (length bytes)) e

ended : (ls : List Line) (m : Module) (mid rest : List ℕ) → map_at (λ u. module_of ls) end_at mid ≡ Ok (m, rest) → rest ≡ []
ended ls m [] rest e = sym (good_is (module_of ls) m [] rest e).rest
ended ls m (c ∷ mid) rest e = absurd cc

pub module_whole : (m : Module) (bytes rest : List ℕ) → module_at (suc (length bytes)) bytes ≡ Ok (m, rest) → rest ≡ []
unfolding module_at
module_whole m bytes rest e =
    let b = bind_ok (module_lines_at (suc (length bytes)) Imports bytes) (λ x. map_at (λ u. module_of x.0) end_at x.1) m rest e in
    ended b.0 m b.1 rest b.3

pub module_place : (bytes : List ℕ) (left : ℕ) → module_at (suc (length bytes)) bytes ≡ Err left → (place : ℕ) × (place + left ≡ length bytes) × Place Spells bytes place
module_place bytes left e = whole_place Spells module_at law_module bytes (suc (length bytes)) left (omega arith) e

ok_err : {A : Type 0} (x : A) (left : ℕ) → ◌≡◌ {A = Result A ℕ} (Ok x) (Err left) → ⊥
ok_err x left e = cc

pub no_module : (m : Module) (bytes : List ℕ) (left : ℕ) → module_at (suc (length bytes)) bytes ≡ Err left → Spells m bytes → ⊥
no_module m bytes left e s = ok_err (m, []) left (sym (module_read m bytes s) ∙ e)
