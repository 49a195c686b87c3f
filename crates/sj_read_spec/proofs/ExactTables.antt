-- The tables and their entries.
use Rattle.std.proofs.Common.{ℕ, Bool, List, ltb}
use Rattle.std.specs.List.{slice_get}
use Rattle.std.specs.Str.{is_utf8}
use Rattle.sj_units.specs.Modified.{modified_units}
use Rattle.sj_trees.specs.declared.refusals.Code.TheVariants.{BadIndex, BadName, BadText}
use Rattle.sj_read_spec.specs.Tables.{below_at, IsBelow, entry_at, IsEntry, name_at, IsName, text_at, IsText, string_at, IsString}
use Rattle.sj_read_spec.proofs.Exact.{Exact, exact_from, exact_then, exact_found, exact_tested, exact_number, exact_bytes}

pub exact_below : (limit : ℕ) → Exact (below_at limit) (IsBelow limit)
exact_below limit = exact_from _ _ _ _ (exact_number 4) (λ front n. exact_tested BadIndex (ltb n limit) n front)

pub exact_entry : {A : Type 0} (table : List A) → Exact (entry_at table) (IsEntry table)
exact_entry table = exact_from _ _ _ _ (exact_number 4) (λ front n. exact_found BadIndex (slice_get table n) front)

pub exact_name : (grammar : List ℕ → Bool) (names : List (List ℕ)) → Exact (name_at grammar names) (IsName grammar names)
exact_name grammar names = exact_from _ _ _ _ (exact_entry names) (λ front t. exact_tested BadName (grammar t) t front)

pub exact_text : Exact text_at IsText
exact_text = exact_then _ _ _ _ (exact_number 4) (λ n. exact_from _ _ _ _ (exact_bytes n) (λ front t. exact_tested BadText (is_utf8 t) t front))

pub exact_string : Exact string_at IsString
exact_string = exact_then _ _ _ _ (exact_number 4) (λ n. exact_from _ _ _ _ (exact_bytes n) (λ front t. exact_found BadText (modified_units t) front))
