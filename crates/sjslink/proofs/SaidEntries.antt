-- What is read of an entries file says what the file says.
use Rattle.std.proofs.Common.{◌≡◌, ◌≤◌, ℕ, ◌+◌, Bool, true, false, List, refl, sym, ap, subst, ◌∙◌, Option, Some, None, take, length, arith, min}
use Rattle.std.specs.Prelude.{Result, Ok, Err, option_map, nat_lt, if◌then◌else◌}
use Rattle.std.proofs.lemmas.Bool.Decides.{nat_tests}
use Rattle.std.proofs.lemmas.List.{take_all, length-take}
use Rattle.entries_file.specs.EntriesFile.{entries_of, most_bytes, most_entries, one_or_more, said}
use Rattle.entries_file.specs.Lines.{lines}
use Rattle.sj_names.specs.declared.entry_points.EntryPoint.{EntryPoint}
use Rattle.sj_outside.specs.Contents.{Parts, file_at}
use Rattle.sj_outside.specs.Reading.{Reads}
use Rattle.sjslink.specs.Editing.{Says}
use Rattle.sjslink.specs.Input.{HasEntries}
use Rattle.sjslink.specs.declared.entries.NoEntries.{NoEntries}

longer : (most size cut : ℕ) → cut ≡ min (most + 1) size → nat_lt most size ≡ true → nat_lt most cut ≡ true
longer most size cut is e = grind (arith, nat_tests)

shorter : (most size : ℕ) → nat_lt most size ≡ false → size ≤ most + 1
shorter most size e = grind (arith, nat_tests)

-- a byte more than a file may have tells that it is too long
pub front_says : (bytes : List ℕ) → entries_of (take (most_bytes + 1) bytes) ≡ entries_of bytes
front_says bytes = go (nat_lt most_bytes (length bytes)) refl
  where
    size : length (take (most_bytes + 1) bytes) ≡ min (most_bytes + 1) (length bytes)
    size = length-take (most_bytes + 1) bytes

    long : nat_lt most_bytes (length bytes) ≡ true → nat_lt most_bytes (length (take (most_bytes + 1) bytes)) ≡ true
    long e = longer most_bytes (length bytes) (length (take (most_bytes + 1) bytes)) size e

    short : nat_lt most_bytes (length bytes) ≡ false → length bytes ≤ most_bytes + 1
    short e = shorter most_bytes (length bytes) e

    go : (t : Bool) → nat_lt most_bytes (length bytes) ≡ t → entries_of (take (most_bytes + 1) bytes) ≡ entries_of bytes
    go true e =
        let one : entries_of (take (most_bytes + 1) bytes) ≡ Err 0 = ap (λ t. if t then Err 0 else one_or_more (said 1 most_entries (lines (take (most_bytes + 1) bytes)))) (long e) in
        let other : entries_of bytes ≡ Err 0 = ap (λ t. if t then Err 0 else one_or_more (said 1 most_entries (lines bytes))) e in
        one ∙ sym other
    go false e = ap entries_of (take_all (most_bytes + 1) bytes (short e))

said_in_file : (held : Option (List ℕ)) (read : List ℕ) → option_map (take (most_bytes + 1)) held ≡ Some read → (bytes : List ℕ) × (held ≡ Some bytes) × (entries_of bytes ≡ entries_of read)
said_in_file None read e = cc
said_in_file (Some bytes) read e = let same : take (most_bytes + 1) bytes ≡ read = cc in (bytes, refl, sym (front_says bytes) ∙ ap entries_of same)

-- what was read of the file at a path says what the file says
pub says_in_file : (h : Option Parts) (c : Parts) (path read slice : List ℕ) (result : Result (List EntryPoint) NoEntries) → h ≡ Some c → Reads h path (most_bytes + 1) read → slice ≡ read → Says (λ said. entries_of slice ≡ said) result → Says (HasEntries c path) result
says_in_file h c path read slice result tells reads same says = go result says
  where
    in_file : (bytes : List ℕ) × (file_at c path ≡ Some bytes) × (entries_of bytes ≡ entries_of read)
    in_file = said_in_file (file_at c path) read (subst (λ (o : Option Parts). Reads o path (most_bytes + 1) read) tells reads)

    has : (said : Result (List EntryPoint) ℕ) → entries_of slice ≡ said → HasEntries c path said
    has said e = record { bytes = in_file.0; is_file = in_file.1; says = in_file.2 ∙ ap entries_of (sym same) ∙ e }

    go : (r : Result (List EntryPoint) NoEntries) → Says (λ said. entries_of slice ≡ said) r → Says (HasEntries c path) r
    go (Ok entries) e = has (Ok entries) e
    go (Err (NoEntries.BadLine number)) e = has (Err number) e
    go (Err NoEntries.ReadFault) e = tt
    go (Err NoEntries.NoMemory) e = tt
