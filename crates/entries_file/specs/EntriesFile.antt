-- What the bytes of an entries file say.
use Rattle.std.specs.Prelude.{ℕ, ◌+◌, ◌-◌, ◌&&◌, zero, suc, List, [], ◌∷◌, Option, Some, None, Result, Ok, Err, length, nat_lt, if◌then◌else◌}
use Rattle.std.specs.Str.{is_utf8}
use Rattle.sj_names.specs.declared.entry_points.EntryPoint.{EntryPoint}
use Rattle.sj_names.specs.EntryPoints.{is_public_id}
use Rattle.sj_names.specs.Grammar.{is_class_name, is_plain_name}
use Rattle.entries_file.specs.Lines.{lines, fields}

abbrev pub most_bytes : ℕ
most_bytes = 1048576

abbrev pub most_entries : ℕ
most_entries = 1000

-- the entry that a public id, the name of a class and a simple name other than `<init>` spell
abbrev pub entry : List ℕ → List ℕ → List ℕ → Option EntryPoint
entry id class method =
    if is_public_id id && is_class_name class && is_plain_name method
    then Some (record { «module» = id; class = class; method = method })
    else None

abbrev pub entry_of_fields : List (List ℕ) → Option EntryPoint
entry_of_fields (id ∷ class ∷ method ∷ []) = entry id class method
entry_of_fields _ = None

-- the entry that a line spells, which is a text in UTF-8: MODULE CLASS METHOD, with single spaces
abbrev pub entry_of_line : List ℕ → Option EntryPoint
entry_of_line line = if is_utf8 line then entry_of_fields (fields line) else None

-- an entry in front of those that are said behind it
abbrev pub in_front : EntryPoint → Result (List EntryPoint) ℕ → Result (List EntryPoint) ℕ
in_front entry (Ok entries) = Ok (entry ∷ entries)
in_front entry (Err number) = Err number

-- what a line at this number says that may spell an entry, where there is room for so many, in front of what is said behind it: the
-- line is bad if there is no room or it spells none
abbrev pub line_says : ℕ → ℕ → Option EntryPoint → Result (List EntryPoint) ℕ → Result (List EntryPoint) ℕ
line_says number zero spelled behind = Err number
line_says number (suc room) None behind = Err number
line_says number (suc room) (Some entry) behind = in_front entry behind

-- what lines say, where the first has this number and there is room for so many entries: the entries in order, or the number of the
-- first bad line. Empty lines count, and say nothing
abbrev pub said : ℕ → ℕ → List (List ℕ) → Result (List EntryPoint) ℕ
said number room [] = Ok []
said number room ([] ∷ rest) = said (number + 1) room rest
said number room ((byte ∷ bytes) ∷ rest) = line_says number room (entry_of_line (byte ∷ bytes)) (said (number + 1) (room - 1) rest)

-- no entry at all is bad, and no line's fault
abbrev pub one_or_more : Result (List EntryPoint) ℕ → Result (List EntryPoint) ℕ
one_or_more (Ok []) = Err 0
one_or_more (Ok (entry ∷ entries)) = Ok (entry ∷ entries)
one_or_more (Err number) = Err number

-- what the bytes of an entries file say: its entries, or the number of its first bad line, which is 0 where no line is at fault
abbrev pub entries_of : List ℕ → Result (List EntryPoint) ℕ
entries_of bytes = if nat_lt most_bytes (length bytes) then Err 0 else one_or_more (said 1 most_entries (lines bytes))
