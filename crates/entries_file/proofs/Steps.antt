-- What is said line by line.
use Rattle.std.proofs.Common.{◌≡◌, ◌⊎◌, inl, inr, ℕ, Bool, true, false, List, [], ◌∷◌, ◌++◌, ◌≤◌, ◌<◌, ◌+◌, ◌-◌, suc, zero, Option, Some, None, Result, Ok, Err, refl, sym, ap, ◌∙◌, subst, ◌&&◌, not, length, arith, if◌then◌else◌}
use Rattle.std.specs.Prelude.{codes, nat_eq, nat_lt, unwrap_or}
use Rattle.std.specs.Str.{is_utf8}
use Rattle.std.proofs.lemmas.Bool.Decides.{nat_tests}
use Rattle.std.specs.List.{list_all}
use Rattle.std.specs.Cmp.Lexicographic.{pointwise}
use Rattle.std.proofs.lemmas.Bool.{and_parts, and_from}
use Rattle.sj_names.specs.declared.entry_points.EntryPoint.{EntryPoint}
use Rattle.sj_names.specs.EntryPoints.{is_public_id, is_entry, AreEntries}
use Rattle.sj_names.specs.Grammar.{is_class_name, is_plain_name, is_name_byte}
use Rattle.entries_file.specs.Lines.{lines, fields, is_line_feed, IsFirstLine}
use Rattle.entries_file.specs.EntriesFile.{entry, entry_of_line, entry_of_fields, in_front, line_says, one_or_more, said, most_bytes, most_entries}
use Rattle.entries_file.specs.Laws.{EntriesAreValid}
use Rattle.entries_file.specs.Refusals.{IsRefused, IsLineRefused}
use Rattle.entries_file.specs.declared.errors.EntriesError.{EntriesError}
use Rattle.entries_file.proofs.Cuts.{no_cut, cut_at}

-- entries in front of what is said behind them
abbrev pub after : List EntryPoint → Result (List EntryPoint) ℕ → Result (List EntryPoint) ℕ
after taken (Ok entries) = Ok (taken ++ entries)
after taken (Err number) = Err number

pub after_none : (said : Result (List EntryPoint) ℕ) → after [] said ≡ said
after_none (Ok entries) = refl
after_none (Err number) = refl

append_one : (xs : List EntryPoint) (x : EntryPoint) (ys : List EntryPoint) → xs ++ x ∷ ys ≡ (xs ++ x ∷ []) ++ ys
append_one [] x ys = refl
append_one (z ∷ xs) x ys = ap (λ l. z ∷ l) (append_one xs x ys)

append_none : (xs : List EntryPoint) → xs ++ [] ≡ xs
append_none [] = refl
append_none (x ∷ xs) = ap (λ l. x ∷ l) (append_none xs)

after_front : (taken : List EntryPoint) (entry : EntryPoint) (said : Result (List EntryPoint) ℕ) → after taken (in_front entry said) ≡ after (taken ++ entry ∷ []) said
after_front taken entry (Ok entries) = ap (λ l. Ok l) (append_one taken entry entries)
after_front taken entry (Err number) = refl

-- the last line says the same with a line feed behind it
last_line : (number room : ℕ) (line : List ℕ) → said number room (line ∷ []) ≡ said number room (line ∷ [] ∷ [])
last_line number room [] = refl
last_line number room (byte ∷ bytes) = refl

pub cut_said : (number room : ℕ) (text line behind : List ℕ) → IsFirstLine text line behind → said number room (lines text) ≡ said number room (line ∷ lines behind)
cut_said number room text line behind (none, inl e) = ap (λ t. said number room (lines t)) e ∙ ap (said number room) (cut_at is_line_feed line 10 behind none refl)
cut_said number room text line behind (none, inr (e, b)) =
    ap (λ t. said number room (lines t)) e ∙ ap (said number room) (no_cut is_line_feed line none) ∙ last_line number room line ∙ ap (λ t. said number room (line ∷ lines t)) (sym b)

is_nil : {A : Type 0} → (xs : List A) → length xs ≡ 0 → xs ≡ []
is_nil [] e = refl
is_nil (x ∷ xs) e = absurd (omega (arith, e))

pub empty_line : (number room : ℕ) (text line behind : List ℕ) → IsFirstLine text line behind → length line ≡ 0 → said number room (lines text) ≡ said (number + 1) room (lines behind)
empty_line number room text line behind cut e = cut_said number room text line behind cut ∙ ap (λ l. said number room (l ∷ lines behind)) (is_nil line e)

full_line : (number room : ℕ) (line : List ℕ) (rest : List (List ℕ)) → 0 < length line → said number room (line ∷ rest) ≡ line_says number room (entry_of_line line) (said (number + 1) (room - 1) rest)
full_line number room [] rest l = absurd (omega (arith, l))
full_line number room (byte ∷ bytes) rest l = refl

with_room : (number room : ℕ) (e : EntryPoint) (behind : Result (List EntryPoint) ℕ) → 0 < room → line_says number room (Some e) behind ≡ in_front e behind
with_room number zero e behind l = absurd (omega (arith, l))
with_room number (suc room) e behind l = refl

none_spelled : (number room : ℕ) (behind : Result (List EntryPoint) ℕ) → line_says number room None behind ≡ Err number
none_spelled number zero behind = refl
none_spelled number (suc room) behind = refl

pub length-one_more : (xs : List EntryPoint) (x : EntryPoint) → length (xs ++ x ∷ []) ≡ length xs + 1
length-one_more [] x = refl
length-one_more (y ∷ xs) x = omega (arith, length-one_more xs x)

pub entry_line : (number : ℕ) (taken : List EntryPoint) (text line behind : List ℕ) (e : EntryPoint) → IsFirstLine text line behind → 0 < length line → length taken < most_entries → entry_of_line line ≡ Some e
    → after taken (said number (most_entries - length taken) (lines text)) ≡ after (taken ++ e ∷ []) (said (number + 1) (most_entries - length (taken ++ e ∷ [])) (lines behind))
entry_line number taken text line behind e cut some l spelled =
    let room : most_entries - length taken - 1 ≡ most_entries - length (taken ++ e ∷ []) = omega (arith, length-one_more taken e) in
    ap (after taken) (cut_said number (most_entries - length taken) text line behind cut ∙ full_line number (most_entries - length taken) line (lines behind) some
    ∙ ap (λ o. line_says number (most_entries - length taken) o (said (number + 1) (most_entries - length taken - 1) (lines behind))) spelled
    ∙ with_room number (most_entries - length taken) e (said (number + 1) (most_entries - length taken - 1) (lines behind)) (omega (arith, l)))
    ∙ after_front taken e (said (number + 1) (most_entries - length taken - 1) (lines behind))
    ∙ ap (λ r. after (taken ++ e ∷ []) (said (number + 1) r (lines behind))) room

refused_line : (number room taken : ℕ) (o : Option EntryPoint) (behind : Result (List EntryPoint) ℕ) → room ≡ most_entries - taken → (most_entries ≤ taken) ⊎ (o ≡ None) → line_says number room o behind ≡ Err number
refused_line number zero taken o behind r why = refl
refused_line number (suc room) taken o behind r (inl l) = absurd (omega (arith, r, l))
refused_line number (suc room) taken o behind r (inr e) = ap (λ x. line_says number (suc room) x behind) e

pub refused : (number : ℕ) (taken : List EntryPoint) (text line behind : List ℕ) (all : Result (List EntryPoint) ℕ) (error : EntriesError) → after taken (said number (most_entries - length taken) (lines text)) ≡ all → IsFirstLine text line behind → 0 < length line → (count : ℕ) → count ≡ length taken → IsLineRefused count number line error → IsRefused all error
refused number taken text line behind all (EntriesError.BadLine bad) i cut some count counted (same, why) =
    sym i ∙ ap (after taken) (cut_said number (most_entries - length taken) text line behind cut ∙ full_line number (most_entries - length taken) line (lines behind) some
    ∙ refused_line number (most_entries - length taken) count (entry_of_line line) (said (number + 1) (most_entries - length taken - 1) (lines behind)) (ap (λ n. most_entries - n) (sym counted)) why) ∙ ap (λ n. Err n) (sym same)
refused number taken text line behind all EntriesError.NoMemory i cut some count counted why = tt

pub no_line_left : (number : ℕ) (taken : List EntryPoint) (text : List ℕ) (all : Result (List EntryPoint) ℕ) → after taken (said number (most_entries - length taken) (lines text)) ≡ all → length text ≡ 0 → all ≡ Ok taken
no_line_left number taken text all i e =
    sym i ∙ ap (λ t. after taken (said number (most_entries - length taken) (lines t))) (is_nil text e) ∙ ap (λ l. Ok l) (append_none taken)

pub shorter : (text line behind : List ℕ) → IsFirstLine text line behind → 0 < length text → length behind < length text
shorter text line behind (none, inl e) l = omega (arith, ap length e, length-cut line behind)
  where
    length-cut : (front back : List ℕ) → length (front ++ 10 ∷ back) ≡ length front + length back + 1
    length-cut [] back = omega arith
    length-cut (x ∷ front) back = omega (arith, length-cut front back)
shorter text line behind (none, inr (e, b)) l = omega (arith, l, ap length b)

-- what is said are entries, no more than there is room for
pub record AreSaid (room : ℕ) (entries : List EntryPoint) : Type 0 where
  pub few : length entries ≤ room
  pub each : list_all is_entry entries ≡ true

chosen_entry : (b : Bool) (made e : EntryPoint) → (if b then Some made else None) ≡ Some e → (b ≡ true) × (made ≡ e)
chosen_entry true made e h = (refl, ap (λ o. unwrap_or o made) h)
chosen_entry false made e h = absurd cc

not_constructor : (method : List ℕ) → is_plain_name method ≡ true → pointwise nat_eq method (codes "<init>") ≡ false
not_constructor [] h = refl
not_constructor (byte ∷ bytes) h = by_first byte bytes (nat_eq byte 60) refl (and_parts (is_name_byte byte) (list_all is_name_byte bytes) (and_parts (nat_lt 0 (length (byte ∷ bytes))) (list_all is_name_byte (byte ∷ bytes)) h).1).0
  where
    by_first : (byte : ℕ) (bytes : List ℕ) (b : Bool) → nat_eq byte 60 ≡ b → is_name_byte byte ≡ true → pointwise nat_eq (byte ∷ bytes) (codes "<init>") ≡ false
    by_first byte bytes true e n = absurd (grind (arith, nat_tests))
    by_first byte bytes false e n = ap (λ y. y && pointwise nat_eq bytes (codes "init>")) e

entry_is_valid : (id class method : List ℕ) (e : EntryPoint) → entry id class method ≡ Some e → is_entry e ≡ true
entry_is_valid id class method e h =
    let made : EntryPoint = record { «module» = id; class = class; method = method } in
    let chosen = chosen_entry (is_public_id id && is_class_name class && is_plain_name method) made e h in
    let both = and_parts (is_public_id id && is_class_name class) (is_plain_name method) chosen.0 in
    let valid : is_entry made ≡ true = and_from (is_public_id id) (not (pointwise nat_eq method (codes "<init>"))) (and_parts (is_public_id id) (is_class_name class) both.0).0 (ap not (not_constructor method both.1)) in
    ap is_entry (sym chosen.1) ∙ valid

fields_are_valid : (fields : List (List ℕ)) (e : EntryPoint) → entry_of_fields fields ≡ Some e → is_entry e ≡ true
fields_are_valid [] e h = absurd cc
fields_are_valid (a ∷ []) e h = absurd cc
fields_are_valid (a ∷ b ∷ []) e h = absurd cc
fields_are_valid (a ∷ b ∷ c ∷ []) e h = entry_is_valid a b c e h
fields_are_valid (a ∷ b ∷ c ∷ d ∷ more) e h = absurd cc

if_some : (b : Bool) (o : Option EntryPoint) (e : EntryPoint) → (if b then o else None) ≡ Some e → o ≡ Some e
if_some true o e h = h
if_some false o e h = absurd cc

line_is_valid : (line : List ℕ) (e : EntryPoint) → entry_of_line line ≡ Some e → is_entry e ≡ true
line_is_valid line e h = fields_are_valid (fields line) e (if_some (is_utf8 line) (entry_of_fields (fields line)) e h)

one_more_said : (room : ℕ) (e : EntryPoint) (behind : Result (List EntryPoint) ℕ) (entries : List EntryPoint) → is_entry e ≡ true → ((es : List EntryPoint) → behind ≡ Ok es → AreSaid room es) → in_front e behind ≡ Ok entries → AreSaid (room + 1) entries
one_more_said room e (Err number) entries valid rest h = absurd cc
one_more_said room e (Ok es) [] valid rest h = absurd cc
one_more_said room e (Ok es) (x ∷ xs) valid rest h =
    let front : e ≡ x = cc in
    let same : es ≡ xs = cc in
    let said = rest xs (ap (λ l. Ok l) same) in
    record { few = omega (arith, said.few); each = and_from (is_entry x) (list_all is_entry xs) (ap is_entry (sym front) ∙ valid) said.each }

line_said : (number room : ℕ) (o : Option EntryPoint) (behind : Result (List EntryPoint) ℕ) (entries : List EntryPoint) → ((e : EntryPoint) → o ≡ Some e → is_entry e ≡ true) → ((es : List EntryPoint) → behind ≡ Ok es → AreSaid (room - 1) es) → line_says number room o behind ≡ Ok entries → AreSaid room entries
line_said number zero o behind entries valid rest h = absurd cc
line_said number (suc room) None behind entries valid rest h = absurd cc
line_said number (suc room) (Some e) behind entries valid rest h =
    let room_left : suc room - 1 ≡ room = omega arith in
    let whole : room + 1 ≡ suc room = omega arith in
    subst (λ r. AreSaid r entries) whole (one_more_said room e behind entries (valid e refl) (λ es said. subst (λ r. AreSaid r es) room_left (rest es said)) h)

pub are_said : (number room : ℕ) (text : List (List ℕ)) (entries : List EntryPoint) → said number room text ≡ Ok entries → AreSaid room entries
are_said number room [] [] h = record { few = omega arith; each = refl }
are_said number room [] (e ∷ entries) h = absurd cc
are_said number room ([] ∷ rest) entries h = are_said (number + 1) room rest entries h
are_said number room ((byte ∷ bytes) ∷ rest) entries h = line_said number room (entry_of_line (byte ∷ bytes)) (said (number + 1) (room - 1) rest) entries (line_is_valid (byte ∷ bytes)) (are_said (number + 1) (room - 1) rest) h

pub are_entries : (text : List (List ℕ)) (entries : List EntryPoint) → said 1 most_entries text ≡ Ok entries → 0 < length entries → AreEntries entries
are_entries text entries h some =
    let each = are_said 1 most_entries text entries h in
    record { some = omega (arith, some); few = each.few; each = each.each }

some_said : (r : Result (List EntryPoint) ℕ) (entries : List EntryPoint) → one_or_more r ≡ Ok entries → (r ≡ Ok entries) × (0 < length entries)
some_said (Ok []) entries h = absurd cc
some_said (Ok (e ∷ es)) entries h =
    let same : e ∷ es ≡ entries = cc in
    (h, subst (λ (all : List EntryPoint). 0 < length all) same (omega arith))
some_said (Err number) entries h = absurd cc

small : (b : Bool) (r : Result (List EntryPoint) ℕ) (entries : List EntryPoint) → (if b then Err 0 else r) ≡ Ok entries → r ≡ Ok entries
small true r entries h = absurd cc
small false r entries h = h

pub valid_entries : EntriesAreValid
valid_entries bytes entries h =
    let some = some_said (said 1 most_entries (lines bytes)) entries (small (nat_lt most_bytes (length bytes)) (one_or_more (said 1 most_entries (lines bytes))) entries h) in
    are_entries (lines bytes) entries some.0 some.1
