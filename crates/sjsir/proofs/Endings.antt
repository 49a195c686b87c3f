-- How the endings of a run follow from those of its parts.
use Rattle.std.proofs.Common.{◌≡◌, ℕ, Bool, List, [], ◌∷◌, ◌++◌, refl, sym, subst, ap, ◌∙◌, map, append-nil, Option, Some, ◌⊎◌, inr}
use Rattle.std.specs.List.{flat_map}
use Rattle.std.specs.Prelude.{codes}
use Rattle.sj_outside.specs.Contents.{Parts}
use Rattle.sj_outside.specs.Words.{without_line_feed}
use Rattle.sj_outside.specs.Writing.{Appends, Writes, WritesFront, Event, put, line, put_in, text_in}
use Rattle.sj_outside.specs.declared.answers.PutFile.{PutFile}
use Rattle.sj_outside.proofs.Laws.{Appends-none, Writes-none, Writes-line, WritesFront-of}
use Rattle.sjsir.specs.Command.{print, make, command}
use Rattle.sjsir.specs.Making.{IsMadeAt, output_of}
use Rattle.sjsir.specs.declared.making.Made.{Made}
use Rattle.sjsir.specs.declared.making.Made.TheVariants.{File, NoListing, NoFile, TooDeep}
use Rattle.sjsir.specs.Output.{Output, IsOutput, printed, made, no_listing, no_class_file, too_deep, IsFileOf, status_of, AtEnd, IsWhole, IsFront, first_lines}
use Rattle.sjsir.specs.Printing.{HasPrinted, PrintsAll, all_printed, stopped, status_after}
use Rattle.sjsir.specs.Writing.{Ends, all_written, faulted, out_of_memory, EndsWithLine}
use Rattle.sjsir.specs.declared.answers.Status.{Status}
use Rattle.sjsir.specs.declared.answers.Status.TheVariants.{Done, SomeRefused, Usage, ReadFault, WriteFault, NoMemory}
use Rattle.sjsir.specs.declared.stops.Stop.{Stop}
use Rattle.sjsir.specs.declared.stops.Stop.TheVariants as stops

at_end : (s : Status) (P : Type 0) → P → AtEnd s P
at_end Done P p = p
at_end SomeRefused P p = p
at_end Usage P p = p
at_end ReadFault P p = tt
at_end WriteFault P p = tt
at_end NoMemory P p = tt

-- the whole of an output whose writing ended so
pub ends_whole : (words : List (List ℕ)) (c : Parts) (p0 p1 : Option (List PutFile)) (t0 t1 : Option (List ℕ)) (output : Output) (s : Status) (front cause : Type 0) → IsOutput words c output → Ends output.status (Writes p0 p1 t0 t1 output.events) front cause s → AtEnd s (IsWhole words c p0 p1 t0 t1 s)
ends_whole words c p0 p1 t0 t1 output s front cause is (all_written w) = at_end output.status (IsWhole words c p0 p1 t0 t1 output.status) (record { output = output; is_output = is; is_status = refl; written = w })
ends_whole words c p0 p1 t0 t1 output s front cause is (faulted f x) = tt
ends_whole words c p0 p1 t0 t1 output s front cause is (out_of_memory f) = tt

whole_is_front : (p0 p1 : Option (List PutFile)) (t0 t1 : Option (List ℕ)) (events : List Event) → Writes p0 p1 t0 t1 events → WritesFront p0 p1 t0 t1 events
whole_is_front p0 p1 t0 t1 events w = subst (λ (es : List Event). WritesFront p0 p1 t0 t1 es) (append-nil events) (WritesFront-of p0 p1 t0 t1 events [] w)

-- nothing is a front of all
pub nothing_is_front : (puts : Option (List PutFile)) (text : Option (List ℕ)) (events : List Event) → WritesFront puts puts text text events
nothing_is_front puts text events = WritesFront-of puts puts text text [] events (Writes-none puts text)

-- the front of an output whose writing ended so
pub ends_front : (p0 p1 : Option (List PutFile)) (t0 t1 : Option (List ℕ)) (status s : Status) (events : List Event) (cause : Type 0) → Ends status (Writes p0 p1 t0 t1 events) (WritesFront p0 p1 t0 t1 events) cause s → WritesFront p0 p1 t0 t1 events
ends_front p0 p1 t0 t1 status s events cause (all_written w) = whole_is_front p0 p1 t0 t1 events w
ends_front p0 p1 t0 t1 status s events cause (faulted f x) = f
ends_front p0 p1 t0 t1 status s events cause (out_of_memory f) = f

cut_line : (puts : Option (List PutFile)) (t0 t1 : Option (List ℕ)) (text : List ℕ) → Appends t0 t1 [] → WritesFront puts puts t0 t1 (line text ∷ [])
cut_line puts t0 t1 text f = record { front = []; rest = line text ∷ []; parts = refl; written = record { puts = Appends-none puts; text = f } }

-- a line alone, beside a sink that stays as it is
pub line_ends : (puts : Option (List PutFile)) (t0 t1 : Option (List ℕ)) (status s : Status) (text : List ℕ) (first second : Type 0) → Ends status (Appends t0 t1 text) (Appends t0 t1 []) second s → Ends status (Writes puts puts t0 t1 (line text ∷ [])) (WritesFront puts puts t0 t1 (line text ∷ [])) (first ⊎ second) s
line_ends puts t0 t1 status s text first second (all_written w) = all_written (Writes-line puts t0 t1 text w)
line_ends puts t0 t1 status s text first second (faulted f x) = faulted (cut_line puts t0 t1 text f) (inr x)
line_ends puts t0 t1 status s text first second (out_of_memory f) = out_of_memory (cut_line puts t0 t1 text f)

-- the same where it is asked of both sinks
pub line_alone : (puts : Option (List PutFile)) (t0 t1 : Option (List ℕ)) (ended : Status) (text : List ℕ) (cause : Type 0) (s : Status) → Ends ended (Appends t0 t1 text) (Appends t0 t1 []) cause s → EndsWithLine ended puts puts t0 t1 text cause s
line_alone puts t0 t1 ended text cause s (all_written w) = all_written (Appends-none puts, w)
line_alone puts t0 t1 ended text cause s (faulted f x) = faulted (Appends-none puts, f) x
line_alone puts t0 t1 ended text cause s (out_of_memory f) = out_of_memory (Appends-none puts, f)

-- a file alone that was refused
pub put_refused : (p0 p1 : Option (List PutFile)) (text : Option (List ℕ)) (events : List Event) → Appends p0 p1 [] → WritesFront p0 p1 text text events
put_refused p0 p1 text events f = record { front = []; rest = events; parts = refl; written = record { puts = f; text = Appends-none text } }

-- ---- the lines of files

line_puts : (texts : List (List ℕ)) → flat_map put_in (map (λ text. line text) texts) ≡ []
line_puts [] = refl
line_puts (t ∷ ts) = line_puts ts

line_texts : (texts : List (List ℕ)) → flat_map text_in (map (λ text. line text) texts) ≡ flat_map (λ text. text) texts
line_texts [] = refl
line_texts (t ∷ ts) = ap (λ (more : List ℕ). t ++ more) (line_texts ts)

has_written : (c : Parts) (files : List (List ℕ)) (all : Bool) (puts : Option (List PutFile)) (t0 t1 : Option (List ℕ)) (has : HasPrinted c files all t0 t1) → Writes puts puts t0 t1 (map (λ text. line text) has.texts)
has_written c files all puts t0 t1 has = record {
  puts = subst (λ (more : List PutFile). Appends puts puts more) (sym (line_puts has.texts)) (Appends-none puts);
  text = subst (λ (more : List ℕ). Appends t0 t1 more) (sym (line_texts has.texts)) has.written;
}

stop_ends : (stop : Stop) (P : Type 0) → AtEnd (status_after stop) P
stop_ends stops.ReadFault P = tt
stop_ends stops.WriteFault P = tt
stop_ends stops.NoMemory P = tt

pub prints_whole : (words : List (List ℕ)) (c : Parts) (files : List (List ℕ)) (puts : Option (List PutFile)) (t0 t1 : Option (List ℕ)) (s : Status) → command words ≡ Some (print files) → PrintsAll c files t0 t1 s → AtEnd s (IsWhole words c puts puts t0 t1 s)
prints_whole words c files puts t0 t1 s is (all_printed all has) = at_end (status_of all) _ (record { output = record { status = status_of all; events = map (λ text. line text) has.texts }; is_output = printed files has.texts all is has.are; is_status = refl; written = has_written c files all puts t0 t1 has })
prints_whole words c files puts t0 t1 s is (stopped front others all stop parts has) = stop_ends stop _

pub prints_front : (words : List (List ℕ)) (c : Parts) (files : List (List ℕ)) (puts : Option (List PutFile)) (t0 t1 : Option (List ℕ)) (s : Status) → command words ≡ Some (print files) → PrintsAll c files t0 t1 s → IsFront words c puts puts t0 t1
prints_front words c files puts t0 t1 s is (all_printed all has) = first_lines files [] has.texts all (is ∙ ap (λ fs. Some (print fs)) (sym (append-nil files))) has.are (has_written c files all puts t0 t1 has)
prints_front words c files puts t0 t1 s is (stopped front others all stop parts has) = first_lines front others has.texts all (is ∙ ap (λ fs. Some (print fs)) parts) has.are (has_written c front all puts t0 t1 has)

-- ---- what was made

-- another text that is the same
pub text_ends : (t0 t1 : Option (List ℕ)) (given text : List ℕ) (status s : Status) (cause : Type 0) → given ≡ text → Ends status (Appends t0 t1 given) (Appends t0 t1 []) cause s → Ends status (Appends t0 t1 text) (Appends t0 t1 []) cause s
text_ends t0 t1 given text status s cause same = subst (λ (t : List ℕ). Ends status (Appends t0 t1 t) (Appends t0 t1 []) cause s) same

-- the output of what was made, by the case that it is
pub made_ends : (out : List ℕ) (it other : Made) (p0 p1 : Option (List PutFile)) (t0 t1 : Option (List ℕ)) (cause : Type 0) (s : Status) → it ≡ other → Ends (output_of out other).status (Writes p0 p1 t0 t1 (output_of out other).events) (WritesFront p0 p1 t0 t1 (output_of out other).events) cause s → Ends (output_of out it).status (Writes p0 p1 t0 t1 (output_of out it).events) (WritesFront p0 p1 t0 t1 (output_of out it).events) cause s
made_ends out it other p0 p1 t0 t1 cause s e = subst (λ (m : Made). Ends (output_of out m).status (Writes p0 p1 t0 t1 (output_of out m).events) (WritesFront p0 p1 t0 t1 (output_of out m).events) cause s) (sym e)

-- what was made of the listing in a file is the output of the words
pub made_output : (words : List (List ℕ)) (c : Parts) (listing out : List ℕ) (m : Made) → command words ≡ Some (make listing out) → IsMadeAt c listing m → IsOutput words c (output_of out m)
made_output words c listing out (File bytes) is (held, at, (shallow, (class, lists, written, file))) = subst (λ (b : List ℕ). IsOutput words c (record { status = Done; events = put (record { out = codes "."; edit = 1; name = out; bytes = b }) ∷ [] })) (sym written) (made listing out held class is at shallow lists (subst (IsFileOf (without_line_feed held)) written file))
made_output words c listing out (NoListing place) is (held, at, (shallow, (none, there))) = no_listing listing out held place is at shallow none there
made_output words c listing out NoFile is (held, at, (shallow, (class, lists, not_its, none))) = no_class_file listing out held class is at shallow lists not_its none
made_output words c listing out TooDeep is (held, at, deep) = too_deep listing out held is at deep
