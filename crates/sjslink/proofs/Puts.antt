-- What is written for an edit.
use Rattle.std.proofs.Common.{◌≡◌, ◌≤◌, ◌⊎◌, inl, inr, ℕ, List, [], ◌∷◌, ◌++◌, refl, sym, ap, subst, ◌∙◌, append-nil, append_assoc, Option, map, take, drop, arith}
use Rattle.std.specs.Prelude.{Result, Ok, Err}
use Rattle.std.specs.List.{flat_map}
use Rattle.std.proofs.lemmas.Grind.{flat_map-append}
use Rattle.std.proofs.lemmas.List.{map-append, take-append-drop}
use Rattle.js_mean.specs.Shows.{File}
use Rattle.sj_session.specs.Modules.{as_file}
use Rattle.sj_session.specs.ModuleFile.{ModuleFile}
use Rattle.sj_outside.specs.Faults.{Rose}
use Rattle.sj_outside.specs.Writing.{Appends, Event, put, line, put_in, text_in, Writes, WritesFront}
use Rattle.sj_outside.specs.declared.answers.PutFile.{PutFile}
use Rattle.sj_outside.proofs.Laws.{Appends-none, Appends-then, Writes-line, Writes-then, WritesFront-of, Rose-within}
use Rattle.sjslink.specs.Editing.{Written, WrittenCut}
use Rattle.sjslink.specs.Output.{puts_of}
use Rattle.sjslink.specs.Puts.{put_of}
use Rattle.sjslink.specs.declared.editing.Fault.{Fault}
use Rattle.sjslink.specs.declared.editing.Fault.TheVariants.{Read, Write, NoMemory}

-- nothing is a front of all
pub nothing_is_front : (p0 p1 : Option (List PutFile)) (t0 t1 : Option (List ℕ)) (events : List Event) → Writes p0 p1 t0 t1 [] → WritesFront p0 p1 t0 t1 events
nothing_is_front p0 p1 t0 t1 events w = WritesFront-of p0 p1 t0 t1 [] events w

-- all is a front of itself
pub whole_is_front : (p0 p1 : Option (List PutFile)) (t0 t1 : Option (List ℕ)) (events : List Event) → Writes p0 p1 t0 t1 events → WritesFront p0 p1 t0 t1 events
whole_is_front p0 p1 t0 t1 events w = subst (λ (es : List Event). WritesFront p0 p1 t0 t1 es) (append-nil events) (WritesFront-of p0 p1 t0 t1 events [] w)

-- what was written, and a front of what follows
pub then_front : (p0 p1 p2 : Option (List PutFile)) (t0 t1 t2 : Option (List ℕ)) (first second : List Event) → Writes p0 p1 t0 t1 first → WritesFront p1 p2 t1 t2 second → WritesFront p0 p2 t0 t2 (first ++ second)
then_front p0 p1 p2 t0 t1 t2 first second w f =
    let parts : (first ++ f.front) ++ f.rest ≡ first ++ second = append_assoc first f.front f.rest ∙ ap (λ es. first ++ es) f.parts in
    record { front = first ++ f.front; rest = f.rest; parts = parts; written = Writes-then p0 p1 p2 t0 t1 t2 first f.front w f.written }

-- a line, or no line where it was refused
pub line_ends : (puts : Option (List PutFile)) (t0 t1 : Option (List ℕ)) (text : List ℕ) (cause : Type 0) (result : Result (Unit {0}) Fault) → Written (Appends t0 t1 text) (Appends t0 t1 []) cause result → Written (Writes puts puts t0 t1 (line text ∷ [])) (WritesFront puts puts t0 t1 (line text ∷ [])) cause result
line_ends puts t0 t1 text cause (Ok done) w = Writes-line puts t0 t1 text w
line_ends puts t0 t1 text cause (Err Read) w = w
line_ends puts t0 t1 text cause (Err Write) w = (nothing_is_front puts puts t0 t1 (line text ∷ []) (record { puts = Appends-none puts; text = w.0 }), w.1)
line_ends puts t0 t1 text cause (Err NoMemory) w = nothing_is_front puts puts t0 t1 (line text ∷ []) (record { puts = Appends-none puts; text = w })

-- the files of an edit, as they are put
pub puts_in : (out : List ℕ) (number : ℕ) (files : List File) → flat_map put_in (puts_of out number files) ≡ map (put_of out number) files
puts_in out number [] = refl
puts_in out number (f ∷ fs) = ap (λ ps. put_of out number f ∷ ps) (puts_in out number fs)

no_text_in : (out : List ℕ) (number : ℕ) (files : List File) → flat_map text_in (puts_of out number files) ≡ []
no_text_in out number [] = refl
no_text_in out number (f ∷ fs) = no_text_in out number fs

-- a line behind them puts nothing
pub puts_before_line : (out : List ℕ) (number : ℕ) (files : List File) (text : List ℕ) → flat_map put_in (puts_of out number files ++ line text ∷ []) ≡ map (put_of out number) files
puts_before_line out number files text = flat_map-append put_in (puts_of out number files) (line text ∷ []) ∙ append-nil (flat_map put_in (puts_of out number files)) ∙ puts_in out number files

-- the files were put
pub puts_written : (p0 p1 : Option (List PutFile)) (text : Option (List ℕ)) (out : List ℕ) (number : ℕ) (files : List File) → Appends p0 p1 (map (put_of out number) files) → Writes p0 p1 text text (puts_of out number files)
puts_written p0 p1 text out number files w = record { puts = subst (Appends p0 p1) (sym (puts_in out number files)) w; text = subst (Appends text text) (sym (no_text_in out number files)) (Appends-none text) }

-- and then a line
pub puts_then_line : (p0 p1 : Option (List PutFile)) (t0 t1 : Option (List ℕ)) (out : List ℕ) (number : ℕ) (files : List File) (text : List ℕ) (first cause : Type 0) (result : Result (Unit {0}) Fault) → Appends p0 p1 (map (put_of out number) files) → Written (Appends t0 t1 text) (Appends t0 t1 []) cause result → Written (Writes p0 p1 t0 t1 (puts_of out number files ++ line text ∷ [])) (WritesFront p0 p1 t0 t1 (puts_of out number files ++ line text ∷ [])) (first ⊎ cause) result
puts_then_line p0 p1 t0 t1 out number files text first cause result here w = go result (line_ends p1 t0 t1 text cause result w)
  where
    done : Writes p0 p1 t0 t0 (puts_of out number files)
    done = puts_written p0 p1 t0 out number files here

    go : (r : Result (Unit {0}) Fault) → Written (Writes p1 p1 t0 t1 (line text ∷ [])) (WritesFront p1 p1 t0 t1 (line text ∷ [])) cause r → Written (Writes p0 p1 t0 t1 (puts_of out number files ++ line text ∷ [])) (WritesFront p0 p1 t0 t1 (puts_of out number files ++ line text ∷ [])) (first ⊎ cause) r
    go (Ok unit) v = Writes-then p0 p1 p1 t0 t0 t1 (puts_of out number files) (line text ∷ []) done v
    go (Err Read) v = v
    go (Err Write) v = (then_front p0 p1 p1 t0 t0 t1 (puts_of out number files) (line text ∷ []) done v.0, inr v.1)
    go (Err NoMemory) v = then_front p0 p1 p1 t0 t0 t1 (puts_of out number files) (line text ∷ []) done v

-- the first files of an edit are a front of what is written for it
first_puts : (p0 p1 : Option (List PutFile)) (t : Option (List ℕ)) (out : List ℕ) (number : ℕ) (first others : List File) (text : List ℕ) → Appends p0 p1 (map (put_of out number) first) → WritesFront p0 p1 t t (puts_of out number (first ++ others) ++ line text ∷ [])
first_puts p0 p1 t out number first others text here =
    let parts : puts_of out number first ++ (puts_of out number others ++ line text ∷ []) ≡ puts_of out number (first ++ others) ++ line text ∷ [] = sym (append_assoc (puts_of out number first) (puts_of out number others) (line text ∷ [])) ∙ ap (λ es. es ++ line text ∷ []) (sym (map-append (λ f. put (put_of out number f)) first others)) in
    record { front = puts_of out number first; rest = puts_of out number others ++ line text ∷ []; parts = parts; written = puts_written p0 p1 t out number first here }

-- where one of them was refused
pub puts_cut : (p0 p1 p2 : Option (List PutFile)) (t : Option (List ℕ)) (out : List ℕ) (number : ℕ) (modules : List ModuleFile) (i : ℕ) (text : List ℕ) (first before after : ℕ) (second : Type 0) (fault : Fault) → Appends p0 p1 (map (put_of out number) (map as_file (take i modules))) → first ≤ before → WrittenCut (Appends p1 p2 []) (Rose before after) fault → WrittenCut (WritesFront p0 p2 t t (puts_of out number (map as_file modules) ++ line text ∷ [])) (Rose first after ⊎ second) fault
puts_cut p0 p1 p2 t out number modules i text first before after second fault here begins w = go fault w
  where
    front : Appends p1 p2 [] → WritesFront p0 p2 t t (puts_of out number (map as_file modules) ++ line text ∷ [])
    front none =
        let puts : Appends p0 p2 (map (put_of out number) (map as_file (take i modules))) = subst (Appends p0 p2) (append-nil (map (put_of out number) (map as_file (take i modules)))) (Appends-then p0 p1 p2 (map (put_of out number) (map as_file (take i modules))) [] here none) in
        let all : map as_file (take i modules) ++ map as_file (drop i modules) ≡ map as_file modules = sym (map-append as_file (take i modules) (drop i modules)) ∙ ap (map as_file) (take-append-drop i modules) in
        subst (λ (fs : List File). WritesFront p0 p2 t t (puts_of out number fs ++ line text ∷ [])) all (first_puts p0 p2 t out number (map as_file (take i modules)) (map as_file (drop i modules)) text puts)

    go : (f : Fault) → WrittenCut (Appends p1 p2 []) (Rose before after) f → WrittenCut (WritesFront p0 p2 t t (puts_of out number (map as_file modules) ++ line text ∷ [])) (Rose first after ⊎ second) f
    go Read v = v
    go Write v = (front v.0, inl (Rose-within first before after after begins v.1 (omega arith)))
    go NoMemory v = front v
