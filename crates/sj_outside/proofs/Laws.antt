-- What follows from the traits' clauses, for their callers.
use Rattle.std.proofs.Common.{ℕ, ◌≤◌, List, [], ◌∷◌, ◌++◌, refl, subst, sym, ap, ◌∙◌, arith, append_assoc}
use Rattle.std.specs.Prelude.{Option, Some, None}
use Rattle.std.specs.List.{flat_map}
use Rattle.std.proofs.lemmas.List.{append-nil}
use Rattle.std.proofs.lemmas.Grind.{flat_map-append}
use Rattle.sj_outside.specs.declared.answers.PutFile.{PutFile}
use Rattle.sj_outside.specs.Faults.{Rose}
use Rattle.sj_outside.specs.Writing.{Appends, Event, put, line, put_in, text_in, Writes, WritesFront}

-- a count that rose in a part of a run rose in the whole
pub Rose-within : (first before after last : ℕ) → first ≤ before → Rose before after → after ≤ last → Rose first last
Rose-within first before after last begins rose ends = record { never_falls = omega arith; rose = λ below. grind (arith, rose.rose) }

-- nothing more
pub Appends-none : {A : Type 0} (held : Option (List A)) → Appends held held []
Appends-none None = tt
Appends-none (Some xs) = sym (append-nil xs)

-- more, and then more
pub Appends-then : {A : Type 0} (first second third : Option (List A)) (xs ys : List A) → Appends first second xs → Appends second third ys → Appends first third (xs ++ ys)
Appends-then None None None xs ys a b = tt
Appends-then None None (Some third) xs ys a b = b
Appends-then None (Some second) third xs ys a b = absurd a
Appends-then (Some first) None third xs ys a b = absurd a
Appends-then (Some first) (Some second) None xs ys a b = b
Appends-then {A} (Some first) (Some second) (Some third) xs ys a b = b ∙ ap (λ (zs : List A). zs ++ ys) a ∙ append_assoc first xs ys

pub Writes-none : (puts : Option (List PutFile)) (text : Option (List ℕ)) → Writes puts puts text text []
Writes-none puts text = record { puts = Appends-none puts; text = Appends-none text }

pub Writes-then : (p0 p1 p2 : Option (List PutFile)) (t0 t1 t2 : Option (List ℕ)) (first second : List Event) → Writes p0 p1 t0 t1 first → Writes p1 p2 t1 t2 second → Writes p0 p2 t0 t2 (first ++ second)
Writes-then p0 p1 p2 t0 t1 t2 first second a b = record {
  puts = subst (Appends p0 p2) (sym (flat_map-append put_in first second)) (Appends-then p0 p1 p2 (flat_map put_in first) (flat_map put_in second) a.puts b.puts);
  text = subst (Appends t0 t2) (sym (flat_map-append text_in first second)) (Appends-then t0 t1 t2 (flat_map text_in first) (flat_map text_in second) a.text b.text);
}

-- one file that was put
pub Writes-put : (p0 p1 : Option (List PutFile)) (text : Option (List ℕ)) (file : PutFile) → Appends p0 p1 (file ∷ []) → Writes p0 p1 text text (put file ∷ [])
Writes-put p0 p1 text file appends = record { puts = appends; text = Appends-none text }

-- one line that was written
pub Writes-line : (puts : Option (List PutFile)) (t0 t1 : Option (List ℕ)) (text : List ℕ) → Appends t0 t1 text → Writes puts puts t0 t1 (line text ∷ [])
Writes-line puts t0 t1 text appends = record { puts = Appends-none puts; text = subst (Appends t0 t1) (sym (append-nil text)) appends }

-- a whole is a front of itself and what would have followed
pub WritesFront-of : (p0 p1 : Option (List PutFile)) (t0 t1 : Option (List ℕ)) (front rest : List Event) → Writes p0 p1 t0 t1 front → WritesFront p0 p1 t0 t1 (front ++ rest)
WritesFront-of p0 p1 t0 t1 front rest writes = record { front = front; rest = rest; parts = refl; written = writes }
