-- The words of a table, gone through one after the other, as a loop does, and the longest front that begins one.
use Rattle.std.proofs.Common.{◌≡◌, ℕ, zero, suc, ◌+◌, ◌<◌, ◌≤◌, Bool, true, false, cond, ◌&&◌, ◌||◌, eqb, List, [], ◌∷◌, ◌++◌, length, get_or, take, drop, map, Option, Some, None, Result, Ok, Err, refl, sym, ap, subst, ◌∙◌, drop-cons, add-one, drop_of_length-le, take-append-drop, inl, inr}
use Rattle.std.specs.Cmp.Lexicographic.{pointwise}
use Rattle.exact_place.specs.Reading.{Reading, found_at, run_at}
use Rattle.exact_place.specs.Tokens.{Entry, is_front, is_text, begins_entry, entry_of}
use Rattle.exact_place.proofs.Steps.{cases}
use Rattle.exact_place.proofs.Words.{both}
use Rattle.js_read_spec.specs.Words.{entry}
use Rattle.text_scan.specs.Runs.{IsSplit}
use Rattle.text_scan.proofs.Runs.{run_split}
use Rattle.text_scan.specs.declared.stop.Stop.{Stop}
use Rattle.text_scan.specs.declared.stop.Stop.TheVariants as stops
use Rattle.text_scan.specs.Gives.{Gives}

pub front_prefix : (u e : List ℕ) → is_front u e ≡ pointwise eqb u (take (length u) e)
front_prefix [] e = refl
front_prefix (c ∷ u) [] = refl
front_prefix (c ∷ u) (d ∷ e) = ap (λ (b : Bool). eqb c d && b) (front_prefix u e)

module _ {X T : Type 0} (f : X → Entry T) where
  next : (xs : List X) (i : ℕ) (x : X) → i < length xs → x ≡ get_or xs i x → map f (drop i xs) ≡ f x ∷ map f (drop (i + 1) xs)
  next xs i x lt is = ap (map f) (drop-cons xs i x lt) ∙ ap (λ (y : X). f y ∷ map f (drop (suc i) xs)) (sym is) ∙ ap (λ (k : ℕ). f x ∷ map f (drop k xs)) (sym (add-one i))

  pub begins_goes : (xs : List X) (i : ℕ) (x : X) (word : List ℕ) (total : Bool) → i < length xs → x ≡ get_or xs i x → is_front word (f x).word ≡ false → begins_entry (map f (drop i xs)) word ≡ total → begins_entry (map f (drop (i + 1) xs)) word ≡ total
  begins_goes xs i x word total lt is off so_far = sym (ap (λ (es : List (Entry T)). begins_entry es word) (next xs i x lt is) ∙ ap (λ (b : Bool). b || begins_entry (map f (drop (i + 1) xs)) word) off) ∙ so_far

  pub begins_here : (xs : List X) (i : ℕ) (x : X) (word : List ℕ) (total : Bool) → i < length xs → x ≡ get_or xs i x → is_front word (f x).word ≡ true → begins_entry (map f (drop i xs)) word ≡ total → true ≡ total
  begins_here xs i x word total lt is on so_far = sym (ap (λ (es : List (Entry T)). begins_entry es word) (next xs i x lt is) ∙ ap (λ (b : Bool). b || begins_entry (map f (drop (i + 1) xs)) word) on) ∙ so_far

  pub begins_out : (xs : List X) (i : ℕ) (word : List ℕ) (total : Bool) → length xs ≤ i → begins_entry (map f (drop i xs)) word ≡ total → false ≡ total
  begins_out xs i word total le so_far = sym (ap (λ (es : List X). begins_entry (map f es) word) (drop_of_length-le xs le)) ∙ so_far

  pub word_goes : (xs : List X) (i : ℕ) (x : X) (word : List ℕ) (total : Option T) → i < length xs → x ≡ get_or xs i x → is_text word (f x).word ≡ false → entry_of (map f (drop i xs)) word ≡ total → entry_of (map f (drop (i + 1) xs)) word ≡ total
  word_goes xs i x word total lt is off so_far = sym (ap (λ (es : List (Entry T)). entry_of es word) (next xs i x lt is) ∙ ap (λ (b : Bool). cond b (Some (f x).value) (entry_of (map f (drop (i + 1) xs)) word)) off) ∙ so_far

  pub word_here : (xs : List X) (i : ℕ) (x : X) (word : List ℕ) (total : Option T) → i < length xs → x ≡ get_or xs i x → is_text word (f x).word ≡ true → entry_of (map f (drop i xs)) word ≡ total → Some (f x).value ≡ total
  word_here xs i x word total lt is on so_far = sym (ap (λ (es : List (Entry T)). entry_of es word) (next xs i x lt is) ∙ ap (λ (b : Bool). cond b (Some (f x).value) (entry_of (map f (drop (i + 1) xs)) word)) on) ∙ so_far

  pub word_out : (xs : List X) (i : ℕ) (word : List ℕ) (total : Option T) → length xs ≤ i → entry_of (map f (drop i xs)) word ≡ total → None ≡ total
  word_out xs i word total le so_far = sym (ap (λ (es : List X). entry_of (map f es) word) (drop_of_length-le xs le)) ∙ so_far

-- ---- the longest front

front_closed : (front : List ℕ) (c : ℕ) (more e : List ℕ) → is_front (front ++ c ∷ more) e ≡ true → is_front (front ++ c ∷ []) e ≡ true
front_closed [] c more [] h = absurd cc
front_closed [] c more (d ∷ e) h = let k = both (eqb c d) (is_front more e) h in rw k.0 refl
front_closed (b ∷ front) c more [] h = absurd cc
front_closed (b ∷ front) c more (d ∷ e) h = let k = both (eqb b d) (is_front (front ++ c ∷ more) e) h in rw (k.0, front_closed front c more e k.1) refl

closed : {T : Type 0} (es : List (Entry T)) (front : List ℕ) (c : ℕ) (more : List ℕ) → begins_entry es (front ++ c ∷ more) ≡ true → begins_entry es (front ++ c ∷ []) ≡ true
closed [] front c more h = absurd cc
closed (e ∷ es) front c more h = elim (cases (is_front (front ++ c ∷ more) e.word)) [
  | inl k ↦ rw (front_closed front c more e.word k) refl
  | inr k ↦ or_right (is_front (front ++ c ∷ []) e.word) (closed es front c more (rw k at h))
]
  where
    or_right : (a : Bool) {b : Bool} → b ≡ true → (a || b) ≡ true
    or_right true h = refl
    or_right false h = h

take_more : (i : ℕ) (bytes : List ℕ) (c : ℕ) (back : List ℕ) → drop i bytes ≡ c ∷ back → take (suc i) bytes ≡ take i bytes ++ c ∷ []
take_more zero [] c back e = absurd (cc e)
take_more zero (b ∷ bytes) c back e = let same : b ≡ c = cc e in rw same refl
take_more (suc i) [] c back e = absurd (cc e)
take_more (suc i) (b ∷ bytes) c back e = ap (λ (t : List ℕ). b ∷ t) (take_more i bytes c back e)

module _ {T : Type 0} (es : List (Entry T)) where
  pub word_stops : (i : ℕ) (bytes : List ℕ) → begins_entry es (take i bytes) ≡ true → begins_entry es (take (i + 1) bytes) ≡ false → IsSplit (begins_entry es) bytes (take i bytes) (drop i bytes)
  word_stops i bytes on off = record {
    parts = sym (take-append-drop i bytes);
    whole = on;
    over = λ c back e. subst (λ (t : List ℕ). begins_entry es t ≡ false) (ap (λ (k : ℕ). take k bytes) (add-one i) ∙ take_more i bytes c back e) off;
  }

  pub word_ends : (i : ℕ) (bytes : List ℕ) → length bytes ≤ i → begins_entry es (take i bytes) ≡ true → IsSplit (begins_entry es) bytes (take i bytes) (drop i bytes)
  word_ends i bytes le on = record {
    parts = sym (take-append-drop i bytes);
    whole = on;
    over = λ c back e. absurd (none c back (sym (drop_of_length-le bytes le) ∙ e));
  }
    where
      none : (c : ℕ) (back : List ℕ) → ◌≡◌ {A = List ℕ} [] (c ∷ back) → ⊥
      none c back e = cc e

  pub word_read : (bytes word rest : List ℕ) (x : T) → IsSplit (begins_entry es) bytes word rest → Some x ≡ entry_of es word → run_at (begins_entry es) (entry_of es) [] bytes ≡ Ok (x, rest)
  word_read bytes word rest x s e = run_split (begins_entry es) (entry_of es) (closed es) bytes word rest s ∙ ap (λ (o : Option T). found_at o rest rest) (sym e)

  pub word_missed : (bytes word rest : List ℕ) → IsSplit (begins_entry es) bytes word rest → ◌≡◌ {A = Option T} None (entry_of es word) → run_at (begins_entry es) (entry_of es) [] bytes ≡ Err (length rest)
  word_missed bytes word rest s e = run_split (begins_entry es) (entry_of es) (closed es) bytes word rest s ∙ ap (λ (o : Option T). found_at o rest rest) (sym e)

-- ---- a table with other values

abbrev pub moved : {A B : Type 0} → (A → B) → Option A → Option B
moved f None = None
moved f (Some x) = Some (f x)

abbrev pub moved_entries : {A B : Type 0} → (A → B) → List (Entry A) → List (Entry B)
moved_entries f [] = []
moved_entries f (e ∷ es) = entry e.word (f e.value) ∷ moved_entries f es

abbrev pub moved_reading : {A B : Type 0} → (A → B) → Reading A → Reading B
moved_reading f (Ok x) = Ok (f x.0, x.1)
moved_reading f (Err left) = Err left

pub moved_of : {A B : Type 0} (f : A → B) (es : List (Entry A)) (u : List ℕ) → entry_of (moved_entries f es) u ≡ moved f (entry_of es u)
moved_of f [] u = refl
moved_of {A} {B} f (e ∷ es) u = by (is_text u e.word) (moved_of f es u)
  where
    by : (b : Bool) → entry_of (moved_entries f es) u ≡ moved f (entry_of es u) → cond b (Some (f e.value)) (entry_of (moved_entries f es) u) ≡ moved f (cond b (Some e.value) (entry_of es u))
    by true more = refl
    by false more = more

module _ {A B : Type 0} (f : A → B) (es : List (Entry A)) where
  moved_begins : (es : List (Entry A)) (u : List ℕ) → begins_entry (moved_entries f es) u ≡ begins_entry es u
  moved_begins [] u = refl
  moved_begins (e ∷ es) u = ap (λ (b : Bool). is_front u e.word || b) (moved_begins es u)

  found : (o : Option A) (rest : List ℕ) → found_at (moved f o) rest rest ≡ moved_reading f (found_at o rest rest)
  found None rest = refl
  found (Some x) rest = refl

  pub run_moved : (front bytes : List ℕ) → run_at (begins_entry (moved_entries f es)) (entry_of (moved_entries f es)) front bytes ≡ moved_reading f (run_at (begins_entry es) (entry_of es) front bytes)
  unfolding run_at
  run_moved front [] = ap (λ (o : Option B). found_at o [] []) (moved_of f es front) ∙ found (entry_of es front) []
  run_moved front (c ∷ bytes) = elim (cases (begins_entry es (front ++ c ∷ []))) [
    | inl k ↦ rw (moved_begins es (front ++ c ∷ []), k) (run_moved (front ++ c ∷ []) bytes)
    | inr k ↦ rw (moved_begins es (front ++ c ∷ []), k) (ap (λ (o : Option B). found_at o (c ∷ bytes) (c ∷ bytes)) (moved_of f es front) ∙ found (entry_of es front) (c ∷ bytes))
  ]

  pub gives_moved : {X : Type 0} (value : X → A) (after : X → List ℕ) (result : Result X Stop) (bytes : List ℕ) → Gives (λ x. (value x, after x)) result (run_at (begins_entry es) (entry_of es) [] bytes)
      → Gives (λ x. (f (value x), after x)) result (run_at (begins_entry (moved_entries f es)) (entry_of (moved_entries f es)) [] bytes)
  gives_moved value after (Ok x) bytes e = run_moved [] bytes ∙ ap (moved_reading f) e
  gives_moved value after (Err stops.NoMemory) bytes e = tt
  gives_moved value after (Err (stops.Bad left)) bytes e = run_moved [] bytes ∙ ap (moved_reading f) e
