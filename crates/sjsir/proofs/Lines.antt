-- The lines of files, one file after the other.
use Rattle.std.proofs.Common.{◌≡◌, ℕ, ◌+◌, ◌<◌, ◌≤◌, map, take, drop, get_or, length, arith, Ok, Err, Bool, true, false, List, [], ◌∷◌, ◌++◌, refl, sym, subst, ap, ◌∙◌, append-nil, Option, Some}
use Rattle.std.specs.Prelude.{◌&&◌, IsTrue, is_some}
use Rattle.std.specs.List.{All}
use Rattle.std.proofs.Math.ListN.{get_or-map}
use Rattle.std.proofs.lemmas.List.{take_more, take_all, take-append-drop, length-map}
use Rattle.std.specs.List.{flat_map}
use Rattle.std.proofs.lemmas.Grind.{flat_map-append}
use Rattle.sj_outside.specs.Contents.{Parts, file_at}
use Rattle.sj_outside.specs.Writing.{Appends}
use Rattle.sj_outside.proofs.Laws.{Appends-none, Appends-then}
use Rattle.sjsir.specs.Output.{IsFileLine, AreFileLines, no_file, first_file, status_of}
use Rattle.sjsir.specs.Printing.{IsLineOf, HasPrinted, AreHeld, PrintsOne, PrintsAll, all_printed, stopped, status_after}
use Rattle.sjsir.specs.declared.answers.Status.{Status}
use Rattle.sjsir.specs.declared.stops.Stop.{Stop}

-- no file yet
pub has_none : (c : Parts) (text : Option (List ℕ)) → HasPrinted c [] true text text
has_none c text = record { texts = []; are = no_file; written = Appends-none text }

and_true : (b : Bool) → (b && true) ≡ b
and_true true = refl
and_true false = refl

and_assoc : (a b d : Bool) → (a && (b && d)) ≡ ((a && b) && d)
and_assoc true b d = refl
and_assoc false b d = refl

-- the line of one file more, behind the others
one_more : (c : Parts) (paths texts : List (List ℕ)) (all well : Bool) (path bytes text : List ℕ) → AreFileLines c paths all texts → file_at c path ≡ Some bytes → IsFileLine path bytes well text → AreFileLines c (paths ++ path ∷ []) (all && well) (texts ++ text ∷ [])
one_more c _ _ _ well path bytes text no_file held is = subst (λ (b : Bool). AreFileLines c (path ∷ []) b (text ∷ [])) (and_true well) (first_file path bytes text [] [] well true held is no_file)
one_more c _ _ _ well path bytes text (first_file p bs t ps ts w all at line rest) held is = subst (λ (b : Bool). AreFileLines c (p ∷ (ps ++ path ∷ [])) b (t ∷ (ts ++ text ∷ []))) (and_assoc w all well) (first_file p bs t (ps ++ path ∷ []) (ts ++ text ∷ []) w (all && well) at line (one_more c ps ts all well path bytes text rest held is))

-- one file more
pub has_more : (c : Parts) (files : List (List ℕ)) (path : List ℕ) (all well : Bool) (t0 t1 t2 : Option (List ℕ)) (text : List ℕ) → HasPrinted c files all t0 t1 → IsLineOf c path well text → Appends t1 t2 text → HasPrinted c (files ++ path ∷ []) (all && well) t0 t2
has_more c files path all well t0 t1 t2 text has is appends = record {
  texts = has.texts ++ text ∷ [];
  are = one_more c files has.texts all well path is.0 text has.are is.1 is.2;
  written = subst (λ (more : List ℕ). Appends t0 t2 more) (sym (flat_map-append (λ text. text) has.texts (text ∷ []))) (Appends-then t0 t1 t2 (flat_map (λ text. text) has.texts) (flat_map (λ text. text) (text ∷ [])) has.written (subst (λ (more : List ℕ). Appends t1 t2 more) (sym (append-nil text)) appends));
}

-- what holds behind the first files: what was printed, and that the counts of faults didn't fall
pub record SoFar (h0 h1 : Option Parts) (front files : List (List ℕ)) (all : Bool) (t0 t1 : Option (List ℕ)) (reads0 reads1 writes0 writes1 missing0 missing1 : ℕ) : Type 0 where
  pub same : h1 ≡ h0
  pub printed : (c : Parts) → h0 ≡ Some c → HasPrinted c front all t0 t1
  pub reads : reads0 ≤ reads1
  pub writes : writes0 ≤ writes1
  pub missing : (c : Parts) → h0 ≡ Some c → AreHeld c files → missing1 ≡ missing0

module _ {X : Type 0} (f : X → List ℕ) where
  mapped : (xs : List X) (x : X) → map f (xs ++ x ∷ []) ≡ map f xs ++ f x ∷ []
  mapped [] x = refl
  mapped (y ∷ ys) x = ap (λ (l : List (List ℕ)). f y ∷ l) (mapped ys x)

  joined : (xs ys : List X) → map f (xs ++ ys) ≡ map f xs ++ map f ys
  joined [] ys = refl
  joined (x ∷ xs) ys = ap (λ (l : List (List ℕ)). f x ∷ l) (joined xs ys)

  -- one more of the names
  next_front : (xs : List X) (i : ℕ) (x : X) → i < length xs → x ≡ get_or xs i x → map f (take (i + 1) xs) ≡ map f (take i xs) ++ f x ∷ []
  next_front xs i x below is = ap (λ (l : List X). map f l) (take_more xs i x below ∙ ap (λ (y : X). take i xs ++ y ∷ []) (sym is)) ∙ mapped (take i xs) x

  -- what holds of each name holds of this one
  of_this : (P : List ℕ → Type 0) (xs : List X) (i : ℕ) (x : X) → i < length xs → x ≡ get_or xs i x → All P (map f xs) → P (f x)
  of_this P xs i x below is all = subst P (get_or-map f xs i x ∙ ap f (sym is)) (all i (f x) (subst (λ (n : ℕ). i < n) (sym (length-map xs f)) below))

  pub goes_on : (h0 h1 h2 : Option Parts) (xs : List X) (i : ℕ) (x : X) (path : List ℕ) (old new well : Bool) (t0 t1 t2 : Option (List ℕ)) (r0 r1 r2 w0 w1 w2 m0 m1 m2 : ℕ) → i < length xs → x ≡ get_or xs i x → path ≡ f x → new ≡ (old && well) → SoFar h0 h1 (map f (take i xs)) (map f xs) old t0 t1 r0 r1 w0 w1 m0 m1 → h2 ≡ h1 → ((c : Parts) → h1 ≡ Some c → PrintsOne c path t1 t2 (Ok well)) → r1 ≤ r2 → w1 ≤ w2 → ((c : Parts) → h1 ≡ Some c → IsTrue (is_some (file_at c path)) → m2 ≡ m1) → SoFar h0 h2 (map f (take (i + 1) xs)) (map f xs) new t0 t2 r0 r2 w0 w2 m0 m2
  goes_on h0 h1 h2 xs i x path old new well t0 t1 t2 r0 r1 r2 w0 w1 w2 m0 m1 m2 below is at both so same told reads writes lacks = record {
    same = same ∙ so.same;
    printed = λ c tells. let one = told c (so.same ∙ tells) in subst (λ (l : List (List ℕ)). HasPrinted c l new t0 t2) (ap (λ (p : List ℕ). map f (take i xs) ++ p ∷ []) at ∙ sym (next_front xs i x below is)) (subst (λ (b : Bool). HasPrinted c (map f (take i xs) ++ path ∷ []) b t0 t2) (sym both) (has_more c (map f (take i xs)) path old well t0 t1 t2 one.0 (so.printed c tells) one.1 one.2));
    reads = omega (arith, so.reads, reads);
    writes = omega (arith, so.writes, writes);
    missing = λ c tells held. lacks c (so.same ∙ tells) (subst (λ (p : List ℕ). IsTrue (is_some (file_at c p))) (sym at) (of_this (λ (p : List ℕ). IsTrue (is_some (file_at c p))) xs i x below is held)) ∙ so.missing c tells held;
  }

  pub stops_early : (h0 h1 : Option Parts) (c : Parts) (xs : List X) (i : ℕ) (path : List ℕ) (old : Bool) (stop : Stop) (s : Status) (t0 t1 t2 : Option (List ℕ)) (r0 r1 w0 w1 m0 m1 : ℕ) → h0 ≡ Some c → SoFar h0 h1 (map f (take i xs)) (map f xs) old t0 t1 r0 r1 w0 w1 m0 m1 → ((d : Parts) → h1 ≡ Some d → PrintsOne d path t1 t2 (Err stop)) → s ≡ status_after stop → PrintsAll c (map f xs) t0 t2 s
  stops_early h0 h1 c xs i path old stop s t0 t1 t2 r0 r1 w0 w1 m0 m1 tells so told is =
      subst (λ (e : Status). PrintsAll c (map f xs) t0 t2 e) (sym is) (stopped (map f (take i xs)) (map f (drop i xs)) old stop (ap (λ (l : List X). map f l) (sym (take-append-drop i xs)) ∙ joined (take i xs) (drop i xs)) (has_same (so.printed c tells)))
    where
      has_same : HasPrinted c (map f (take i xs)) old t0 t1 → HasPrinted c (map f (take i xs)) old t0 t2
      has_same has = record { texts = has.texts; are = has.are; written = subst (λ (more : List ℕ). Appends t0 t2 more) (append-nil (flat_map (λ text. text) has.texts)) (Appends-then t0 t1 t2 (flat_map (λ text. text) has.texts) [] has.written (told c (so.same ∙ tells))) }

  pub lacks_none : (h0 h1 : Option Parts) (c : Parts) (xs : List X) (i : ℕ) (x : X) (path : List ℕ) (old : Bool) (t0 t1 : Option (List ℕ)) (r0 r1 w0 w1 m0 m1 m2 : ℕ) → i < length xs → x ≡ get_or xs i x → path ≡ f x → h0 ≡ Some c → AreHeld c (map f xs) → SoFar h0 h1 (map f (take i xs)) (map f xs) old t0 t1 r0 r1 w0 w1 m0 m1 → ((d : Parts) → h1 ≡ Some d → IsTrue (is_some (file_at d path)) → m2 ≡ m1) → m2 ≡ m0
  lacks_none h0 h1 c xs i x path old t0 t1 r0 r1 w0 w1 m0 m1 m2 below is at tells held so lacks = lacks c (so.same ∙ tells) (subst (λ (p : List ℕ). IsTrue (is_some (file_at c p))) (sym at) (of_this (λ (p : List ℕ). IsTrue (is_some (file_at c p))) xs i x below is held)) ∙ so.missing c tells held

  pub has_all : (h0 h1 : Option Parts) (c : Parts) (xs : List X) (i : ℕ) (all : Bool) (s : Status) (t0 t1 : Option (List ℕ)) (r0 r1 w0 w1 m0 m1 : ℕ) → length xs ≤ i → h0 ≡ Some c → SoFar h0 h1 (map f (take i xs)) (map f xs) all t0 t1 r0 r1 w0 w1 m0 m1 → s ≡ status_of all → PrintsAll c (map f xs) t0 t1 s
  has_all h0 h1 c xs i all s t0 t1 r0 r1 w0 w1 m0 m1 ended tells so is = subst (λ (e : Status). PrintsAll c (map f xs) t0 t1 e) (sym is) (all_printed all (subst (λ (l : List X). HasPrinted c (map f l) all t0 t1) (take_all i xs ended) (so.printed c tells)))
