-- A file runs last of those that it reaches by imports, and each runs once.
use Rattle.std.proofs.Common.{◌≡◌, ℕ, zero, suc, Bool, true, false, List, [], ◌∷◌, ◌++◌, ◌||◌, length, not, refl, sym, ap, ◌∙◌, ◌⊎◌, inl, inr, ⊎_elim}
use Rattle.std.proofs.lemmas.Bool.{and_parts, and_from, or_cases, or_left, or_right, not-true}
use Rattle.agree_body_rules.proofs.Equal.{equals, is-equal}
use Rattle.file_declarations.proofs.Items.{not_both}
use Rattle.js_mean.specs.Files.{Visited, enter, finish, visit, visit_all, imports_in, module_among}
use Rattle.js_mean.specs.Proper.{is_among, are_distinct}
use Rattle.js_mean.specs.States.{Program}
use Rattle.js_tree.specs.Names.{is_same_text}
use Rattle.js_tree.specs.Terms.{Name}
use Rattle.js_tree.specs.declared.items.JsImport.{JsImport}
use Rattle.declared_files.specs.Placed.{FilesRunLast}

or_false : (a b : Bool) → (a || b) ≡ false → (a ≡ false) × (b ≡ false)
or_false true b e = cc
or_false false b e = (refl, e)

other_way : (x y : Name) → is_same_text x y ≡ false → is_same_text y x ≡ false
other_way x y h = go (is_same_text y x) refl
  where
    go : (b : Bool) → is_same_text y x ≡ b → is_same_text y x ≡ false
    go false k = k
    go true k = absurd (not_both (is_same_text x y) (ap (λ z. is_same_text z y) (sym (is-equal y x k)) ∙ equals y) h)

-- one more name at the end
not_at_end : (xs : List Name) (f x : Name) → is_among xs x ≡ false → is_same_text x f ≡ false → is_among (xs ++ f ∷ []) x ≡ false
not_at_end [] f x h k = ap (λ b. b || false) k
not_at_end (y ∷ ys) f x h k = let p = or_false (is_same_text x y) (is_among ys x) h in ap (λ b. b || is_among (ys ++ f ∷ []) x) p.0 ∙ not_at_end ys f x p.1 k

at_end : (xs : List Name) (f x : Name) → is_among (xs ++ f ∷ []) x ≡ true → (is_among xs x ≡ true) ⊎ (x ≡ f)
at_end [] f x h = ⊎_elim (λ same. inr (is-equal x f same)) (λ none. cc) (or_cases (is_same_text x f) false h)
at_end (y ∷ ys) f x h = ⊎_elim (λ same. inl (or_left (is_same_text x y) (is_among ys x) same)) (λ later. ⊎_elim (λ k. inl (or_right (is_same_text x y) (is_among ys x) k)) (λ e. inr e) (at_end ys f x later)) (or_cases (is_same_text x y) (is_among (ys ++ f ∷ []) x) h)

distinct_end : (xs : List Name) (f : Name) → are_distinct xs ≡ true → is_among xs f ≡ false → are_distinct (xs ++ f ∷ []) ≡ true
distinct_end [] f d h = refl
distinct_end (y ∷ ys) f d h =
    let k = and_parts (not (is_among ys y)) (are_distinct ys) d in
    let p = or_false (is_same_text f y) (is_among ys f) h in
    and_from (not (is_among (ys ++ f ∷ []) y)) (are_distinct (ys ++ f ∷ [])) (ap not (not_at_end ys f y (not-true (is_among ys y) k.0) (other_way f y p.0))) (distinct_end ys f k.1 p.1)

-- what is finished was entered, and nothing is finished twice
record Fine (v : Visited) : Type 0 where
  distinct : are_distinct v.finished ≡ true
  entered : (x : Name) → is_among v.finished x ≡ true → is_among v.entered x ≡ true

-- what is entered stays so, and what is entered and isn't finished isn't finished by others
record Goes (v w : Visited) : Type 0 where
  fine : Fine w
  grows : (x : Name) → is_among v.entered x ≡ true → is_among w.entered x ≡ true
  held : (x : Name) → is_among v.entered x ≡ true → is_among v.finished x ≡ false → is_among w.finished x ≡ false

stays : (v : Visited) → Fine v → Goes v v
stays v fine = record { fine = fine; grows = λ x h. h; held = λ x h n. n }

goes_on : (u v w : Visited) → Goes u v → Goes v w → Goes u w
goes_on u v w a b = record { fine = b.fine; grows = λ x h. b.grows x (a.grows x h); held = λ x h n. b.held x (a.grows x h) (a.held x h n) }

all_go : (one : Name → Visited → Visited) → ((f : Name) (v : Visited) → Fine v → Goes v (one f v)) → (is : List JsImport) (v : Visited) → Fine v → Goes v (visit_all one is v)
all_go one each [] v fine = stays v fine
all_go one each (i ∷ is) v fine = let first = each i.file v fine in goes_on v (one i.file v) (visit_all one is (one i.file v)) first (all_go one each is (one i.file v) first.fine)

module _ (p : Program) where
  one_goes : (k : ℕ) → ((f : Name) (v : Visited) → Fine v → Goes v (visit p k f v)) → (f : Name) (v : Visited) → Fine v → Goes v (visit p (suc k) f v)
  one_goes k others f v fine = go (is_among v.entered f) refl
    where
      inner : Visited
      inner = visit_all (visit p k) (imports_in (module_among p f)) (enter f v)

      next : Bool → Visited
      next b = elim b as (λ b. Visited) [ true ↦ v | false ↦ finish f inner ]

      goes : Goes (enter f v) inner
      goes = all_go (visit p k) others (imports_in (module_among p f)) (enter f v) (record { distinct = fine.distinct; entered = λ x h. or_right (is_same_text x f) (is_among v.entered x) (fine.entered x h) })

      is_entered : is_among inner.entered f ≡ true
      is_entered = goes.grows f (or_left (is_same_text f f) (is_among v.entered f) (equals f))

      unfinished : is_among v.entered f ≡ false → (b : Bool) → is_among v.finished f ≡ b → is_among inner.finished f ≡ false
      unfinished e true k = absurd (not_both (is_among v.entered f) (fine.entered f k) e)
      unfinished e false k = goes.held f (or_left (is_same_text f f) (is_among v.entered f) (equals f)) k

      another : is_among v.entered f ≡ false → (x : Name) → is_among v.entered x ≡ true → (b : Bool) → is_same_text x f ≡ b → is_same_text x f ≡ false
      another e x h true k = absurd (not_both (is_among v.entered f) (ap (is_among v.entered) (sym (is-equal x f k)) ∙ h) e)
      another e x h false k = k

      go : (b : Bool) → is_among v.entered f ≡ b → Goes v (next b)
      go true e = stays v fine
      go false e = record {
        fine = record { distinct = distinct_end inner.finished f goes.fine.distinct (unfinished e (is_among v.finished f) refl); entered = λ x h. ⊎_elim (goes.fine.entered x) (λ same. ap (is_among inner.entered) same ∙ is_entered) (at_end inner.finished f x h) };
        grows = λ x h. goes.grows x (or_right (is_same_text x f) (is_among v.entered x) h);
        held = λ x h n. not_at_end inner.finished f x (goes.held x (or_right (is_same_text x f) (is_among v.entered x) h) n) (another e x h (is_same_text x f) refl);
      }

  visits : (k : ℕ) (f : Name) (v : Visited) → Fine v → Goes v (visit p k f v)
  visits zero f v fine = stays v fine
  visits (suc k) f v fine = one_goes k (visits k) f v fine

pub files_run_last : FilesRunLast
files_run_last p f = record {
  front = (visit_all (visit p (length p)) (imports_in (module_among p f)) (enter f nothing)).finished;
  order = refl;
  once = (visits p (suc (length p)) f nothing (record { distinct = refl; entered = λ x h. cc })).fine.distinct;
}
  where
    nothing : Visited
    nothing = record { entered = []; finished = [] }
