-- Where imports go in no circle, a file runs behind those from which it imports.
use Rattle.std.proofs.Common.{◌≡◌, ◌++◌, ◌+◌, ◌≤◌, ℕ, zero, suc, Bool, true, false, List, [], ◌∷◌, Contains, inl, inr, refl, sym, ap, subst, ◌∙◌, arith, length, map}
use Rattle.std.specs.Prelude.{◌⊎◌}
use Rattle.std.specs.List.{IsDistinct}
use Rattle.std.proofs.lemmas.List.{length-map}
use Rattle.std.proofs.lemmas.List.Elements.{Contains-append_left, Contains-push}
use Rattle.js_mean.specs.Files.{Visited, enter, finish, visit, visit_all, imports_in, module_among}
use Rattle.js_mean.specs.Proper.{is_among}
use Rattle.js_tree.specs.Terms.{Name, Piece}
use Rattle.js_tree.specs.declared.items.JsImport.{JsImport}
use Rattle.sj_emit_module_spec.proofs.Lines.{imports_are}
use Rattle.sj_emit_module_spec.specs.Laws.{HasFile, IsSource, source_of}
use Rattle.sj_split_laws.proofs.Apart.{apart_cons, apart_none, new_by, no_more}
use Rattle.sj_split.proofs.Members.{at_first, further, cons_cases, into_map, from_map}
use Rattle.sj_split.specs.Modules.{file}
use Rattle.sj_split.specs.Orders.{Bytes, is_same}
use Rattle.sj_split.specs.declared.plans.PlannedModule.{PlannedModule}
use Rattle.worklist.proofs.Inserted.{nothing_in}
use Rattle.worklist.specs.Paths.{Path, stay, on}
use Rattle.module_files.proofs.Circles.{imports_go_in_no_circle}
use Rattle.module_files.proofs.Found.{is_in, program, lines_of, found, imports_found}
use Rattle.module_files.proofs.Reached.{line_source, source_file}
use Rattle.module_files.specs.Files as files
use Rattle.module_files.specs.Laws.{ImportsRunFirst}

no_end : (front behind : List Name) (x : Name) → [] ≡ front ++ x ∷ behind → ⊥
no_end [] behind x e = cc
no_end (y ∷ front) behind x e = cc

-- a list that goes on behind this front and this item
record GoesOn (xs front : List Name) (x : Name) : Type 0 where
  behind : List Name
  is : xs ≡ front ++ x ∷ behind

heads : (x y : Name) (xs ys : List Name) → x ∷ xs ≡ y ∷ ys → x ≡ y
heads x y xs ys e = cc

tails : (x y : Name) (xs ys : List Name) → x ∷ xs ≡ y ∷ ys → xs ≡ ys
tails x y xs ys e = cc

-- an item of a list with one more at its end is this one or stands before it
split_last : (xs front behind : List Name) (f x : Name) → xs ++ f ∷ [] ≡ front ++ x ∷ behind → ((xs ≡ front) × (f ≡ x)) ⊎ GoesOn xs front x
split_last [] [] behind f x e = inl (refl, heads f x [] behind e)
split_last [] (y ∷ front) behind f x e = absurd (no_end front behind x (tails f y [] (front ++ x ∷ behind) e))
split_last (z ∷ xs) [] behind f x e = inr (record { behind = xs; is = ap (λ (y : Name). y ∷ xs) (heads z x (xs ++ f ∷ []) behind e) })
split_last (z ∷ xs) (y ∷ front) behind f x e = go (split_last xs front behind f x (tails z y (xs ++ f ∷ []) (front ++ x ∷ behind) e))
  where
    first : z ≡ y
    first = heads z y (xs ++ f ∷ []) (front ++ x ∷ behind) e

    go : ((xs ≡ front) × (f ≡ x)) ⊎ GoesOn xs front x → ((z ∷ xs ≡ y ∷ front) × (f ≡ x)) ⊎ GoesOn (z ∷ xs) (y ∷ front) x
    go (inl p) = inl (ap (λ (w : Name). w ∷ xs) first ∙ ap (λ (l : List Name). y ∷ l) p.0, p.1)
    go (inr r) = inr (record { behind = r.behind; is = ap (λ (w : Name). w ∷ xs) first ∙ ap (λ (l : List Name). y ∷ l) r.is })

module _ (modules : List PlannedModule) (ps : List Piece) (no_circle : (f g : Bytes) → Path (IsSource modules ps) f g → Path (IsSource modules ps) g f → f ≡ g) where
  abbrev Imports : Bytes → Bytes → Type 0
  Imports = IsSource modules ps

  abbrev lines_in : Name → List JsImport
  lines_in f = imports_in (module_among (program modules ps) f)

  -- what a file imports stands in front of it
  abbrev InFront : List Name → Type 0
  InFront xs = (front behind : List Name) (f g : Name) → xs ≡ front ++ f ∷ behind → Imports f g → Contains front g

  in_front_more : (xs : List Name) (f : Name) → InFront xs → ((g : Name) → Imports f g → Contains xs g) → InFront (xs ++ f ∷ [])
  in_front_more xs f all its front behind x g e source = go (split_last xs front behind f x e)
    where
      go : ((xs ≡ front) × (f ≡ x)) ⊎ GoesOn xs front x → Contains front g
      go (inl p) = subst (λ (l : List Name). Contains l g) p.0 (its g (subst (λ (h : Name). Imports h g) (sym p.1) source))
      go (inr r) = all front r.behind x g r.is source

  -- the files of the stack have been entered and aren't finished
  record Standing (stack : List Name) (v : Visited) : Type 0 where
    ordered : InFront v.finished
    known : (f : Name) → Contains v.entered f → Contains v.finished f ⊎ Contains stack f
    entered : (f : Name) → Contains stack f → Contains v.entered f

  -- a file is visited from those of the stack
  record IsNext (stack : List Name) (f : Name) (k : ℕ) : Type 0 where
    its : HasFile modules f
    files : (s : Name) → Contains stack s → HasFile modules s
    apart : IsDistinct is_same stack
    leads : (s : Name) → Contains stack s → Path Imports s f
    new : Contains stack f → ⊥
    room : suc (length modules) ≤ k + length stack

  record Visits (stack : List Name) (f : Name) (v w : Visited) : Type 0 where
    standing : Standing stack w
    there : Contains w.finished f
    kept : (g : Name) → Contains v.finished g → Contains w.finished g

  record VisitsAll (stack : List Name) (lines : List JsImport) (v w : Visited) : Type 0 where
    standing : Standing stack w
    there : (line : JsImport) → Contains lines line → Contains w.finished line.file
    kept : (g : Name) → Contains v.finished g → Contains w.finished g

  -- a line for what is imported
  record HasLine (f g : Name) : Type 0 where
    line : JsImport
    among : Contains (lines_in f) line
    from : line.file ≡ g

  line_for : (f g : Name) → HasFile modules f → Imports f g → HasLine f g
  line_for f g h source =
      let m = from_map source_of (lines_of modules ps f) g (((imports_are modules ps f).sources.exact g).1 source) in
      record { line = m.item; among = subst (λ (ls : List JsImport). Contains ls m.item) (sym (imports_found modules ps f (found modules ps h.planned f h.among h.named))) m.among; from = m.is }

  -- the stack has no room for more files than there are
  full : (stack : List Name) (f : Name) → IsNext stack f zero → ⊥
  full stack f n =
      let few : length stack ≤ length (map file modules) = no_more stack (map file modules) n.apart (λ t i. let h = n.files t i in subst (Contains (map file modules)) h.named (into_map file modules h.planned h.among)) in
      let same : length (map file modules) ≡ length modules = length-map modules file in
      let room : suc (length modules) ≤ zero + length stack = n.room in
      omega (arith, few, same, room)

  next : (k : ℕ) (stack : List Name) (f g : Name) → IsNext stack f (suc k) → Imports f g → IsNext (f ∷ stack) g k
  next k stack f g n source = record {
    its = source_file modules ps f g source;
    files = λ s i. elim (cons_cases f s stack i) [ inl e ↦ subst (HasFile modules) e n.its | inr j ↦ n.files s j ];
    apart = apart_cons f stack (new_by f stack (λ other i e. n.new (subst (Contains stack) (sym e) i))) n.apart;
    leads = λ s i. elim (cons_cases f s stack i) [ inl e ↦ subst (λ (t : Name). Path Imports t g) e (on f g stay source) | inr j ↦ on f g (n.leads s j) source ];
    new = λ i. elim (cons_cases f g stack i) [ inl e ↦ source.other e | inr j ↦ source.other (no_circle f g (on f g stay source) (n.leads g j)) ];
    room = let room : suc (length modules) ≤ suc k + length stack = n.room in omega (arith, room);
  }

  visit_each : (k : ℕ) (stack : List Name) (f : Name) → ((g : Name) (v : Visited) → Imports f g → Standing (f ∷ stack) v → Visits (f ∷ stack) g v (visit (program modules ps) k g v)) → (lines : List JsImport) → ((line : JsImport) → Contains lines line → Imports f line.file) → (v : Visited) → Standing (f ∷ stack) v → VisitsAll (f ∷ stack) lines v (visit_all (visit (program modules ps) k) lines v)
  visit_each k stack f one [] each v st = record { standing = st; there = λ line i. nothing_in line i; kept = λ g i. i }
  visit_each k stack f one (l ∷ ls) each v st =
      let w : Visited = visit (program modules ps) k l.file v in
      let r : Visits (f ∷ stack) l.file v w = one l.file v (each l (at_first l ls)) st in
      let s : VisitsAll (f ∷ stack) ls w (visit_all (visit (program modules ps) k) ls w) = visit_each k stack f one ls (λ line i. each line (further l line ls i)) w r.standing in
      record {
        standing = s.standing;
        there = λ line i. elim (cons_cases l line ls i) [ inl e ↦ s.kept line.file (subst (λ (m : JsImport). Contains w.finished m.file) e r.there) | inr j ↦ s.there line j ];
        kept = λ g i. s.kept g (r.kept g i);
      }

  entering : (stack : List Name) (f : Name) (v : Visited) → Standing stack v → Standing (f ∷ stack) (enter f v)
  entering stack f v st = record { ordered = st.ordered; known = known; entered = λ g i. elim (cons_cases f g stack i) [ inl e ↦ subst (Contains (f ∷ v.entered)) e (at_first f v.entered) | inr j ↦ further f g v.entered (st.entered g j) ] }
    where
      older : (g : Name) → Contains v.finished g ⊎ Contains stack g → Contains v.finished g ⊎ Contains (f ∷ stack) g
      older g (inl i) = inl i
      older g (inr i) = inr (further f g stack i)

      known : (g : Name) → Contains (f ∷ v.entered) g → Contains v.finished g ⊎ Contains (f ∷ stack) g
      known g i = elim (cons_cases f g v.entered i) [ inl e ↦ inr (subst (Contains (f ∷ stack)) e (at_first f stack)) | inr j ↦ older g (st.known g j) ]

  finishing : (stack : List Name) (f : Name) (v w : Visited) → HasFile modules f → VisitsAll (f ∷ stack) (lines_in f) (enter f v) w → Visits stack f v (finish f w)
  finishing stack f v w h r = record {
    standing = record { ordered = in_front_more w.finished f r.standing.ordered its; known = known; entered = λ g i. r.standing.entered g (further f g stack i) };
    there = Contains-push w.finished f;
    kept = λ g i. Contains-append_left w.finished (f ∷ []) g (r.kept g i);
  }
    where
      its : (g : Name) → Imports f g → Contains w.finished g
      its g source = let l = line_for f g h source in subst (Contains w.finished) l.from (r.there l.line l.among)

      last : (g : Name) → (f ≡ g) ⊎ Contains stack g → Contains (w.finished ++ f ∷ []) g ⊎ Contains stack g
      last g (inl e) = inl (subst (Contains (w.finished ++ f ∷ [])) e (Contains-push w.finished f))
      last g (inr i) = inr i

      either : (g : Name) → Contains w.finished g ⊎ Contains (f ∷ stack) g → Contains (w.finished ++ f ∷ []) g ⊎ Contains stack g
      either g (inl i) = inl (Contains-append_left w.finished (f ∷ []) g i)
      either g (inr i) = last g (cons_cases f g stack i)

      known : (g : Name) → Contains w.entered g → Contains (w.finished ++ f ∷ []) g ⊎ Contains stack g
      known g i = either g (r.standing.known g i)

  visit_runs : (k : ℕ) (stack : List Name) (f : Name) (v : Visited) → IsNext stack f k → Standing stack v → Visits stack f v (visit (program modules ps) k f v)
  visit_runs zero stack f v n st = absurd (full stack f n)
  visit_runs (suc k) stack f v n st = go (is_among v.entered f) refl (visit_each k stack f (λ g w source standing. visit_runs k (f ∷ stack) g w (next k stack f g n source) standing) (lines_in f) (line_source modules ps f n.its) (enter f v) (entering stack f v st))
    where
      finished : Contains v.finished f ⊎ Contains stack f → Contains v.finished f
      finished (inl i) = i
      finished (inr i) = absurd (n.new i)

      go : (b : Bool) → is_among v.entered f ≡ b → VisitsAll (f ∷ stack) (lines_in f) (enter f v) (visit_all (visit (program modules ps) k) (lines_in f) (enter f v)) → Visits stack f v (elim b [ true ↦ v | false ↦ finish f (visit_all (visit (program modules ps) k) (lines_in f) (enter f v)) ])
      go true e r = record { standing = st; there = finished (st.known f (is_in v.entered f e)); kept = λ g i. i }
      go false e r = finishing stack f v (visit_all (visit (program modules ps) k) (lines_in f) (enter f v)) n.its r

  abbrev nothing : Visited
  nothing = record { entered = []; finished = [] }

  pub runs : (m : PlannedModule) → Contains modules m → InFront (visit (program modules ps) (suc (length (program modules ps))) (file m) nothing).finished
  runs m h =
      let same : length (program modules ps) ≡ length modules = length-map modules (files.source_of modules ps) in
      let first : IsNext [] (file m) (suc (length (program modules ps))) = record { its = record { planned = m; among = h; named = refl }; files = λ s i. nothing_in s i; apart = apart_none; leads = λ s i. nothing_in s i; new = λ i. nothing_in (file m) i; room = omega (arith, same) } in
      let begin : Standing [] nothing = record { ordered = λ front behind f g e source. absurd (no_end front behind f e); known = λ f i. nothing_in f i; entered = λ f i. nothing_in f i } in
      (visit_runs (suc (length (program modules ps))) [] (file m) nothing first begin).standing.ordered

pub imports_run_first : ImportsRunFirst
imports_run_first digest_of graph entries style modules ps valid keep is_graph is m h front behind f g e source = runs modules ps (imports_go_in_no_circle digest_of graph entries style modules ps valid keep is_graph is) m h front behind f g e source
