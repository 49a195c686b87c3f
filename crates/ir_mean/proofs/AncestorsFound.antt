-- A way of parents without a repeat is no longer than the ways that are tried.
use Rattle.std.proofs.Common.{◌≡◌, ℕ, zero, suc, ◌+◌, ◌≤◌, ◌<◌, Bool, true, false, ◌||◌, List, [], ◌∷◌, ◌++◌, length, Some, if◌then◌else◌, refl, sym, subst, inl, inr, Contains, arith}
use Rattle.std.specs.Prelude.{◌⊎◌, is_some, filter}
use Rattle.std.specs.Cmp.Lexicographic.{nat_list_eq_equiv}
use Rattle.std.specs.List.{list_any, AllByRecursion, IsDistinct}
use Rattle.std.proofs.lemmas.Bool.{and_parts, and_from}
use Rattle.std.proofs.lemmas.List.Folds.{list_any_at}
use Rattle.std.proofs.lemmas.Map.Made.{length-le_from_is_member}
use Rattle.ir_mean.specs.Dispatch.{longest, leads, is_ancestor}
use Rattle.sj_names.proofs.Same.{impossible}
use Rattle.sj_world.specs.Ancestors.{directly_above, IsParent, IsAncestor, parents, Way, by_path, is_object}
use Rattle.sj_world.specs.Known.{Name, Classes, class_of, hijacked, is_hijacked, is_known, is_same, names_of, object, stands_as}
use Rattle.sj_world.specs.Paths.{Path, stay, on}
use Rattle.sj_world.proofs.LawsHold.{joined}
use Rattle.sj_world.proofs.Orders.{same_name, is_same_itself}
use Rattle.ir_mean.specs.DispatchLaws.{AncestorsAreWorkedOut}

cases : (b : Bool) → (b ≡ true) ⊎ (b ≡ false)
cases true = inl refl
cases false = inr refl

pub or_first : (a b : Bool) → a ≡ true → (a || b) ≡ true
or_first true b h = refl
or_first false b h = impossible h

pub or_second : (a b : Bool) → b ≡ true → (a || b) ≡ true
or_second true b h = refl
or_second false b h = h

pub or_parts : (a b : Bool) → (a || b) ≡ true → (a ≡ true) ⊎ (b ≡ true)
or_parts true b h = inl refl
or_parts false b h = inr h

-- a test that an element passes
any_from : (p : Name → Bool) (xs : List Name) (x : Name) → Contains xs x → p x ≡ true → list_any p xs ≡ true
any_from p xs x c h = list_any_at p xs c.0 x c.1 (subst (λ (y : Name). p y ≡ true) (sym c.2) h)

record Passing (p : Name → Bool) (xs : List Name) : Type 0 where
  name : Name
  there : Contains xs name
  passes : p name ≡ true

behind_first : (x : Name) (xs : List Name) (y : Name) → Contains xs y → Contains (x ∷ xs) y
behind_first x xs y c = (suc c.0, omega (arith, c.1), c.2)

one_passes : (p : Name → Bool) (xs : List Name) → list_any p xs ≡ true → Passing p xs
one_passes p [] h = impossible h
one_passes p (x ∷ xs) h = go (or_parts (p x) (list_any p xs) h) (λ k. one_passes p xs k)
  where
    go : (p x ≡ true) ⊎ (list_any p xs ≡ true) → (list_any p xs ≡ true → Passing p xs) → Passing p (x ∷ xs)
    go (inl e) later = record { name = x; there = (0, omega arith, refl); passes = e }
    go (inr k) later = let r = later k in record { name = r.name; there = behind_first x xs r.name r.there; passes = r.passes }

-- what a filter keeps passes the test
kept_passes : (p : Name → Bool) (xs : List Name) (x : Name) → Contains (filter p xs) x → p x ≡ true
kept_passes p [] x c = let none : c.0 < 0 = c.1 in absurd (omega arith)
kept_passes p (y ∷ ys) x c = go (p y) refl c (λ k. kept_passes p ys x k)
  where
    first_or : Contains (y ∷ filter p ys) x → p y ≡ true → (Contains (filter p ys) x → p x ≡ true) → p x ≡ true
    first_or (zero, l, e) h later = subst (λ (z : Name). p z ≡ true) e h
    first_or (suc n, l, e) h later = later (n, omega (arith, l), e)

    go : (b : Bool) → p y ≡ b → Contains (if b then y ∷ filter p ys else filter p ys) x → (Contains (filter p ys) x → p x ≡ true) → p x ≡ true
    go true h k later = first_or k h later
    go false h k later = later k

module _ (w : Classes) where
  -- a way from a class to another over these names, the last of which is the other
  abbrev Along : Name → List Name → Name → Type 0
  Along c [] d = c ≡ d
  Along c (x ∷ xs) d = IsParent w c x × Along x xs d

  record Walk (c d : Name) : Type 0 where
    names : List Name
    along : Along c names d

  further : (c d e : Name) (xs : List Name) → Along c xs d → IsParent w d e → Along c (xs ++ e ∷ []) e
  further c d e [] h step = (subst (λ (x : Name). IsParent w x e) (sym h) step, refl)
  further c d e (x ∷ xs) h step = (h.0, further x d e xs h.1 step)

  walk_of : (c d : Name) → Path (IsParent w) c d → Walk c d
  walk_of c _ stay = record { names = []; along = refl }
  walk_of c _ (on b d path step) = let r = walk_of c b path in record { names = r.names ++ d ∷ []; along = further c b d r.names r.along step }

  -- no name twice
  abbrev Distinct : List Name → Type 0
  Distinct [] = Unit {0}
  Distinct (x ∷ xs) = (list_any (is_same x) xs ≡ false) × Distinct xs

  record Short (c d : Name) : Type 0 where
    names : List Name
    along : Along c names d
    distinct : Distinct (c ∷ names)

  -- from the place on at which the class stands
  cut : (c x d : Name) (ys : List Name) → Along x ys d → Distinct (x ∷ ys) → list_any (is_same c) (x ∷ ys) ≡ true → Short c d
  cut c x d [] h apart is = go (or_parts (is_same c x) false is)
    where
      go : (is_same c x ≡ true) ⊎ (false ≡ true) → Short c d
      go (inl e) = subst (λ (z : Name). Short z d) (sym (same_name c x e)) (record { names = []; along = h; distinct = apart })
      go (inr e) = impossible e
  cut c x d (y ∷ zs) h apart is = go (or_parts (is_same c x) (list_any (is_same c) (y ∷ zs)) is) (λ e. cut c y d zs h.1 apart.1 e)
    where
      go : (is_same c x ≡ true) ⊎ (list_any (is_same c) (y ∷ zs) ≡ true) → (list_any (is_same c) (y ∷ zs) ≡ true → Short c d) → Short c d
      go (inl e) later = subst (λ (z : Name). Short z d) (sym (same_name c x e)) (record { names = y ∷ zs; along = h; distinct = apart })
      go (inr e) later = later e

  shorter : (c x d : Name) → IsParent w c x → Short x d → Short c d
  shorter c x d step s = go (cases (list_any (is_same c) (x ∷ s.names)))
    where
      go : (list_any (is_same c) (x ∷ s.names) ≡ true) ⊎ (list_any (is_same c) (x ∷ s.names) ≡ false) → Short c d
      go (inl e) = cut c x d s.names s.along s.distinct e
      go (inr e) = record { names = x ∷ s.names; along = (step, s.along); distinct = (e, s.distinct) }

  short_of : (c : Name) (xs : List Name) (d : Name) → Along c xs d → Short c d
  short_of c [] d e = record { names = []; along = e; distinct = (refl, tt) }
  short_of c (x ∷ xs) d h = shorter c x d h.0 (short_of x xs d h.1)

  -- each name of a way but the first is known
  abbrev known : List Name
  known = names_of w ++ hijacked

  named : (name : Name) (v : Classes) → is_some (class_of v name) ≡ true → list_any (is_same name) (names_of v) ≡ true
  named name [] h = impossible h
  named name (c ∷ v) h = go (cases (is_same c.name name)) (λ k. named name v k)
    where
      go : (is_same c.name name ≡ true) ⊎ (is_same c.name name ≡ false) → (is_some (class_of v name) ≡ true → list_any (is_same name) (names_of v) ≡ true) → list_any (is_same name) (names_of (c ∷ v)) ≡ true
      go (inl e) later = or_first (is_same name c.name) (list_any (is_same name) (names_of v)) (subst (λ (z : Name). is_same z c.name ≡ true) (same_name c.name name e) (is_same_itself c.name))
      go (inr e) later = or_second (is_same name c.name) (list_any (is_same name) (names_of v)) (later (subst (λ (b : Bool). is_some (if b then Some c else class_of v name) ≡ true) e h))

  any_front : (p : Name → Bool) (xs ys : List Name) → list_any p xs ≡ true → list_any p (xs ++ ys) ≡ true
  any_front p [] ys h = impossible h
  any_front p (x ∷ xs) ys h = go (or_parts (p x) (list_any p xs) h) (λ k. any_front p xs ys k)
    where
      go : (p x ≡ true) ⊎ (list_any p xs ≡ true) → (list_any p xs ≡ true → list_any p (xs ++ ys) ≡ true) → (p x || list_any p (xs ++ ys)) ≡ true
      go (inl e) later = or_first (p x) (list_any p (xs ++ ys)) e
      go (inr k) later = or_second (p x) (list_any p (xs ++ ys)) (later k)

  any_back : (p : Name → Bool) (xs ys : List Name) → list_any p ys ≡ true → list_any p (xs ++ ys) ≡ true
  any_back p [] ys h = h
  any_back p (x ∷ xs) ys h = or_second (p x) (list_any p (xs ++ ys)) (any_back p xs ys h)

  among_known : (name : Name) → is_known w name ≡ true → list_any (is_same name) known ≡ true
  among_known name h = go (or_parts (is_some (class_of w name)) (is_hijacked name) h)
    where
      go : (is_some (class_of w name) ≡ true) ⊎ (is_hijacked name ≡ true) → list_any (is_same name) known ≡ true
      go (inl e) = any_front (is_same name) (names_of w) hijacked (named name w e)
      go (inr e) = any_back (is_same name) (names_of w) hijacked e

  all_known : (c : Name) (xs : List Name) (d : Name) → Along c xs d → (q : Name) → list_any (is_same q) xs ≡ true → list_any (is_same q) known ≡ true
  all_known c [] d h q is = impossible is
  all_known c (x ∷ xs) d h q is = go (or_parts (is_same q x) (list_any (is_same q) xs) is) (λ k. all_known x xs d h.1 q k)
    where
      go : (is_same q x ≡ true) ⊎ (list_any (is_same q) xs ≡ true) → (list_any (is_same q) xs ≡ true → list_any (is_same q) known ≡ true) → list_any (is_same q) known ≡ true
      go (inl e) later = among_known q (subst (λ (z : Name). is_known w z ≡ true) (sym (same_name q x e)) (kept_passes (is_known w) (directly_above w (stands_as c)) x h.0))
      go (inr k) later = later k

  differ : (x : Name) (xs : List Name) → list_any (is_same x) xs ≡ false → AllByRecursion (λ (y : Name). is_same x y ≡ false) xs
  differ x [] h = tt
  differ x (y ∷ ys) h = (first (is_same x y) (list_any (is_same x) ys) h, differ x ys (second (is_same x y) (list_any (is_same x) ys) h))
    where
      first : (a b : Bool) → (a || b) ≡ false → a ≡ false
      first true b e = impossible (sym e)
      first false b e = refl

      second : (a b : Bool) → (a || b) ≡ false → b ≡ false
      second true b e = impossible (sym e)
      second false b e = e

  distinct_is : (xs : List Name) → Distinct xs → IsDistinct is_same xs
  unfolding IsDistinct
  distinct_is [] h = tt
  distinct_is (x ∷ xs) h = (differ x xs h.0, distinct_is xs h.1)

  names_length : (v : Classes) → length (names_of v ++ hijacked) ≡ length v + 8
  names_length [] = refl
  names_length (c ∷ v) = let rest = names_length v in omega (arith, rest)

  few : (c d : Name) (s : Short c d) → length s.names ≤ longest w
  few c d s =
      let most : length s.names ≤ length known = length-le_from_is_member nat_list_eq_equiv s.names known (distinct_is s.names s.distinct.1) (all_known c s.names d s.along) in
      omega (arith, most, names_length w)

  leads_along : (k : ℕ) (c : Name) (xs : List Name) (d : Name) → length xs ≤ k → Along c xs d → leads w k c d ≡ true
  leads_along zero c [] d l h = subst (λ (z : Name). is_same c z ≡ true) h (is_same_itself c)
  leads_along zero c (x ∷ xs) d l h = absurd (omega (arith, l))
  leads_along (suc k) c [] d l h = or_first (is_same c d) (list_any (λ p. leads w k p d) (parents w c)) (subst (λ (z : Name). is_same c z ≡ true) h (is_same_itself c))
  leads_along (suc k) c (x ∷ xs) d l h = or_second (is_same c d) (list_any (λ p. leads w k p d) (parents w c)) (any_from (λ p. leads w k p d) (parents w c) x h.0 (leads_along k x xs d (omega (arith, l)) h.1))

  path_led : (k : ℕ) (c d : Name) → leads w k c d ≡ true → Path (IsParent w) c d
  path_led zero c d h = subst (Path (IsParent w) c) (same_name c d h) stay
  path_led (suc k) c d h = go (or_parts (is_same c d) (list_any (λ p. leads w k p d) (parents w c)) h) (λ p i. path_led k p d i)
    where
      go : (is_same c d ≡ true) ⊎ (list_any (λ p. leads w k p d) (parents w c) ≡ true) → ((p : Name) → leads w k p d ≡ true → Path (IsParent w) p d) → Path (IsParent w) c d
      go (inl e) later = subst (Path (IsParent w) c) (same_name c d e) stay
      go (inr e) later = let r = one_passes (λ p. leads w k p d) (parents w c) e in joined (IsParent w) c r.name d (on c r.name stay r.there) (later r.name r.passes)

  there : (c d : Name) → is_ancestor w c d ≡ true → IsAncestor w c d
  there c d h = let p = and_parts (is_known w c) (is_same d object || leads w (longest w) c d) h in record { known = p.0; way = go (or_parts (is_same d object) (leads w (longest w) c d) p.1) }
    where
      go : (is_same d object ≡ true) ⊎ (leads w (longest w) c d ≡ true) → Way w c d
      go (inl e) = is_object (same_name d object e)
      go (inr e) = by_path (path_led (longest w) c d e)

  back : (c d : Name) → IsAncestor w c d → is_ancestor w c d ≡ true
  back c d a = and_from (is_known w c) (is_same d object || leads w (longest w) c d) a.known (go a.way)
    where
      go : Way w c d → (is_same d object || leads w (longest w) c d) ≡ true
      go (is_object e) = or_first (is_same d object) (leads w (longest w) c d) (subst (λ (z : Name). is_same z object ≡ true) (sym e) (is_same_itself object))
      go (by_path path) = let r = walk_of c d path in let s = short_of c r.names d r.along in or_second (is_same d object) (leads w (longest w) c d) (leads_along (longest w) c s.names d (few c d s) s.along)

pub ancestors_are_worked_out : AncestorsAreWorkedOut
ancestors_are_worked_out w c d = (there w c d, back w c d)
