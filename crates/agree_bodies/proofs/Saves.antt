-- Variables that are kept in constants in front of a finalizer, and given back behind it.
use Rattle.std.proofs.Common.{◌≡◌, ℕ, suc, ◌≤◌, Bool, true, false, ◌||◌, List, [], ◌∷◌, ◌++◌, refl, sym, ap, ◌∙◌, subst, ◌⊎◌, inl, inr, ⊎_elim, arith, None, if◌then◌else◌}
use Rattle.std.specs.Prelude.{nat_eq, ◌==◌}
use Rattle.std.specs.Cmp.Lexicographic.{pointwise}
use Rattle.std.specs.List.{flat_map, list_any}
use Rattle.std.proofs.lemmas.Bool.Decides.{Decides-eqb}
use Rattle.outcomes.specs.Outcome.{Out, done, then_do}
use Rattle.js_mean.specs.Files.{owner}
use Rattle.js_mean.specs.Meaning as js_meaning
use Rattle.js_mean.specs.States as js
use Rattle.js_tree.specs.Terms.{Name}
use Rattle.agree_bodies.proofs.Contexts.{IsOpen, started-here, started-other, started-inside}
use Rattle.agree_bodies.proofs.Placed.{or_first, or_later, or_onward}
use Rattle.agree_bodies.proofs.Statements.{act_of, assigned, started-open}
use Rattle.sj_core.specs.Terms as core
use Rattle.sj_core.specs.Terms.{followed}
use Rattle.sj_names.proofs.Same.{impossible, text-same, text-refl}
use Rattle.agree_plain_trees.specs.Settings.{Setting, run, Lawful, Inside}
use Rattle.agree_early_errors.specs.Finalizers.{is_same_variable, variables_in, each_once, keep_all, give_all_back}
use Rattle.agree_early_errors.specs.Plain.{is_among}
use Rattle.agree_early_errors.specs.Spill.{Destination, discard, to_variable, to_result}
use Rattle.agree_bodies.proofs.Contexts.{Goes}

-- whether a variable is one of these
abbrev pub is_in : List core.Variable → core.Variable → Bool
is_in xs y = list_any (is_same_variable y) xs

number-same : (i j : ℕ) → (i == j) ≡ true → i ≡ j
number-same i j h = (Decides-eqb i j).0 h

number-refl : (i : ℕ) → (i == i) ≡ true
number-refl i = (Decides-eqb i i).1 refl

variable-same : (x y : core.Variable) → is_same_variable x y ≡ true → x ≡ y
variable-same (core.named x) (core.named y) h = ap core.named (text-same x y h)
variable-same (core.numbered i) (core.numbered j) h = ap core.numbered (number-same i j h)
variable-same core.receiver core.receiver h = refl
variable-same (core.named x) (core.numbered j) h = impossible h
variable-same (core.named x) core.receiver h = impossible h
variable-same (core.numbered i) (core.named y) h = impossible h
variable-same (core.numbered i) core.receiver h = impossible h
variable-same core.receiver (core.named y) h = impossible h
variable-same core.receiver (core.numbered j) h = impossible h

variable-refl : (x : core.Variable) → is_same_variable x x ≡ true
variable-refl (core.named x) = text-refl x
variable-refl (core.numbered i) = number-refl i
variable-refl core.receiver = refl

one_in : (x : core.Variable) (xs : List core.Variable) → is_in (x ∷ xs) x ≡ true
one_in x xs = or_first (is_same_variable x x) (is_in xs x) (variable-refl x)

further_in : (x y : core.Variable) (xs : List core.Variable) → is_in xs y ≡ true → is_in (x ∷ xs) y ≡ true
further_in x y xs h = or_later (is_same_variable y x) (is_in xs y) h

-- one that is among some and not among those behind the first is the first
is_first : (x y : core.Variable) (xs : List core.Variable) → is_in (x ∷ xs) y ≡ true → is_in xs y ≡ false → y ≡ x
is_first x y xs h none = go (is_same_variable y x) refl h
  where
    go : (b : Bool) → is_same_variable y x ≡ b → (b || is_in xs y) ≡ true → y ≡ x
    go true e k = variable-same y x e
    go false e k = impossible (sym none ∙ k)

not_first : (x y : core.Variable) (xs : List core.Variable) → is_in (x ∷ xs) y ≡ false → y ≡ x → ⊥
not_first x y xs h e = absurd (impossible (sym h ∙ subst (λ (v : core.Variable). is_in (x ∷ xs) v ≡ true) (sym e) (one_in x xs)))

not_further : (x y : core.Variable) (xs : List core.Variable) → is_in (x ∷ xs) y ≡ false → is_in xs y ≡ false
not_further x y xs h = go (is_same_variable y x) h
  where
    go : (b : Bool) → (b || is_in xs y) ≡ false → is_in xs y ≡ false
    go true k = impossible (sym k)
    go false k = k

-- each once, they are the same
once_step : (b c : Bool) (x y : core.Variable) (seen xs : List core.Variable) → is_same_variable y x ≡ c → (is_in (each_once seen xs) y ≡ true → is_in xs y ≡ true) → (is_in (each_once (x ∷ seen) xs) y ≡ true → is_in xs y ≡ true) → is_in (if b then each_once seen xs else (x ∷ each_once (x ∷ seen) xs)) y ≡ true → is_in (x ∷ xs) y ≡ true
once_step true c x y seen xs e one other h = further_in x y xs (one h)
once_step false true x y seen xs e one other h = or_first (is_same_variable y x) (is_in xs y) e
once_step false false x y seen xs e one other h = further_in x y xs (other (sym (ap (λ (b : Bool). b || is_in (each_once (x ∷ seen) xs) y) e) ∙ h))

pub once_in : (seen xs : List core.Variable) (y : core.Variable) → is_in (each_once seen xs) y ≡ true → is_in xs y ≡ true
once_in seen [] y h = h
once_in seen (x ∷ xs) y h = once_step (list_any (is_same_variable x) seen) (is_same_variable y x) x y seen xs refl (once_in seen xs y) (once_in (x ∷ seen) xs y) h

in_step : (b c : Bool) (x y : core.Variable) (seen xs : List core.Variable) → list_any (is_same_variable x) seen ≡ b → is_same_variable y x ≡ c → is_in seen y ≡ false → (is_in xs y ≡ true → is_in (each_once seen xs) y ≡ true) → (is_in (x ∷ seen) y ≡ false → is_in xs y ≡ true → is_in (each_once (x ∷ seen) xs) y ≡ true) → (c || is_in xs y) ≡ true → is_in (if b then each_once seen xs else (x ∷ each_once (x ∷ seen) xs)) y ≡ true
in_step true true x y seen xs d e none one other h = impossible (sym (subst (λ (v : core.Variable). is_in seen v ≡ false) (variable-same y x e) none) ∙ d)
in_step true false x y seen xs d e none one other h = one h
in_step false true x y seen xs d e none one other h = or_first (is_same_variable y x) (is_in (each_once (x ∷ seen) xs) y) e
in_step false false x y seen xs d e none one other h = or_later (is_same_variable y x) (is_in (each_once (x ∷ seen) xs) y) (other (ap (λ (b : Bool). b || is_in seen y) e ∙ none) h)

pub in_once : (seen xs : List core.Variable) (y : core.Variable) → is_in seen y ≡ false → is_in xs y ≡ true → is_in (each_once seen xs) y ≡ true
in_once seen [] y none h = h
in_once seen (x ∷ xs) y none h = in_step (list_any (is_same_variable x) seen) (is_same_variable y x) x y seen xs refl refl none (in_once seen xs y none) (in_once (x ∷ seen) xs y) h

-- the variables to which what leaves to these labels goes
abbrev pub aims_of : (List ℕ → Destination) → List (List ℕ) → List core.Variable
aims_of goes_to ls = flat_map (λ l. variables_in (goes_to l)) ls

goes_in : (k : Destination) (y : core.Variable) → Goes k y → is_in (variables_in k) y ≡ true
goes_in discard y g = absurd g
goes_in (to_result t) y g = absurd g
goes_in (to_variable x t) y g = subst (λ (v : core.Variable). is_in (x ∷ []) v ≡ true) g (one_in x [])

in_goes : (k : Destination) (y : core.Variable) → is_in (variables_in k) y ≡ true → Goes k y
in_goes discard y h = absurd (impossible h)
in_goes (to_result t) y h = absurd (impossible h)
in_goes (to_variable x t) y h = sym (is_first x y [] h refl)

front_in : (xs ys : List core.Variable) (y : core.Variable) → is_in xs y ≡ true → is_in (xs ++ ys) y ≡ true
front_in [] ys y h = impossible h
front_in (x ∷ xs) ys y h = or_onward (is_same_variable y x) (is_in xs y) (is_in (xs ++ ys) y) (front_in xs ys y) h

behind_in : (xs ys : List core.Variable) (y : core.Variable) → is_in ys y ≡ true → is_in (xs ++ ys) y ≡ true
behind_in [] ys y h = h
behind_in (x ∷ xs) ys y h = further_in x y (xs ++ ys) (behind_in xs ys y h)

either_in : (b : Bool) (x y : core.Variable) (xs ys : List core.Variable) → is_same_variable y x ≡ b → (is_in (xs ++ ys) y ≡ true → (is_in xs y ≡ true) ⊎ (is_in ys y ≡ true)) → (b || is_in (xs ++ ys) y) ≡ true → (is_in (x ∷ xs) y ≡ true) ⊎ (is_in ys y ≡ true)
either_in true x y xs ys e both h = inl (or_first (is_same_variable y x) (is_in xs y) e)
either_in false x y xs ys e both h = ⊎_elim (λ i. inl (further_in x y xs i)) (λ i. inr i) (both h)

both_in : (xs ys : List core.Variable) (y : core.Variable) → is_in (xs ++ ys) y ≡ true → (is_in xs y ≡ true) ⊎ (is_in ys y ≡ true)
both_in [] ys y h = inr h
both_in (x ∷ xs) ys y h = either_in (is_same_variable y x) x y xs ys refl (both_in xs ys y) h

label_first : (b : Bool) (goes_to : List ℕ → Destination) (l m : List ℕ) (ls : List (List ℕ)) (y : core.Variable) → pointwise nat_eq l m ≡ b → Goes (goes_to l) y → (is_among ls l ≡ true → is_in (aims_of goes_to ls) y ≡ true) → (b || is_among ls l) ≡ true → is_in (aims_of goes_to (m ∷ ls)) y ≡ true
label_first true goes_to l m ls y e g further h = front_in (variables_in (goes_to m)) (aims_of goes_to ls) y (goes_in (goes_to m) y (subst (λ (n : List ℕ). Goes (goes_to n) y) (text-same l m e) g))
label_first false goes_to l m ls y e g further h = behind_in (variables_in (goes_to m)) (aims_of goes_to ls) y (further h)

pub label_in : (goes_to : List ℕ → Destination) (ls : List (List ℕ)) (l : List ℕ) (y : core.Variable) → is_among ls l ≡ true → Goes (goes_to l) y → is_in (aims_of goes_to ls) y ≡ true
label_in goes_to [] l y h g = impossible h
label_in goes_to (m ∷ ls) l y h g = label_first (pointwise nat_eq l m) goes_to l m ls y refl g (λ i. label_in goes_to ls l y i g) h

-- a label to whose variable it is
pub in_label : (goes_to : List ℕ → Destination) (ls : List (List ℕ)) (y : core.Variable) → is_in (aims_of goes_to ls) y ≡ true → (l : List ℕ) × Goes (goes_to l) y
in_label goes_to [] y h = absurd (impossible h)
in_label goes_to (m ∷ ls) y h = ⊎_elim (λ i. (m, in_goes (goes_to m) y i)) (λ i. in_label goes_to ls y i) (both_in (variables_in (goes_to m)) (aims_of goes_to ls) y h)

-- the constants from this number on, one for each variable
abbrev pub IsSaved : List core.Variable → ℕ → core.Variable → Type 0
IsSaved [] j y = ⊥
IsSaved (x ∷ xs) j y = (y ≡ core.numbered j) ⊎ IsSaved xs (suc j) y

pub saved_next : (xs : List core.Variable) (j : ℕ) → j ≤ (keep_all xs j).next
saved_next [] j = omega arith
saved_next (x ∷ xs) j = let h = saved_next xs (suc j) in omega arith

numbers-same : (i j : ℕ) → core.numbered i ≡ core.numbered j → i ≡ j
numbers-same i j e = cc

-- they have numbers from this on, below the next
pub saved_between : (xs : List core.Variable) (j k : ℕ) → IsSaved xs j (core.numbered k) → (j ≤ k) × (suc k ≤ (keep_all xs j).next)
saved_between [] j k s = absurd s
saved_between (x ∷ xs) j k (inl e) = let same : k ≡ j = numbers-same k j e in let h = saved_next xs (suc j) in (omega arith, omega arith)
saved_between (x ∷ xs) j k (inr s) = let h = saved_between xs (suc j) k s in let l = h.0 in (omega arith, h.1)

pub saved_numbered : (xs : List core.Variable) (j : ℕ) (y : core.Variable) → IsSaved xs j y → (k : ℕ) × (j ≤ k) × (y ≡ core.numbered k)
saved_numbered [] j y s = absurd s
saved_numbered (x ∷ xs) j y (inl e) = (j, omega arith, e)
saved_numbered (x ∷ xs) j y (inr s) = let h = saved_numbered xs (suc j) y s in let l = h.1 in (h.0, omega arith, h.2)

-- what a binding holds
abbrev pub held : js.Cell → js.Value
held (js.holds const v) = v
held _ = js.undefined

-- variables that aren't constants from this number on
abbrev pub Early : List core.Variable → ℕ → Type 0
Early xs j = (y : core.Variable) → is_in xs y ≡ true → (k : ℕ) → j ≤ k → y ≡ core.numbered k → ⊥

early_behind : (x : core.Variable) (xs : List core.Variable) (j : ℕ) → Early (x ∷ xs) j → Early xs (suc j)
early_behind x xs j early y h k l e = early y (further_in x y xs h) k (omega arith) e

module _ (z : Setting) (lawful : Lawful z) where
  abbrev at : core.Variable → Name
  at = z.place.name

  -- the scope behind the constants, and that behind the assignments which give back
  abbrev pub keeping : List core.Variable → ℕ → js.Scope → js.Scope
  keeping [] j sc = sc
  keeping (x ∷ xs) j sc = keeping xs (suc j) (js_meaning.start true (at (core.numbered j)) (held (sc.bindings (at x))) sc)

  abbrev pub giving : List core.Variable → ℕ → js.Scope → js.Scope
  giving [] j sc = sc
  giving (x ∷ xs) j sc = giving xs (suc j) (js_meaning.start false (at x) (held (sc.bindings (at (core.numbered j)))) sc)

  -- bindings that may be written, and the constants that hold what others held
  abbrev pub Opened : List core.Variable → js.Scope → Type 0
  Opened xs sc = (y : core.Variable) → is_in xs y ≡ true → IsOpen (sc.bindings (at y))

  abbrev pub Saves : List core.Variable → ℕ → js.Scope → js.Scope → Type 0
  Saves [] j before sc = Unit {0}
  Saves (x ∷ xs) j before sc = (sc.bindings (at (core.numbered j)) ≡ js.holds true (held (before.bindings (at x)))) × Saves xs (suc j) before sc

  pub keeping_other : (xs : List core.Variable) (j : ℕ) (sc : js.Scope) (y : core.Variable) → ((k : ℕ) → j ≤ k → y ≡ core.numbered k → ⊥) → (keeping xs j sc).bindings (at y) ≡ sc.bindings (at y)
  keeping_other [] j sc y h = refl
  keeping_other (x ∷ xs) j sc y h = keeping_other xs (suc j) (js_meaning.start true (at (core.numbered j)) (held (sc.bindings (at x))) sc) y (λ k l e. h k (omega arith) e) ∙ started-other z lawful true (core.numbered j) y (held (sc.bindings (at x))) sc (h j (omega arith))

  pub keeping_inside : (xs : List core.Variable) (j : ℕ) (sc : js.Scope) → Inside z.place z.code sc → Inside z.place z.code (keeping xs j sc)
  keeping_inside [] j sc i = i
  keeping_inside (x ∷ xs) j sc i = keeping_inside xs (suc j) (js_meaning.start true (at (core.numbered j)) (held (sc.bindings (at x))) sc) (started-inside z lawful true (core.numbered j) (held (sc.bindings (at x))) sc i)

  pub giving_other : (xs : List core.Variable) (j : ℕ) (sc : js.Scope) (y : core.Variable) → is_in xs y ≡ false → (giving xs j sc).bindings (at y) ≡ sc.bindings (at y)
  giving_other [] j sc y h = refl
  giving_other (x ∷ xs) j sc y h = giving_other xs (suc j) (js_meaning.start false (at x) (held (sc.bindings (at (core.numbered j)))) sc) y (not_further x y xs h) ∙ started-other z lawful false x y (held (sc.bindings (at (core.numbered j)))) sc (not_first x y xs h)

  pub giving_inside : (xs : List core.Variable) (j : ℕ) (sc : js.Scope) → Inside z.place z.code sc → Inside z.place z.code (giving xs j sc)
  giving_inside [] j sc i = i
  giving_inside (x ∷ xs) j sc i = giving_inside xs (suc j) (js_meaning.start false (at x) (held (sc.bindings (at (core.numbered j)))) sc) (started-inside z lawful false x (held (sc.bindings (at (core.numbered j)))) sc i)

  -- the constants hold what the variables held
  pub keeping_saves : (xs : List core.Variable) (j : ℕ) (before sc : js.Scope) → ((y : core.Variable) → is_in xs y ≡ true → sc.bindings (at y) ≡ before.bindings (at y)) → Early xs j → Saves xs j before (keeping xs j sc)
  keeping_saves [] j before sc same early = tt
  keeping_saves (x ∷ xs) j before sc same early =
      let v = held (sc.bindings (at x)) in
      let started = js_meaning.start true (at (core.numbered j)) v sc in (
        keeping_other xs (suc j) started (core.numbered j) (λ k l e. let i : j ≡ k = numbers-same j k e in absurd (omega arith)) ∙ started-here z lawful true (core.numbered j) v sc ∙ ap (λ (cell : js.Cell). js.holds true (held cell)) (same x (one_in x xs)),
        keeping_saves xs (suc j) before started (λ y h. started-other z lawful true (core.numbered j) y v sc (early y (further_in x y xs h) j (omega arith)) ∙ same y (further_in x y xs h)) (early_behind x xs j early),
      )

  pub saves_still : (xs : List core.Variable) (j : ℕ) (before a b : js.Scope) → ((y : core.Variable) → IsSaved xs j y → b.bindings (at y) ≡ a.bindings (at y)) → Saves xs j before a → Saves xs j before b
  saves_still [] j before a b same s = tt
  saves_still (x ∷ xs) j before a b same s = (same (core.numbered j) (inl refl) ∙ s.0, saves_still xs (suc j) before a b (λ y i. same y (inr i)) s.1)

  -- behind an assignment that gives back, the other constants hold what they held
  saves_on : (x : core.Variable) (xs : List core.Variable) (j : ℕ) (v : js.Value) (before sc : js.Scope) → Early (x ∷ xs) j → Saves xs (suc j) before sc → Saves xs (suc j) before (js_meaning.start false (at x) v sc)
  saves_on x xs j v before sc early s = saves_still xs (suc j) before sc (js_meaning.start false (at x) v sc) (λ y i. let n = saved_numbered xs (suc j) y i in let l = n.1 in started-other z lawful false x y v sc (λ e. early x (one_in x xs) n.0 (omega arith) (sym e ∙ n.2))) s

  -- a variable that was given back holds what it held
  back_step : (b : Bool) (x y : core.Variable) (xs : List core.Variable) (j : ℕ) (before sc : js.Scope) → is_in xs y ≡ b → (sc.bindings (at (core.numbered j)) ≡ js.holds true (held (before.bindings (at x)))) → IsOpen (before.bindings (at x)) → is_in (x ∷ xs) y ≡ true → (is_in xs y ≡ true → (giving xs (suc j) (js_meaning.start false (at x) (held (sc.bindings (at (core.numbered j)))) sc)).bindings (at y) ≡ before.bindings (at y)) → (giving (x ∷ xs) j sc).bindings (at y) ≡ before.bindings (at y)
  back_step true x y xs j before sc e is «open» h further = further e
  back_step false x y xs j before sc e is «open» h further =
      let v = held (sc.bindings (at (core.numbered j))) in
      let same : y ≡ x = is_first x y xs h e in
      giving_other xs (suc j) (js_meaning.start false (at x) v sc) y e ∙ ap (λ (n : core.Variable). (js_meaning.start false (at x) v sc).bindings (at n)) same ∙ started-here z lawful false x v sc ∙ ap (λ (cell : js.Cell). js.holds false (held cell)) is ∙ ap (λ (cell : js.Cell). js.holds false (held cell)) «open».is ∙ sym «open».is ∙ ap (λ (n : core.Variable). before.bindings (at n)) (sym same)

  pub giving_back : (xs : List core.Variable) (j : ℕ) (before sc : js.Scope) → Saves xs j before sc → Early xs j → Opened xs before → (y : core.Variable) → is_in xs y ≡ true → (giving xs j sc).bindings (at y) ≡ before.bindings (at y)
  giving_back [] j before sc s early opened y h = impossible h
  giving_back (x ∷ xs) j before sc s early opened y h = back_step (is_in xs y) x y xs j before sc refl s.0 (opened x (one_in x xs)) h (λ i. giving_back xs (suc j) before (js_meaning.start false (at x) (held (sc.bindings (at (core.numbered j)))) sc) (saves_on x xs j (held (sc.bindings (at (core.numbered j)))) before sc early s.1) (early_behind x xs j early) (λ n k. opened n (further_in x n xs k)) y i)

  -- the value of a name that has started
  read_by : (y : core.Variable) (sc : js.Scope) (u : js.State) (const : Bool) (v : js.Value) → sc.bindings (at y) ≡ js.holds const v → js_meaning.name_value z.place.program (at y) sc u ≡ done (js.gives v u)
  read_by y sc u const v e = ap (λ (cell : js.Cell). js_meaning.cell_value (js_meaning.or_outer cell (js_meaning.top_cell (owner z.place.program sc.file (at y)) (at y) u)) u) e

  keep_one : (x : core.Variable) (j : ℕ) (sc : js.Scope) (u : js.State) → IsOpen (sc.bindings (at x)) → act_of z (core.constant_of None (core.numbered j) (core.variable_use x)) sc u ≡ done (js.ends js.normally (js_meaning.start true (at (core.numbered j)) (held (sc.bindings (at x))) sc) u)
  keep_one x j sc u o = ap (λ (a : Out js.ExpressionEnd). then_do a (js.in_statement sc (λ v s. done (js.ends js.normally (js_meaning.start true (at (core.numbered j)) v sc) s)))) (read_by x sc u false o.value o.is) ∙ ap (λ (cell : js.Cell). done (js.ends js.normally (js_meaning.start true (at (core.numbered j)) (held cell) sc) u)) (sym o.is)

  -- what is behind the constants runs in the scope that has them
  pub keeps_run : (xs : List core.Variable) (j : ℕ) (rest : core.Statements) (sc : js.Scope) (u : js.State) → Opened xs sc → Early xs j → run z (followed (keep_all xs j).statements rest) sc u ≡ run z rest (keeping xs j sc) u
  keeps_run [] j rest sc u opened early = refl
  keeps_run (x ∷ xs) j rest sc u opened early =
      let started = js_meaning.start true (at (core.numbered j)) (held (sc.bindings (at x))) sc in
      ap (λ (a : Out js.StatementEnd). then_do a (js.next_statement (run z (followed (keep_all xs (suc j)).statements rest)))) (keep_one x j sc u (opened x (one_in x xs)))
      ∙ keeps_run xs (suc j) rest started u (λ y h. record { value = (opened y (further_in x y xs h)).value; is = started-other z lawful true (core.numbered j) y (held (sc.bindings (at x))) sc (early y (further_in x y xs h) j (omega arith)) ∙ (opened y (further_in x y xs h)).is }) (early_behind x xs j early)

  give_one : (x : core.Variable) (j : ℕ) (v : js.Value) (sc : js.Scope) (u : js.State) → sc.bindings (at (core.numbered j)) ≡ js.holds true v → IsOpen (sc.bindings (at x)) → act_of z (core.assign_to None x (core.variable_use (core.numbered j))) sc u ≡ done (js.ends js.normally (js_meaning.start false (at x) (held (sc.bindings (at (core.numbered j)))) sc) u)
  give_one x j v sc u is o = ap (λ (a : Out js.ExpressionEnd). then_do a (js.in_statement sc (λ v s. js_meaning.assign z.place.program (at x) v (sc.bindings (at x)) sc s))) (read_by (core.numbered j) sc u true v is) ∙ assigned z lawful x v sc u o ∙ ap (λ (cell : js.Cell). done (js.ends js.normally (js_meaning.start false (at x) (held cell) sc) u)) (sym is)

  pub gives_run : (xs : List core.Variable) (j next : ℕ) (before sc : js.Scope) (u : js.State) → Saves xs j before sc → Opened xs sc → Early xs j → run z (give_all_back xs j next).statements sc u ≡ done (js.ends js.normally (giving xs j sc) u)
  gives_run [] j next before sc u s opened early = refl
  gives_run (x ∷ xs) j next before sc u s opened early =
      let v = held (sc.bindings (at (core.numbered j))) in
      let started = js_meaning.start false (at x) v sc in
      ap (λ (a : Out js.StatementEnd). then_do a (js.next_statement (run z (give_all_back xs (suc j) next).statements))) (give_one x j (held (before.bindings (at x))) sc u s.0 (opened x (one_in x xs)))
      ∙ gives_run xs (suc j) next before started u (saves_on x xs j v before sc early s.1) (λ y h. started-open z lawful x y v sc (opened y (further_in x y xs h))) (early_behind x xs j early)
