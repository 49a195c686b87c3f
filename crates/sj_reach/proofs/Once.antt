-- Facts of a set stand in one place; and the least of what is told.
use Rattle.std.proofs.Common.{◌≡◌, ℕ, ◌+◌, ◌≤◌, ◌<◌, Bool, true, false, List, [], ◌∷◌, Option, Some, None, Contains, slice_get, refl, sym, ap, ◌∙◌, subst, length, arith, inl, inr, get_or, if◌then◌else◌}
use Rattle.std.specs.Prelude.{◌⊎◌, ◌||◌, ◌&&◌, nat_lt, MatchOption, MatchResult, Result, Ok, Err}
use Rattle.std.specs.List.{IsDistinct}
use Rattle.std.proofs.lemmas.Bool.{and_parts, and_from, ltb-true, lt-ltb}
use Rattle.std.proofs.lemmas.Option.{slice_get_within, get_or_from_slice_get}
use Rattle.std.proofs.lemmas.Map.Keys.{apart_from_distinct}
use Rattle.sj_world.specs.declared.facts.Fact.{Fact}
use Rattle.sj_world.specs.contracts.facts.FactPartialEq.TheImpl as fact_eq
use Rattle.sj_world.specs.Known.{Name, is_same}
use Rattle.sj_world.specs.Refusals.{is_before}
use Rattle.sj_world.proofs.Orders.{before_trans, same_name, is_same_itself, not_before_itself}
use Rattle.sj_world.proofs.Searches.{stands_at, contains_at}
use Rattle.sj_reach.specs.Answers.{comes_first, first_told, IsLeastReport, AreLeast, StandOnce, AllFound, AreReachable, IsRefused}
use Rattle.sj_names.specs.declared.entry_points.EntryPoint.{EntryPoint}
use Rattle.sj_world.specs.Known.{Classes}
use Rattle.sj_reach.specs.Conclusions.{report}
use Rattle.sj_reach.specs.declared.findings.Findings.{Findings}
use Rattle.sj_reach.specs.declared.findings.Report.{Report}
use Rattle.sj_reach.specs.declared.errors.ReachError.{ReachError}
use Rattle.sj_reach.specs.declared.errors.ReachError.TheVariants.{Refused, NoMemory}
use Rattle.worklist.proofs.Inserted.{nothing_in}
use Rattle.sj_world.proofs.SameFacts.{fact_refl}

not_both : {A : Type 0} → true ≡ false → A
not_both e = cc

in_order : (i j : ℕ) → (i < j) ⊎ ((j < i) ⊎ (i ≡ j))
in_order i j = grind arith

apart_at : (facts : List Fact) → IsDistinct fact_eq.ghosts.eq facts → (i j : ℕ) (f : Fact) → i < j → slice_get facts i ≡ Some f → slice_get facts j ≡ Some f → ⊥
apart_at facts d i j f l a b =
    let apart : fact_eq.ghosts.eq (get_or facts i f) (get_or facts j f) ≡ false = apart_from_distinct fact_eq.ghosts.eq facts i j f d l (slice_get_within facts j f b) in
    let same : fact_eq.ghosts.eq f f ≡ false = ap (λ (x : Fact). fact_eq.ghosts.eq x f) (sym (get_or_from_slice_get facts i f f a)) ∙ ap (λ (x : Fact). fact_eq.ghosts.eq (get_or facts i f) x) (sym (get_or_from_slice_get facts j f f b)) ∙ apart in
    not_both (sym (fact_refl f) ∙ same)

pub stand_once : (facts : List Fact) → IsDistinct fact_eq.ghosts.eq facts → StandOnce facts
stand_once facts d = record { once = λ i j f a b. go i j f a b (in_order i j) }
  where
    go : (i j : ℕ) (f : Fact) → slice_get facts i ≡ Some f → slice_get facts j ≡ Some f → (i < j) ⊎ ((j < i) ⊎ (i ≡ j)) → i ≡ j
    go i j f a b (inl l) = absurd (apart_at facts d i j f l a b)
    go i j f a b (inr (inl l)) = absurd (apart_at facts d j i f l b a)
    go i j f a b (inr (inr e)) = e

or_split : (b c : Bool) → (b || c) ≡ true → (b ≡ true) ⊎ (c ≡ true)
or_split true c e = inl refl
or_split false c e = inr e

or_left : (b c : Bool) → b ≡ true → (b || c) ≡ true
or_left true c e = refl
or_left false c e = cc

or_right : (b c : Bool) → c ≡ true → (b || c) ≡ true
or_right true c e = refl
or_right false c e = e

not_true : (b : Bool) → (b ≡ true → ⊥) → b ≡ false
not_true true h = absurd (h refl)
not_true false h = refl

lt_trans : {a b c : ℕ} → a < b → b < c → a < c
lt_trans p q = omega arith

abbrev IsFirst : Report → Report → Type 0
IsFirst a b = (is_before a.place b.place ≡ true) ⊎ ((is_same a.place b.place && nat_lt a.code b.code) ≡ true)

parted : (a b : Report) → comes_first a b ≡ true → IsFirst a b
parted a b e = or_split (is_before a.place b.place) (is_same a.place b.place && nat_lt a.code b.code) e

joined : (a b : Report) → IsFirst a b → comes_first a b ≡ true
joined a b (inl e) = or_left (is_before a.place b.place) (is_same a.place b.place && nat_lt a.code b.code) e
joined a b (inr e) = or_right (is_before a.place b.place) (is_same a.place b.place && nat_lt a.code b.code) e

ties : (a b : Report) → (is_same a.place b.place && nat_lt a.code b.code) ≡ true → (a.place ≡ b.place) × (a.code < b.code)
ties a b e = let q = and_parts (is_same a.place b.place) (nat_lt a.code b.code) e in (same_name a.place b.place q.0, ltb-true a.code b.code q.1)

tied : (a b : Report) → a.place ≡ b.place → a.code < b.code → (is_same a.place b.place && nat_lt a.code b.code) ≡ true
tied a b e l = and_from (is_same a.place b.place) (nat_lt a.code b.code) (subst (λ (n : Name). is_same a.place n ≡ true) e (is_same_itself a.place)) (lt-ltb a.code b.code l)

first_parts : (a b c : Report) → IsFirst a b → IsFirst b c → IsFirst a c
first_parts a b c (inl p) (inl q) = inl (before_trans a.place b.place c.place p q)
first_parts a b c (inl p) (inr q) = inl (subst (λ (n : Name). is_before a.place n ≡ true) (ties b c q).0 p)
first_parts a b c (inr p) (inl q) = inl (subst (λ (n : Name). is_before n c.place ≡ true) (sym (ties a b p).0) q)
first_parts a b c (inr p) (inr q) = let t = ties a b p in let u = ties b c q in inr (tied a c (t.0 ∙ u.0) (lt_trans t.1 u.1))

pub first_trans : (a b c : Report) → comes_first a b ≡ true → comes_first b c ≡ true → comes_first a c ≡ true
first_trans a b c p q = joined a c (first_parts a b c (parted a b p) (parted b c q))

less_itself : (n : ℕ) → n < n → ⊥
less_itself n l = omega arith

pub first_itself : (a : Report) → comes_first a a ≡ false
first_itself a = not_true (comes_first a a) (λ e. go (parted a a e))
  where
    go : IsFirst a a → ⊥
    go (inl p) = not_both (sym p ∙ not_before_itself a.place)
    go (inr p) = less_itself a.code (ties a a p).1

-- the least of the first ones
pub record IsLeastYet (reports : List Report) (n : ℕ) (r : Report) : Type 0 where
  pub place : ℕ
  pub early : place < n
  pub stands : slice_get reports place ≡ Some r
  pub least : (i : ℕ) (other : Report) → i < n → slice_get reports i ≡ Some other → comes_first other r ≡ false

abbrev pub LeastYet : List Report → ℕ → Option Report → Type 0
LeastYet reports n None = n ≡ 0
LeastYet reports n (Some r) = IsLeastYet reports n r

same_some : (x y : Report) → Some x ≡ Some y → x ≡ y
same_some x y e = cc

module _ (reports : List Report) (n : ℕ) (r : Report) (at : slice_get reports n ≡ Some r) where
  split : (i : ℕ) → i < n + 1 → (i < n) ⊎ (i ≡ n)
  split i l = grind arith

  here : (i : ℕ) (other : Report) → i ≡ n → slice_get reports i ≡ Some other → r ≡ other
  here i other e s = same_some r other (sym at ∙ ap (slice_get reports) (sym e) ∙ s)

  newer : (old : Report) → IsLeastYet reports n old → comes_first r old ≡ true → IsLeastYet reports (n + 1) r
  newer old q first = record { place = n; early = omega arith; stands = at; least = λ i other l s. go i other s (split i l) }
    where
      go : (i : ℕ) (other : Report) → slice_get reports i ≡ Some other → (i < n) ⊎ (i ≡ n) → comes_first other r ≡ false
      go i other s (inl l) = not_true (comes_first other r) (λ e. not_both (sym (first_trans other r old e first) ∙ q.least i other l s))
      go i other s (inr e) = subst (λ (x : Report). comes_first x r ≡ false) (here i other e s) (first_itself r)

  older : (old : Report) → IsLeastYet reports n old → comes_first r old ≡ false → IsLeastYet reports (n + 1) old
  older old q later = record { place = q.place; early = (let l : q.place < n = q.early in omega arith); stands = q.stands; least = λ i other l s. go i other s (split i l) }
    where
      go : (i : ℕ) (other : Report) → slice_get reports i ≡ Some other → (i < n) ⊎ (i ≡ n) → comes_first other old ≡ false
      go i other s (inl l) = q.least i other l s
      go i other s (inr e) = subst (λ (x : Report). comes_first x old ≡ false) (here i other e s) later

  only : n ≡ 0 → IsLeastYet reports (n + 1) r
  only z = record { place = n; early = omega arith; stands = at; least = λ i other l s. subst (λ (x : Report). comes_first x r ≡ false) (here i other (omega arith) s) (first_itself r) }

  either : (old : Report) → IsLeastYet reports n old → (b : Bool) → comes_first r old ≡ b → IsLeastYet reports (n + 1) (if b then r else old)
  either old q true e = newer old q e
  either old q false e = older old q e

  pub least_goes_on : (o : Option Report) → LeastYet reports n o → IsLeastYet reports (n + 1) (first_told o r)
  least_goes_on None q = only q
  least_goes_on (Some old) q = either old q (comes_first r old) refl

none_there : (reports : List Report) → length reports ≤ 0 → reports ≡ []
none_there [] l = refl
none_there (r ∷ reports) l = absurd (omega arith)

pub least_ends : (reports : List Report) (n : ℕ) (o : Option Report) → length reports ≤ n → LeastYet reports n o → MatchOption o (reports ≡ []) (IsLeastReport reports)
least_ends reports n None over q = none_there reports (omega arith)
least_ends reports n (Some r) over q = record { among = contains_at reports q.place r q.stands; least = λ other h. q.least h.0 other (let l : h.0 < length reports = h.1 in omega arith) (stands_at reports other h) }

-- the answer
pub reach_answer : (w : Classes) (entries : List EntryPoint) (found : Findings) (r : Result (List Fact) ReachError) → AllFound w entries found → MatchResult r (λ facts. (facts ≡ found.facts.keys) × (found.reports.items ≡ [])) (AreLeast found.reports.items) → MatchResult r (AreReachable w entries) (IsRefused w entries)
reach_answer w entries found (Ok facts) all q = record {
  exact = λ f. (λ h. (all.facts f).0 (subst (λ (l : List Fact). Contains l f) q.0 h), λ h. subst (λ (l : List Fact). Contains l f) (sym q.0) ((all.facts f).1 h));
  once = subst StandOnce (sym q.0) all.once;
  resolved = λ u h. nothing_in (report u) (subst (λ (l : List Report). Contains l (report u)) q.1 ((all.reports (report u)).1 (record { refusal = u; unresolved = h; told_is = refl })));
}
reach_answer w entries found (Err (Refused code place)) all q =
    let t = (all.reports (record { code = code; place = place })).0 q.among in
    record { refusal = t.refusal; unresolved = t.unresolved; told_is = sym t.told_is; least = λ other h. q.least (report other) ((all.reports (report other)).1 (record { refusal = other; unresolved = h; told_is = refl })) }
reach_answer w entries found (Err NoMemory) all q = tt
