-- What can't be denied. Any question may be decided in it, and any finite list of them.
use Rattle.std.proofs.Common.{◌≡◌, ℕ, zero, suc, ◌<◌, Bool, true, false, List, [], ◌∷◌, ◌++◌, Contains, refl, sym, ap, ◌∙◌, subst, arith, inl, inr}
use Rattle.std.specs.Prelude.{◌⊎◌}
use Rattle.std.specs.List.{All}
use Rattle.std.proofs.lemmas.List.Elements.{All-nil, All-cons, Contains-append_left, Contains-append_right, Contains-append_cases, Contains-push}
use Rattle.worklist.proofs.Inserted.{nothing_in, only_one}

abbrev pub Undenied : Type 0 → Type 0
Undenied P = (P → ⊥) → ⊥

pub granted : {P : Type 0} → P → Undenied P
granted p deny = deny p

pub and_so : {P Q : Type 0} → Undenied P → (P → Undenied Q) → Undenied Q
and_so p f deny = p (λ x. f x deny)

pub decided : (P : Type 0) → Undenied (P ⊎ (P → ⊥))
decided P deny = deny (inr (λ p. deny (inl p)))

pub here : {X : Type 0} (x : X) (xs : List X) → Contains (x ∷ xs) x
here x xs = Contains-append_left (x ∷ []) xs x (Contains-push [] x)

pub there : {X : Type 0} (y : X) (xs : List X) (x : X) → Contains xs x → Contains (y ∷ xs) x
there y xs x h = Contains-append_right (y ∷ []) xs x h

pub first_or_later : {X : Type 0} (y : X) (xs : List X) (x : X) → Contains (y ∷ xs) x → (y ≡ x) ⊎ Contains xs x
first_or_later y xs x h = go (Contains-append_cases (y ∷ []) xs x h)
  where
    go : Contains (y ∷ []) x ⊎ Contains xs x → (y ≡ x) ⊎ Contains xs x
    go (inl first) = inl (only_one y x first)
    go (inr later) = inr later

-- the first number of which it holds
pub record FirstPlace (P : ℕ → Type 0) : Type 0 where
  pub place : ℕ
  pub has : P place
  pub none_before : (i : ℕ) → i < place → P i → ⊥

abbrev pub NoneBelow : (ℕ → Type 0) → ℕ → Type 0
NoneBelow P n = (i : ℕ) → i < n → P i → ⊥

below_or_last : (i n : ℕ) → i < suc n → (i < n) ⊎ (i ≡ n)
below_or_last i n l = grind arith

pub first_place : (P : ℕ → Type 0) (n : ℕ) → Undenied (FirstPlace P ⊎ NoneBelow P n)
first_place P zero = granted (inr (λ i l p. omega (arith, l)))
first_place P (suc n) = and_so (first_place P n) next
  where
    at : NoneBelow P n → P n ⊎ (P n → ⊥) → FirstPlace P ⊎ NoneBelow P (suc n)
    at none (inl p) = inl (record { place = n; has = p; none_before = none })
    at none (inr deny) = inr (λ i l p. elim (below_or_last i n l) [ inl low ↦ none i low p | inr e ↦ deny (subst P e p) ])

    next : FirstPlace P ⊎ NoneBelow P n → Undenied (FirstPlace P ⊎ NoneBelow P (suc n))
    next (inl f) = granted (inl f)
    next (inr none) = and_so (decided (P n)) (λ d. granted (at none d))

-- what can't be denied of each of a list can't be denied of all
pub each_undenied : {X : Type 0} (P : X → Type 0) (xs : List X) → ((x : X) → Contains xs x → Undenied (P x)) → Undenied ((x : X) → Contains xs x → P x)
each_undenied P [] h = granted (λ x i. nothing_in x i)
each_undenied {X} P (y ∷ ys) h = and_so (h y (here y ys)) (λ first. and_so (each_undenied P ys (λ x i. h x (there y ys x i))) (λ rest. granted (λ x i. elim (first_or_later y ys x i) [ inl e ↦ subst P e first | inr later ↦ rest x later ])))

-- all that is said of the things of a list, where of each one thing is said at most
pub record Gathered {X Y : Type 0} (Says : X → Y → Type 0) (xs : List X) : Type 0 where
  pub all : List Y
  pub whole : (x : X) (y : Y) → Contains xs x → Says x y → Contains all y

pub gathered : {X Y : Type 0} (Says : X → Y → Type 0) → ((x : X) (y z : Y) → Says x y → Says x z → y ≡ z) → (xs : List X) → Undenied (Gathered Says xs)
gathered Says once [] = granted (record { all = []; whole = λ x y i s. nothing_in x i })
gathered {X} {Y} Says once (x ∷ xs) = and_so (gathered Says once xs) (λ rest. and_so (decided ((y : Y) × Says x y)) (λ d. granted (with_one rest d)))
  where
    with_one : Gathered Says xs → ((y : Y) × Says x y) ⊎ (((y : Y) × Says x y) → ⊥) → Gathered Says (x ∷ xs)
    with_one rest (inl one) = record { all = one.0 ∷ rest.all; whole = λ z y i s. elim (first_or_later x xs z i) [ inl e ↦ subst (λ (v : Y). Contains (one.0 ∷ rest.all) v) (once x one.0 y one.1 (subst (λ (v : X). Says v y) (sym e) s)) (here one.0 rest.all) | inr later ↦ there one.0 rest.all y (rest.whole z y later s) ] }
    with_one rest (inr none) = record { all = rest.all; whole = λ z y i s. elim (first_or_later x xs z i) [ inl e ↦ absurd (none (y, subst (λ (v : X). Says v y) (sym e) s)) | inr later ↦ rest.whole z y later s ] }

-- the first of a list of which it doesn't hold
pub record Failing {X : Type 0} (P : X → Type 0) (xs : List X) : Type 0 where
  pub item : X
  pub before : List X
  pub behind : List X
  pub parts : xs ≡ before ++ item ∷ behind
  pub met : All P before
  pub fails : P item → ⊥

pub all_or_failing : {X : Type 0} (P : X → Type 0) (xs : List X) → Undenied (All P xs ⊎ Failing P xs)
all_or_failing P [] = granted (inl (All-nil P))
all_or_failing {X} P (x ∷ xs) = and_so (decided (P x)) (λ d. and_so (all_or_failing P xs) (λ rest. granted (joined d rest)))
  where
    joined : P x ⊎ (P x → ⊥) → All P xs ⊎ Failing P xs → All P (x ∷ xs) ⊎ Failing P (x ∷ xs)
    joined (inr deny) rest = inr (record { item = x; before = []; behind = xs; parts = refl; met = All-nil P; fails = deny })
    joined (inl p) (inl all) = inl (All-cons P x xs p all)
    joined (inl p) (inr f) = inr (record { item = f.item; before = x ∷ f.before; behind = f.behind; parts = ap (λ (l : List X). x ∷ l) f.parts; met = All-cons P x f.before p f.met; fails = f.fails })

-- a test that can't be passed isn't
pub not_so : (b : Bool) → (b ≡ true → ⊥) → b ≡ false
not_so true h = absurd (h refl)
not_so false h = refl

module _ {X : Type 0} (is_before : X → X → Bool) (itself : (x : X) → is_before x x ≡ false) (further : (x y z : X) → is_before x y ≡ true → is_before y z ≡ true → is_before x z ≡ true) (P : X → Type 0) where
  -- the least with the property among some
  pub record Least (Among : X → Type 0) : Type 0 where
    pub item : X
    pub has : P item
    pub least : (other : X) → Among other → P other → is_before other item ≡ false

  abbrev pub NoneAmong : (X → Type 0) → Type 0
  NoneAmong Among = (x : X) → Among x → P x → ⊥

  no_both : {b : Bool} → b ≡ true → b ≡ false → ⊥
  no_both p q = let wrong : true ≡ false = sym p ∙ q in cc

  least_among : (xs : List X) → Undenied (Least (Contains xs) ⊎ NoneAmong (Contains xs))
  least_among [] = granted (inr (λ x i p. nothing_in x i))
  least_among (y ∷ ys) = and_so (least_among ys) (λ rest. and_so (decided (P y)) (λ d. granted (with_first rest d)))
    where
      -- of the new one and the least so far, the lesser
      lesser : P y → (l : Least (Contains ys)) → (b : Bool) → is_before y l.item ≡ b → Least (Contains (y ∷ ys))
      lesser p l true e = record { item = y; has = p; least = λ other i q. elim (first_or_later y ys other i) [ inl s ↦ subst (λ (x : X). is_before x y ≡ false) s (itself y) | inr later ↦ not_so (is_before other y) (λ t. no_both (further other y l.item t e) (l.least other later q)) ] }
      lesser p l false e = record { item = l.item; has = l.has; least = λ other i q. elim (first_or_later y ys other i) [ inl s ↦ subst (λ (x : X). is_before x l.item ≡ false) s e | inr later ↦ l.least other later q ] }

      with_first : Least (Contains ys) ⊎ NoneAmong (Contains ys) → P y ⊎ (P y → ⊥) → Least (Contains (y ∷ ys)) ⊎ NoneAmong (Contains (y ∷ ys))
      with_first (inl l) (inl p) = inl (lesser p l (is_before y l.item) refl)
      with_first (inl l) (inr deny) = inl (record { item = l.item; has = l.has; least = λ other i q. elim (first_or_later y ys other i) [ inl s ↦ absurd (deny (subst P (sym s) q)) | inr later ↦ l.least other later q ] })
      with_first (inr none) (inl p) = inl (record { item = y; has = p; least = λ other i q. elim (first_or_later y ys other i) [ inl s ↦ subst (λ (x : X). is_before x y ≡ false) s (itself y) | inr later ↦ absurd (none other later q) ] })
      with_first (inr none) (inr deny) = inr (λ x i q. elim (first_or_later y ys x i) [ inl s ↦ deny (subst P (sym s) q) | inr later ↦ none x later q ])

  abbrev pub Any : X → Type 0
  Any x = Unit {0}

  -- where all that have the property stand in a list, none has it or one is the least
  pub least_or_none : (xs : List X) → ((x : X) → P x → Contains xs x) → Undenied (Least Any ⊎ NoneAmong Any)
  least_or_none xs whole = and_so (least_among xs) (λ found. granted (of_all found))
    where
      of_all : Least (Contains xs) ⊎ NoneAmong (Contains xs) → Least Any ⊎ NoneAmong Any
      of_all (inl l) = inl (record { item = l.item; has = l.has; least = λ other a q. l.least other (whole other q) q })
      of_all (inr none) = inr (λ x a q. none x (whole x q) q)
