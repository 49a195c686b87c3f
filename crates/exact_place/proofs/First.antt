-- What a text begins with, and what may follow the part before it.
use Rattle.std.proofs.Common.{◌≡◌, ℕ, ◌+◌, Bool, true, false, not, eqb, List, [], ◌∷◌, ◌++◌, refl, sym, subst, ◌∙◌, append_assoc, inl, inr}
use Rattle.std.proofs.lemmas.Bool.{eqb-true}
use Rattle.exact_place.specs.Reading.{passes}
use Rattle.exact_place.specs.Grammar.{Spelling, ◌then◌, Leads, Either, first, second, IsLiteral, IsValue, IsMapped, IsList, no_items, an_item}
use Rattle.exact_place.specs.Place.{Stops}
use Rattle.exact_place.proofs.Steps.{cases, passes_front, stops_narrow}
use Rattle.exact_place.proofs.Sequence.{Starts, Follows}

-- a byte of the class is not this one
pub apart : (test : ℕ → Bool) (b : ℕ) → test b ≡ false → (c : ℕ) → test c ≡ true → not (eqb c b) ≡ true
apart test b off c on = elim (cases (eqb c b)) [
  | inl e ↦ absurd (let same : c ≡ b = eqb-true c b e in let on' : test b ≡ true = subst (λ (d : ℕ). test d ≡ true) same on in let both : true ≡ false = sym on' ∙ off in cc both)
  | inr e ↦ rw e refl
]

pub any : (stop : ℕ → Bool) (c : ℕ) → stop c ≡ true → true ≡ true
any stop c e = refl

passes_stops : (before test : ℕ → Bool) → ((c : ℕ) → test c ≡ true → before c ≡ true) → (text rest : List ℕ) → passes test text ≡ true → Stops before (text ++ rest)
passes_stops before test h [] rest e = absurd cc
passes_stops before test h (c ∷ text) rest e = h c e

-- ---- beginnings

pub starts_leads : {A : Type 0} (test : ℕ → Bool) (w : ℕ) (ws : List ℕ) (P : Spelling A) → test w ≡ true → Starts test (Leads (w ∷ ws) P)
starts_leads test w ws P h x text p = rw p.parts h

pub starts_literal : (test : ℕ → Bool) (w : ℕ) (ws : List ℕ) → test w ≡ true → Starts test (IsLiteral (w ∷ ws))
starts_literal test w ws h x text p = rw p.is h

pub starts_mapped : {A B : Type 0} (test : ℕ → Bool) (f : A → B) (P : Spelling A) → Starts test P → Starts test (IsMapped f P)
starts_mapped test f P h y text p = h p.value text p.first

pub starts_then : {A B : Type 0} (test : ℕ → Bool) (P : Spelling A) (Q : A → Spelling B) → Starts test P → Starts test (P then Q)
starts_then test P Q h y text p = rw p.parts (passes_front test p.front p.back (h p.value p.front p.first))

pub starts_either : {A : Type 0} (test : ℕ → Bool) (P Q : Spelling A) → Starts test P → Starts test Q → Starts test (Either P Q)
starts_either test P Q h k x text (first p) = h x text p
starts_either test P Q h k x text (second q) = k x text q

pub starts_wider : {A : Type 0} (test wide : ℕ → Bool) (P : Spelling A) → ((c : ℕ) → test c ≡ true → wide c ≡ true) → Starts test P → Starts wide P
starts_wider test wide P h s x text p = wider text (s x text p)
  where
    wider : (text : List ℕ) → passes test text ≡ true → passes wide text ≡ true
    wider [] e = absurd cc
    wider (c ∷ text) e = h c e

-- ---- followers

pub follows_starts : {A : Type 0} (before stop test : ℕ → Bool) (P : Spelling A) → ((c : ℕ) → test c ≡ true → before c ≡ true) → Starts test P → Follows before P stop
follows_starts before stop test P h s x back rest p st = passes_stops before test h back rest (s x back p)

pub follows_leads : {A : Type 0} (before : ℕ → Bool) (w : ℕ) (ws : List ℕ) (P : Spelling A) (stop : ℕ → Bool) → before w ≡ true → Follows before (Leads (w ∷ ws) P) stop
follows_leads before w ws P stop h x back rest p st = rw p.parts h

pub follows_literal : (before : ℕ → Bool) (w : ℕ) (ws : List ℕ) (stop : ℕ → Bool) → before w ≡ true → Follows before (IsLiteral (w ∷ ws)) stop
follows_literal before w ws stop h x back rest p st = rw p.is h

pub follows_value : {A : Type 0} (before : ℕ → Bool) (x : A) (stop : ℕ → Bool) → ((c : ℕ) → stop c ≡ true → before c ≡ true) → Follows before (IsValue x) stop
follows_value before x stop h y back rest p st = rw p.empty (stops_narrow stop before h rest st)

pub follows_mapped : {A B : Type 0} (before : ℕ → Bool) (f : A → B) (P : Spelling A) (stop : ℕ → Bool) → Follows before P stop → Follows before (IsMapped f P) stop
follows_mapped before f P stop h y back rest p st = h p.value back rest p.first st

pub follows_either : {A : Type 0} (before : ℕ → Bool) (P Q : Spelling A) (stop : ℕ → Bool) → Follows before P stop → Follows before Q stop → Follows before (Either P Q) stop
follows_either before P Q stop h k x back rest (first p) st = h x back rest p st
follows_either before P Q stop h k x back rest (second q) st = k x back rest q st

pub follows_list : {A : Type 0} (before test : ℕ → Bool) (P : Spelling A) (stop : ℕ → Bool) → ((c : ℕ) → test c ≡ true → before c ≡ true) → Starts test P → ((c : ℕ) → stop c ≡ true → before c ≡ true) → Follows before (IsList P) stop
follows_list {A} before test P stop h s k xs back rest l st = go l st
  where
    go : {xs : List A} {back : List ℕ} → IsList P xs back → Stops stop rest → Stops before (back ++ rest)
    go no_items st = stops_narrow stop before k rest st
    go (an_item {x = x} {front = front} {back = back} p l) st = rw (append_assoc front back rest) (passes_stops before test h front (back ++ rest) (s x front p))

-- the first part may be empty
pub follows_then : {A B : Type 0} (before : ℕ → Bool) (P : Spelling A) (Q : A → Spelling B) (stop : ℕ → Bool) → Follows before P (λ c. before c) → ((x : A) → Follows before (Q x) stop) → Follows before (P then Q) stop
follows_then before P Q stop h k y back rest p st = rw (p.parts, append_assoc p.front p.back rest) (h p.value p.front (p.back ++ rest) p.first (k p.value y p.back rest p.second st))
