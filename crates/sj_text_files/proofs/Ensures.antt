-- What every value meets that a grammar of class files spells.
use Rattle.std.proofs.Common.{◌≡◌, ℕ, zero, suc, ◌<◌, ◌^◌, Bool, true, false, List, [], ◌∷◌, Option, Some, None, refl, sym, subst, arith}
use Rattle.std.specs.Prelude.{All, MatchOption}
use Rattle.std.specs.List.{slice_get}
use Rattle.exact_place.specs.Grammar.{Spelling, ◌then◌, IsValue, chosen}
use Rattle.sj_read_spec.specs.Spelling.{Never, Found, Tested, IsByte, IsNumber, IsEach, IsCounted}

-- each of a list, as a record so that what holds of each is found
pub record AllOf {A : Type 0} (Q : A → Type 0) (xs : List A) : Type 0 where
  pub at : All Q xs

pub all_none : {A : Type 0} {Q : A → Type 0} → AllOf Q []
all_none = record { at = λ k d h. absurd (omega (arith, h)) }

at_more : {A : Type 0} (Q : A → Type 0) (x : A) (xs : List A) → Q x → All Q xs → All Q (x ∷ xs)
at_more Q x xs q qs zero d h = q
at_more Q x xs q qs (suc k) d h = qs k d (omega (arith, h))

pub all_more : {A : Type 0} {Q : A → Type 0} {x : A} {xs : List A} → Q x → AllOf Q xs → AllOf Q (x ∷ xs)
all_more {A} {Q} {x} {xs} q qs = record { at = at_more Q x xs q qs.at }

pub all_first : {A : Type 0} {Q : A → Type 0} (x : A) (xs : List A) → AllOf Q (x ∷ xs) → Q x
all_first x xs all = all.at 0 x (omega arith)

pub all_others : {A : Type 0} {Q : A → Type 0} (x : A) (xs : List A) → AllOf Q (x ∷ xs) → AllOf Q xs
all_others x xs all = record { at = λ k d h. all.at (suc k) d (omega (arith, h)) }

pub record Ensures {A : Type 0} (Q : A → Type 0) (P : Spelling A) : Type 0 where
  pub meets : (x : A) (text : List ℕ) → P x text → Q x

-- nothing is said of the value
abbrev pub Anything : {A : Type 0} → A → Type 0
Anything x = Unit {0}

pub anything : {A : Type 0} (P : Spelling A) → Ensures Anything P
anything P = record { meets = λ x text s. tt }

pub behind : {A B : Type 0} {Q : A → Type 0} {R : B → Type 0} {P : Spelling A} {next : A → Spelling B} → Ensures Q P → ((x : A) → Q x → Ensures R (next x)) → Ensures R (P then next)
behind {A} {B} {Q} {R} {P} {next} first second = record {
  meets = λ y text s. (second s.value (first.meets s.value s.front s.first)).meets y s.back s.second;
}

pub gives : {A : Type 0} {Q : A → Type 0} {v : A} → Q v → Ensures Q (IsValue v)
gives {A} {Q} {v} q = record { meets = λ x text s. subst Q (sym s.same) q }

pub never : {A : Type 0} {Q : A → Type 0} → Ensures {A = A} Q Never
never = record { meets = λ x text s. absurd s.never }

pub either : {A : Type 0} {Q : A → Type 0} (b : Bool) {P R : Spelling A} → Ensures Q P → Ensures Q R → Ensures Q (chosen b P R)
either true p r = p
either false p r = r

pub found : {A : Type 0} {Q : A → Type 0} (o : Option A) → MatchOption o (Unit {0}) Q → Ensures Q (Found o)
found (Some x) q = gives q
found None q = never

pub tested : {A : Type 0} {Q : A → Type 0} (b : Bool) (x : A) → (b ≡ true → Q x) → Ensures Q (Tested b x)
tested true x q = gives (q refl)
tested false x q = never

pub each : {A : Type 0} {Q : A → Type 0} {P : Spelling A} → Ensures Q P → (n : ℕ) → Ensures (AllOf Q) (IsEach P n)
unfolding IsEach
each p zero = gives all_none
each p (suc n) = behind p (λ x q. behind (each p n) (λ xs qs. gives (all_more q qs)))

pub listed : {A : Type 0} {Q : A → Type 0} {P : Spelling A} → Ensures Q P → Ensures (AllOf Q) (IsCounted P)
listed p = behind (anything (IsNumber 4)) (λ n k. each p n)

pub a_byte : Ensures (λ b. b < 256) IsByte
a_byte = record { meets = λ b text s. s.small }

pub a_number : (n : ℕ) → Ensures (λ x. x < 256 ^ n) (IsNumber n)
a_number n = record { meets = λ x text s. s.small }

pub entry_meets : {A : Type 0} (Q : A → Type 0) (table : List A) (n : ℕ) → AllOf Q table → MatchOption (slice_get table n) (Unit {0}) Q
entry_meets Q [] n all = tt
entry_meets Q (x ∷ xs) zero all = all_first x xs all
entry_meets Q (x ∷ xs) (suc n) all = entry_meets Q xs n (all_others x xs all)

pub entry : {A : Type 0} {Q : A → Type 0} (table : List A) → AllOf Q table → Ensures Q (IsNumber 4 then λ n. Found (slice_get table n))
entry {A} {Q} table all = behind (anything (IsNumber 4)) (λ n k. found (slice_get table n) (entry_meets Q table n all))
