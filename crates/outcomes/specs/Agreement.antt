-- When two meanings with bounds agree.
use Rattle.std.specs.Prelude.{◌≡◌, ℕ, ◌≤◌, ◌+◌, ◌*◌, ◌++◌}
use Rattle.outcomes.specs.Outcome.{Lines, End, Done, Going, Wrong, Out}

pub record IsPrefix (front whole : Lines) : Type 0 where
  pub rest : Lines
  pub parts : whole ≡ front ++ rest

abbrev pub IsNotWrong : {A : Type 0} → End A → Type 0
IsNotWrong (Done a) = Unit {0}
IsNotWrong Going = Unit {0}
IsNotWrong Wrong = ⊥

abbrev pub FollowsBy : {A : Type 0} → End A → Out A → Out A → Type 0
FollowsBy (Done a) o p = o ≡ p
FollowsBy Going o p = IsPrefix o.lines p.lines
FollowsBy Wrong o p = o ≡ p

-- what the one shows the other shows: where the one is going, its lines are the first of the other's; otherwise the two are equal
abbrev pub Follows : {A : Type 0} → Out A → Out A → Type 0
Follows o p = FollowsBy o.end o p

-- what the one shows within any bound the other shows within some bound, and the other way round; and neither is wrong at any bound
pub record Agree {A : Type 0} (one other : ℕ → Out A) : Type 0 where
  pub there : (n : ℕ) → (m : ℕ) × Follows (one n) (other m)
  pub back : (m : ℕ) → (n : ℕ) × Follows (other m) (one n)
  pub one_never_wrong : (n : ℕ) → IsNotWrong (one n).end
  pub other_never_wrong : (m : ℕ) → IsNotWrong (other m).end

-- the two halves of an agreement
pub data Direction : Type 0 where
  forward : Direction
  backward : Direction

-- the units that the second side may take beyond those of the first: so many for each unit of the first, and so many more in all
pub record Room : Type 0 where
  pub each : ℕ
  pub beyond : ℕ

-- the second side takes no more units than the first
abbrev pub no_room : Room
no_room = record { each = 0; beyond = 0 }

-- how the bounds of the two sides stand to each other: the side that is to show as much has enough units, and this many more
abbrev pub Enough : Room → ℕ → Direction → ℕ → ℕ → Type 0
Enough r more forward n m = n + r.each * n + r.beyond + more ≤ m
Enough r more backward n m = m ≤ n

-- two ends with their lines are alike: a wrong first side promises nothing; sides that are done have equal lines and alike results;
-- and where a side is going, its lines are the first of the other's
abbrev pub Related : {A B : Type 0} → Direction → (A → B → Type 0) → Lines → End A → Lines → End B → Type 0
Related d E l Wrong m e = Unit {0}
Related d E l (Done a) m (Done b) = (l ≡ m) × E a b
Related forward E l (Done a) m Going = ⊥
Related backward E l (Done a) m Going = IsPrefix m l
Related d E l (Done a) m Wrong = ⊥
Related forward E l Going m e = IsPrefix l m
Related backward E l Going m (Done b) = ⊥
Related backward E l Going m Going = IsPrefix m l
Related backward E l Going m Wrong = ⊥

-- one half of the agreement of two outcomes whose results are alike by E
pub record Sim {A B : Type 0} (d : Direction) (E : A → B → Type 0) (o : Out A) (p : Out B) : Type 0 where
  pub by : Related d E o.lines o.end p.lines p.end
