-- Searches in what is known of a world.
use Rattle.std.proofs.Common.{◌≡◌, ℕ, ◌≤◌, ◌<◌, Bool, true, false, List, [], ◌∷◌, Some, None, Contains, slice_get, refl, sym, subst, length, arith}
use Rattle.std.specs.Prelude.{◌↔◌, IsTrue}
use Rattle.sj_names.specs.declared.method_names.Member.{Member}
use Rattle.sj_names.specs.declared.method_names.MethodName.{MethodName}
use Rattle.sj_world.specs.Facts.{IsMadeBelow}
use Rattle.sj_world.specs.Known.{Name, Classes}
use Rattle.sj_world.specs.declared.facts.Fact.{Fact}
use Rattle.sj_world.proofs.Searches.{AllYet, all_whole, contains_at}
use Rattle.sj_ask.specs.Answers.{IsTarget, EachRuns, IsOnlyTarget, HasNoOnlyTarget}
use Rattle.sj_ask.proofs.One.{one_target}

-- a call on instances of the class runs the body
abbrev pub Runs : Classes → MethodName → Member → Name → Type 0
Runs w m k d = IsTarget w d m (Some k)

module _ (w : Classes) (made : List Name) (m : MethodName) (k : Member) where
  pub each_runs : (n : ℕ) → AllYet (Runs w m k) made n → length made ≤ n → EachRuns w made m k
  each_runs n before over = record { each = λ d h. all_whole (Runs w m k) made n d before over h }

  pub one_misses : (n : ℕ) (d : Name) → slice_get made n ≡ Some d → (Runs w m k d → ⊥) → EachRuns w made m k → ⊥
  one_misses n d at is_not all = is_not (all.each d (contains_at made n d at))

-- of the classes that are made below C
module _ (w : Classes) (facts : List Fact) (c : Name) (m : MethodName) (made : List Name) (are : (d : Name) → Contains made d ↔ IsMadeBelow w facts c d) where
  first_below : (d : Name) → slice_get made 0 ≡ Some d → IsMadeBelow w facts c d
  first_below d at = (are d).0 (contains_at made 0 d at)

  pub none_below : slice_get made 0 ≡ None → HasNoOnlyTarget w facts c m
  none_below none = record { none = λ k o. nothing o.some ((are o.some).1 o.is_some) }
    where
      empty : (xs : List Name) → slice_get xs 0 ≡ None → length xs ≡ 0
      empty [] e = refl
      empty (x ∷ xs) e = absurd (cc)

      nothing : (d : Name) → Contains made d → ⊥
      nothing d h = let l : h.0 < length made = h.1 in let z : length made ≡ 0 = empty made none in absurd (omega arith)

  pub first_runs_none : (first : Name) → slice_get made 0 ≡ Some first → IsTarget w first m None → HasNoOnlyTarget w facts c m
  first_runs_none first at is = record { none = λ k o. let e : None ≡ Some k = one_target w first m None (Some k) is (o.run_all.all first (first_below first at)) in cc }

  module _ (first : Name) (k : Member) (at : slice_get made 0 ≡ Some first) where
    pub all_run : EachRuns w made m k → IsOnlyTarget w facts c m k
    all_run all = record { some = first; is_some = first_below first at; run_all = record { all = λ d h. all.each d ((are d).1 h) } }

    pub some_misses : IsTarget w first m (Some k) → (EachRuns w made m k → ⊥) → HasNoOnlyTarget w facts c m
    some_misses is is_not = record { none = λ other o. let e : Some k ≡ Some other = one_target w first m (Some k) (Some other) is (o.run_all.all first (first_below first at)) in let q : other ≡ k = cc in is_not (record { each = λ d h. subst (λ (l : Member). Runs w m l d) q (o.run_all.all d ((are d).0 h)) }) }

pub failed : {P : Type 0} (r : Bool) → IsTrue r ↔ P → r ≡ false → P → ⊥
failed r h e p = let t : r ≡ true = h.1 p in cc

pub first_is : (made : List Name) (d : Name) → Some d ≡ slice_get made 0 → slice_get made 0 ≡ Some d
first_is made d e = sym e
