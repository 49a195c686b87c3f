-- Looking for the first repeat, from an index on.
use Rattle.std.proofs.Common.{◌≡◌, ℕ, suc, ◌+◌, ◌≤◌, ◌<◌, Bool, true, false, List, [], ◌∷◌, ◌++◌, drop, map, length, get_or, Option, Some, None, refl, sym, ap, ◌∙◌, subst, arith, Contains}
use Rattle.std.specs.Prelude.{option_map, IsTrue, ◌↔◌, if◌then◌else◌}
use Rattle.std.specs.List.{list_any}
use Rattle.std.proofs.Math.Seq.{drop-cons}
use Rattle.std.proofs.lemmas.List.{drop_all}
use Rattle.std.proofs.lemmas.List.Folds.{list_any_at}
use Rattle.indexmap.specs.IndexSet.{insert_key}
use Rattle.indexmap.proofs.CallerLemmas.{Contains-list_any}
use Rattle.sj_local.specs.Firsts.{FirstRepeat, nothing_left, here, later}

abbrev from : ℕ → Option ℕ → Option ℕ
from i o = option_map (λ k. i + k) o

-- what a repeat in the rest says of all
abbrev pub Leads : {X K : Type 0} → (X → K) → List X → List K → ℕ → Type 0
Leads key items earlier i = (found : Option ℕ) → FirstRepeat earlier (map key (drop i items)) found → FirstRepeat [] (map key items) (option_map (λ k. i + k) found)

shifted : (i : ℕ) (o : Option ℕ) → from i (option_map suc o) ≡ from (i + 1) o
shifted i None = refl
shifted i (Some k) = ap Some (omega arith)

module _ {X K : Type 0} (eq : K → K → Bool) (exact : (a b : K) → IsTrue (eq a b) ↔ (a ≡ b)) (key : X → K) where
  isnt_there : (ks : List K) (k : K) → list_any (eq k) ks ≡ false → Contains ks k → ⊥
  isnt_there ks k apart has =
      let yes : list_any (eq k) ks ≡ true = list_any_at (eq k) ks has.0 k has.1 ((exact k (get_or ks has.0 k)).1 (sym has.2)) in
      cc

  rest_is : (items : List X) (i : ℕ) (x : X) (k : K) → i < length items → x ≡ get_or items i x → k ≡ key x → map key (drop i items) ≡ k ∷ map key (drop (i + 1) items)
  rest_is items i x k within at is =
      let next : suc i ≡ i + 1 = omega arith in
      ap (map key) (drop-cons items i x within)
      ∙ ap (λ (y : X). key y ∷ map key (drop (suc i) items)) (sym at)
      ∙ ap (λ (h : K). h ∷ map key (drop (suc i) items)) (sym is)
      ∙ ap (λ (n : ℕ). k ∷ map key (drop n items)) next

  pub repeat_hit : (items : List X) (earlier : List K) (i : ℕ) (x : X) (k : K) → Leads key items earlier i → i < length items → x ≡ get_or items i x → k ≡ key x → list_any (eq k) earlier ≡ true → FirstRepeat [] (map key items) (Some i)
  repeat_hit items earlier i x k leads within at is there =
      let found : FirstRepeat earlier (k ∷ map key (drop (i + 1) items)) (Some 0) = here earlier k (map key (drop (i + 1) items)) (Contains-list_any eq (λ a b h. (exact a b).0 h) earlier k there) in
      let index : i + 0 ≡ i = omega arith in
      subst (λ (n : ℕ). FirstRepeat [] (map key items) (Some n)) index (leads (Some 0) (subst (λ (ks : List K). FirstRepeat earlier ks (Some 0)) (sym (rest_is items i x k within at is)) found))

  pub repeat_miss : (items : List X) (earlier new : List K) (i : ℕ) (x : X) (k : K) → Leads key items earlier i → i < length items → x ≡ get_or items i x → k ≡ key x → list_any (eq k) earlier ≡ false → new ≡ insert_key eq earlier k → Leads key items new (i + 1)
  repeat_miss items earlier new i x k leads within at is apart added found h =
      let grown : new ≡ earlier ++ k ∷ [] = added ∙ ap (λ b. if b then earlier else earlier ++ k ∷ []) apart in
      let one : FirstRepeat earlier (k ∷ map key (drop (i + 1) items)) (option_map suc found) = later earlier k (map key (drop (i + 1) items)) found (isnt_there earlier k apart) (subst (λ (ks : List K). FirstRepeat ks (map key (drop (i + 1) items)) found) grown h) in
      subst (λ (o : Option ℕ). FirstRepeat [] (map key items) o) (shifted i found) (leads (option_map suc found) (subst (λ (ks : List K). FirstRepeat earlier ks (option_map suc found)) (sym (rest_is items i x k within at is)) one))

  pub repeat_end : (items : List X) (earlier : List K) (i : ℕ) → Leads key items earlier i → length items ≤ i → FirstRepeat [] (map key items) None
  repeat_end items earlier i leads past =
      leads None (subst (λ (ys : List X). FirstRepeat earlier (map key ys) None) (sym (drop_all i items past)) (nothing_left earlier))
