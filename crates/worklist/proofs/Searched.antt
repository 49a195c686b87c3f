-- What a search finds is reached, and all that is reached is found.
use Rattle.std.proofs.Common.{◌≡◌, ℕ, ◌+◌, ◌≤◌, ◌<◌, Bool, true, List, ◌∷◌, [], ◌++◌, Contains, slice_get, Some, refl, sym, ap, ◌∙◌, subst, take, length, arith, inl, inr, get_or}
use Rattle.std.specs.Prelude.{◌⊎◌, ◌↔◌}
use Rattle.std.proofs.lemmas.List.Elements.{Contains-push, Contains-push_cases, Contains-get_or}
use Rattle.std.proofs.lemmas.List.{take-append-le, take_more, length-append}
use Rattle.std.proofs.lemmas.Option.{slice_get_within, get_or_from_slice_get}
use Rattle.std.proofs.Math.Seq.{take-length}
use Rattle.indexmap.specs.IndexSet.{insert_all}
use Rattle.worklist.specs.Paths.{Path, stay, on, Leads, IsReached}
use Rattle.worklist.specs.Search.{Found, begins, goes_on, IsSearched}
use Rattle.worklist.proofs.Inserted.{nothing_in, only_one, Grows, insert_all-grows, from-insert_all, into-insert_all, each-insert_all}

le_both : {m n : ℕ} → m ≤ n → n ≤ m → m ≡ n
le_both p q = omega arith

module _ {K : Type 0} (eq : K → K → Bool) (next : K → List K) (first : List K) where
  -- what is found is reached, and what the keys lead to that have been gone through is among it
  pub record Working (done : ℕ) (keys : List K) : Type 0 where
    pub within : done ≤ length keys
    pub begun : (x : K) → Contains first x → Contains keys x
    pub sound : (x : K) → Contains keys x → IsReached next first x
    pub closed : (a b : K) → Contains (take done keys) a → Contains (next a) b → Contains keys b

  reached_on : (a b : K) → IsReached next first a → Contains (next a) b → IsReached next first b
  reached_on a b r h = record { from = r.from; begins = r.begins; path = on a b r.path h }

  working_begins : Working 0 first
  working_begins = record {
    within = omega arith;
    begun = λ x h. h;
    sound = λ x h. record { from = x; begins = h; path = stay };
    closed = λ a b h leads. nothing_in a h;
  }

  working_goes_on : ((a b : K) → eq a b ≡ true → a ≡ b) → (done : ℕ) (keys : List K) (key : K) → Working done keys → slice_get keys done ≡ Some key → Working (done + 1) (insert_all eq keys (next key))
  working_goes_on same done keys key w at = record {
    within = grown;
    begun = λ x h. into-insert_all eq keys (next key) x (w.begun x h);
    sound = λ x h. reached x (from-insert_all eq keys (next key) x h);
    closed = λ a b h leads. called a b (Contains-push_cases (take done keys) key a (subst (λ (l : List K). Contains l a) front h)) leads;
  }
    where
      read : get_or keys done key ≡ key
      read = get_or_from_slice_get keys done key key at

      below : done < length keys
      below = slice_get_within keys done key at

      there : Contains keys key
      there = subst (λ (y : K). Contains keys y) read (Contains-get_or keys done key below)

      more : List K
      more = (insert_all-grows eq keys (next key)).more

      grown_by : insert_all eq keys (next key) ≡ keys ++ more
      grown_by = (insert_all-grows eq keys (next key)).parts

      grown : done + 1 ≤ length (insert_all eq keys (next key))
      grown = omega (arith, below, ap length grown_by, length-append {A = K})

      front : take (done + 1) (insert_all eq keys (next key)) ≡ take done keys ++ key ∷ []
      front = ap (λ (l : List K). take (done + 1) l) grown_by ∙ take-append-le (done + 1) keys more (omega (arith, below)) ∙ take_more keys done key below ∙ ap (λ y. take done keys ++ y ∷ []) read

      reached : (x : K) → Contains keys x ⊎ Contains (next key) x → IsReached next first x
      reached x (inl old) = w.sound x old
      reached x (inr new) = reached_on key x (w.sound key there) new

      called : (a b : K) → Contains (take done keys) a ⊎ (key ≡ a) → Contains (next a) b → Contains (insert_all eq keys (next key)) b
      called a b (inl old) leads = into-insert_all eq keys (next key) b (w.closed a b old leads)
      called a b (inr e) leads = each-insert_all eq same keys (next key) b (subst (λ (y : K). Contains (next y) b) (sym e) leads)

  pub found_more : (done : ℕ) (keys others : List K) (key : K) → Found eq next first done keys → slice_get keys done ≡ Some key → others ≡ insert_all eq keys (next key) → Found eq next first (done + 1) others
  found_more done keys others key found at e = subst (λ (l : List K). Found eq next first (done + 1) l) (sym e) (goes_on done keys key found at)

  pub working : ((a b : K) → eq a b ≡ true → a ≡ b) → (done : ℕ) (keys : List K) → Found eq next first done keys → Working done keys
  working same _ _ begins = working_begins
  working same _ _ (goes_on done keys key before at) = working_goes_on same done keys key (working same done keys before) at

  pub all_taken : (done : ℕ) (keys : List K) → Working done keys → length keys ≤ done → take done keys ≡ keys
  all_taken done keys w over = let e : done ≡ length keys = le_both w.within over in ap (λ n. take n keys) e ∙ take-length keys

  working_ends : (done : ℕ) (keys : List K) → Working done keys → length keys ≤ done → (x : K) → Contains keys x ↔ IsReached next first x
  working_ends done keys w over x = (w.sound x, λ r. along r.from (w.begun r.from r.begins) x r.path)
    where
      along : (a : K) → Contains keys a → (y : K) → Path (Leads next) a y → Contains keys y
      along a h y stay = h
      along a h y (on b c path leads) = w.closed b c (subst (λ (l : List K). Contains l b) (sym (all_taken done keys w over)) (along a h b path)) leads

  -- exactly the keys are found to which paths lead
  pub found_is_reached : ((a b : K) → eq a b ≡ true → a ≡ b) → (done : ℕ) (keys : List K) → Found eq next first done keys → length keys ≤ done → (x : K) → Contains keys x ↔ IsReached next first x
  found_is_reached same done keys found over = working_ends done keys (working same done keys found) over

  pub is_searched : ((a b : K) → eq a b ≡ true → a ≡ b) → (done : ℕ) (keys : List K) → Found eq next first done keys → length keys ≤ done → IsSearched eq next first keys
  is_searched same done keys found over = record { all = subst (λ (n : ℕ). Found eq next first n keys) (le_both (working same done keys found).within over) found }

-- from one key
pub reached_from_one : {K : Type 0} (next : K → List K) (first : K) (start keys : List K) → start ≡ first ∷ [] → ((x : K) → Contains keys x ↔ IsReached next start x) → (x : K) → Contains keys x ↔ Path (Leads next) first x
reached_from_one {K} next first start keys e both x = (λ h. led (subst (λ (l : List K). IsReached next l x) e ((both x).0 h)), λ path. (both x).1 (subst (λ (l : List K). IsReached next l x) (sym e) (record { from = first; begins = Contains-push [] first; path = path })))
  where
    led : IsReached next (first ∷ []) x → Path (Leads next) first x
    led r = subst (λ (k : K). Path (Leads next) k x) (sym (only_one first r.from r.begins)) r.path
