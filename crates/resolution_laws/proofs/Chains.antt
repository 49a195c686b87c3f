-- The nearest body that is worked out on a chain is the nearest; where none is, no class on the chain has one.
use Rattle.std.proofs.Common.{◌≡◌, ℕ, zero, suc, ◌+◌, ◌≤◌, Bool, true, false, ◌||◌, List, [], ◌∷◌, ◌++◌, length, Contains, Option, Some, None, if◌then◌else◌, cond, refl, sym, ap, ◌∙◌, subst, inl, inr, arith}
use Rattle.std.specs.Prelude.{◌⊎◌, is_some}
use Rattle.std.specs.Cmp.Lexicographic.{nat_list_eq_equiv}
use Rattle.std.specs.List.{list_any, AllByRecursion, IsDistinct}
use Rattle.std.proofs.lemmas.Bool.{or_cases, or_parts}
use Rattle.std.proofs.lemmas.Map.Keys.{IsDistinct-cons}
use Rattle.std.proofs.lemmas.Map.Made.{length-le_from_is_member}
use Rattle.ir_mean.specs.Dispatch.{longest, chain_from, chain_of, Found, body_at, or_found, nearest}
use Rattle.sj_names.proofs.Same.{impossible}
use Rattle.sj_names.specs.declared.method_names.MethodName.{MethodName}
use Rattle.sj_trees.specs.declared.classes.ClassDef.{ClassDef}
use Rattle.sj_trees.specs.declared.classes.MethodDef.{MethodDef}
use Rattle.sj_world.specs.Ancestors.{IsNext, IsOnChain, superclass_in, next_on_chain}
use Rattle.sj_world.specs.Known.{Name, Classes, is_same, object, class_of, is_known, is_hijacked, hijacked, names_of}
use Rattle.sj_world.specs.Paths.{stay, on}
use Rattle.sj_world.specs.Resolution.{HasNoBody, Passes, begin, up, IsNearest, HasNoneOnChain}
use Rattle.sj_world.proofs.Bodies.{absent_on_chain, stands_itself}
use Rattle.sj_world.proofs.Lined.{known_named}
use Rattle.sj_world.proofs.OnCycles.{among}
use Rattle.sj_world.proofs.Orders.{same_name}
use Rattle.worklist.proofs.Inserted.{nothing_in}
use Rattle.dispatch_laws.proofs.Bodies.{body_at-right}
use Rattle.dispatch_laws.proofs.Lists.{first_stands, stands_behind, first_or_behind}

abbrev Among : Name → List Name → Type 0
Among x xs = list_any (is_same x) xs ≡ true

differ : (c : Name) (xs : List Name) → list_any (is_same c) xs ≡ false → AllByRecursion (λ (y : Name). is_same c y ≡ false) xs
differ c [] h = tt
differ c (y ∷ ys) h = let p = or_parts (is_same c y) (list_any (is_same c) ys) h in (p.0, differ c ys p.1)

names_length : (v : Classes) → length (names_of v ++ hijacked) ≡ length v + 8
names_length [] = refl
names_length (c ∷ v) = let rest = names_length v in omega (arith, rest)

module _ (w : Classes) where
  -- a class that isn't known has no superclass
  unknown_ends : (c : Name) → is_known w c ≡ false → next_on_chain w c ≡ None
  unknown_ends c unknown = ap (λ (n : Name). superclass_in (class_of w n) n) (stands_itself c free) ∙ ap (λ (o : Option ClassDef). superclass_in o c) is_absent ∙ ap (λ (b : Bool). cond b (Some object) None) free
    where
      is_absent : class_of w c ≡ None
      is_absent = absent_on_chain w c unknown c stay

      free : is_hijacked c ≡ false
      free = sym (ap (λ (o : Option ClassDef). is_some o || is_hijacked c) is_absent) ∙ unknown

  next_known : (c d : Name) → IsNext w c d → is_known w c ≡ true
  next_known c d next = go (is_known w c) refl
    where
      go : (b : Bool) → is_known w c ≡ b → is_known w c ≡ true
      go true k = k
      go false k = let wrong : None ≡ Some d = sym (unknown_ends c k) ∙ next in cc

  -- the rest of a chain, where there is one
  abbrev onward : ℕ → List Name → Option Name → List Name
  onward k seen None = []
  onward k seen (Some x) = chain_from w k seen x

  -- what a chain has gone through: known names, none twice
  record IsTrail (seen : List Name) : Type 0 where
    once : IsDistinct is_same seen
    known : (q : Name) → Among q seen → Among q (names_of w ++ hijacked)

  trail_begins : IsTrail []
  unfolding IsDistinct
  trail_begins = record { once = tt; known = λ q i. impossible i }

  trail_more : (c : Name) (seen : List Name) → list_any (is_same c) seen ≡ false → is_known w c ≡ true → IsTrail seen → IsTrail (c ∷ seen)
  trail_more c seen new k t = record { once = IsDistinct-cons is_same c seen (differ c seen new) t.once; known = λ q i. go q (or_cases (is_same q c) (list_any (is_same q) seen) i) }
    where
      go : (q : Name) → (is_same q c ≡ true) ⊎ Among q seen → Among q (names_of w ++ hijacked)
      go q (inl e) = subst (λ (n : Name). Among n (names_of w ++ hijacked)) (sym (same_name q c e)) ((among (names_of w ++ hijacked) c).1 (known_named w c k))
      go q (inr j) = t.known q j

  few : (seen : List Name) → IsTrail seen → length seen ≤ length w + 8
  few seen t = let most : length seen ≤ length (names_of w ++ hijacked) = length-le_from_is_member nat_list_eq_equiv seen (names_of w ++ hijacked) t.once t.known in omega (arith, most, names_length w)

  -- a chain begins with its class, unless that was gone through before
  comes : (k : ℕ) (seen : List Name) (c : Name) → IsTrail seen → k + length seen ≡ longest w → Contains (chain_from w k seen c) c ⊎ Among c seen
  comes zero seen c t e = absurd (omega (arith, few seen t, e))
  comes (suc k) seen c t e = go (list_any (is_same c) seen) refl
    where
      go : (b : Bool) → list_any (is_same c) seen ≡ b → Contains (if b then [] else (c ∷ onward k (c ∷ seen) (next_on_chain w c))) c ⊎ (list_any (is_same c) seen ≡ true)
      go true back = inr back
      go false new = inl (first_stands c (onward k (c ∷ seen) (next_on_chain w c)))

  -- what follows a class of a chain stands on it too, or was gone through before
  follows : (k : ℕ) (seen : List Name) (c : Name) → IsTrail seen → k + length seen ≡ longest w → (a b : Name) → Contains (chain_from w k seen c) a → IsNext w a b → Contains (chain_from w k seen c) b ⊎ Among b seen
  follows zero seen c t e a b h next = absurd (omega (arith, few seen t, e))
  follows (suc k) seen c t e a b h next = go (list_any (is_same c) seen) (next_on_chain w c) refl refl h (λ d more. follows k (c ∷ seen) d more (omega (arith, e)) a b)
    where
      behind : (l : List Name) → Contains l b ⊎ Among b (c ∷ seen) → Contains (c ∷ l) b ⊎ Among b seen
      behind l (inl i) = inl (stands_behind c l b i)
      behind l (inr i) = before (or_cases (is_same b c) (list_any (is_same b) seen) i)
        where
          before : (is_same b c ≡ true) ⊎ Among b seen → Contains (c ∷ l) b ⊎ Among b seen
          before (inl same) = inl (subst (Contains (c ∷ l)) (sym (same_name b c same)) (first_stands c l))
          before (inr j) = inr j

      step : (o : Option Name) → list_any (is_same c) seen ≡ false → next_on_chain w c ≡ o → (c ≡ a) ⊎ Contains (onward k (c ∷ seen) o) a → ((d : Name) → IsTrail (c ∷ seen) → Contains (chain_from w k (c ∷ seen) d) a → IsNext w a b → Contains (chain_from w k (c ∷ seen) d) b ⊎ Among b (c ∷ seen)) → Contains (c ∷ onward k (c ∷ seen) o) b ⊎ Among b seen
      step None new n (inl s) later = let wrong : None ≡ Some b = sym n ∙ subst (λ (x : Name). IsNext w x b) (sym s) next in absurd (cc)
      step None new n (inr i) later = nothing_in a i
      step (Some d) new n (inl s) later =
          let one : Some d ≡ Some b = sym n ∙ subst (λ (x : Name). IsNext w x b) (sym s) next in
          let same : d ≡ b = cc in
          behind (chain_from w k (c ∷ seen) d) (subst (λ (x : Name). Contains (chain_from w k (c ∷ seen) d) x ⊎ Among x (c ∷ seen)) same (comes k (c ∷ seen) d (trail_more c seen new (next_known c d n) t) (omega (arith, e))))
      step (Some d) new n (inr i) later = behind (chain_from w k (c ∷ seen) d) (later d (trail_more c seen new (next_known c d n) t) i next)

      go : (f : Bool) (o : Option Name) → list_any (is_same c) seen ≡ f → next_on_chain w c ≡ o → Contains (if f then [] else (c ∷ onward k (c ∷ seen) o)) a → ((d : Name) → IsTrail (c ∷ seen) → Contains (chain_from w k (c ∷ seen) d) a → IsNext w a b → Contains (chain_from w k (c ∷ seen) d) b ⊎ Among b (c ∷ seen)) → Contains (if f then [] else (c ∷ onward k (c ∷ seen) o)) b ⊎ Among b seen
      go true o back n i later = nothing_in a i
      go false o new n i later = step o new n (first_or_behind c (onward k (c ∷ seen) o) a i) later

  module _ (c : Name) where
    in_chain : (d : Name) → Contains (chain_of w c) d ⊎ Among d [] → Contains (chain_of w c) d
    in_chain d (inl h) = h
    in_chain d (inr none) = impossible none

    -- each class on the chain is worked out
    listed_on_chain : (d : Name) → IsOnChain w c d → Contains (chain_of w c) d
    listed_on_chain d stay = in_chain c (comes (longest w) [] c trail_begins (omega arith))
    listed_on_chain d (on b _ path next) = in_chain d (follows (longest w) [] c trail_begins (omega arith) b d (listed_on_chain b path) next)

    module _ (m : MethodName) where
      -- from a class that the way up from c passes to, the nearest found is the nearest from c
      abbrev Right : ℕ → List Name → Found → Type 0
      Right k seen f = (y : Name) → Passes w (HasNoBody w m) c y → nearest w m (chain_from w k seen y) ≡ Some f → IsNearest w c m f.method f.owner

      nearest_from : (k : ℕ) (seen : List Name) (x : Name) (f : Found) → Passes w (HasNoBody w m) c x → nearest w m (chain_from w k seen x) ≡ Some f → IsNearest w c m f.method f.owner
      nearest_from zero seen x f passes e = absurd (cc)
      nearest_from (suc k) seen x f passes e = go (list_any (is_same x) seen) e (λ y. nearest_from k (x ∷ seen) y f)
        where
          here : (o : Option MethodDef) (n : Option Name) → body_at w m x ≡ o → next_on_chain w x ≡ n → or_found o x (nearest w m (onward k (x ∷ seen) n)) ≡ Some f → Right k (x ∷ seen) f → IsNearest w c m f.method f.owner
          here (Some d) n b next h later =
              let same : record { owner = x; method = d } ≡ f = cc in
              subst (λ (g : Found). IsNearest w c m g.method g.owner) same (record { passes = passes; body = body_at-right w m x (Some d) b })
          here None None b next h later = absurd (cc)
          here None (Some y) b next h later = later y (up x y passes (body_at-right w m x None b) next) h

          go : (b : Bool) → nearest w m (if b then [] else (x ∷ onward k (x ∷ seen) (next_on_chain w x))) ≡ Some f → Right k (x ∷ seen) f → IsNearest w c m f.method f.owner
          go true h later = absurd (cc)
          go false h later = here (body_at w m x) (next_on_chain w x) refl refl h later

      pub nearest_right : (f : Found) → nearest w m (chain_of w c) ≡ Some f → IsNearest w c m f.method f.owner
      nearest_right f e = nearest_from (longest w) [] c f begin e

      none_among : (names : List Name) → nearest w m names ≡ None → (x : Name) → Contains names x → HasNoBody w m x
      none_among [] e x h = nothing_in x h
      none_among (n ∷ ns) e x h = go (body_at w m n) refl e (first_or_behind n ns x h) (none_among ns)
        where
          go : (o : Option MethodDef) → body_at w m n ≡ o → or_found o n (nearest w m ns) ≡ None → (n ≡ x) ⊎ Contains ns x → (nearest w m ns ≡ None → (y : Name) → Contains ns y → HasNoBody w m y) → HasNoBody w m x
          go (Some d) b none s later = absurd (cc)
          go None b none (inl s) later = subst (HasNoBody w m) s (body_at-right w m n None b)
          go None b none (inr i) later = later none x i

      pub none_right : nearest w m (chain_of w c) ≡ None → HasNoneOnChain w c m
      none_right e = record { none = λ d on_chain. none_among (chain_of w c) e d (listed_on_chain d on_chain) }
