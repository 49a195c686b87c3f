-- The nearest body on the chain of a class, as it is worked out and as a world has it.
use Rattle.std.proofs.Common.{◌≡◌, ℕ, zero, suc, ◌+◌, ◌≤◌, Bool, true, false, List, [], ◌∷◌, ◌++◌, length, Contains, Option, Some, None, if◌then◌else◌, refl, sym, ap, ◌∙◌, subst, inl, inr, arith}
use Rattle.std.specs.Prelude.{◌⊎◌}
use Rattle.std.specs.Cmp.Lexicographic.{nat_list_eq_equiv}
use Rattle.std.specs.List.{list_any, AllByRecursion, IsDistinct}
use Rattle.std.proofs.lemmas.Bool.{or_cases, or_left, or_right, or_parts}
use Rattle.std.proofs.lemmas.List.Elements.{Contains-append_left, Contains-push}
use Rattle.std.proofs.lemmas.Map.Keys.{IsDistinct-cons}
use Rattle.std.proofs.lemmas.Map.Made.{length-le_from_is_member}
use Rattle.ir_mean.specs.Dispatch.{longest, chain_from, chain_of, Found, body_at, or_found, nearest}
use Rattle.sj_names.proofs.Same.{impossible}
use Rattle.sj_names.specs.declared.method_names.MethodName.{MethodName}
use Rattle.sj_trees.specs.declared.classes.ClassDef.{ClassDef}
use Rattle.sj_trees.specs.declared.classes.MethodDef.{MethodDef}
use Rattle.ir_mean.specs.Ancestors.{IsAncestor, IsParent, IsNext, IsOnChain, by_path, listed, superclass_in, superclass_of_absent, above_in, directly_above, next_on_chain}
use Rattle.ir_mean.specs.Known.{Name, Classes, is_same, class_of, is_known, hijacked, names_of, stands_as}
use Rattle.ir_mean.specs.Paths.{Path, stay, on}
use Rattle.ir_mean.specs.Resolution.{IsBodyAt, HasNoBody, Passes, begin, up, IsNearest, HasNoneOnChain}
use Rattle.ir_mean.proofs.Bodies.{absent_on_chain}
use Rattle.ir_mean.proofs.LawsHold.{joined}
use Rattle.ir_mean.proofs.Lined.{known_named}
use Rattle.ir_mean.proofs.OnCycles.{among}
use Rattle.ir_mean.proofs.Orders.{same_name, is_same_itself}
use Rattle.worklist.proofs.Inserted.{nothing_in}
use Rattle.dispatch_laws.proofs.Bodies.{body_found, none_found}
use Rattle.dispatch_laws.proofs.Lists.{first_stands, stands_behind, first_or_behind, is_kept}

abbrev pub Among : Name → List Name → Type 0
Among x xs = list_any (is_same x) xs ≡ true

pub differ : (c : Name) (xs : List Name) → list_any (is_same c) xs ≡ false → AllByRecursion (λ (y : Name). is_same c y ≡ false) xs
differ c [] h = tt
differ c (y ∷ ys) h = let p = or_parts (is_same c y) (list_any (is_same c) ys) h in (p.0, differ c ys p.1)

names_length : (v : Classes) → length (names_of v ++ hijacked) ≡ length v + 8
names_length [] = refl
names_length (c ∷ v) = let rest = names_length v in omega (arith, rest)

module _ (w : Classes) where
  -- where a chain comes to a class of the world, its first class is known
  pub begins_known : (c o : Name) (class : ClassDef) → IsOnChain w c o → class_of w o ≡ Some class → is_known w c ≡ true
  begins_known c o class path e = go (is_known w c) refl
    where
      go : (b : Bool) → is_known w c ≡ b → is_known w c ≡ true
      go true k = k
      go false k = let s : None ≡ Some class = sym (absent_on_chain w c k o path) ∙ e in absurd (cc)

  next_parent : (c d : Name) → IsNext w c d → is_known w d ≡ true → IsParent w c d
  next_parent c d next known = is_kept (is_known w) (directly_above w (stands_as c)) d known (go (class_of w (stands_as c)) next)
    where
      listed_one : (o : Option Name) → o ≡ Some d → Contains (listed o) d
      listed_one o e = subst (λ (n : Option Name). Contains (listed n) d) (sym e) (Contains-push [] d)

      go : (o : Option ClassDef) → superclass_in o (stands_as c) ≡ Some d → Contains (above_in o (stands_as c)) d
      go None e = listed_one (superclass_of_absent (stands_as c)) e
      go (Some x) e = Contains-append_left (listed x.superclass) x.interfaces d (listed_one x.superclass e)

  parents_along : (c x o : Name) (class : ClassDef) → IsOnChain w c x → IsOnChain w x o → class_of w o ≡ Some class → Path (IsParent w) c x
  parents_along c _ o class stay rest e = stay
  parents_along c x o class (on b _ path next) rest e = on b x (parents_along c b o class path (joined (IsNext w) b x o (on b x stay next) rest) e) (next_parent b x next (begins_known x o class rest e))

  -- the classes of a world on a chain are ancestors
  pub chain_rises : (c o : Name) (class : ClassDef) → IsOnChain w c o → class_of w o ≡ Some class → IsAncestor w c o
  chain_rises c o class path e = record { known = begins_known c o class path e; way = by_path (parents_along c o o class path stay e) }

  -- the rest of a chain, where there is one
  abbrev pub onward : ℕ → List Name → Option Name → List Name
  onward k seen None = []
  onward k seen (Some x) = chain_from w k seen x

  -- what is worked out as a chain stands on it
  on_chain : (k : ℕ) (seen : List Name) (c x : Name) → Contains (chain_from w k seen c) x → IsOnChain w c x
  on_chain zero seen c x h = nothing_in x h
  on_chain (suc k) seen c x h = go (list_any (is_same c) seen) (next_on_chain w c) refl h (λ d i. on_chain k (c ∷ seen) d x i)
    where
      go : (b : Bool) (o : Option Name) → next_on_chain w c ≡ o → Contains (if b then [] else (c ∷ onward k (c ∷ seen) o)) x → ((d : Name) → Contains (chain_from w k (c ∷ seen) d) x → IsOnChain w d x) → IsOnChain w c x
      go true o e i later = nothing_in x i
      go false None e i later = elim (first_or_behind c [] x i) [ inl s ↦ subst (IsOnChain w c) s stay | inr none ↦ nothing_in x none ]
      go false (Some d) e i later = elim (first_or_behind c (chain_from w k (c ∷ seen) d) x i) [ inl s ↦ subst (IsOnChain w c) s stay | inr j ↦ joined (IsNext w) c d x (on c d stay e) (later d j) ]

  pub chain_of-right : (c x : Name) → Contains (chain_of w c) x → IsOnChain w c x
  chain_of-right c x h = on_chain (longest w) [] c x h

  -- each of these names is known
  abbrev pub AreKnown : List Name → Type 0
  AreKnown seen = (q : Name) → Among q seen → Among q (names_of w ++ hijacked)

  pub another_known : (c : Name) (seen : List Name) → is_known w c ≡ true → AreKnown seen → AreKnown (c ∷ seen)
  another_known c seen k known q i = go (or_cases (is_same q c) (list_any (is_same q) seen) i)
    where
      go : (is_same q c ≡ true) ⊎ Among q seen → Among q (names_of w ++ hijacked)
      go (inl e) = subst (λ (n : Name). Among n (names_of w ++ hijacked)) (sym (same_name q c e)) ((among (names_of w ++ hijacked) c).1 (known_named w c k))
      go (inr j) = known q j

  pub few : (seen : List Name) → IsDistinct is_same seen → AreKnown seen → length seen ≤ length w + 8
  few seen once known = let most : length seen ≤ length (names_of w ++ hijacked) = length-le_from_is_member nat_list_eq_equiv seen (names_of w ++ hijacked) once known in omega (arith, most, names_length w)

  -- the first of names with a body
  module _ (m : MethodName) where
    pub record IsFoundAmong (cs : List Name) (f : Found) : Type 0 where
      pub among : Contains cs f.owner
      pub body : body_at w m f.owner ≡ Some f.method

    pub nearest_found : (cs : List Name) (f : Found) → nearest w m cs ≡ Some f → IsFoundAmong cs f
    nearest_found [] f e = absurd (cc)
    nearest_found (c ∷ cs) f e = go (body_at w m c) refl e (nearest_found cs f)
      where
        go : (o : Option MethodDef) → body_at w m c ≡ o → or_found o c (nearest w m cs) ≡ Some f → (nearest w m cs ≡ Some f → IsFoundAmong cs f) → IsFoundAmong (c ∷ cs) f
        go None b h later = let r = later h in record { among = stands_behind c cs f.owner r.among; body = r.body }
        go (Some d) b h later =
            let same : record { owner = c; method = d } ≡ f = cc in
            subst (IsFoundAmong (c ∷ cs)) same (record { among = first_stands c cs; body = b })

    none_nearest : (cs : List Name) → ((x : Name) → Contains cs x → HasNoBody w m x) → nearest w m cs ≡ None
    none_nearest [] h = refl
    none_nearest (c ∷ cs) h = ap (λ (o : Option MethodDef). or_found o c (nearest w m cs)) (none_found w m c (h c (first_stands c cs))) ∙ none_nearest cs (λ x i. h x (stands_behind c cs x i))

    pub none_on_chain : (c : Name) → HasNoneOnChain w c m → nearest w m (chain_of w c) ≡ None
    none_on_chain c none = none_nearest (chain_of w c) (λ x i. none.none x (chain_of-right c x i))

    -- the way up a chain from its front, over classes without a body
    data Front : Name → Name → Type 0 where
      here : (c : Name) → Front c c
      further : (c d o : Name) → HasNoBody w m c → IsNext w c d → Front d o → Front c o

    longer : (c b d : Name) → Front c b → HasNoBody w m b → IsNext w b d → Front c d
    longer c b d (here _) none next = further c d d none next (here d)
    longer c b d (further _ e _ lacks step rest) none next = further c e d lacks step (longer e b d rest none next)

    from_front : (c o : Name) → Passes w (HasNoBody w m) c o → Front c o
    from_front c o begin = here c
    from_front c o (up b d before none next) = longer c b o (from_front c b before) none next

    front_on_chain : (c o : Name) → Front c o → IsOnChain w c o
    front_on_chain c o (here _) = stay
    front_on_chain c o (further _ d _ none next rest) = joined (IsNext w) c d o (on c d stay next) (front_on_chain d o rest)

    -- what a chain has gone through, the last first: each class lacks a body, and is followed by the one before it here
    abbrev Trail : Name → List Name → Type 0
    Trail c [] = Unit {0}
    Trail c (s ∷ ss) = HasNoBody w m s × IsNext w s c × Trail s ss

    behind : (c : Name) (seen : List Name) → Trail c seen → (y : Name) → Among y seen → HasNoBody w m y × ((z : Name) → IsNext w y z → Among z (c ∷ seen))
    behind c [] t y h = impossible h
    behind c (s ∷ ss) t y h = go (or_cases (is_same y s) (list_any (is_same y) ss) h) (λ i. behind s ss t.2 y i)
      where
        go : (is_same y s ≡ true) ⊎ Among y ss → (Among y ss → HasNoBody w m y × ((z : Name) → IsNext w y z → Among z (s ∷ ss))) → HasNoBody w m y × ((z : Name) → IsNext w y z → Among z (c ∷ s ∷ ss))
        go (inl e) later = (subst (HasNoBody w m) (sym (same_name y s e)) t.0, λ z next. or_left (is_same z c) (list_any (is_same z) (s ∷ ss)) (follows z next))
          where
            follows : (z : Name) → IsNext w y z → is_same z c ≡ true
            follows z next = let one : Some z ≡ Some c = sym next ∙ subst (λ (n : Name). IsNext w n c) (sym (same_name y s e)) t.1 in let same : z ≡ c = cc in subst (λ (n : Name). is_same z n ≡ true) same (is_same_itself z)
        go (inr i) later = let r = later i in (r.0, λ z next. or_right (is_same z c) (list_any (is_same z) (s ∷ ss)) (r.1 z next))

    -- a chain that comes back to a class it went through comes to no body
    trapped : (c : Name) (seen : List Name) → Trail c seen → Among c seen → (x o : Name) → Front x o → Among x seen → HasNoBody w m o
    trapped c seen t back x o (here _) i = (behind c seen t x i).0
    trapped c seen t back x o (further _ d _ none next rest) i = trapped c seen t back d o rest (go (or_cases (is_same d c) (list_any (is_same d) seen) ((behind c seen t x i).1 d next)))
      where
        go : (is_same d c ≡ true) ⊎ Among d seen → Among d seen
        go (inl e) = subst (λ (n : Name). Among n seen) (sym (same_name d c e)) back
        go (inr j) = j

    -- the class itself has the body, or the rest of the chain
    steps : (k : ℕ) (seen : List Name) (c o : Name) (d : MethodDef) → IsBodyAt w m o d → Front c o → ((x : Name) → HasNoBody w m c → IsNext w c x → Front x o → nearest w m (chain_from w k (c ∷ seen) x) ≡ Some (record { owner = o; method = d })) → nearest w m (c ∷ onward k (c ∷ seen) (next_on_chain w c)) ≡ Some (record { owner = o; method = d })
    steps k seen c o d body (here _) later = ap (λ (p : Option MethodDef). or_found p c (nearest w m (onward k (c ∷ seen) (next_on_chain w c)))) (body_found w m c d body)
    steps k seen c o d body (further _ x _ none next rest) later =
        ap (λ (p : Option MethodDef). or_found p c (nearest w m (onward k (c ∷ seen) (next_on_chain w c)))) (none_found w m c none) ∙
        ap (λ (n : Option Name). nearest w m (onward k (c ∷ seen) n)) next ∙
        later x none next rest

    reached : (k : ℕ) (seen : List Name) (c o : Name) (d : MethodDef) → IsBodyAt w m o d → Front c o → Trail c seen → IsDistinct is_same seen → AreKnown seen → k + length seen ≡ longest w → nearest w m (chain_from w k seen c) ≡ Some (record { owner = o; method = d })
    reached zero seen c o d body front t once known e = absurd (omega (arith, few seen once known, e))
    reached (suc k) seen c o d body front t once known e = go (list_any (is_same c) seen) refl (λ x. reached k (c ∷ seen) x o d body)
      where
        known_here : is_known w c ≡ true
        known_here = begins_known c o body.class (front_on_chain c o front) body.is_class

        go : (b : Bool) → list_any (is_same c) seen ≡ b → ((x : Name) → Front x o → Trail x (c ∷ seen) → IsDistinct is_same (c ∷ seen) → AreKnown (c ∷ seen) → k + length (c ∷ seen) ≡ longest w → nearest w m (chain_from w k (c ∷ seen) x) ≡ Some (record { owner = o; method = d })) → nearest w m (if b then [] else (c ∷ onward k (c ∷ seen) (next_on_chain w c))) ≡ Some (record { owner = o; method = d })
        go true back later = absurd ((trapped c seen t back c o front back).none d body)
        go false new later = steps k seen c o d body front (λ x none next rest. later x rest (none, next, t) (IsDistinct-cons is_same c seen (differ c seen new) once) (another_known c seen known_here known) (omega (arith, e)))

    pub nearest_reached : (c o : Name) (d : MethodDef) → IsNearest w c m d o → nearest w m (chain_of w c) ≡ Some (record { owner = o; method = d })
    unfolding IsDistinct
    nearest_reached c o d n = reached (longest w) [] c o d n.body (from_front c o n.passes) tt tt (λ q i. impossible i) (omega arith)
