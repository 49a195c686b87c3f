-- What a reflective call reaches, as it is worked out and as a world has it.
use Rattle.std.proofs.Common.{◌≡◌, ℕ, zero, suc, ◌+◌, Bool, true, false, ◌&&◌, List, [], ◌∷◌, length, Contains, Option, Some, None, if◌then◌else◌, refl, sym, ap, ◌∙◌, subst, inl, inr, arith}
use Rattle.std.specs.Prelude.{◌⊎◌, filter}
use Rattle.std.specs.Cmp.Lexicographic.{pointwise}
use Rattle.std.specs.List.{list_all, list_any, IsDistinct}
use Rattle.std.proofs.lemmas.Bool.{and_parts, and_from, or_cases, or_left, or_right}
use Rattle.std.proofs.lemmas.Map.Keys.{IsDistinct-cons}
use Rattle.worklist.proofs.Inserted.{nothing_in}
use Rattle.ir_mean.specs.Ancestors.{IsNext, IsOnChain, next_on_chain}
use Rattle.ir_mean.specs.Calls.{IsNamedBy, IsNarrowest, HasNoNarrowest, IsChosen, narrowest, least, HasNoneNamed, IsChosenAt, IsProxyTarget}
use Rattle.ir_mean.specs.Dispatch.{longest, chain_from, chain_of, is_public, is_sub, first_of, methods_in, is_named_by, is_narrowest, lesser_method, least_method, or_least, chosen, or_further, proxy_among, proxy_target}
use Rattle.ir_mean.specs.Known.{Name, Classes, is_same, is_known, class_of}
use Rattle.ir_mean.specs.Paths.{stay, on, HasNone}
use Rattle.ir_mean.specs.Refusals.{is_before}
use Rattle.ir_mean.specs.Resolution.{Passes, begin, up, missing, Resolves, by_ancestors, undeclared}
use Rattle.ir_mean.proofs.LawsHold.{joined}
use Rattle.ir_mean.proofs.Orders.{same_name, is_same_itself, before_not_after, not_before_itself, before_trans, before_or_not, differs_after}
use Rattle.ir_mean.proofs.Searches.{contains_at, stands_at}
use Rattle.ir_mean.proofs.SubtypesFound.{subtypes_are_worked_out}
use Rattle.sj_names.proofs.Same.{impossible, method-same, namespace-same, text-refl}
use Rattle.sj_names.specs.MethodNames.{spelled_method}
use Rattle.sj_names.specs.Same.{is_same_text, is_same_reference, is_same_namespace}
use Rattle.sj_names.specs.declared.method_names.MethodName.{MethodName}
use Rattle.sj_names.specs.declared.method_names.Namespace.{Namespace}
use Rattle.sj_names.specs.declared.method_names.Namespace.TheVariants.{Public}
use Rattle.sj_names.specs.declared.references.TypeRef.{TypeRef}
use Rattle.sj_trees.specs.declared.classes.ClassDef.{ClassDef}
use Rattle.sj_trees.specs.declared.classes.MethodDef.{MethodDef}
use Rattle.dispatch_laws.specs.Laws.{IsProxied, ProxiesAreWorkedOut}
use Rattle.dispatch_laws.proofs.Chains.{Among, differ, begins_known, chain_rises, onward, AreKnown, another_known, few}
use Rattle.dispatch_laws.proofs.Lists.{first_stands, stands_behind, first_or_behind, kept_stands, kept_passes, is_kept}
use Rattle.dispatch_laws.proofs.SameNames.{references-itself}

module _ {X : Type 0} where
  -- a test of all
  all_tells : (p : X → Bool) (xs : List X) → list_all p xs ≡ true → (x : X) → Contains xs x → p x ≡ true
  all_tells p [] h x c = nothing_in x c
  all_tells p (y ∷ ys) h x c = let parts = and_parts (p y) (list_all p ys) h in go parts.0 (first_or_behind y ys x c) (all_tells p ys parts.1 x)
    where
      go : p y ≡ true → (y ≡ x) ⊎ Contains ys x → (Contains ys x → p x ≡ true) → p x ≡ true
      go first (inl e) later = subst (λ (z : X). p z ≡ true) e first
      go first (inr i) later = later i

  all_from : (p : X → Bool) (xs : List X) → ((x : X) → Contains xs x → p x ≡ true) → list_all p xs ≡ true
  all_from p [] h = refl
  all_from p (y ∷ ys) h = and_from (p y) (list_all p ys) (h y (first_stands y ys)) (all_from p ys (λ x i. h x (stands_behind y ys x i)))

-- nothing stands in what is empty
first_in : {X : Type 0} (xs : List X) → (x : X) → Contains xs x → xs ≡ [] → {A : Type 0} → A
first_in xs x c e = nothing_in x (subst (λ (ys : List _). Contains ys x) e c)

module _ (p : MethodName) where
  -- which methods the name names
  named_right : (d : MethodDef) → is_named_by p d ≡ true → IsNamedBy p d
  named_right d h =
      let both = and_parts (is_public d && is_same_text p.simple d.name.simple) (pointwise is_same_reference p.params d.name.params) h in
      let front = and_parts (is_public d) (is_same_text p.simple d.name.simple) both.0 in
      let same : record { simple = p.simple; params = p.params; result = None } ≡ record { simple = d.name.simple; params = d.name.params; result = None } = method-same (record { simple = p.simple; params = p.params; result = None }) (record { simple = d.name.simple; params = d.name.params; result = None }) (and_from (is_same_text p.simple d.name.simple && pointwise is_same_reference p.params d.name.params) true (and_from (is_same_text p.simple d.name.simple) (pointwise is_same_reference p.params d.name.params) front.1 both.1) refl) in
      record { namespace_is = namespace-same d.namespace Public front.0; simple_is = sym (ap (λ (m : MethodName). m.simple) same); params_are = sym (ap (λ (m : MethodName). m.params) same) }

  named_tells : (d : MethodDef) → IsNamedBy p d → is_named_by p d ≡ true
  named_tells d n = and_from (is_public d && is_same_text p.simple d.name.simple) (pointwise is_same_reference p.params d.name.params) (and_from (is_public d) (is_same_text p.simple d.name.simple) (subst (λ (s : Namespace). is_same_namespace s Public ≡ true) (sym n.namespace_is) refl) (subst (λ (s : List ℕ). is_same_text p.simple s ≡ true) (sym n.simple_is) (text-refl p.simple))) (subst (λ (rs : List TypeRef). pointwise is_same_reference p.params rs ≡ true) (sym n.params_are) (references-itself p.params))

  abbrev before : MethodDef → MethodDef → Bool
  before a b = is_before (spelled_method a.name) (spelled_method b.name)

  -- what comes behind none of two comes behind neither
  not_before : (y e x : MethodDef) → before y e ≡ false → before e x ≡ false → before y x ≡ false
  not_before y e x h k = before_or_not (spelled_method y.name) (spelled_method x.name) wrong
    where
      spelled : MethodDef → Name
      spelled d = spelled_method d.name

      wrong : before y x ≡ true → ⊥
      wrong b = go (is_same (spelled e) (spelled x)) refl
        where
          go : (t : Bool) → is_same (spelled e) (spelled x) ≡ t → ⊥
          go true s = let r : before y e ≡ true = subst (λ (n : Name). is_before (spelled y) n ≡ true) (sym (same_name (spelled e) (spelled x) s)) b in cc
          go false s = let r : before y e ≡ true = before_trans (spelled y) (spelled x) (spelled e) b (differs_after (spelled x) (spelled e) k (turned s)) in cc
            where
              turned : is_same (spelled e) (spelled x) ≡ false → is_same (spelled x) (spelled e) ≡ false
              turned f = by (is_same (spelled x) (spelled e)) refl
                where
                  by : (t : Bool) → is_same (spelled x) (spelled e) ≡ t → is_same (spelled x) (spelled e) ≡ false
                  by false q = q
                  by true q = let r : is_same (spelled e) (spelled x) ≡ true = subst (λ (n : Name). is_same (spelled e) n ≡ true) (sym (same_name (spelled x) (spelled e) q)) (is_same_itself (spelled e)) in cc

  -- the least of methods stands among them, and none comes before it
  record IsLeast (ds : List MethodDef) (d : MethodDef) : Type 0 where
    among : Contains ds d
    least_of : (y : MethodDef) → Contains ds y → before y d ≡ false

  least_right : (ds : List MethodDef) (d : MethodDef) → least_method ds ≡ Some d → IsLeast ds d
  least_right [] d e = absurd (cc)
  least_right (x ∷ xs) d e = go (least_method xs) refl e (least_right xs)
    where
      first : IsLeast (x ∷ xs) x → Some x ≡ Some d → IsLeast (x ∷ xs) d
      first l s = let same : x ≡ d = cc in subst (IsLeast (x ∷ xs)) same l

      empty : (ys : List MethodDef) → least_method ys ≡ None → (y : MethodDef) → Contains ys y → before y x ≡ false
      empty [] n y c = nothing_in y c
      empty (z ∷ zs) n y c = some_least (least_method zs) n
        where
          some_least : {A : Type 0} (o : Option MethodDef) → lesser_method z o ≡ None → A
          some_least None k = cc
          some_least (Some w) k = by (is_before (spelled_method w.name) (spelled_method z.name)) k
            where
              by : {A : Type 0} (b : Bool) → (if b then Some w else Some z) ≡ None → A
              by true k = cc
              by false k = cc

      itself : ((y : MethodDef) → Contains xs y → before y x ≡ false) → IsLeast (x ∷ xs) x
      itself h = record { among = first_stands x xs; least_of = λ y c. at y (first_or_behind x xs y c) }
        where
          at : (y : MethodDef) → (x ≡ y) ⊎ Contains xs y → before y x ≡ false
          at y (inl s) = subst (λ (z : MethodDef). before z x ≡ false) s (not_before_itself (spelled_method x.name))
          at y (inr i) = h y i

      compared : (w : MethodDef) → IsLeast xs w → (b : Bool) → before w x ≡ b → (if b then Some w else Some x) ≡ Some d → IsLeast (x ∷ xs) d
      compared w l true b s = let same : w ≡ d = cc in subst (IsLeast (x ∷ xs)) same (record { among = stands_behind x xs w l.among; least_of = λ y c. at y (first_or_behind x xs y c) })
        where
          at : (y : MethodDef) → (x ≡ y) ⊎ Contains xs y → before y w ≡ false
          at y (inl q) = subst (λ (z : MethodDef). before z w ≡ false) q (before_not_after (spelled_method w.name) (spelled_method x.name) b)
          at y (inr i) = l.least_of y i
      compared w l false b s = first (itself (λ y i. not_before y w x (l.least_of y i) b)) s

      go : (o : Option MethodDef) → least_method xs ≡ o → lesser_method x o ≡ Some d → ((k : MethodDef) → least_method xs ≡ Some k → IsLeast xs k) → IsLeast (x ∷ xs) d
      go None n s later = first (itself (empty xs n)) s
      go (Some w) n s later = compared w (later w n) (before w x) refl s

  none_least : (ds : List MethodDef) → least_method ds ≡ None → ds ≡ []
  none_least [] e = refl
  none_least (x ∷ xs) e = absurd (go (least_method xs) e)
    where
      by : (w : MethodDef) (b : Bool) → (if b then Some w else Some x) ≡ None → ⊥
      by w true k = cc
      by w false k = cc

      go : (o : Option MethodDef) → lesser_method x o ≡ None → ⊥
      go None k = cc
      go (Some w) k = by w (before w x) k

  first_stands_in : (ds : List MethodDef) (d : MethodDef) → first_of ds ≡ Some d → Contains ds d
  first_stands_in [] d e = absurd (cc)
  first_stands_in (x ∷ xs) d e = let same : x ≡ d = cc in subst (Contains (x ∷ xs)) same (first_stands x xs)

  none_first : (ds : List MethodDef) → first_of ds ≡ None → ds ≡ []
  none_first [] e = refl
  none_first (x ∷ xs) e = absurd (cc)

  module _ (w : Classes) where
    -- of the methods of one class
    module _ (methods : List MethodDef) where
      abbrev ds : List MethodDef
      ds = filter (is_named_by p) methods

      named_in : (d : MethodDef) → Contains ds d → Contains methods d × IsNamedBy p d
      named_in d c = (kept_stands (is_named_by p) methods d c, named_right d (kept_passes (is_named_by p) methods d c))

      kept_named : (d : MethodDef) → Contains methods d → IsNamedBy p d → Contains ds d
      kept_named d c n = is_kept (is_named_by p) methods d (named_tells d n) c

      narrowest_right : (d : MethodDef) → Contains (filter (is_narrowest w ds) ds) d → IsNarrowest w p methods d
      narrowest_right d c =
          let stands = kept_stands (is_narrowest w ds) ds d c in
          let its = named_in d stands in
          record { among = its.0; named = its.1; narrow = record { below = λ other i n. (subtypes_are_worked_out w d.result other.result).0 (all_tells (λ e. is_sub w d.result e.result) ds (kept_passes (is_narrowest w ds) ds d c) other (kept_named other i n)) } }

      none_narrowest : filter (is_narrowest w ds) ds ≡ [] → HasNoNarrowest w p methods
      none_narrowest e = record { none = λ d n. first_in (filter (is_narrowest w ds) ds) d (is_kept (is_narrowest w ds) ds d (all_from (λ x. is_sub w d.result x.result) ds (λ x i. let its = named_in x i in (subtypes_are_worked_out w d.result x.result).1 (n.narrow.below x its.0 its.1))) (kept_named d n.among n.named)) e }

      chosen_right : (d : MethodDef) → chosen w ds ≡ Some d → IsChosen w p methods d
      chosen_right d e = go (first_of (filter (is_narrowest w ds) ds)) refl e
        where
          go : (o : Option MethodDef) → first_of (filter (is_narrowest w ds) ds) ≡ o → or_least ds o ≡ Some d → IsChosen w p methods d
          go (Some k) f s = let same : k ≡ d = cc in subst (IsChosen w p methods) same (narrowest (narrowest_right k (first_stands_in (filter (is_narrowest w ds) ds) k f)))
          go None f s = let l = least_right ds d s in let its = named_in d l.among in least (none_narrowest (none_first (filter (is_narrowest w ds) ds) f)) (record { among = its.0; named = its.1; least = λ other i n. l.least_of other (kept_named other i n) })

      none_chosen : chosen w ds ≡ None → HasNone (IsNamedBy p) methods
      none_chosen e = go (first_of (filter (is_narrowest w ds) ds)) e
        where
          go : (o : Option MethodDef) → or_least ds o ≡ None → HasNone (IsNamedBy p) methods
          go (Some k) s = absurd (cc)
          go None s = record { none = λ i d at n. first_in ds d (kept_named d (contains_at methods i d at) n) (none_least ds s) }

    -- the class itself has a method of the name, or none
    abbrev here : Name → Option MethodDef
    here c = chosen w (filter (is_named_by p) (methods_in (class_of w c)))

    chosen_here : (c : Name) (d : MethodDef) → here c ≡ Some d → IsChosenAt w p c d
    chosen_here c d e = go (class_of w c) refl e
      where
        go : (o : Option ClassDef) → class_of w c ≡ o → chosen w (filter (is_named_by p) (methods_in o)) ≡ Some d → IsChosenAt w p c d
        go (Some k) q f = record { class = k; is_class = q; chosen = chosen_right k.methods d f }
        go None q f = absurd (cc)

    none_at : (c : Name) → here c ≡ None → HasNoneNamed w p c
    none_at c e = record { none = λ k q. none_chosen k.methods (ap (λ (o : Option ClassDef). chosen w (filter (is_named_by p) (methods_in o))) (sym q) ∙ e) }

    -- along a chain
    found_along : (k : ℕ) (seen : List Name) (start c : Name) (d : MethodDef) → Passes w (HasNoneNamed w p) start c → proxy_among w p (chain_from w k seen c) ≡ Some d → (owner : Name) × IsProxyTarget w start p d owner
    found_along zero seen start c d before e = absurd (cc)
    found_along (suc k) seen start c d before e = go (list_any (is_same c) seen) e (λ x. found_along k (c ∷ seen) start x d)
      where
        Later : Type 0
        Later = (x : Name) → Passes w (HasNoneNamed w p) start x → proxy_among w p (chain_from w k (c ∷ seen) x) ≡ Some d → (owner : Name) × IsProxyTarget w start p d owner

        at : Later → (o : Option MethodDef) → here c ≡ o → or_further o (proxy_among w p (onward w k (c ∷ seen) (next_on_chain w c))) ≡ Some d → (owner : Name) × IsProxyTarget w start p d owner
        at later (Some x) h f = let same : x ≡ d = cc in (c, record { passes = before; chosen = chosen_here c d (h ∙ ap Some same) })
        at later None h f = next (next_on_chain w c) refl f
          where
            next : (n : Option Name) → next_on_chain w c ≡ n → proxy_among w p (onward w k (c ∷ seen) n) ≡ Some d → (owner : Name) × IsProxyTarget w start p d owner
            next None q g = absurd (cc)
            next (Some x) q g = later x (up c x before (none_at c h) q) g

        go : (b : Bool) → proxy_among w p (if b then [] else (c ∷ onward w k (c ∷ seen) (next_on_chain w c))) ≡ Some d → Later → (owner : Name) × IsProxyTarget w start p d owner
        go true f later = absurd (cc)
        go false f later = at later (here c) refl f

    none_among : (cs : List Name) → proxy_among w p cs ≡ None → (n : Name) → Contains cs n → HasNoneNamed w p n
    none_among [] e n c = nothing_in n c
    none_among (x ∷ xs) e n c = go (here x) refl e (first_or_behind x xs n c) (none_among xs)
      where
        go : (o : Option MethodDef) → here x ≡ o → or_further o (proxy_among w p xs) ≡ None → (x ≡ n) ⊎ Contains xs n → (proxy_among w p xs ≡ None → (n : Name) → Contains xs n → HasNoneNamed w p n) → HasNoneNamed w p n
        go (Some d) h f i later = absurd (cc)
        go None h f (inl s) later = subst (HasNoneNamed w p) s (none_at x h)
        go None h f (inr i) later = later f n i

-- each class of a world on a chain is worked out to stand on it
module _ (w : Classes) where
  -- the way up a chain from its front
  data Front : Name → Name → Type 0 where
    here_is : (c : Name) → Front c c
    further : (c d o : Name) → IsNext w c d → Front d o → Front c o

  data Opened (c o : Name) : Type 0 where
    at_once : o ≡ c → Opened c o
    later_on : (x : Name) → IsNext w c x → Front x o → Opened c o

  opened : (c o : Name) → Front c o → Opened c o
  opened c _ (here_is _) = at_once refl
  opened c o (further _ x _ next rest) = later_on x next rest

  longer : (c b d : Name) → Front c b → IsNext w b d → Front c d
  longer c b d (here_is _) next = further c d d next (here_is d)
  longer c b d (further _ e _ step rest) next = further c e d step (longer e b d rest next)

  from_front : (c o : Name) → IsOnChain w c o → Front c o
  from_front c _ stay = here_is c
  from_front c o (on b _ path next) = longer c b o (from_front c b path) next

  front_on_chain : (c o : Name) → Front c o → IsOnChain w c o
  front_on_chain c o (here_is _) = stay
  front_on_chain c o (further _ d _ next rest) = joined (IsNext w) c d o (on c d stay next) (front_on_chain d o rest)

  -- what a chain has gone through, the last first: each class is followed by the one before it here
  abbrev Trail : Name → List Name → Type 0
  Trail c [] = Unit {0}
  Trail c (s ∷ ss) = IsNext w s c × Trail s ss

  follows : (c : Name) (seen : List Name) → Trail c seen → (y z : Name) → Among y seen → IsNext w y z → Among z (c ∷ seen)
  follows c [] t y z h next = impossible h
  follows c (s ∷ ss) t y z h next = go (or_cases (is_same y s) (list_any (is_same y) ss) h) (λ i. follows s ss t.1 y z i next)
    where
      go : (is_same y s ≡ true) ⊎ Among y ss → (Among y ss → Among z (s ∷ ss)) → Among z (c ∷ s ∷ ss)
      go (inl e) later = or_left (is_same z c) (list_any (is_same z) (s ∷ ss)) (let one : Some z ≡ Some c = sym next ∙ subst (λ (n : Name). IsNext w n c) (sym (same_name y s e)) t.0 in let same : z ≡ c = cc in subst (λ (n : Name). is_same z n ≡ true) same (is_same_itself z))
      go (inr i) later = or_right (is_same z c) (list_any (is_same z) (s ∷ ss)) (later i)

  -- a chain that comes back to a class it went through comes to no other class
  trapped : (c : Name) (seen : List Name) → Trail c seen → Among c seen → (x o : Name) → Front x o → Among x seen → Among o seen
  trapped c seen t back x o (here_is _) i = i
  trapped c seen t back x o (further _ d _ next rest) i = trapped c seen t back d o rest (go (or_cases (is_same d c) (list_any (is_same d) seen) (follows c seen t x d i next)))
    where
      go : (is_same d c ≡ true) ⊎ Among d seen → Among d seen
      go (inl e) = subst (λ (n : Name). Among n seen) (sym (same_name d c e)) back
      go (inr j) = j

  reached : (k : ℕ) (seen : List Name) (c o : Name) (class : ClassDef) → class_of w o ≡ Some class → Front c o → Trail c seen → IsDistinct is_same seen → AreKnown w seen → k + length seen ≡ longest w → Contains (chain_from w k seen c) o ⊎ Among o seen
  reached zero seen c o class is front t once known e = absurd (omega (arith, few w seen once known, e))
  reached (suc k) seen c o class is front t once known e = go (list_any (is_same c) seen) refl (λ x. reached k (c ∷ seen) x o class is)
    where
      known_here : is_known w c ≡ true
      known_here = begins_known w c o class (front_on_chain c o front) is

      go : (b : Bool) → list_any (is_same c) seen ≡ b → ((x : Name) → Front x o → Trail x (c ∷ seen) → IsDistinct is_same (c ∷ seen) → AreKnown w (c ∷ seen) → k + length (c ∷ seen) ≡ longest w → Contains (chain_from w k (c ∷ seen) x) o ⊎ Among o (c ∷ seen)) → Contains (if b then [] else (c ∷ onward w k (c ∷ seen) (next_on_chain w c))) o ⊎ Among o seen
      go true back later = inr (trapped c seen t back c o front back)
      go false new later = by (opened c o front)
        where
          stands : o ≡ c → Contains (c ∷ onward w k (c ∷ seen) (next_on_chain w c)) o
          stands s = subst (Contains (c ∷ onward w k (c ∷ seen) (next_on_chain w c))) (sym s) (first_stands c (onward w k (c ∷ seen) (next_on_chain w c)))

          behind : (x : Name) → IsNext w c x → Contains (chain_from w k (c ∷ seen) x) o ⊎ Among o (c ∷ seen) → Contains (c ∷ onward w k (c ∷ seen) (next_on_chain w c)) o ⊎ Among o seen
          behind x next (inl i) = inl (stands_behind c (onward w k (c ∷ seen) (next_on_chain w c)) o (subst (λ (n : Option Name). Contains (onward w k (c ∷ seen) n) o) (sym next) i))
          behind x next (inr i) = at (or_cases (is_same o c) (list_any (is_same o) seen) i)
            where
              at : (is_same o c ≡ true) ⊎ Among o seen → Contains (c ∷ onward w k (c ∷ seen) (next_on_chain w c)) o ⊎ Among o seen
              at (inl s) = inl (stands (same_name o c s))
              at (inr j) = inr j

          by : Opened c o → Contains (c ∷ onward w k (c ∷ seen) (next_on_chain w c)) o ⊎ Among o seen
          by (at_once s) = inl (stands s)
          by (later_on x next rest) = behind x next (later x rest (next, t) (IsDistinct-cons is_same c seen (differ c seen new) once) (another_known w c seen known_here known) (omega (arith, e)))

  chain_complete : (c o : Name) (class : ClassDef) → class_of w o ≡ Some class → IsOnChain w c o → Contains (chain_of w c) o
  unfolding IsDistinct
  chain_complete c o class is path = go (reached (longest w) [] c o class is (from_front c o path) tt tt (λ q i. impossible i) (omega arith))
    where
      go : Contains (chain_from w (longest w) [] c) o ⊎ Among o [] → Contains (chain_of w c) o
      go (inl i) = i
      go (inr j) = impossible j

pub proxies_are_worked_out : ProxiesAreWorkedOut
proxies_are_worked_out w c p = go (proxy_target w c p) refl
  where
    go : (o : Option MethodDef) → proxy_target w c p ≡ o → IsProxied w c p o
    go (Some d) e = found_along p w (longest w) [] c c d begin e
    go None e = record { none = λ name path. record { none = λ class is. (none_among p w (chain_of w c) e name (chain_complete w c name class is path)).none class is } }

-- what is chosen of methods is one of them that the name names
pub chosen_named : (w : Classes) (p : MethodName) (methods : List MethodDef) (d : MethodDef) → IsChosen w p methods d → Contains methods d × IsNamedBy p d
chosen_named w p methods d (narrowest n) = (n.among, n.named)
chosen_named w p methods d (least none l) = (l.among, l.named)

-- a method that a reflective call reaches has the parameters of the name
pub proxy_params : (w : Classes) (c : Name) (p : MethodName) (d : MethodDef) (owner : Name) → IsProxyTarget w c p d owner → d.name.params ≡ p.params
proxy_params w c p d owner t = (chosen_named w p t.chosen.class.methods d t.chosen.chosen).1.params_are

passes_on_chain : (w : Classes) (p : MethodName) (c o : Name) → Passes w (HasNoneNamed w p) c o → IsOnChain w c o
passes_on_chain w p c _ begin = stay
passes_on_chain w p c o (up b _ before none next) = on b o (passes_on_chain w p c b before) next

-- so a class on the chain declares it, and a call of it is never missing
pub proxy_resolves : (w : Classes) (c : Name) (p : MethodName) (d : MethodDef) (owner : Name) → IsProxyTarget w c p d owner → Resolves w c d.name missing → ⊥
proxy_resolves w c p d owner t (by_ancestors _ h (undeclared none lacks)) =
    let its = chosen_named w p t.chosen.class.methods d t.chosen.chosen in
    lacks (record { owner = owner; above = chain_rises w c owner t.chosen.class (passes_on_chain w p c owner t.passes) t.chosen.is_class; declared = record { class = t.chosen.class; is_class = t.chosen.is_class; declared = record { method = d; among = its.0; is_public = record { namespace_is = its.1.namespace_is; name_is = refl } } } })

-- what is worked out is reached
pub proxy_right : (w : Classes) (c : Name) (p : MethodName) (d : MethodDef) → proxy_target w c p ≡ Some d → (owner : Name) × IsProxyTarget w c p d owner
proxy_right w c p d e = subst (IsProxied w c p) e (proxies_are_worked_out w c p)

-- and where one is reached, one is worked out, also for a class below
pub proxy_below : (w : Classes) (b c : Name) (p : MethodName) (d : MethodDef) (owner : Name) → IsOnChain w b c → IsProxyTarget w c p d owner → (e : MethodDef) × (proxy_target w b p ≡ Some e)
proxy_below w b c p d owner path t = go (proxy_target w b p) refl
  where
    go : (o : Option MethodDef) → proxy_target w b p ≡ o → (e : MethodDef) × (proxy_target w b p ≡ Some e)
    go (Some e) is = (e, is)
    go None is =
        let none = subst (IsProxied w b p) is (proxies_are_worked_out w b p) in
        let its = chosen_named w p t.chosen.class.methods d t.chosen.chosen in
        let lacks = (none.none owner (joined (IsNext w) b c owner path (passes_on_chain w p c owner t.passes))).none t.chosen.class t.chosen.is_class in
        let stands = stands_at t.chosen.class.methods d its.0 in
        absurd (lacks.none its.0.0 d stands its.1)

pub proxy_found : (w : Classes) (c : Name) (p : MethodName) (d : MethodDef) (owner : Name) → IsProxyTarget w c p d owner → (e : MethodDef) × (proxy_target w c p ≡ Some e)
proxy_found w c p d owner t = proxy_below w c c p d owner stay t
