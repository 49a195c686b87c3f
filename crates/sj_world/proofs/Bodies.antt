-- Bodies for a method: of a class, along a chain, of interfaces.
use Rattle.std.proofs.Common.{◌≡◌, ℕ, zero, suc, ◌+◌, ◌≤◌, ◌<◌, Bool, true, false, List, Contains, slice_get, Option, Some, None, MatchOption, IsTrue, refl, sym, ap, ◌∙◌, subst, length, get_or, arith, inl, inr, ◌||◌, cond}
use Rattle.std.specs.Prelude.{◌⊎◌, ◌↔◌, is_some, codes}
use Rattle.std.specs.Ordering.{nat_cmp}
use Rattle.std.specs.Cmp.Lexicographic.{slice_cmp, nat_list_cmp_total}
use Rattle.std.specs.List.Sorted.{IsSorted}
use Rattle.std.proofs.lemmas.List.Sorted.{sorted_far, ranks_by}
use Rattle.std.proofs.lemmas.Option.{slice_get_within, get_or_from_slice_get, slice_get-get_or}
use Rattle.sj_names.specs.declared.method_names.MethodName.{MethodName}
use Rattle.sj_trees.specs.declared.classes.ClassDef.{ClassDef}
use Rattle.sj_trees.specs.declared.classes.MethodDef.{MethodDef}
use Rattle.sj_trees.specs.declared.classes.ClassKind.TheVariants.{Interface}
use Rattle.sj_world.specs.Known.{Name, Classes, is_same, class_of, is_known, is_hijacked, hijacked, stands_as, integer, object}
use Rattle.sj_world.specs.Paths.{stay, on, IsFirst, HasNone}
use Rattle.sj_world.specs.Ancestors.{IsAncestor, IsOnChain, next_on_chain, superclass_in}
use Rattle.sj_world.specs.Tables.{AreChain}
use Rattle.sj_world.specs.Refusals.{is_before}
use Rattle.sj_world.specs.Resolution.{IsBody, IsBodyAt, HasNoBody, HaveNoBody, IsFirstBody, Passes, begin, up, IsNearest, HasNoneOnChain, IsDefault, IsNoDefault, IsOverride, IsOverridden, IsCandidate, IsNoCandidate, IsLeastCandidate, HasNoCandidate, IsDeclaredAt, IsDeclared, Answer, missing, ResolvesAbove, by_default, undeclared, declared}
use Rattle.sj_world.proofs.Orders.{same_name}
use Rattle.sj_world.proofs.OnCycles.{among}
use Rattle.sj_world.proofs.Searches.{NoneYet, Some_body, Some_candidate, none_more, none_whole, none_among, stands_at, contains_at}

-- the same option, of which weaker facts hold
pub weaker : {A : Type 0} (o : Option A) {P R : Type 0} {Q S : A → Type 0} → (P → R) → ((x : A) → Q x → S x) → MatchOption o P Q → MatchOption o R S
weaker None f g h = f h
weaker (Some x) f g h = g x h

pub none_from : {A : Type 0} (o : Option A) (P : Type 0) (Q : A → Type 0) → MatchOption o P Q → ((x : A) → o ≡ Some x → ⊥) → P
none_from None P Q h not = h
none_from (Some x) P Q h not = absurd (not x refl)

module _ (w : Classes) (m : MethodName) (name : Name) where
  same_class : (a b : ClassDef) → class_of w name ≡ Some a → class_of w name ≡ Some b → a ≡ b
  same_class a b e f = let s : Some a ≡ Some b = sym e ∙ f in cc

  none_first : (a b : ClassDef) (d : MethodDef) → class_of w name ≡ Some a → class_of w name ≡ Some b → HasNone (IsBody m) a.methods → IsFirst (IsBody m) b.methods d → ⊥
  none_first a b d e f none first = none.none first.place d (subst (λ (c : ClassDef). slice_get c.methods first.place ≡ Some d) (same_class b a f e) first.stands) first.has

  pub no_body : (class : ClassDef) → Some class ≡ class_of w name → HasNone (IsBody m) class.methods → HasNoBody w m name
  no_body class e none = record { none = λ d b. none_first class b.class d (sym e) b.is_class none b.first }

  pub body_is : (class : ClassDef) (d : MethodDef) → Some class ≡ class_of w name → IsFirst (IsBody m) class.methods d → IsBodyAt w m name d
  body_is class d e first = record { class = class; is_class = sym e; first = first }

  pub no_default : (class : ClassDef) → Some class ≡ class_of w name → HasNone (IsBody m) class.methods → IsNoDefault w m name
  no_default class e none = record { none = λ d b. none_first class b.class d (sym e) b.is_class none b.first }

  pub default_is : (class : ClassDef) (d : MethodDef) → Some class ≡ class_of w name → class.kind ≡ Interface → IsFirst (IsBody m) class.methods d → IsDefault w m name d
  default_is class d e kind first = record { class = class; is_class = sym e; is_interface = kind; first = first }

  -- a chain's first body
  pub first_body_found : (names : List Name) (i : ℕ) (owner : Name) (d : MethodDef) → NoneYet (Some_body w m) names i → slice_get names i ≡ Some name → IsBodyAt w m name d → owner ≡ name → IsFirstBody w m names d owner
  first_body_found names i owner d before at body e = record { place = i; stands = at ∙ ap Some (sym e); body = subst (λ (n : Name). IsBodyAt w m n d) (sym e) body; none_before = λ j n lt there. record { none = λ k b. before.none j n lt there (record { method = k; is_body = b }) } }

  pub no_more_body : (names : List Name) (i : ℕ) → NoneYet (Some_body w m) names i → slice_get names i ≡ Some name → HasNoBody w m name → NoneYet (Some_body w m) names (i + 1)
  no_more_body names i before at none = none_more (Some_body w m) names i name before at (λ b. none.none b.method b.is_body)

pub have_no_body : (w : Classes) (m : MethodName) (names : List Name) (i : ℕ) → NoneYet (Some_body w m) names i → length names ≤ i → HaveNoBody w m names
have_no_body w m names i before over = record { none = λ j n at. record { none = λ d b. (none_whole (Some_body w m) names i before over).none j n at (record { method = d; is_body = b }) } }

module _ (w : Classes) (c : Name) (m : MethodName) (names : List Name) (chain : AreChain w c names) where
  pub contained : (d : Name) → IsOnChain w c d → Contains names d
  contained d stay = contains_at names 0 c chain.begins
  contained d (on b e path next) = chain.closed b e (contained b path) next

  pub none_on_chain : HaveNoBody w m names → HasNoneOnChain w c m
  none_on_chain none = record { none = λ d on_chain. let k = contained d on_chain in none.none k.0 d (stands_at names d k) }

  -- each class of the list before a place lacks it, so the chain passes to that place
  pub passes : (Lacks : Name → Type 0) (place : ℕ) → ((i : ℕ) (n : Name) → i < place → slice_get names i ≡ Some n → Lacks n) → (i : ℕ) (n : Name) → i ≤ place → slice_get names i ≡ Some n → Passes w Lacks c n
  passes Lacks place before zero n le at = let s : Some c ≡ Some n = sym chain.begins ∙ at in let e : c ≡ n = cc in subst (Passes w Lacks c) e begin
  passes Lacks place before (suc i) n le at = up (get_or names i n) n (passes Lacks place before i (get_or names i n) (omega arith) here) (before i (get_or names i n) (omega arith) here) (chain.linked i (get_or names i n) n here (subst (λ (k : ℕ). slice_get names k ≡ Some n) (omega arith) at))
    where
      here : slice_get names i ≡ Some (get_or names i n)
      here = slice_get-get_or names i n (omega (arith, slice_get_within names (suc i) n at))

  pub nearest_is : (d : MethodDef) (owner : Name) → IsFirstBody w m names d owner → IsNearest w c m d owner
  nearest_is d owner f = record { passes = passes (HasNoBody w m) f.place f.none_before f.place owner (omega arith) f.stands; body = f.body }

-- only `java.lang.Byte` and `java.lang.Short` stand as another class
module _ (c : Name) (free : is_hijacked c ≡ false) where
  other_than : (i : ℕ) → i < length hijacked → (b : Bool) → is_same c (get_or hijacked i c) ≡ b → is_same c (get_or hijacked i c) ≡ false
  other_than i lt true e = let k : false ≡ true = sym free ∙ (among hijacked c).1 (i, lt, sym (same_name c (get_or hijacked i c) e)) in cc
  other_than i lt false e = e

  not_byte : is_same c (codes "java.lang.Byte") ≡ false
  not_byte = other_than 3 (omega arith) (is_same c (codes "java.lang.Byte")) refl

  not_short : is_same c (codes "java.lang.Short") ≡ false
  not_short = other_than 4 (omega arith) (is_same c (codes "java.lang.Short")) refl

  pub stands_itself : stands_as c ≡ c
  stands_itself = ap (λ (b : Bool). cond (b || is_same c (codes "java.lang.Short")) integer c) not_byte ∙ ap (λ (b : Bool). cond b integer c) not_short

-- a class that isn't known has no superclass, and stands alone on its chain
module _ (w : Classes) (c : Name) (unknown : is_known w c ≡ false) where
  absent : (o : Option ClassDef) → class_of w c ≡ o → class_of w c ≡ None
  absent None e = e
  absent (Some x) e = let k : is_known w c ≡ true = ap (λ (o : Option ClassDef). is_some o || is_hijacked c) e in cc

  is_absent : class_of w c ≡ None
  is_absent = absent (class_of w c) refl

  not_hijacked : is_hijacked c ≡ false
  not_hijacked = sym (ap (λ (o : Option ClassDef). is_some o || is_hijacked c) is_absent) ∙ unknown

  alone : next_on_chain w c ≡ None
  alone = ap (λ (n : Name). superclass_in (class_of w n) n) (stands_itself c not_hijacked) ∙ ap (λ (o : Option ClassDef). superclass_in o c) is_absent ∙ ap (λ (b : Bool). cond b (Some object) None) not_hijacked

  only_itself : (d : Name) → IsOnChain w c d → d ≡ c
  only_itself d stay = refl
  only_itself d (on b e path next) = let n : None ≡ Some e = sym alone ∙ subst (λ (x : Name). next_on_chain w x ≡ Some e) (only_itself b path) next in cc

  pub absent_on_chain : (d : Name) → IsOnChain w c d → class_of w d ≡ None
  absent_on_chain d on_chain = subst (λ (n : Name). class_of w n ≡ None) (sym (only_itself d on_chain)) is_absent

  pub unknown_none_on_chain : (m : MethodName) → HasNoneOnChain w c m
  unknown_none_on_chain m = record { none = λ d on_chain. record { none = λ k b. none d k b (only_itself d on_chain) } }
    where
      none : (d : Name) (k : MethodDef) → IsBodyAt w m d k → d ≡ c → ⊥
      none d k b e = let n : None ≡ Some b.class = sym is_absent ∙ subst (λ (x : Name). class_of w x ≡ Some b.class) e b.is_class in cc

  pub unknown_resolves : (m : MethodName) → ResolvesAbove w (IsAncestor w c) m missing
  unknown_resolves m = undeclared (record { none = λ name d k. nothing name k.above }) (λ d. nothing d.owner d.above)
    where
      nothing : (d : Name) → IsAncestor w c d → ⊥
      nothing d a = let k : is_known w c ≡ true = a.known in cc

-- interfaces that override others
module _ (w : Classes) (m : MethodName) (name : Name) where
  pub override_tested : {A : Type 0} (method_of : A → MethodDef) (owner_of : A → Name) (other : Name) (o : Option A) (r : Bool) → r ≡ is_some o → MatchOption o (IsNoDefault w m other) (λ f. IsDefault w m other (method_of f) × (owner_of f ≡ other)) → (other ≡ name → ⊥) → IsAncestor w other name → IsTrue r ↔ IsOverride w m name other
  override_tested method_of owner_of other None r e none apart below = (λ h. cc, λ k. absurd (none.none k.method k.is_default))
  override_tested method_of owner_of other (Some f) r e found apart below = (λ h. record { apart = apart; below = below; method = method_of f; is_default = found.0 }, λ k. e)

  pub override_refused_by_name : (other : Name) (r : Bool) → r ≡ false → other ≡ name → IsTrue r ↔ IsOverride w m name other
  override_refused_by_name other r e same = (λ h. cc, λ k. absurd (k.apart same))

  pub override_refused : (other : Name) (r : Bool) → r ≡ false → (IsAncestor w other name → ⊥) → IsTrue r ↔ IsOverride w m name other
  override_refused other r e not_below = (λ h. cc, λ k. absurd (not_below k.below))

  pub never_overridden : (names : List Name) (i : ℕ) → NoneYet (IsOverride w m name) names i → length names ≤ i → IsOverridden w (Contains names) m name → ⊥
  never_overridden names i before over o = none_among (IsOverride w m name) names o.other (none_whole (IsOverride w m name) names i before over) o.above o.override

  pub candidate_is : {A : Type 0} (method_of : A → MethodDef) (owner_of : A → Name) (names : List Name) (o : Option A) → Contains names name → (IsOverridden w (Contains names) m name → ⊥) → MatchOption o (IsNoDefault w m name) (λ f. IsDefault w m name (method_of f) × (owner_of f ≡ name)) → MatchOption o (IsNoCandidate w (Contains names) m name) (λ f. IsCandidate w (Contains names) m name (method_of f) × (owner_of f ≡ name))
  candidate_is method_of owner_of names o above free found = weaker o (λ none. record { none = λ d k. none.none d k.default }) (λ f h. (record { above = above; default = h.0; not_overridden = free }, h.1)) found

  pub least_candidate_found : (names : List Name) (i : ℕ) (owner : Name) (d : MethodDef) → IsSorted (slice_cmp nat_cmp) names → NoneYet (Some_candidate w (Contains names) m) names i → slice_get names i ≡ Some name → IsCandidate w (Contains names) m name d → owner ≡ name → IsLeastCandidate w (Contains names) m d owner
  least_candidate_found names i owner d sorted before at candidate e = record { candidate = subst (λ (n : Name). IsCandidate w (Contains names) m n d) (sym e) candidate; least = λ other k c. subst (λ (n : Name). is_before other n ≡ false) (sym e) (least other k c (places c.above.0)) }
    where
      places : (j : ℕ) → (j < i) ⊎ (i ≤ j)
      places j = grind arith

      least : (other : Name) (k : MethodDef) → (c : IsCandidate w (Contains names) m other k) → (c.above.0 < i) ⊎ (i ≤ c.above.0) → is_before other name ≡ false
      least other k c (inl lt) = absurd (before.none c.above.0 other lt (stands_at names other c.above) (record { method = k; is_candidate = c }))
      least other k c (inr le) = subst (λ (n : Name). is_before n name ≡ false) (get_or_from_slice_get names c.above.0 other name (stands_at names other c.above)) (subst (λ (n : Name). is_before (get_or names c.above.0 name) n ≡ false) (get_or_from_slice_get names i name name at) (sorted_far is_before (ranks_by nat_list_cmp_total (λ (n : Name). n)) names sorted i c.above.0 name le c.above.1))

  pub no_more_candidate : (names : List Name) (i : ℕ) → NoneYet (Some_candidate w (Contains names) m) names i → slice_get names i ≡ Some name → IsNoCandidate w (Contains names) m name → NoneYet (Some_candidate w (Contains names) m) names (i + 1)
  no_more_candidate names i before at none = none_more (Some_candidate w (Contains names) m) names i name before at (λ b. none.none b.method b.is_candidate)

module _ (w : Classes) (m : MethodName) (names : List Name) where
  pub has_no_candidate : (i : ℕ) → NoneYet (Some_candidate w (Contains names) m) names i → length names ≤ i → HasNoCandidate w (Contains names) m
  has_no_candidate i before over = record { none = λ name d c. none_among (Some_candidate w (Contains names) m) names name (none_whole (Some_candidate w (Contains names) m) names i before over) c.above (record { method = d; is_candidate = c }) }

  pub not_declared : (i : ℕ) → NoneYet (IsDeclaredAt w m) names i → length names ≤ i → IsDeclared w (Contains names) m → ⊥
  not_declared i before over d = none_among (IsDeclaredAt w m) names d.owner (none_whole (IsDeclaredAt w m) names i before over) d.above d.declared

-- the same at another list of what stands above
module _ (w : Classes) (m : MethodName) (P Q : Name → Type 0) (to : (n : Name) → P n → Q n) (back : (n : Name) → Q n → P n) where
  candidate_at : (name : Name) (d : MethodDef) → IsCandidate w P m name d → IsCandidate w Q m name d
  candidate_at name d c = record { above = to name c.above; default = c.default; not_overridden = λ o. c.not_overridden (record { other = o.other; above = back o.other o.above; override = o.override }) }

module _ (w : Classes) (m : MethodName) (P Q : Name → Type 0) (to : (n : Name) → P n → Q n) (back : (n : Name) → Q n → P n) where
  no_candidate_at : HasNoCandidate w P m → HasNoCandidate w Q m
  no_candidate_at h = record { none = λ name d c. h.none name d (candidate_at w m Q P back to name d c) }

  pub resolves_at : (r : Answer) → ResolvesAbove w P m r → ResolvesAbove w Q m r
  resolves_at r (by_default d owner l) = by_default d owner (record { candidate = candidate_at w m P Q to back owner d l.candidate; least = λ other e c. l.least other e (candidate_at w m Q P back to other e c) })
  resolves_at r (undeclared n d) = undeclared (no_candidate_at n) (λ k. d (record { owner = k.owner; above = back k.owner k.above; declared = k.declared }))
  resolves_at r (declared n d) = declared (no_candidate_at n) (record { owner = d.owner; above = to d.owner d.above; declared = d.declared })
