-- The targets of reflective calls.
use Rattle.std.proofs.Common.{◌≡◌, ℕ, ◌+◌, ◌≤◌, ◌<◌, Bool, true, false, List, ◌∷◌, ◌++◌, slice_get, Option, Some, None, MatchOption, IsTrue, refl, sym, ap, ◌∙◌, subst, length, arith, inl, inr, cond}
use Rattle.std.specs.Prelude.{◌⊎◌, ◌↔◌, nat_eq, option_map}
use Rattle.std.specs.Ordering.{is_lt}
use Rattle.std.specs.Bool.{Decides}
use Rattle.std.specs.Cmp.Lexicographic.{pointwise}
use Rattle.std.proofs.lemmas.Bool.{and_parts, and_from}
use Rattle.std.proofs.lemmas.Bool.Decides.{Decides-eqb}
use Rattle.std.proofs.lemmas.Slice.Eq.{bytes_eq-Decides, slice_eq-Decides}
use Rattle.sj_names.specs.declared.references.ArrayRef.{ArrayRef}
use Rattle.sj_names.specs.declared.references.BaseRef.{BaseRef}
use Rattle.sj_names.specs.declared.references.TypeRef.{TypeRef}
use Rattle.sj_names.specs.contracts.references.BaseRefPartialEq.TheImpl as base_eq
use Rattle.sj_names.specs.contracts.references.ArrayRefPartialEq.TheImpl as array_eq
use Rattle.sj_names.specs.contracts.references.TypeRefPartialEq.TheImpl as type_eq
use Rattle.sj_names.specs.declared.method_names.MethodName.{MethodName}
use Rattle.sj_names.specs.MethodNames.{spelled_method, spelled_result, spelled_parameters}
use Rattle.sj_trees.specs.declared.types.IrType.{IrType}
use Rattle.sj_trees.specs.declared.classes.ClassDef.{ClassDef}
use Rattle.sj_trees.specs.declared.classes.MethodDef.{MethodDef}
use Rattle.sj_world.specs.Known.{Name, Classes, class_of, is_known}
use Rattle.sj_world.specs.Paths.{HasNone}
use Rattle.sj_world.specs.Tables.{AreChain}
use Rattle.sj_world.specs.Refusals.{is_before}
use Rattle.sj_world.specs.Subtypes.{IsSub}
use Rattle.sj_world.specs.Calls.{IsNamedBy, IsBelowAll, IsNarrowest, HasNoNarrowest, IsLeastNamed, lesser, IsChosen, HasNoneNamed, IsChosenAt, IsProxyTarget, HasNoProxyTarget, IsFirstChosen, HaveNoneNamed}
use Rattle.sj_world.proofs.Orders.{compared, before_trans, before_or_not, not_before_itself}
use Rattle.sj_world.proofs.Searches.{NoneYet, none_more, none_whole, none_among, stands_at, contains_at, AllYet, all_whole}
use Rattle.sj_world.proofs.Bodies.{contained, passes, absent_on_chain}
use Rattle.sj_world.proofs.Spelled.{same_front}

-- the class of this name declares a method that p names
pub record Declares (w : Classes) (p : MethodName) (name : Name) : Type 0 where
  pub class : ClassDef
  pub is_class : class_of w name ≡ Some class
  pub method : MethodDef
  pub place : ℕ
  pub stands : slice_get class.methods place ≡ Some method
  pub named : IsNamedBy p method

module _ (w : Classes) (p : MethodName) (name : Name) where
  same_class : (a b : ClassDef) → class_of w name ≡ Some a → class_of w name ≡ Some b → a ≡ b
  same_class a b e f = let s : Some a ≡ Some b = sym e ∙ f in cc

  pub none_named : (class : ClassDef) → Some class ≡ class_of w name → HasNone (IsNamedBy p) class.methods → HasNoneNamed w p name
  none_named class e none = record { none = λ other f. subst (λ (k : ClassDef). HasNone (IsNamedBy p) k.methods) (same_class class other (sym e) f) none }

  pub absent_none_named : class_of w name ≡ None → HasNoneNamed w p name
  absent_none_named e = record { none = λ other f. let s : None ≡ Some other = sym e ∙ f in cc }

  pub chosen_is : (class : ClassDef) (d : MethodDef) → Some class ≡ class_of w name → IsChosen w p class.methods d → IsChosenAt w p name d
  chosen_is class d e chosen = record { class = class; is_class = sym e; chosen = chosen }

  pub none_declared : (Declares w p name → ⊥) → HasNoneNamed w p name
  none_declared h = record { none = λ class e. record { none = λ i d at named. h (record { class = class; is_class = e; method = d; place = i; stands = at; named = named }) } }

  pub not_declaring : HasNoneNamed w p name → Declares w p name → ⊥
  not_declaring none k = (none.none k.class k.is_class).none k.place k.method k.stands k.named

  -- along names
  pub first_chosen_found : (names : List Name) (i : ℕ) (owner : Name) (d : MethodDef) → NoneYet (Declares w p) names i → slice_get names i ≡ Some name → IsChosenAt w p name d → owner ≡ name → IsFirstChosen w p names d owner
  first_chosen_found names i owner d before at chosen e = record { place = i; stands = at ∙ ap Some (sym e); chosen = subst (λ (n : Name). IsChosenAt w p n d) (sym e) chosen; none_before = λ j n lt there. record { none = λ class f. record { none = λ k x stands named. before.none j n lt there (record { class = class; is_class = f; method = x; place = k; stands = stands; named = named }) } } }

  pub no_more_chosen : (names : List Name) (i : ℕ) → NoneYet (Declares w p) names i → slice_get names i ≡ Some name → HasNoneNamed w p name → NoneYet (Declares w p) names (i + 1)
  no_more_chosen names i before at none = none_more (Declares w p) names i name before at (not_declaring none)

pub have_none_named : (w : Classes) (p : MethodName) (names : List Name) (i : ℕ) → NoneYet (Declares w p) names i → length names ≤ i → HaveNoneNamed w p names
have_none_named w p names i before over = record { none = λ j n at. none_declared w p n (λ k. (none_whole (Declares w p) names i before over).none j n at k) }

module _ (w : Classes) (c : Name) (p : MethodName) (names : List Name) (chain : AreChain w c names) where
  pub none_on : HaveNoneNamed w p names → HasNoProxyTarget w c p
  none_on none = record { none = λ d on_chain. let k = contained w c p names chain d on_chain in none.none k.0 d (stands_at names d k) }

  pub target_is : (d : MethodDef) (owner : Name) → IsFirstChosen w p names d owner → IsProxyTarget w c p d owner
  target_is d owner f = record { passes = passes w c p names chain (HasNoneNamed w p) f.place f.none_before f.place owner (omega arith) f.stands; chosen = f.chosen }

pub unknown_no_target : (w : Classes) (c : Name) → is_known w c ≡ false → (p : MethodName) → HasNoProxyTarget w c p
unknown_no_target w c unknown p = record { none = λ d on_chain. absent_none_named w p d (absent_on_chain w c unknown d on_chain) }

-- the narrowest
pub record IsNarrow (w : Classes) (p : MethodName) (methods : List MethodDef) (d : MethodDef) : Type 0 where
  pub named : IsNamedBy p d
  pub narrow : IsBelowAll w p methods d.result

module _ (w : Classes) (p : MethodName) (methods : List MethodDef) where
  pub narrowest_found : (i : ℕ) (d : MethodDef) → slice_get methods i ≡ Some d → IsNamedBy p d → IsBelowAll w p methods d.result → IsNarrowest w p methods d
  narrowest_found i d at named narrow = record { among = contains_at methods i d at; named = named; narrow = narrow }

  pub no_narrowest : (i : ℕ) → NoneYet (IsNarrow w p methods) methods i → length methods ≤ i → HasNoNarrowest w p methods
  no_narrowest i before over = record { none = λ d k. none_among (IsNarrow w p methods) methods d (none_whole (IsNarrow w p methods) methods i before over) k.among (record { named = k.named; narrow = k.narrow }) }

-- where a method is named, a type is a subtype of its result
abbrev pub StandsBelow : Classes → MethodName → IrType → MethodDef → Type 0
StandsBelow w p t d = IsNamedBy p d → IsSub w t d.result

module _ (w : Classes) (p : MethodName) (methods : List MethodDef) (t : IrType) where
  pub below_all : (i : ℕ) → AllYet (StandsBelow w p t) methods i → length methods ≤ i → IsBelowAll w p methods t
  below_all i before over = record { below = λ d among named. all_whole (StandsBelow w p t) methods i d before over among named }

  pub not_below_all : (i : ℕ) (d : MethodDef) → slice_get methods i ≡ Some d → IsNamedBy p d → (IsSub w t d.result → ⊥) → IsBelowAll w p methods t → ⊥
  not_below_all i d at named not all = not (all.below d (contains_at methods i d at) named)

-- the least
abbrev pub results_before : MethodDef → MethodDef → Bool
results_before d other = is_before (spelled_result d.name.result) (spelled_result other.name.result)

module _ (p : MethodName) where
  abbrev front : List ℕ
  front = p.simple ++ spelled_parameters p.params

  -- of two methods that p names the results decide
  by_results : (d other : MethodDef) → IsNamedBy p d → IsNamedBy p other → is_before (spelled_method d.name) (spelled_method other.name) ≡ results_before d other
  by_results d other n m = ap is_lt ((λ i. compared (spelled_so d n i) (spelled_so other m i)) ∙ same_front front _ _)
    where
      spelled_so : (k : MethodDef) → IsNamedBy p k → spelled_method k.name ≡ front ++ (0x3b ∷ spelled_result k.name.result)
      spelled_so k named = λ i. (named.simple_is i ++ spelled_parameters (named.params_are i)) ++ (0x3b ∷ spelled_result k.name.result)

-- the least of the first methods that p names
pub record IsLeastYet (p : MethodName) (methods : List MethodDef) (n : ℕ) (d : MethodDef) : Type 0 where
  pub place : ℕ
  pub early : place < n
  pub stands : slice_get methods place ≡ Some d
  pub named : IsNamedBy p d
  pub least : (i : ℕ) (other : MethodDef) → i < n → slice_get methods i ≡ Some other → IsNamedBy p other → results_before other d ≡ false

abbrev pub LeastYet : MethodName → List MethodDef → ℕ → Option MethodDef → Type 0
LeastYet p methods n o = MatchOption o (NoneYet (IsNamedBy p) methods n) (IsLeastYet p methods n)

module _ (p : MethodName) (methods : List MethodDef) (n : ℕ) (d : MethodDef) (at : slice_get methods n ≡ Some d) where
  places : (i : ℕ) → i < n + 1 → (i < n) ⊎ (i ≡ n)
  places i lt = grind arith

  same_there : (i : ℕ) (other : MethodDef) → slice_get methods i ≡ Some other → i ≡ n → d ≡ other
  same_there i other there e = let s : Some d ≡ Some other = sym at ∙ ap (slice_get methods) (sym e) ∙ there in cc

  first_least : NoneYet (IsNamedBy p) methods n → IsNamedBy p d → IsLeastYet p methods (n + 1) d
  first_least before named = record { place = n; early = omega arith; stands = at; named = named; least = λ i other lt there m. split i other there m (places i lt) }
    where
      split : (i : ℕ) (other : MethodDef) → slice_get methods i ≡ Some other → IsNamedBy p other → (i < n) ⊎ (i ≡ n) → results_before other d ≡ false
      split i other there m (inl lt) = absurd (before.none i other lt there m)
      split i other there m (inr e) = subst (λ (k : MethodDef). results_before k d ≡ false) (same_there i other there e) (not_before_itself (spelled_result d.name.result))

  newer_least : (l : MethodDef) → IsLeastYet p methods n l → IsNamedBy p d → results_before d l ≡ true → IsLeastYet p methods (n + 1) d
  newer_least l before named less = record { place = n; early = omega arith; stands = at; named = named; least = λ i other lt there m. split i other there m (places i lt) }
    where
      under : (other : MethodDef) → results_before other l ≡ false → results_before other d ≡ true → ⊥
      under other not h = let t : results_before other l ≡ true = before_trans (spelled_result other.name.result) (spelled_result d.name.result) (spelled_result l.name.result) h less in let f : true ≡ false = sym t ∙ not in cc

      split : (i : ℕ) (other : MethodDef) → slice_get methods i ≡ Some other → IsNamedBy p other → (i < n) ⊎ (i ≡ n) → results_before other d ≡ false
      split i other there m (inl lt) = before_or_not (spelled_result other.name.result) (spelled_result d.name.result) (under other (before.least i other lt there m))
      split i other there m (inr e) = subst (λ (k : MethodDef). results_before k d ≡ false) (same_there i other there e) (not_before_itself (spelled_result d.name.result))

  older_least : (l : MethodDef) → IsLeastYet p methods n l → (IsNamedBy p d → results_before d l ≡ false) → IsLeastYet p methods (n + 1) l
  older_least l before not_less = record { place = before.place; early = omega (arith, before.early); stands = before.stands; named = before.named; least = λ i other lt there m. split i other there m (places i lt) }
    where
      split : (i : ℕ) (other : MethodDef) → slice_get methods i ≡ Some other → IsNamedBy p other → (i < n) ⊎ (i ≡ n) → results_before other l ≡ false
      split i other there m (inl lt) = before.least i other lt there m
      split i other there m (inr e) = subst (λ (k : MethodDef). IsNamedBy p k → results_before k l ≡ false) (same_there i other there e) not_less m

  pub least_goes_on : (o : Option MethodDef) → LeastYet p methods n o → IsNamedBy p d → IsLeastYet p methods (n + 1) (lesser o d)
  least_goes_on None before named = first_least before named
  least_goes_on (Some l) before named = go (results_before d l) refl
    where
      go : (b : Bool) → results_before d l ≡ b → IsLeastYet p methods (n + 1) (lesser (Some l) d)
      go true e = subst (IsLeastYet p methods (n + 1)) (sym (ap (λ (b : Bool). cond b d l) e)) (newer_least l before named e)
      go false e = subst (IsLeastYet p methods (n + 1)) (sym (ap (λ (b : Bool). cond b d l) e)) (older_least l before (λ _. e))

  pub least_stays : (o : Option MethodDef) → LeastYet p methods n o → (IsNamedBy p d → ⊥) → LeastYet p methods (n + 1) o
  least_stays None before not = none_more (IsNamedBy p) methods n d before at not
  least_stays (Some l) before not = older_least l before (λ m. absurd (not m))

pub least_ends : (p : MethodName) (methods : List MethodDef) (n : ℕ) (o : Option MethodDef) → LeastYet p methods n o → length methods ≤ n → MatchOption o (HasNone (IsNamedBy p) methods) (IsLeastNamed p methods)
least_ends p methods n None before over = none_whole (IsNamedBy p) methods n before over
least_ends p methods n (Some d) before over = record {
  among = contains_at methods before.place d before.stands;
  named = before.named;
  least = λ other c m. by_results p other d m before.named ∙ before.least c.0 other (omega (arith, c.1)) (stands_at methods other c) m;
}

-- a fact of an option whose item is seen through a function
pub through : {A B : Type 0} (f : A → B) (o : Option A) (P : Type 0) (Q : B → Type 0) → MatchOption (option_map f o) P Q → MatchOption o P (λ x. Q (f x))
through f None P Q h = h
through f (Some x) P Q h = h

-- two lists of references that compare as equal are one
base_decides : (a b : BaseRef) → Decides (base_eq.ghosts.eq a b) (a ≡ b)
base_decides BaseRef.Boolean BaseRef.Boolean = (λ h. refl, λ h. refl)
base_decides BaseRef.Char BaseRef.Char = (λ h. refl, λ h. refl)
base_decides BaseRef.Byte BaseRef.Byte = (λ h. refl, λ h. refl)
base_decides BaseRef.Short BaseRef.Short = (λ h. refl, λ h. refl)
base_decides BaseRef.Int BaseRef.Int = (λ h. refl, λ h. refl)
base_decides BaseRef.Long BaseRef.Long = (λ h. refl, λ h. refl)
base_decides (BaseRef.Class c) (BaseRef.Class d) = (λ h. ap BaseRef.Class ((bytes_eq-Decides c d).0 h), λ h. (bytes_eq-Decides c d).1 (cc))
base_decides _ _ = (λ h. cc, λ h. cc)

array_decides : (r s : ArrayRef) → Decides (array_eq.ghosts.eq r s) (r ≡ s)
array_decides r s = (λ h. λ i. record { dimensions = (Decides-eqb r.dimensions s.dimensions).0 (parts h).0 i; base = (base_decides r.base s.base).0 (parts h).1 i }, λ h. and_from (nat_eq r.dimensions s.dimensions) (base_eq.ghosts.eq r.base s.base) ((Decides-eqb r.dimensions s.dimensions).1 (ap (λ (x : ArrayRef). x.dimensions) h)) ((base_decides r.base s.base).1 (ap (λ (x : ArrayRef). x.base) h)))
  where
    parts : array_eq.ghosts.eq r s ≡ true → (nat_eq r.dimensions s.dimensions ≡ true) × (base_eq.ghosts.eq r.base s.base ≡ true)
    parts h = and_parts (nat_eq r.dimensions s.dimensions) (base_eq.ghosts.eq r.base s.base) h

type_decides : (a b : TypeRef) → Decides (type_eq.ghosts.eq a b) (a ≡ b)
type_decides TypeRef.Void TypeRef.Void = (λ h. refl, λ h. refl)
type_decides TypeRef.Boolean TypeRef.Boolean = (λ h. refl, λ h. refl)
type_decides TypeRef.Char TypeRef.Char = (λ h. refl, λ h. refl)
type_decides TypeRef.Byte TypeRef.Byte = (λ h. refl, λ h. refl)
type_decides TypeRef.Short TypeRef.Short = (λ h. refl, λ h. refl)
type_decides TypeRef.Int TypeRef.Int = (λ h. refl, λ h. refl)
type_decides TypeRef.Long TypeRef.Long = (λ h. refl, λ h. refl)
type_decides (TypeRef.Class c) (TypeRef.Class d) = (λ h. ap TypeRef.Class ((bytes_eq-Decides c d).0 h), λ h. (bytes_eq-Decides c d).1 (cc))
type_decides (TypeRef.Array r) (TypeRef.Array s) = (λ h. ap TypeRef.Array ((array_decides r s).0 h), λ h. (array_decides r s).1 (cc))
type_decides _ _ = (λ h. cc, λ h. cc)

pub parameters_tested : (a b : MethodName) (r : Bool) → r ≡ pointwise type_eq.ghosts.eq a.params b.params → a.simple ≡ b.simple → IsTrue r ↔ ((a.simple ≡ b.simple) × (a.params ≡ b.params))
parameters_tested a b r e same = (λ h. (same, decided.0 (sym e ∙ h)), λ k. e ∙ decided.1 k.1)
  where
    decided : Decides (pointwise type_eq.ghosts.eq a.params b.params) (a.params ≡ b.params)
    decided = slice_eq-Decides type_decides a.params b.params _ refl
