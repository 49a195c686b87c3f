-- The cases of the function of a reflective name in a world: each of a kind whose class has a method of the name, and one for each such kind of which what a call runs is needed.
use Rattle.std.proofs.Common.{arith, ◌≡◌, ◌⊎◌, inl, inr, true, List, [], ◌∷◌, ◌++◌, Option, Some, None, refl, sym, ap, subst, ◌∙◌, Contains}
use Rattle.std.specs.List.{list_all}
use Rattle.std.proofs.lemmas.Bool.{and_parts}
use Rattle.std.proofs.lemmas.List.Elements.{Contains-append_left, Contains-append_right, Contains-push_cases}
use Rattle.array_code.specs.Calls.{IsProxyTarget}
use Rattle.array_code.specs.ClassTestsKinds.{is_told}
use Rattle.array_code.specs.Dispatch.{Reflected, IsReachedTarget, IsReflectedTarget, AreReflected, reflected_none, reflected, unreflected}
use Rattle.array_code.specs.Fact.{Fact}
use Rattle.array_code.specs.Kind.{Kind}
use Rattle.array_code.specs.KindVariants as kinds
use Rattle.array_code.specs.Words.{kind_class, told_kinds}
use Rattle.dispatch_laws.proofs.Proxies.{proxy_params, proxy_right, proxy_found}
use Rattle.dispatch_laws.specs.Dispatch.{proxy_target}
use Rattle.dispatch_laws.specs.Known.{Name, Classes}
use Rattle.agree_bodies.proofs.Lists.{nothing_in, in_front_or_behind}
use Rattle.agree_calls.specs.Reflected.{HasReflected}
use Rattle.sj_names.proofs.Same.{impossible}
use Rattle.sj_names.specs.declared.method_names.MethodName.{MethodName}
use Rattle.sj_trees.specs.declared.classes.MethodDef.{MethodDef}

each_told : (ks : List Kind) → list_all is_told ks ≡ true → (k : Kind) → Contains ks k → is_told k ≡ true
each_told [] h k i = nothing_in k i
each_told (j ∷ ks) h k i = let q = and_parts (is_told j) (list_all is_told ks) h in go q.0 (each_told ks q.1 k) (in_front_or_behind j ks k i)
  where
    go : is_told j ≡ true → (Contains ks k → is_told k ≡ true) → (j ≡ k) ⊎ Contains ks k → is_told k ≡ true
    go first later (inl same) = subst (λ (x : Kind). is_told x ≡ true) same first
    go first later (inr behind) = later behind

-- a kind that is told is among those that are
told_listed : (k : Kind) → is_told k ≡ true → Contains told_kinds k
told_listed kinds.Undefined h = (0, omega arith, refl)
told_listed kinds.Boolean h = (1, omega arith, refl)
told_listed kinds.Char h = (2, omega arith, refl)
told_listed kinds.Int h = (3, omega arith, refl)
told_listed kinds.Long h = (4, omega arith, refl)
told_listed kinds.Text h = (5, omega arith, refl)
told_listed kinds.Byte h = impossible h
told_listed kinds.Short h = impossible h

at_last : {X : Type 0} (xs : List X) (x : X) → Contains (xs ++ x ∷ []) x
at_last xs x = Contains-append_right xs (x ∷ []) x (0, omega arith, refl)

module _ (w : Classes) (facts : List Fact) (p : MethodName) where
  -- what a reflective call on values of the class reaches
  abbrev Reaches : Name → MethodName → Name → Type 0
  Reaches c t owner = IsReflectedTarget w facts c p t owner

  -- a case is of one of the kinds, and runs what a call on values of its class reaches
  record IsCaseOf (ks : List Kind) (t : Reflected) : Type 0 where
    among : Contains ks t.kind
    target : Reaches (kind_class t.kind) t.method t.owner

  more_kinds : (ks : List Kind) (k : Kind) (t : Reflected) → IsCaseOf ks t → IsCaseOf (ks ++ k ∷ []) t
  more_kinds ks k t h = record { among = Contains-append_left ks (k ∷ []) t.kind h.among; target = h.target }

  case_is : (ks : List Kind) (ts : List Reflected) → AreReflected w facts p ks ts → (t : Reflected) → Contains ts t → IsCaseOf ks t
  case_is _ _ reflected_none t i = nothing_in t i
  case_is _ _ (reflected k ks m owner ts h reached) t i = elim (Contains-push_cases ts (record { kind = k; owner = owner; method = m }) t i) [
    | inl first ↦ more_kinds ks k t (case_is ks ts h t first)
    | inr same ↦ subst (IsCaseOf (ks ++ k ∷ [])) same (record { among = at_last ks k; target = reached })
  ]
  case_is _ _ (unreflected k ks ts h none) t i = more_kinds ks k t (case_is ks ts h t i)

  more_cases : (ts : List Reflected) (t : Reflected) (k : Kind) → HasReflected ts k → HasReflected (ts ++ t ∷ []) k
  more_cases ts t k h = record { case = h.case; among = Contains-append_left ts (t ∷ []) h.case h.among; kind_is = h.kind_is }

  -- and a kind whose class has what a call reaches has a case
  case_of : (ks : List Kind) (ts : List Reflected) → AreReflected w facts p ks ts → (k : Kind) → Contains ks k → (m : MethodName) (owner : Name) → Reaches (kind_class k) m owner → HasReflected ts k
  case_of _ _ reflected_none k i m owner found_at = nothing_in k i
  case_of _ _ (reflected j ks n o ts h reached) k i m owner found_at = elim (Contains-push_cases ks j k i) [
    | inl first ↦ more_cases ts (record { kind = j; owner = o; method = n }) k (case_of ks ts h k first m owner found_at)
    | inr same ↦ record { case = record { kind = j; owner = o; method = n }; among = at_last ts (record { kind = j; owner = o; method = n }); kind_is = same }
  ]
  case_of _ _ (unreflected j ks ts h none) k i m owner found_at = elim (Contains-push_cases ks j k i) [
    | inl first ↦ case_of ks ts h k first m owner found_at
    | inr same ↦ absurd (none m owner (subst (λ (x : Kind). Reaches (kind_class x) m owner) (sym same) found_at))
  ]

  pub record IsReflectedCase (t : Reflected) : Type 0 where
    pub told : is_told t.kind ≡ true
    pub target : Reaches (kind_class t.kind) t.method t.owner

  pub reflected_case : (ts : List Reflected) → AreReflected w facts p told_kinds ts → (t : Reflected) → Contains ts t → IsReflectedCase t
  reflected_case ts h t i = let k = case_is told_kinds ts h t i in record { told = each_told told_kinds refl t.kind k.among; target = k.target }

  -- a kind whose class has no method of the name, or one with a case, where what a call reaches is needed
  pub kind_reflected : (ts : List Reflected) → AreReflected w facts p told_kinds ts → (k : Kind) → is_told k ≡ true → ((d : MethodDef) → proxy_target w (kind_class k) p ≡ Some d → (owner : Name) × IsReachedTarget w facts (kind_class k) d.name owner) → (proxy_target w (kind_class k) p ≡ None) ⊎ HasReflected ts k
  kind_reflected ts h k is needed = go (proxy_target w (kind_class k) p) refl
    where
      go : (o : Option MethodDef) → proxy_target w (kind_class k) p ≡ o → (proxy_target w (kind_class k) p ≡ None) ⊎ HasReflected ts k
      go None e = inl e
      go (Some d) e =
          let there = needed d e in
          let its = proxy_right w (kind_class k) p d e in
          inr (case_of told_kinds ts h k (told_listed k is) d.name there.0 (record { definition = d; declared_by = its.0; proxy = its.1; method_is = refl; target = there.1 }))

  -- the method that a reflective call on values of the class reaches, as it is worked out
  pub record IsWorkedOut (c : Name) (t : MethodName) : Type 0 where
    pub definition : MethodDef
    pub proxy : proxy_target w c p ≡ Some definition
    pub method_is : t ≡ definition.name
    pub params : t.params ≡ p.params

  -- where all that a call reaches has one name
  pub worked_out : ((c : Name) (d e : MethodDef) (a b : Name) → IsProxyTarget w c p d a → IsProxyTarget w c p e b → d.name ≡ e.name) → (c : Name) (t : MethodName) (owner : Name) → Reaches c t owner → IsWorkedOut c t
  worked_out one c t owner r =
      let found = proxy_found w c p r.definition r.declared_by r.proxy in
      let its = proxy_right w c p found.0 found.1 in
      let same : r.definition.name ≡ found.0.name = one c r.definition found.0 r.declared_by its.0 r.proxy its.1 in
      record { definition = found.0; proxy = found.1; method_is = r.method_is ∙ same; params = ap (λ (m : MethodName). m.params) r.method_is ∙ proxy_params w c p r.definition r.declared_by r.proxy }
