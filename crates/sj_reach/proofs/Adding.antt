-- Steps that add conclusions, one after the other.
use Rattle.std.proofs.Common.{◌≡◌, ℕ, ◌+◌, ◌≤◌, ◌<◌, List, [], ◌∷◌, ◌++◌, Contains, slice_get, Some, sym, ap, ◌∙◌, subst, length, arith, inl, inr, ⊎_elim, append_assoc, append-nil}
use Rattle.std.specs.Prelude.{◌⊎◌}
use Rattle.std.proofs.lemmas.List.Elements.{Contains-append_left, Contains-push, Contains-push_cases}
use Rattle.indexmap.specs.IndexSet.{insert_key}
use Rattle.worklist.proofs.Inserted.{insert_all-grows, from-insert_all, into-insert_all, each-insert_all, only_one}
use Rattle.sj_names.specs.declared.method_names.MethodName.{MethodName}
use Rattle.sj_world.specs.Known.{Name, Classes}
use Rattle.sj_world.specs.Resolution.{Answer, Resolves}
use Rattle.sj_world.specs.declared.facts.Fact.{Fact}
use Rattle.sj_world.specs.contracts.facts.FactPartialEq.TheImpl as fact_eq
use Rattle.sj_world.proofs.Once.{resolves_once}
use Rattle.sj_world.proofs.Searches.{stands_at, contains_at}
use Rattle.sj_reach.specs.Conclusions.{Conclusion, follows, told, Holds, Just, Adds, Among}
use Rattle.sj_reach.specs.Steps.{Answered}
use Rattle.sj_reach.specs.declared.findings.Findings.{Findings}
use Rattle.sj_reach.specs.declared.findings.Report.{Report}
use Rattle.sj_world.proofs.SameFacts.{fact_is}

pub adds_none : (Q : Conclusion → Type 0) (s : Findings) → ((x : Conclusion) → Q x → ⊥) → Adds Q s s
adds_none Q s none = record { more = []; grows = sym (append-nil s.facts.keys); keeps = λ x h. h; sound = λ x h. inl h; complete = λ x q. absurd (none x q) }

pub adds_then : (P Q : Conclusion → Type 0) (a b c : Findings) → Adds P a b → Adds Q b c → Adds (λ x. P x ⊎ Q x) a c
adds_then P Q a b c f g = record {
  more = f.more ++ g.more;
  grows = g.grows ∙ ap (λ (l : List Fact). l ++ g.more) f.grows ∙ append_assoc a.facts.keys f.more g.more;
  keeps = λ x h. g.keeps x (f.keeps x h);
  sound = λ x h. from_both x (g.sound x h);
  complete = λ x e. into_both x e;
}
  where
    from_first : (x : Conclusion) → Holds a x ⊎ P x → Holds a x ⊎ (P x ⊎ Q x)
    from_first x (inl h) = inl h
    from_first x (inr p) = inr (inl p)

    from_both : (x : Conclusion) → Holds b x ⊎ Q x → Holds a x ⊎ (P x ⊎ Q x)
    from_both x (inl h) = from_first x (f.sound x h)
    from_both x (inr q) = inr (inr q)

    into_both : (x : Conclusion) → P x ⊎ Q x → Holds c x
    into_both x (inl p) = g.keeps x (f.complete x p)
    into_both x (inr q) = g.complete x q

pub adds_as : (P Q : Conclusion → Type 0) (a b : Findings) → ((x : Conclusion) → P x → Q x) → ((x : Conclusion) → Q x → P x) → Adds P a b → Adds Q a b
adds_as P Q a b into from f = record {
  more = f.more;
  grows = f.grows;
  keeps = f.keeps;
  sound = λ x h. ⊎_elim (λ o. inl o) (λ p. inr (into x p)) (f.sound x h);
  complete = λ x q. f.complete x (from x q);
}

pub adds_at : {A : Type 0} (F : A → Conclusion → Type 0) (x y : A) (a b : Findings) → x ≡ y → Adds (F x) a b → Adds (F y) a b
adds_at {A} F x y a b e h = subst (λ (z : A). Adds (F z) a b) e h

-- one of the first of a list
pub record AmongFirst {X : Type 0} (xs : List X) (n : ℕ) (Q : X → Conclusion → Type 0) (x : Conclusion) : Type 0 where
  pub place : ℕ
  pub early : place < n
  pub thing : X
  pub stands : slice_get xs place ≡ Some thing
  pub concluded : Q thing x

module _ {X : Type 0} (Q : X → Conclusion → Type 0) (xs : List X) where
  pub each_begins : (s : Findings) → Adds (AmongFirst xs 0 Q) s s
  each_begins s = adds_none (AmongFirst xs 0 Q) s (λ x q. let l : q.place < 0 = q.early in omega arith)

  pub each_goes_on : (n : ℕ) (y : X) (a b c : Findings) → slice_get xs n ≡ Some y → Adds (AmongFirst xs n Q) a b → Adds (Q y) b c → Adds (AmongFirst xs (n + 1) Q) a c
  each_goes_on n y a b c at f g = adds_as _ (AmongFirst xs (n + 1) Q) a c into from (adds_then (AmongFirst xs n Q) (Q y) a b c f g)
    where
      into : (x : Conclusion) → AmongFirst xs n Q x ⊎ Q y x → AmongFirst xs (n + 1) Q x
      into x (inl q) = record { place = q.place; early = (let l : q.place < n = q.early in omega arith); thing = q.thing; stands = q.stands; concluded = q.concluded }
      into x (inr q) = record { place = n; early = omega arith; thing = y; stands = at; concluded = q }

      here : (x : Conclusion) (z : X) → Some y ≡ Some z → Q z x → Q y x
      here x z e q = let s : z ≡ y = cc in subst (λ (t : X). Q t x) s q

      at_place : (x : Conclusion) (q : AmongFirst xs (n + 1) Q x) → ((q.place < n) ⊎ (q.place ≡ n)) → AmongFirst xs n Q x ⊎ Q y x
      at_place x q (inl l) = inl (record { place = q.place; early = l; thing = q.thing; stands = q.stands; concluded = q.concluded })
      at_place x q (inr e) = inr (here x q.thing (sym at ∙ ap (slice_get xs) (sym e) ∙ q.stands) q.concluded)

      from : (x : Conclusion) → AmongFirst xs (n + 1) Q x → AmongFirst xs n Q x ⊎ Q y x
      from x q = at_place x q (split q.place q.early)
        where
          split : (i : ℕ) → i < n + 1 → (i < n) ⊎ (i ≡ n)
          split i l = grind arith

  pub each_ends : (n : ℕ) (a b : Findings) → length xs ≤ n → Adds (AmongFirst xs n Q) a b → Adds (Among xs Q) a b
  each_ends n a b over f = adds_as (AmongFirst xs n Q) (Among xs Q) a b (λ x q. record { thing = q.thing; among = contains_at xs q.place q.thing q.stands; concluded = q.concluded }) (λ x q. record { place = q.among.0; early = (let l : q.among.0 < length xs = q.among.1 in omega arith); thing = q.thing; stands = stands_at xs q.thing q.among; concluded = q.concluded }) f

-- what is concluded of the only answer
pub adds_answered : (w : Classes) (c : Name) (m : MethodName) (Q : Answer → Conclusion → Type 0) (r : Answer) (a b : Findings) → Resolves w c m r → Adds (Q r) a b → Adds (Answered w c m Q) a b
adds_answered w c m Q r a b res f = adds_as (Q r) (Answered w c m Q) a b (λ x q. record { answer = r; resolves = res; concluded = q }) (λ x q. subst (λ (s : Answer). Q s x) (resolves_once w c m q.answer r q.resolves res) q.concluded) f

-- a fact is put behind those that are there, unless it is one of them
pub adds_fact : (f : Fact) (a b : Findings) → b.facts.keys ≡ insert_key fact_eq.ghosts.eq a.facts.keys f → b.reports.items ≡ a.reports.items → Adds (Just (follows f)) a b
adds_fact f a b put same =
    let g = insert_all-grows fact_eq.ghosts.eq a.facts.keys (f ∷ []) in
    record { more = g.more; grows = put ∙ g.parts; keeps = keeps; sound = sound; complete = complete }
  where
    keeps : (x : Conclusion) → Holds a x → Holds b x
    keeps (follows y) h = subst (λ (l : List Fact). Contains l y) (sym put) (into-insert_all fact_eq.ghosts.eq a.facts.keys (f ∷ []) y h)
    keeps (told r) h = subst (λ (l : List Report). Contains l r) (sym same) h

    found : (y : Fact) → Contains a.facts.keys y ⊎ Contains (f ∷ []) y → Contains a.facts.keys y ⊎ (follows f ≡ follows y)
    found y (inl h) = inl h
    found y (inr h) = inr (ap follows (only_one f y h))

    sound : (x : Conclusion) → Holds b x → Holds a x ⊎ (follows f ≡ x)
    sound (follows y) h = found y (from-insert_all fact_eq.ghosts.eq a.facts.keys (f ∷ []) y (subst (λ (l : List Fact). Contains l y) put h))
    sound (told r) h = inl (subst (λ (l : List Report). Contains l r) same h)

    there : Contains b.facts.keys f
    there = subst (λ (l : List Fact). Contains l f) (sym put) (each-insert_all fact_eq.ghosts.eq fact_is a.facts.keys (f ∷ []) f (Contains-push [] f))

    complete : (x : Conclusion) → follows f ≡ x → Holds b x
    complete x e = subst (Holds b) e there

-- this is told besides
pub adds_told : (r : Report) (a b : Findings) → b.reports.items ≡ a.reports.items ++ r ∷ [] → b.facts.keys ≡ a.facts.keys → Adds (Just (told r)) a b
adds_told r a b put same = record { more = []; grows = same ∙ sym (append-nil a.facts.keys); keeps = keeps; sound = sound; complete = complete }
  where
    keeps : (x : Conclusion) → Holds a x → Holds b x
    keeps (follows y) h = subst (λ (l : List Fact). Contains l y) (sym same) h
    keeps (told s) h = subst (λ (l : List Report). Contains l s) (sym put) (Contains-append_left a.reports.items (r ∷ []) s h)

    found : (s : Report) → Contains a.reports.items s ⊎ (r ≡ s) → Contains a.reports.items s ⊎ (told r ≡ told s)
    found s (inl h) = inl h
    found s (inr e) = inr (ap told e)

    sound : (x : Conclusion) → Holds b x → Holds a x ⊎ (told r ≡ x)
    sound (follows y) h = inl (subst (λ (l : List Fact). Contains l y) same h)
    sound (told s) h = found s (Contains-push_cases a.reports.items r s (subst (λ (l : List Report). Contains l s) put h))

    there : Contains b.reports.items r
    there = subst (λ (l : List Report). Contains l r) (sym put) (Contains-push a.reports.items r)

    complete : (x : Conclusion) → told r ≡ x → Holds b x
    complete x e = subst (Holds b) e there
