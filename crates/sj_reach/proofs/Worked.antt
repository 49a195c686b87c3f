-- Facts are gone through until nothing new is found: then all that is reachable is found, and nothing else.
use Rattle.std.proofs.Common.{◌≡◌, ℕ, zero, suc, ◌+◌, ◌≤◌, ◌<◌, List, [], ◌∷◌, ◌++◌, Contains, slice_get, Some, refl, sym, ap, ◌∙◌, subst, take, length, arith, inl, inr, get_or, ⊎_elim}
use Rattle.std.specs.Prelude.{◌⊎◌}
use Rattle.std.proofs.lemmas.List.Elements.{Contains-push, Contains-append_left, Contains-append_right, Contains-append_cases}
use Rattle.std.proofs.lemmas.List.{take-append-le, take_more, length-append}
use Rattle.std.proofs.lemmas.Option.{slice_get_within, get_or_from_slice_get}
use Rattle.std.proofs.Math.Seq.{take-length}
use Rattle.worklist.proofs.Inserted.{nothing_in}
use Rattle.sj_names.specs.declared.entry_points.EntryPoint.{EntryPoint}
use Rattle.sj_world.specs.Known.{Classes}
use Rattle.sj_world.specs.declared.facts.Fact.{Fact}
use Rattle.sj_world.specs.declared.facts.Fact.TheVariants as fact
use Rattle.sj_reach_spec.specs.Reachable.{Reachable}
use Rattle.sj_reach_spec.specs.Rules.{Rule}
use Rattle.sj_reach_spec.proofs.Derivations.{closed, derived-all}
use Rattle.sj_reach.specs.Answers.{IsTold, StandOnce, AllFound}
use Rattle.sj_reach.specs.Conclusions.{Conclusion, follows, told, Holds, Adds}
use Rattle.sj_reach.specs.Seen.{IsEmpty, IsSeen, SeesFact}
use Rattle.sj_reach.specs.Steps.{OfStart, OfFact}
use Rattle.sj_reach.specs.declared.findings.Findings.{Findings}
use Rattle.sj_reach.specs.declared.findings.Report.{Report}
use Rattle.sj_reach.specs.declared.seen.Seen.{Seen}
use Rattle.sj_reach.proofs.Drawn.{Draws, of_start, of_needed, of_info, of_made, of_hijacked, of_proxy, drawn, concluded}
use Rattle.sj_reach.proofs.Sight.{seen_begins, seen_goes_on}
use Rattle.sj_reach.proofs.Turns.{draws-grow, split, back}

take_none : (xs : List Fact) → take 0 xs ≡ []
take_none [] = refl
take_none (x ∷ xs) = refl

le_both : {m n : ℕ} → m ≤ n → n ≤ m → m ≡ n
le_both p q = omega arith

contained : (n : ℕ) (l : List Fact) (y : Fact) → Contains (take n l) y → Contains l y
contained zero [] y h = h
contained zero (x ∷ l) y h = nothing_in y h
contained (suc n) [] y h = h
contained (suc n) (x ∷ l) y h = ⊎_elim (λ first. Contains-append_left (x ∷ []) l y first) (λ later. Contains-append_right (x ∷ []) l y (contained n l y later)) (Contains-append_cases (x ∷ []) (take n l) y h)

module _ (w : Classes) (entries : List EntryPoint) where
  -- nothing but what is reachable is found, and what follows from the facts that were gone through is found
  pub record Working (next : ℕ) (seen : Seen) (found : Findings) : Type 0 where
    pub within : next ≤ length found.facts.keys
    pub sound : (x : Conclusion) → Holds found x → Draws w entries (Reachable w entries) x
    pub closed_so_far : (x : Conclusion) → Draws w entries (Contains (take next found.facts.keys)) x → Holds found x
    pub seen_right : IsSeen w entries (Contains (take next found.facts.keys)) seen

  only_start : (x : Conclusion) → Draws w entries (Contains []) x → OfStart w entries x
  only_start x (of_start q) = q
  only_start x (of_needed c h q) = nothing_in (fact.Needed c) h
  only_start x (of_info i r q) = nothing_in (fact.Body r.member) r.needed
  only_start x (of_made c d m h i a q) = nothing_in (fact.Made c) i
  only_start x (of_hijacked c d m h i a q) = nothing_in (fact.Called d m) h
  only_start x (of_proxy c p r h q) = nothing_in (fact.Made c) h

  pub working_begins : (seen : Seen) (empty found : Findings) → IsEmpty seen → empty.facts.keys ≡ [] → empty.reports.items ≡ [] → Adds (OfStart w entries) empty found → Working 0 seen found
  working_begins seen empty found e no_facts no_reports f = record {
    within = omega arith;
    sound = λ x h. from x (f.sound x h);
    closed_so_far = λ x d. f.complete x (only_start x (subst (λ (l : List Fact). Draws w entries (Contains l) x) (take_none found.facts.keys) d));
    seen_right = subst (λ (l : List Fact). IsSeen w entries (Contains l) seen) (sym (take_none found.facts.keys)) (seen_begins w entries seen e);
  }
    where
      none : (x : Conclusion) → Holds empty x → ⊥
      none (follows g) h = nothing_in g (subst (λ (l : List Fact). Contains l g) no_facts h)
      none (told r) h = nothing_in r (subst (λ (l : List Report). Contains l r) no_reports h)

      from : (x : Conclusion) → Holds empty x ⊎ OfStart w entries x → Draws w entries (Reachable w entries) x
      from x (inl h) = absurd (none x h)
      from x (inr q) = of_start q

  reached : (g : Fact) → Draws w entries (Reachable w entries) (follows g) → Reachable w entries g
  reached g d = closed w entries g (concluded w entries (Reachable w entries) (follows g) d)

  pub working_goes_on : (next : ℕ) (f : Fact) (seen seen' : Seen) (found found' : Findings) → slice_get found.facts.keys next ≡ Some f → Working next seen found → Adds (OfFact w seen f) found found' → SeesFact w f seen seen' → Working (next + 1) seen' found'
  working_goes_on next f seen seen' found found' at work adds sees = record {
    within = grown_within;
    sound = λ x h. from x (adds.sound x h);
    closed_so_far = λ x d. into x (split w entries (take next found.facts.keys) f seen work.seen_right x (subst (λ (l : List Fact). Draws w entries (Contains l) x) front d));
    seen_right = subst (λ (l : List Fact). IsSeen w entries (Contains l) seen') (sym front) (seen_goes_on w entries (take next found.facts.keys) f seen seen' work.seen_right sees);
  }
    where
      read : get_or found.facts.keys next f ≡ f
      read = get_or_from_slice_get found.facts.keys next f f at

      below : next < length found.facts.keys
      below = slice_get_within found.facts.keys next f at

      grown_within : next + 1 ≤ length found'.facts.keys
      grown_within = omega (arith, below, ap length adds.grows, length-append {A = Fact})

      front : take (next + 1) found'.facts.keys ≡ take next found.facts.keys ++ f ∷ []
      front = ap (λ (l : List Fact). take (next + 1) l) adds.grows ∙ take-append-le (next + 1) found.facts.keys adds.more (omega (arith, below)) ∙ take_more found.facts.keys next f below ∙ ap (λ (y : Fact). take next found.facts.keys ++ y ∷ []) read

      whole : take (next + 1) found.facts.keys ≡ take next found.facts.keys ++ f ∷ []
      whole = take_more found.facts.keys next f below ∙ ap (λ (y : Fact). take next found.facts.keys ++ y ∷ []) read

      in_keys : (g : Fact) → Contains (take next found.facts.keys ++ f ∷ []) g → Contains found.facts.keys g
      in_keys g h = contained (next + 1) found.facts.keys g (subst (λ (l : List Fact). Contains l g) (sym whole) h)

      reachable : (g : Fact) → Contains (take next found.facts.keys ++ f ∷ []) g → Reachable w entries g
      reachable g h = reached g (work.sound (follows g) (in_keys g h))

      from : (x : Conclusion) → Holds found x ⊎ OfFact w seen f x → Draws w entries (Reachable w entries) x
      from x (inl h) = work.sound x h
      from x (inr q) = draws-grow w entries (Contains (take next found.facts.keys ++ f ∷ [])) (Reachable w entries) reachable x (back w entries (take next found.facts.keys) f seen work.seen_right x q)

      into : (x : Conclusion) → Draws w entries (Contains (take next found.facts.keys)) x ⊎ OfFact w seen f x → Holds found' x
      into x (inl d) = adds.keeps x (work.closed_so_far x d)
      into x (inr q) = adds.complete x q

  pub working_ends : (next : ℕ) (seen : Seen) (found : Findings) → length found.facts.keys ≤ next → StandOnce found.facts.keys → Working next seen found → AllFound w entries found
  working_ends next seen found over once work = record { facts = λ g. (λ h. reached g (work.sound (follows g) h), λ r. found_fact g r); reports = λ r. (λ h. is_told r (work.sound (told r) h), λ t. found_report r t); once = once }
    where
      all : take next found.facts.keys ≡ found.facts.keys
      all = let e : next ≡ length found.facts.keys = le_both work.within over in ap (λ (n : ℕ). take n found.facts.keys) e ∙ take-length found.facts.keys

      closed_whole : (x : Conclusion) → Draws w entries (Contains found.facts.keys) x → Holds found x
      closed_whole x d = work.closed_so_far x (subst (λ (l : List Fact). Draws w entries (Contains l) x) (sym all) d)

      by_rule : (g : Fact) → Rule w entries (Contains found.facts.keys) g → Contains found.facts.keys g
      by_rule g r = closed_whole (follows g) (drawn w entries (Contains found.facts.keys) (follows g) r)

      found_fact : (g : Fact) → Reachable w entries g → Contains found.facts.keys g
      found_fact g r = derived-all w entries (Contains found.facts.keys) by_rule (g ∷ r.earlier) r.derived g (Contains-append_left (g ∷ []) r.earlier g (Contains-push [] g))

      is_told : (r : Report) → Draws w entries (Reachable w entries) (told r) → IsTold w entries r
      is_told r d = let t = concluded w entries (Reachable w entries) (told r) d in record { refusal = t.refusal; unresolved = t.asked; told_is = t.told_is }

      found_report : (r : Report) → IsTold w entries r → Contains found.reports.items r
      found_report r t = closed_whole (told r) (draws-grow w entries (Reachable w entries) (Contains found.facts.keys) found_fact (told r) (drawn w entries (Reachable w entries) (told r) (record { refusal = t.refusal; asked = t.unresolved; told_is = t.told_is })))
