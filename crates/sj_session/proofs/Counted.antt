-- How many bodies are counted.
use Rattle.std.proofs.Common.{◌≡◌, ◌≤◌, ◌+◌, ℕ, List, [], ◌∷◌, ◌++◌, Some, refl, sym, ap, ◌∙◌, take, length, slice_get, arith}
use Rattle.std.proofs.lemmas.List.{take_more, length-take}
use Rattle.std.proofs.lemmas.Option.{slice_get_within, get_or_from_slice_get}
use Rattle.sj_names.specs.declared.method_names.Member.{Member}
use Rattle.sj_world.specs.declared.facts.Fact.{Fact}
use Rattle.sj_world.specs.declared.facts.Fact.TheVariants as fact
use Rattle.folder_judging.specs.Counts.{bodies_among}

-- the bodies of more facts
bodies_append : (facts : List Fact) (f : Fact) → bodies_among (facts ++ f ∷ []) ≡ bodies_among facts + bodies_among (f ∷ [])
bodies_append [] f = omega arith
bodies_append (fact.Needed c ∷ facts) f = bodies_append facts f
bodies_append (fact.Made c ∷ facts) f = bodies_append facts f
bodies_append (fact.CellUsed c ∷ facts) f = bodies_append facts f
bodies_append (fact.NeededField c g s ∷ facts) f = bodies_append facts f
bodies_append (fact.Body k ∷ facts) f = let e = bodies_append facts f in omega (arith, e)
bodies_append (fact.Called c m ∷ facts) f = bodies_append facts f

pub bodies_more : (facts : List Fact) (n : ℕ) (f : Fact) → slice_get facts n ≡ Some f → bodies_among (take (n + 1) facts) ≡ bodies_among (take n facts) + bodies_among (f ∷ [])
bodies_more facts n f at = ap bodies_among (take_more facts n f (slice_get_within facts n f at) ∙ ap (λ (x : Fact). take n facts ++ x ∷ []) (get_or_from_slice_get facts n f f at)) ∙ bodies_append (take n facts) f

-- a body is counted, and nothing else is
pub counted_body : (facts : List Fact) (n : ℕ) (f : Fact) (k : Member) (old new : ℕ) → slice_get facts n ≡ Some f → f ≡ fact.Body k → old ≡ bodies_among (take n facts) → new ≡ old + 1 → new ≡ bodies_among (take (n + 1) facts)
counted_body facts n f k old new at e h more = more ∙ ap (λ (m : ℕ). m + 1) h ∙ sym (bodies_more facts n f at ∙ ap (λ (g : Fact). bodies_among (take n facts) + bodies_among (g ∷ [])) e)

no_body : (f : Fact) → ((k : Member) → f ≡ fact.Body k → ⊥) → bodies_among (f ∷ []) ≡ 0
no_body (fact.Needed c) other = refl
no_body (fact.Made c) other = refl
no_body (fact.CellUsed c) other = refl
no_body (fact.NeededField c f s) other = refl
no_body (fact.Body k) other = absurd (other k refl)
no_body (fact.Called c m) other = refl

pub counted_other : (facts : List Fact) (n : ℕ) (f : Fact) (old new : ℕ) → slice_get facts n ≡ Some f → ((k : Member) → f ≡ fact.Body k → ⊥) → old ≡ bodies_among (take n facts) → new ≡ old → new ≡ bodies_among (take (n + 1) facts)
counted_other facts n f old new at not h same = let none = no_body f not in let more = bodies_more facts n f at in omega (arith, none, more)

-- no more bodies than facts
few_bodies : (facts : List Fact) → bodies_among facts ≤ length facts
few_bodies [] = omega arith
few_bodies (fact.Needed c ∷ facts) = let l = few_bodies facts in omega (arith, l)
few_bodies (fact.Made c ∷ facts) = let l = few_bodies facts in omega (arith, l)
few_bodies (fact.CellUsed c ∷ facts) = let l = few_bodies facts in omega (arith, l)
few_bodies (fact.NeededField c g s ∷ facts) = let l = few_bodies facts in omega (arith, l)
few_bodies (fact.Body k ∷ facts) = let l = few_bodies facts in omega (arith, l)
few_bodies (fact.Called c m ∷ facts) = let l = few_bodies facts in omega (arith, l)

pub few_taken : (facts : List Fact) (n : ℕ) → bodies_among (take n facts) ≤ length facts
few_taken facts n = let l = few_bodies (take n facts) in omega (arith, l, length-take n facts)
