-- The bodies among facts, as facts are added, and in order.
use Rattle.std.proofs.Common.{◌≡◌, ℕ, ◌+◌, ◌≤◌, Some, take, slice_get, List, [], ◌∷◌, ◌++◌, Contains, length, refl, sym, ap, ◌∙◌, subst, inl, inr, arith, length-append}
use Rattle.std.specs.Prelude.{◌⊎◌}
use Rattle.std.specs.List.Sorted.{IsSortedBy, IsPermutation}
use Rattle.std.proofs.lemmas.List.Elements.{Contains-append_left, Contains-push, Contains-push_cases}
use Rattle.std.proofs.lemmas.List.{take_more, take_all}
use Rattle.std.proofs.lemmas.Option.{slice_get_within, get_or_from_slice_get}
use Rattle.std.proofs.lemmas.List.Sorted.{Contains-permutation, IsPermutation-sym, length_permutation}
use Rattle.worklist.proofs.Inserted.{nothing_in}
use Rattle.sj_names.specs.declared.method_names.Member.{Member}
use Rattle.sj_world.specs.declared.facts.Fact.{Fact}
use Rattle.sj_world.specs.declared.facts.Fact.TheVariants as fact
use Rattle.sj_reach_spec.specs.Refusals.{spelled_member}
use Rattle.folder_judging.specs.Bodies.{HasBodyOf, AreBodiesOf, PushesBody, pushed, left, is_spelled_before, AreInOrder}
use Rattle.folder_judging.specs.Counts.{members_of, bodies_among}
use Rattle.folder_judging.specs.declared.bodies.SpelledBody.{SpelledBody}

pub pushes : (f : Fact) (k : Member) (b : SpelledBody) (old new : List SpelledBody) → f ≡ fact.Body k → b.member.now ≡ k → b.spelled ≡ spelled_member k → new ≡ old ++ b ∷ [] → PushesBody f old new
pushes f k b old new e is spelled made = subst (λ (g : Fact). PushesBody g old new) (sym e) (subst (PushesBody (fact.Body k) old) (sym made) (pushed k b old is spelled))

pub leaves : (f : Fact) (old : List SpelledBody) → ((k : Member) → f ≡ fact.Body k → ⊥) → PushesBody f old old
leaves (fact.Needed c) old other = left (fact.Needed c) old refl
leaves (fact.Made c) old other = left (fact.Made c) old refl
leaves (fact.CellUsed c) old other = left (fact.CellUsed c) old refl
leaves (fact.NeededField c f s) old other = left (fact.NeededField c f s) old refl
leaves (fact.Body k) old other = absurd (other k refl)
leaves (fact.Called c m) old other = left (fact.Called c m) old refl

-- the members of more facts
members_more : (facts : List Fact) (f : Fact) → members_of (facts ++ f ∷ []) ≡ members_of facts ++ members_of (f ∷ [])
members_more [] f = refl
members_more (fact.Needed c ∷ facts) f = members_more facts f
members_more (fact.Made c ∷ facts) f = members_more facts f
members_more (fact.CellUsed c ∷ facts) f = members_more facts f
members_more (fact.NeededField c g s ∷ facts) f = members_more facts f
members_more (fact.Body k ∷ facts) f = ap (λ (ks : List Member). k ∷ ks) (members_more facts f)
members_more (fact.Called c m ∷ facts) f = members_more facts f

pub no_bodies : AreBodiesOf [] []
no_bodies = record { members = λ k. (λ h. absurd (nothing_in _ h), λ h. absurd (nothing_in _ h.among)); many = refl; spelled = record { each = λ b h. absurd (nothing_in _ h) } }

same_body : (j k : Member) → fact.Body j ≡ fact.Body k → j ≡ k
same_body j k e = cc

more_many : (facts : List Fact) (f : Fact) (n : ℕ) → n ≡ bodies_among facts → bodies_among (facts ++ f ∷ []) ≡ n + length (members_of (f ∷ []))
more_many facts f n e = ap length (members_more facts f) ∙ length-append (members_of facts) (members_of (f ∷ [])) ∙ ap (λ m. m + length (members_of (f ∷ []))) (sym e)

pub bodies_more : (facts : List Fact) (f : Fact) (old new : List SpelledBody) → AreBodiesOf facts old → PushesBody f old new → AreBodiesOf (facts ++ f ∷ []) new
bodies_more facts _ _ _ h (pushed k b old is spelled) = record {
  members = λ j. (λ m. into j (Contains-push_cases facts (fact.Body k) (fact.Body j) m), λ m. back j m (Contains-push_cases old b m.body m.among));
  many = omega (arith, length-append old (b ∷ []), more_many facts (fact.Body k) (length old) h.many);
  spelled = record { each = λ c m. each c (Contains-push_cases old b c m) };
}
  where
    into : (j : Member) → Contains facts (fact.Body j) ⊎ (fact.Body k ≡ fact.Body j) → HasBodyOf (old ++ b ∷ []) j
    into j (inl m) = let s = (h.members j).0 m in record { body = s.body; among = Contains-append_left old (b ∷ []) s.body s.among; is = s.is }
    into j (inr e) = record { body = b; among = Contains-push old b; is = is ∙ same_body k j e }

    back : (j : Member) (m : HasBodyOf (old ++ b ∷ []) j) → Contains old m.body ⊎ (b ≡ m.body) → Contains (facts ++ fact.Body k ∷ []) (fact.Body j)
    back j m (inl there) = Contains-append_left facts (fact.Body k ∷ []) (fact.Body j) ((h.members j).1 (record { body = m.body; among = there; is = m.is }))
    back j m (inr e) = subst (λ (i : Member). Contains (facts ++ fact.Body k ∷ []) (fact.Body i)) (sym is ∙ ap (λ (x : SpelledBody). x.member.now) e ∙ m.is) (Contains-push facts (fact.Body k))

    each : (c : SpelledBody) → Contains old c ⊎ (b ≡ c) → c.spelled ≡ spelled_member c.member.now
    each c (inl there) = h.spelled.each c there
    each c (inr e) = subst (λ (x : SpelledBody). x.spelled ≡ spelled_member x.member.now) e (spelled ∙ ap spelled_member (sym is))
bodies_more facts _ _ _ h (left f old none) = record {
  members = λ j. (λ m. into j (Contains-push_cases facts f (fact.Body j) m), λ m. Contains-append_left facts (f ∷ []) (fact.Body j) ((h.members j).1 m));
  many = h.many ∙ sym (ap length (members_more facts f) ∙ length-append (members_of facts) (members_of (f ∷ [])) ∙ ap (λ (ks : List Member). bodies_among facts + length ks) none ∙ plus_none (bodies_among facts));
  spelled = h.spelled;
}
  where
    plus_none : (n : ℕ) → n + 0 ≡ n
    plus_none n = omega arith

    into : (j : Member) → Contains facts (fact.Body j) ⊎ (f ≡ fact.Body j) → HasBodyOf old j
    into j (inl m) = (h.members j).0 m
    into j (inr e) = let wrong : j ∷ [] ≡ [] = sym (ap (λ (g : Fact). members_of (g ∷ [])) e) ∙ none in cc

-- sorting keeps them
pub in_order : (facts : List Fact) (bodies sorted : List SpelledBody) → AreBodiesOf facts bodies → IsPermutation bodies sorted → IsSortedBy is_spelled_before sorted → AreInOrder facts sorted
in_order facts bodies sorted h p up = record {
  bodies_right = record {
    members = λ k. (λ m. let s = (h.members k).0 m in record { body = s.body; among = Contains-permutation bodies sorted s.body p s.among; is = s.is }, λ m. (h.members k).1 (record { body = m.body; among = Contains-permutation sorted bodies m.body (IsPermutation-sym bodies sorted p) m.among; is = m.is }));
    many = length_permutation bodies sorted p ∙ h.many;
    spelled = record { each = λ b m. h.spelled.each b (Contains-permutation sorted bodies b (IsPermutation-sym bodies sorted p) m) };
  };
  in_order = up;
}

pub one_more : (facts : List Fact) (n : ℕ) (f : Fact) (old new : List SpelledBody) → slice_get facts n ≡ Some f → AreBodiesOf (take n facts) old → PushesBody f old new → AreBodiesOf (take (n + 1) facts) new
one_more facts n f old new at h k = subst (λ (l : List Fact). AreBodiesOf l new) (sym (take_more facts n f (slice_get_within facts n f at) ∙ ap (λ (x : Fact). take n facts ++ x ∷ []) (get_or_from_slice_get facts n f f at))) (bodies_more (take n facts) f old new h k)

pub all_of_them : (facts : List Fact) (n : ℕ) (bodies : List SpelledBody) → length facts ≤ n → AreBodiesOf (take n facts) bodies → AreBodiesOf facts bodies
all_of_them facts n bodies over h = subst (λ (l : List Fact). AreBodiesOf l bodies) (take_all n facts over) h
