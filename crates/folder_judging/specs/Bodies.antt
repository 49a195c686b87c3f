-- The bodies that are needed, in the order in which they are checked.
use Rattle.std.specs.Prelude.{◌≡◌, ◌↔◌, Bool, List, [], ◌∷◌, ◌++◌, length, Contains}
use Rattle.std.specs.List.Sorted.{IsSortedBy}
use Rattle.sj_names.specs.declared.method_names.Member.{Member}
use Rattle.sj_world.specs.Refusals.{is_before}
use Rattle.sj_world.specs.declared.facts.Fact.{Fact}
use Rattle.sj_world.specs.declared.facts.Fact.TheVariants as fact
use Rattle.sj_reach_spec.specs.Refusals.{spelled_member}
use Rattle.folder_judging.specs.Counts.{members_of, bodies_among}
use Rattle.folder_judging.specs.declared.bodies.SpelledBody.{SpelledBody}

-- one of the bodies is that of the member
pub record HasBodyOf (bodies : List SpelledBody) (k : Member) : Type 0 where
  pub body : SpelledBody
  pub among : Contains bodies body
  pub is : body.member.now ≡ k

-- each with its spelling
pub record AreSpelled (bodies : List SpelledBody) : Type 0 where
  pub each : (b : SpelledBody) → Contains bodies b → b.spelled ≡ spelled_member b.member.now

-- exactly the bodies among the facts
pub record AreBodiesOf (facts : List Fact) (bodies : List SpelledBody) : Type 0 where
  pub members : (k : Member) → Contains facts (fact.Body k) ↔ HasBodyOf bodies k
  pub many : length bodies ≡ bodies_among facts
  pub spelled : AreSpelled bodies

-- one more, if the fact needs a body
pub data PushesBody : Fact → List SpelledBody → List SpelledBody → Type 0 where
  pushed : (k : Member) (b : SpelledBody) (old : List SpelledBody) → b.member.now ≡ k → b.spelled ≡ spelled_member k → PushesBody (fact.Body k) old (old ++ b ∷ [])
  left : (f : Fact) (old : List SpelledBody) → members_of (f ∷ []) ≡ [] → PushesBody f old old

abbrev pub is_spelled_before : SpelledBody → SpelledBody → Bool
is_spelled_before a b = is_before a.spelled b.spelled

-- and in the order of their spellings
pub record AreInOrder (facts : List Fact) (bodies : List SpelledBody) : Type 0 where
  pub bodies_right : AreBodiesOf facts bodies
  pub in_order : IsSortedBy is_spelled_before bodies
