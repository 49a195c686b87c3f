-- Facts that compare as equal are one.
use Rattle.std.proofs.Common.{◌≡◌, true, false, refl, ap}
use Rattle.std.proofs.lemmas.Slice.Eq.{bytes_eq-Decides}
use Rattle.sj_names.proofs.Equal.{false_is_not_true, member_decides, pair_decides, field_decides}
use Rattle.sj_world.specs.contracts.facts.FactPartialEq.TheImpl as fact_eq
use Rattle.sj_world.specs.declared.facts.Fact.{Fact}

pub fact_refl : (a : Fact) → fact_eq.ghosts.eq a a ≡ true
fact_refl (Fact.Needed c) = (bytes_eq-Decides c c).1 refl
fact_refl (Fact.Made c) = (bytes_eq-Decides c c).1 refl
fact_refl (Fact.CellUsed c) = (bytes_eq-Decides c c).1 refl
fact_refl (Fact.NeededField c f true) = (field_decides c c f f true).1 (refl, (refl, refl))
fact_refl (Fact.NeededField c f false) = (field_decides c c f f true).1 (refl, (refl, refl))
fact_refl (Fact.Body k) = (member_decides k k).1 refl
fact_refl (Fact.Called c m) = (pair_decides c c m m).1 (refl, refl)

pub fact_is : (a b : Fact) → fact_eq.ghosts.eq a b ≡ true → a ≡ b
fact_is (Fact.Needed c) (Fact.Needed d) h = ap Fact.Needed ((bytes_eq-Decides c d).0 h)
fact_is (Fact.Made c) (Fact.Made d) h = ap Fact.Made ((bytes_eq-Decides c d).0 h)
fact_is (Fact.CellUsed c) (Fact.CellUsed d) h = ap Fact.CellUsed ((bytes_eq-Decides c d).0 h)
fact_is (Fact.NeededField c f true) (Fact.NeededField d g true) h = let e = (field_decides c d f g true).0 h in λ i. Fact.NeededField (e.0 i) (e.1.0 i) true
fact_is (Fact.NeededField c f false) (Fact.NeededField d g false) h = let e = (field_decides c d f g true).0 h in λ i. Fact.NeededField (e.0 i) (e.1.0 i) false
fact_is (Fact.NeededField c f true) (Fact.NeededField d g false) h = false_is_not_true ((field_decides c d f g false).0 h).1.1
fact_is (Fact.NeededField c f false) (Fact.NeededField d g true) h = false_is_not_true ((field_decides c d f g false).0 h).1.1
fact_is (Fact.Body k) (Fact.Body l) h = ap Fact.Body ((member_decides k l).0 h)
fact_is (Fact.Called c m) (Fact.Called d n) h = let e = (pair_decides c d m n).0 h in λ i. Fact.Called (e.0 i) (e.1 i)
fact_is _ _ h = false_is_not_true h
