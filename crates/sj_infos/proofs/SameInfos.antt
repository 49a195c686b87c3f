-- Infos that compare as equal are one.
use Rattle.std.proofs.Common.{◌≡◌, Bool, true, false, refl, ap, subst, List, ℕ}
use Rattle.std.specs.Bool.{Decides}
use Rattle.std.proofs.lemmas.Slice.Eq.{bytes_eq-Decides}
use Rattle.sj_names.specs.declared.method_names.MethodName.{MethodName}
use Rattle.sj_names.proofs.Equal.{false_is_not_true, method_decides, member_decides, pair_decides, field_decides}
use Rattle.sj_infos.specs.contracts.infos.InfoPartialEq.TheImpl as info_eq
use Rattle.sj_infos.specs.declared.infos.Info.{Info}

info_refl : (a : Info) → info_eq.ghosts.eq a a ≡ true
info_refl (Info.New c m) = (pair_decides c c m m).1 (refl, refl)
info_refl (Info.Load c) = (bytes_eq-Decides c c).1 refl
info_refl (Info.Field c f true) = (field_decides c c f f true).1 (refl, (refl, refl))
info_refl (Info.Field c f false) = (field_decides c c f f true).1 (refl, (refl, refl))
info_refl (Info.Static m) = (member_decides m m).1 refl
info_refl (Info.Resolved c m) = (pair_decides c c m m).1 (refl, refl)
info_refl (Info.Called c m) = (pair_decides c c m m).1 (refl, refl)
info_refl (Info.Reflective m) = (method_decides m m).1 refl
info_refl (Info.Class c) = (bytes_eq-Decides c c).1 refl
info_refl Info.ArrayForm = refl
info_refl (Info.Throws c) = (bytes_eq-Decides c c).1 refl

paired : (make : List ℕ → MethodName → Info) (c d : List ℕ) (m n : MethodName) → (c ≡ d) × (m ≡ n) → make c m ≡ make d n
paired make c d m n e = λ i. make (e.0 i) (e.1 i)

info_is : (a b : Info) → info_eq.ghosts.eq a b ≡ true → a ≡ b
info_is (Info.New c m) (Info.New d n) h = paired Info.New c d m n ((pair_decides c d m n).0 h)
info_is (Info.Load c) (Info.Load d) h = ap Info.Load ((bytes_eq-Decides c d).0 h)
info_is (Info.Field c f true) (Info.Field d g true) h = let e = (field_decides c d f g true).0 h in λ i. Info.Field (e.0 i) (e.1.0 i) true
info_is (Info.Field c f false) (Info.Field d g false) h = let e = (field_decides c d f g true).0 h in λ i. Info.Field (e.0 i) (e.1.0 i) false
info_is (Info.Field c f true) (Info.Field d g false) h = false_is_not_true ((field_decides c d f g false).0 h).1.1
info_is (Info.Field c f false) (Info.Field d g true) h = false_is_not_true ((field_decides c d f g false).0 h).1.1
info_is (Info.Static m) (Info.Static n) h = ap Info.Static ((member_decides m n).0 h)
info_is (Info.Resolved c m) (Info.Resolved d n) h = paired Info.Resolved c d m n ((pair_decides c d m n).0 h)
info_is (Info.Called c m) (Info.Called d n) h = paired Info.Called c d m n ((pair_decides c d m n).0 h)
info_is (Info.Reflective m) (Info.Reflective n) h = ap Info.Reflective ((method_decides m n).0 h)
info_is (Info.Class c) (Info.Class d) h = ap Info.Class ((bytes_eq-Decides c d).0 h)
info_is Info.ArrayForm Info.ArrayForm h = refl
info_is (Info.Throws c) (Info.Throws d) h = ap Info.Throws ((bytes_eq-Decides c d).0 h)
info_is _ _ h = false_is_not_true h

pub info_decides : (a b : Info) → Decides (info_eq.ghosts.eq a b) (a ≡ b)
info_decides a b = (info_is a b, λ h. subst (λ (c : Info). info_eq.ghosts.eq a c ≡ true) h (info_refl a))
