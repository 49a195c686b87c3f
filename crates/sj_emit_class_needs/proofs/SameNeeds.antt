-- Needs that compare as equal are one.
use Rattle.std.proofs.Common.{◌≡◌, true, ap, List, ℕ}
use Rattle.std.specs.Prelude.{nat_eq, ◌&&◌}
use Rattle.std.specs.Bool.{Decides}
use Rattle.std.specs.Cmp.Lexicographic.{pointwise}
use Rattle.std.proofs.lemmas.Bool.Decides.{Decides-and}
use Rattle.std.proofs.lemmas.Slice.Eq.{bytes_eq-Decides}
use Rattle.sj_names.proofs.Equal.{false_is_not_true}
use Rattle.sj_emit_class_needs.specs.contracts.needs.ClassNeedPartialEq.TheImpl as need_eq
use Rattle.sj_emit_class_needs.specs.declared.needs.ClassNeed.{ClassNeed}

both : (c d f g : List ℕ) → Decides (pointwise nat_eq c d && pointwise nat_eq f g) ((c ≡ d) × (f ≡ g))
both c d f g = Decides-and (pointwise nat_eq c d) (pointwise nat_eq f g) (bytes_eq-Decides c d) (bytes_eq-Decides f g)

pub need_is : (a b : ClassNeed) → need_eq.ghosts.eq a b ≡ true → a ≡ b
need_is (ClassNeed.Test c) (ClassNeed.Test d) h = ap ClassNeed.Test ((bytes_eq-Decides c d).0 h)
need_is (ClassNeed.Cast c) (ClassNeed.Cast d) h = ap ClassNeed.Cast ((bytes_eq-Decides c d).0 h)
need_is (ClassNeed.Base c) (ClassNeed.Base d) h = ap ClassNeed.Base ((bytes_eq-Decides c d).0 h)
need_is (ClassNeed.Load c) (ClassNeed.Load d) h = ap ClassNeed.Load ((bytes_eq-Decides c d).0 h)
need_is (ClassNeed.Store c) (ClassNeed.Store d) h = ap ClassNeed.Store ((bytes_eq-Decides c d).0 h)
need_is (ClassNeed.Live c) (ClassNeed.Live d) h = ap ClassNeed.Live ((bytes_eq-Decides c d).0 h)
need_is (ClassNeed.Static c f) (ClassNeed.Static d g) h = let e = (both c d f g).0 h in λ i. ClassNeed.Static (e.0 i) (e.1 i)
need_is _ _ h = false_is_not_true h
