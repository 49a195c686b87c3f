use Rattle.std.specs.Cmp.Lexicographic.{nat_list_cmp_total, nat_list_eq_equiv, texts_ties}
use Rattle.std.proofs.lemmas.List.Filters.{dedup_is}
use Rattle.std.proofs.lemmas.List.Kept.{IsStrictlySortedBy-dedup, Contains-dedup, Contains-from_dedup}
use Rattle.std.proofs.lemmas.List.Sorted.{Contains-permutation, IsPermutation-sym}
use Rattle.std.proofs.lemmas.Slice.Eq.{bytes_eq-Decides}
use Rattle.sj_emit_module_spec.proofs.InOrder.{in_order_is}
use Rattle.sj_emit_module.proofs.orders.each_once_in_order.Goals as goal

pub returns : goal.returns
returns c =
    let is = dedup_is _ _ _ c.dedup.ensures.filtered in
    let moved = c.sort_unstable.ensures.permutation in
    in_order_is c.args.texts.items c.dedup.new.self.items (rw is (IsStrictlySortedBy-dedup nat_list_cmp_total texts_ties _ c.sort_unstable.ensures.sorted)) (λ t. (
      λ h. Contains-permutation _ _ t (IsPermutation-sym _ _ moved) (Contains-from_dedup _ _ t (rw is at h)),
      λ h. rw is (Contains-dedup nat_list_eq_equiv (λ a b. (bytes_eq-Decides a b).0) _ t (Contains-permutation _ _ t moved h)),
    ))
