-- The laws of homes hold.
use Rattle.std.proofs.Common.{◌≡◌, refl, sym, ap, ◌∙◌, subst}
use Rattle.std.specs.Prelude.{Some}
use Rattle.std.specs.declared.cmp.Ordering.{Ordering}
use Rattle.std.specs.declared.cmp.Ordering.TheVariants.{Less, Equal, Greater}
use Rattle.std.specs.Ordering.{nat_cmp, is_eq, ordering_reverse}
use Rattle.std.specs.Cmp.Lexicographic.{slice_cmp, texts_ties, nat_list_cmp_total}
use Rattle.worklist.specs.Paths.{stay}
use Rattle.sj_split.specs.declared.homes.Home.{Home}
use Rattle.sj_split.specs.declared.homes.Home.TheVariants.{Internal}
use Rattle.sj_split.specs.declared.plans.Style.TheVariants.{Fewest, Smallest}
use Rattle.sj_split.specs.Orders.{Bytes, IsBefore}
use Rattle.sj_split.specs.Walks.{Name, References, SameComponent, IsLeastOfComponent}
use Rattle.sj_split.specs.Homes.{home_of_tags}
use Rattle.sj_split.specs.Laws.{ComponentsAreHomes, TagsDecideHomes, OneHome}
use Rattle.sj_split.proofs.Walked.{joined, same_name, then_both}
use Rattle.sj_split.proofs.Unique.{one_list}

-- texts of which neither stands before the other are one
apart_from_neither : (a b : Bytes) → (IsBefore a b → ⊥) → (IsBefore b a → ⊥) → a ≡ b
apart_from_neither a b p q = go (slice_cmp nat_cmp a b) refl
  where
    go : (o : Ordering) → slice_cmp nat_cmp a b ≡ o → a ≡ b
    go Less e = absurd (p e)
    go Equal e = same_name a b (texts_ties a b ∙ ap is_eq e)
    go Greater e = absurd (q (nat_list_cmp_total.antisymm b a ∙ ap ordering_reverse e))

module _ (references : References) where
  pub component_turned : (a b : Name) → SameComponent references a b → SameComponent references b a
  component_turned a b c = record { there = c.back; back = c.there }

  pub component_joined : (a b d : Name) → SameComponent references a b → SameComponent references b d → SameComponent references a d
  component_joined a b d c e = record { there = joined references a b d c.there e.there; back = joined references d b a e.back c.back }

  one_least : (a b least other : Name) → IsLeastOfComponent references a least → IsLeastOfComponent references b other → SameComponent references a b → least ≡ other
  one_least a b least other p q c = apart_from_neither least other
      (λ less. q.first least (component_joined b a least (component_turned a b c) p.same) less)
      (λ less. p.first other (component_joined a b other c q.same) less)

pub components_are_homes : ComponentsAreHomes
components_are_homes references entries a b home other p q = (
  λ e. let same : p.least ≡ q.least = internal_same p.least q.least (sym p.is_home ∙ e ∙ q.is_home) in component_joined references a p.least b p.is_least.same (component_turned references b p.least (subst (λ (n : Name). SameComponent references b n) (sym same) q.is_least.same)),
  λ c. p.is_home ∙ ap Internal (one_least references a b p.least q.least p.is_least q.is_least c) ∙ sym q.is_home,
)
  where
    internal_same : (k l : Bytes) → Internal k ≡ Internal l → k ≡ l
    internal_same k l e = cc

pub tags_decide_homes : TagsDecideHomes
tags_decide_homes references entries a b home other p q same =
    let tags : p.tags ≡ q.tags = one_list p.tags q.tags p.are_tags.increasing q.are_tags.increasing (λ id. then_both (p.are_tags.exact id) (then_both (same id) ((q.are_tags.exact id).1, (q.are_tags.exact id).0))) in
    some_same home other (sym p.is_home ∙ ap home_of_tags tags ∙ q.is_home)
  where
    some_same : (k l : Home) → Some k ≡ Some l → k ≡ l
    some_same k l e = cc

pub one_home : OneHome
one_home references entries Fewest class home other p q = tags_decide_homes references entries class class home other p q (λ id. (λ r. r, λ r. r))
one_home references entries Smallest class home other p q = (components_are_homes references entries class class home other p q).1 (record { there = stay; back = stay })
