-- The least class of each component is found.
use Rattle.std.proofs.Common.{◌≡◌, ℕ, ◌+◌, ◌<◌, true, false, List, refl, sym, ap, ◌∙◌, subst, length, get_or, arith, inl, inr}
use Rattle.std.specs.Ordering.{nat_cmp, is_lt}
use Rattle.std.specs.declared.cmp.Ordering.{Ordering}
use Rattle.std.specs.declared.cmp.Ordering.TheVariants.{Less, Equal, Greater}
use Rattle.std.specs.Cmp.Lexicographic.{slice_cmp, nat_list_cmp_total}
use Rattle.std.proofs.lemmas.Cmp.{tied_itself}
use Rattle.std.proofs.lemmas.Option.{slice_get-get_or}
use Rattle.number_graphs.specs.Graphs.{At, Lists, AreComponents}
use Rattle.number_graphs.proofs.Places.{within, one_at, there}
use Rattle.number_graphs.proofs.Searched.{same_or_not}
use Rattle.class_numbers.specs.Numbering.{AreNumbered}
use Rattle.sj_split.specs.Orders.{IsBefore}
use Rattle.sj_split.specs.Walks.{Name, References, SameComponent, IsLeastOfComponent}
use Rattle.sj_split.specs.Steps.{AreFirsts, AreLeast, IsLowered, taken, left}
use Rattle.sj_split.proofs.Walked.{walk_of_numbers, numbers_of_walk, walk_to_number}

pub lt-less : (o : Ordering) → is_lt o ≡ true → o ≡ Less
lt-less Less e = refl
lt-less Equal e = cc
lt-less Greater e = cc

pub not_before_itself : (a : Name) → IsBefore a a → ⊥
not_before_itself a h = let e : is_lt (slice_cmp nat_cmp a a) ≡ false = ap is_lt (tied_itself nat_list_cmp_total a) in let f : true ≡ false = ap is_lt (sym h) ∙ e in cc

-- the least classes so far
pub record Lowering (keys : List Name) (of : List ℕ) (done : ℕ) (least : List ℕ) : Type 0 where
  pub firsts : AreFirsts of least
  pub so_far : (component number other : ℕ) (name one : Name) → At least component number → At of other component → other < done → At keys number name → At keys other one → IsBefore one name → ⊥

pub lowering_begins : (keys : List Name) (of firsts : List ℕ) → AreFirsts of firsts → Lowering keys of 0 firsts
lowering_begins keys of firsts f = record { firsts = f; so_far = λ component number other name one is at low named oned before. absurd (omega arith) }

pub lowering_more : (keys : List Name) (of : List ℕ) (done component : ℕ) (old new : List ℕ) → Lowering keys of done old → At of done component → IsLowered keys component done old new → Lowering keys of (done + 1) new
lowering_more keys of done component old new l of_done (taken before name one at_old named oned less at_new same others) = record {
  firsts = record {
    counted = λ number c at. (let low = l.firsts.counted number c at in omega (arith, low, same));
    within = λ c number at. elim (same_or_not c component) [ inl e ↦ (let is : number ≡ done = one_at new component number done (subst (λ (k : ℕ). At new k number) e at) at_new in subst (λ (n : ℕ). At of n c) (sym is) (subst (λ (k : ℕ). At of done k) (sym e) of_done)) | inr ne ↦ l.firsts.within c number (others c number ne at) ];
  };
  so_far = λ c number other x y at at_other low named_x named_y is. elim (same_or_not c component) [ inl e ↦ here number other x y (one_at new component number done (subst (λ (k : ℕ). At new k number) e at) at_new) (subst (λ (k : ℕ). At of other k) e at_other) low named_x named_y is | inr ne ↦ l.so_far c number other x y (others c number ne at) at_other (elim (same_or_not other done) [ inl is_done ↦ absurd (ne (one_at of done c component (subst (λ (k : ℕ). At of k c) is_done at_other) of_done)) | inr apart ↦ omega (arith, low, apart) ]) named_x named_y is ];
}
  where
    here : (number other : ℕ) (x y : Name) → number ≡ done → At of other component → other < done + 1 → At keys number x → At keys other y → IsBefore y x → ⊥
    here number other x y is at_other low named_x named_y before_it =
        let x_is : x ≡ one = one_at keys done x one (subst (λ (k : ℕ). At keys k x) is named_x) oned in
        let lower : IsBefore y one = subst (λ (n : Name). IsBefore y n) x_is before_it in
        elim (same_or_not other done) [
          | inl e ↦ not_before_itself one (subst (λ (n : Name). IsBefore n one) (one_at keys done y one (subst (λ (k : ℕ). At keys k y) e named_y) oned) lower)
          | inr ne ↦ l.so_far component before other name y at_old at_other (omega (arith, low, ne)) named named_y (nat_list_cmp_total.trans y one name lower less)
        ]
lowering_more keys of done component old new l of_done (left before name one at_old named oned no_less e) = subst (λ (x : List ℕ). Lowering keys of (done + 1) x) (sym e) (record {
  firsts = l.firsts;
  so_far = λ c number other x y at at_other low named_x named_y is. elim (same_or_not other done) [ inl is_done ↦ here c number x y at (one_at of done c component (subst (λ (k : ℕ). At of k c) is_done at_other) of_done) named_x (subst (λ (k : ℕ). At keys k y) is_done named_y) is | inr ne ↦ l.so_far c number other x y at at_other (omega (arith, low, ne)) named_x named_y is ];
})
  where
    here : (c number : ℕ) (x y : Name) → At old c number → c ≡ component → At keys number x → At keys done y → IsBefore y x → ⊥
    here c number x y at is named_x named_y before_it =
        let same : number ≡ before = one_at old component number before (subst (λ (k : ℕ). At old k number) is at) at_old in
        let x_is : x ≡ name = one_at keys before x name (subst (λ (k : ℕ). At keys k x) same named_x) named in
        let y_is : y ≡ one = one_at keys done y one named_y oned in
        no_less (subst (λ (n : Name). IsBefore one n) x_is (subst (λ (n : Name). IsBefore n x) y_is before_it))

pub lowering_ends : (keys : List Name) (of : List ℕ) (done : ℕ) (least : List ℕ) → Lowering keys of done least → done ≡ length of → AreLeast keys of least
lowering_ends keys of done least l all = record { firsts = l.firsts; least_of_all = λ component number other name one at at_other named oned less. l.so_far component number other name one at at_other (let low = within of other component at_other in omega (arith, low, all)) named oned less }

-- the class whose number is the least of a component has the least name
pub least_is : (references : References) (keys : List Name) (next : Lists) → AreNumbered references keys next → (of firsts least : List ℕ) → AreComponents next of firsts → AreLeast keys of least → (number component lowest : ℕ) (class name : Name) → At keys number class → At of number component → At least component lowest → At keys lowest name → IsLeastOfComponent references class name
least_is references keys next n of firsts least c l number component lowest class name named at at_least lowest_named = record {
  same = (let t = (c.same number lowest component component at at_lowest).0 refl in record { there = walk_of_numbers references keys next n number lowest class name named lowest_named t.there; back = walk_of_numbers references keys next n lowest number name class lowest_named named t.back });
  first = λ other s less. first other s less;
}
  where
    at_lowest : At of lowest component
    at_lowest = l.firsts.within component lowest at_least

    first : (other : Name) → SameComponent references class other → IsBefore other name → ⊥
    first other s less =
        let w = numbers_of_walk references keys next n number class other named s.there in
        let back = walk_to_number references keys next n w.number number other class w.at named s.back in
        let t = there of w.number (let low = within keys w.number other w.at in let e = c.whole in let f = n.whole in omega (arith, low, e, f)) in
        let same : component ≡ t.item = (c.same number w.number component t.item at t.at).1 (record { there = w.walk; back = back }) in
        l.least_of_all component lowest w.number name other at_least (subst (λ (k : ℕ). At of w.number k) (sym same) t.at) lowest_named w.at less

-- what is read of the component of a number is there
pub record LeastWithin (keys : List Name) (of least : List ℕ) (number : ℕ) : Type 0 where
  pub at_of : At of number (get_or of number 0)
  pub at_least : At least (get_or of number 0) (get_or least (get_or of number 0) 0)
  pub low : get_or least (get_or of number 0) 0 < length keys

pub least_within : (keys : List Name) (of least : List ℕ) (number : ℕ) (class : Name) → At keys number class → length of ≡ length keys → AreLeast keys of least → LeastWithin keys of least number
least_within keys of least number class at whole l = record { at_of = at_of; at_least = at_least; low = (let inside = within of (get_or least (get_or of number 0) 0) (get_or of number 0) (l.firsts.within (get_or of number 0) (get_or least (get_or of number 0) 0) at_least) in omega (arith, inside, whole)) }
  where
    at_of : At of number (get_or of number 0)
    at_of = slice_get-get_or of number 0 (let low = within keys number class at in omega (arith, low, whole))

    at_least : At least (get_or of number 0) (get_or least (get_or of number 0) 0)
    at_least = slice_get-get_or least (get_or of number 0) 0 (l.firsts.counted number (get_or of number 0) at_of)
