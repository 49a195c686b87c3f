-- Numbers of classes, and classes of numbers.
use Rattle.std.proofs.Common.{◌≡◌, ℕ, ◌+◌, ◌<◌, Bool, true, false, List, [], ◌∷◌, ◌++◌, Contains, sym, ap, ◌∙◌, subst, length, take, arith, inl, inr, Some}
use Rattle.std.specs.Prelude.{◌⊎◌, ◌↔◌, ◌≢◌, slice_get}
use Rattle.std.proofs.lemmas.List.{length-append}
use Rattle.std.proofs.lemmas.List.Elements.{Contains-push, Contains-push_cases, Contains-append_left}
use Rattle.std.proofs.Math.Seq.{take-length}
use Rattle.worklist.specs.Paths.{IsReached as IsFound}
use Rattle.sj_names.specs.declared.entry_points.EntryPoint.{EntryPoint}
use Rattle.sj_graph.proofs.Taken.{taken_more}
use Rattle.number_graphs.specs.Graphs.{At, Lists, next_of}
use Rattle.number_graphs.specs.Marks.{AreBelow}
use Rattle.number_graphs.proofs.Places.{within, one_at, there, at_push, at_take, into_take, among}
use Rattle.number_graphs.proofs.Searched.{same_or_not}
use Rattle.worklist.proofs.Inserted.{nothing_in}
use Rattle.class_numbers.specs.Numbering.{AreNumbered}
use Rattle.sj_split.specs.Walks.{Name, References, IsReached}
use Rattle.sj_split.specs.Steps.{AreOf, AreNumbersOf, AreComponentsOf, IsWithin, IsMarked, LedTo}
use Rattle.sj_split.proofs.Walked.{numbers_of_walk, led_by_numbers, then_both}

-- the number of one class more
pub more_of : (Right : ℕ → Name → Type 0) (classes : List Name) (place : ℕ) (class : Name) (list more : List ℕ) (number : ℕ) → AreOf Right (take place classes) list → slice_get classes place ≡ Some class → Right number class → more ≡ list ++ number ∷ [] → AreOf Right (take (place + 1) classes) more
more_of Right classes place class list more number are at named e = subst (λ (l : List Name). AreOf Right l more) (sym (taken_more classes place class at)) (subst (λ (l : List ℕ). AreOf Right (take place classes ++ class ∷ []) l) (sym e) (record {
  whole = (let w = are.whole in omega (arith, w, length-append list (number ∷ []), length-append (take place classes) (class ∷ [])));
  right = λ p n c at_p at_c. by p n c (at_push list number p n at_p) (at_push (take place classes) class p c at_c);
}))
  where
    by : (p n : ℕ) (c : Name) → At list p n ⊎ ((p ≡ length list) × (n ≡ number)) → At (take place classes) p c ⊎ ((p ≡ length (take place classes)) × (c ≡ class)) → Right n c
    by p n c (inl x) (inl y) = are.right p n c x y
    by p n c (inl x) (inr y) = let inside = within list p n x in let w = are.whole in let f = y.0 in absurd (omega (arith, inside, w, f))
    by p n c (inr x) (inl y) = let inside = within (take place classes) p c y in let w = are.whole in let f = x.0 in absurd (omega (arith, inside, w, f))
    by p n c (inr x) (inr y) = subst (λ (k : ℕ). Right k c) (sym x.1) (subst (λ (k : Name). Right number k) (sym y.1) named)

pub numbers_below : (keys classes : List Name) (next : Lists) (list : List ℕ) → length next ≡ length keys → AreNumbersOf keys classes list → AreBelow (length next) list
numbers_below keys classes next list whole are place number at =
    let t = there classes place (let inside = within list place number at in let w = are.whole in omega (arith, inside, w)) in
    let inside = within keys number t.item (are.right place number t.item at t.at) in
    omega (arith, inside, whole)

pub components_below : (keys classes : List Name) (of list : List ℕ) (count : ℕ) → ((number component : ℕ) → At of number component → component < count) → AreComponentsOf keys of classes list → AreBelow count list
components_below keys classes of list count counted are place component at =
    let t = there classes place (let inside = within list place component at in let w = are.whole in omega (arith, inside, w)) in
    let is = are.right place component t.item at t.at in
    counted is.number component is.is_component

marked_old : (keys : List Name) (marks : List Bool) (number : ℕ) (class : Name) → IsMarked (take number keys) marks class → IsMarked (take (number + 1) keys) marks class
marked_old keys marks number class m = let r = at_take number keys m.number class m.at in record { number = m.number; at = into_take (number + 1) keys m.number class r.0 (let low = r.1 in omega (arith, low)); marked = m.marked }

pub marked_skip : (keys : List Name) (marks : List Bool) (number : ℕ) (list : List Name) → ((class : Name) → Contains list class ↔ IsMarked (take number keys) marks class) → At marks number false → (class : Name) → Contains list class ↔ IsMarked (take (number + 1) keys) marks class
marked_skip keys marks number list both not_marked class = (λ h. marked_old keys marks number class ((both class).0 h), back)
  where
    back : IsMarked (take (number + 1) keys) marks class → Contains list class
    back m = let r = at_take (number + 1) keys m.number class m.at in (both class).1 (record { number = m.number; at = into_take number keys m.number class r.0 (by (same_or_not m.number number) r.1); marked = m.marked })
      where
        by : (m.number ≡ number) ⊎ (m.number ≢ number) → m.number < number + 1 → m.number < number
        by (inl e) low = absurd (let wrong : true ≡ false = one_at marks number true false (subst (λ (k : ℕ). At marks k true) e m.marked) not_marked in cc)
        by (inr ne) low = omega (arith, ne, low)

pub marked_put : (keys : List Name) (marks : List Bool) (number : ℕ) (list more : List Name) (one : Name) → ((class : Name) → Contains list class ↔ IsMarked (take number keys) marks class) → At marks number true → At keys number one → more ≡ list ++ one ∷ [] → (class : Name) → Contains more class ↔ IsMarked (take (number + 1) keys) marks class
marked_put keys marks number list more one both is_marked named e class = (λ h. out (Contains-push_cases list one class (subst (λ (l : List Name). Contains l class) e h)), λ m. subst (λ (l : List Name). Contains l class) (sym e) (back m))
  where
    out : Contains list class ⊎ (one ≡ class) → IsMarked (take (number + 1) keys) marks class
    out (inl old) = marked_old keys marks number class ((both class).0 old)
    out (inr is) = record { number = number; at = into_take (number + 1) keys number class (subst (λ (n : Name). At keys number n) is named) (omega arith); marked = is_marked }

    back : IsMarked (take (number + 1) keys) marks class → Contains (list ++ one ∷ []) class
    back m = by (same_or_not m.number number)
      where
        r : At keys m.number class × (m.number < number + 1)
        r = at_take (number + 1) keys m.number class m.at

        by : (m.number ≡ number) ⊎ (m.number ≢ number) → Contains (list ++ one ∷ []) class
        by (inl is) = subst (λ (n : Name). Contains (list ++ one ∷ []) n) (one_at keys number one class named (subst (λ (k : ℕ). At keys k class) is r.0)) (Contains-push list one)
        by (inr ne) = Contains-append_left list (one ∷ []) class ((both class).1 (record { number = m.number; at = into_take number keys m.number class r.0 (let low = r.1 in omega (arith, ne, low)); marked = m.marked }))

pub marked_none : (keys : List Name) (marks : List Bool) (list : List Name) → list ≡ [] → (class : Name) → Contains list class ↔ IsMarked (take 0 keys) marks class
marked_none keys marks list e class = (λ h. nothing_in class (subst (λ (l : List Name). Contains l class) e h), λ m. absurd (let low = (at_take 0 keys m.number class m.at).1 in omega (arith, low)))

pub marked_all : (keys : List Name) (marks : List Bool) (number : ℕ) (list : List Name) → ((class : Name) → Contains list class ↔ IsMarked (take number keys) marks class) → number ≡ length keys → (class : Name) → Contains list class ↔ IsMarked keys marks class
marked_all keys marks number list both all class = subst (λ (l : List Name). Contains list class ↔ IsMarked l marks class) (ap (λ n. take n keys) all ∙ take-length keys) (both class)

-- the classes whose numbers are marked are those that are reached
pub marked_reached : (references : References) (entries : List EntryPoint) (keys : List Name) (next : Lists) → AreNumbered references keys next → (marks : List Bool) (starts : List Name) → ((class : Name) → Contains starts class → Contains keys class) → ((number : ℕ) (class : Name) → At keys number class → At marks number true ↔ LedTo references starts class) → ((class : Name) → LedTo references starts class ↔ IsReached references entries class) → (class : Name) → IsMarked keys marks class ↔ IsReached references entries class
marked_reached references entries keys next n marks starts inside led means class = (
  λ m. (means class).0 ((led m.number class m.at).0 m.marked),
  λ r. back ((means class).1 r),
)
  where
    back : LedTo references starts class → IsMarked keys marks class
    back l = let a = among keys l.from (inside l.from l.begins) in let w = numbers_of_walk references keys next n a.place l.from class a.at l.walk in record { number = w.number; at = w.at; marked = (led w.number class w.at).1 l }

-- what is marked is what walks lead to
pub led_means : (references : References) (keys : List Name) (next given_next : Lists) → AreNumbered references keys next → (starts : List Name) (numbers given_numbers : List ℕ) → AreNumbersOf keys starts numbers → given_next ≡ next → given_numbers ≡ numbers → (marks : List Bool) → ((number : ℕ) → At marks number true ↔ IsFound (next_of given_next) given_numbers number) → (number : ℕ) (class : Name) → At keys number class → At marks number true ↔ LedTo references starts class
led_means references keys next given_next n starts numbers given_numbers are same_next same_numbers marks found number class at = then_both (subst (λ (l : Lists). At marks number true ↔ IsFound (next_of l) numbers number) same_next (subst (λ (l : List ℕ). At marks number true ↔ IsFound (next_of given_next) l number) same_numbers (found number))) (led_by_numbers references keys next n starts numbers are number class at)
