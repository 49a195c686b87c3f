-- Searches find what walks lead to.
use Rattle.std.proofs.Common.{◌≡◌, ℕ, ◌<◌, Bool, true, List, [], Contains, refl, sym, subst, inl, inr, map, length, arith}
use Rattle.std.specs.Prelude.{◌⊎◌, ◌↔◌, filter}
use Rattle.std.proofs.lemmas.Slice.Eq.{bytes_eq-Decides}
use Rattle.sj_names.specs.declared.entry_points.EntryPoint.{EntryPoint}
use Rattle.worklist.specs.Paths.{stay, on, IsReached as IsFound}
use Rattle.worklist.proofs.Inserted.{nothing_in, from-insert_all, each-insert_all}
use Rattle.indexmap.specs.IndexSet.{insert_all}
use Rattle.sj_graph.specs.References.{reference}
use Rattle.number_graphs.specs.Graphs.{At, Lists, next_of, Leads, Walk as NumberWalk}
use Rattle.number_graphs.proofs.Places.{within, one_at, there, contains_at, among}
use Rattle.class_numbers.specs.Numbering.{AreNumbered}
use Rattle.number_graphs.proofs.Listed.{leads_from}
use Rattle.sj_split.specs.Orders.{is_same}
use Rattle.sj_split.specs.Walks.{Name, Id, References, Walk, Reaches, IsReached}
use Rattle.number_graphs.specs.Condensed.{IsCondensed}
use Rattle.sj_split.specs.Steps.{entry_class, first_classes, AreNumbersOf, AreComponentsOf, IsWithin, LedTo}
use Rattle.sj_split.proofs.Members.{into_map, Mapped, from_map, into_filter, from_filter}

pub same_name : (a b : Name) → is_same a b ≡ true → a ≡ b
same_name a b = (bytes_eq-Decides a b).0

pub is_same_itself : (a : Name) → is_same a a ≡ true
is_same_itself a = (bytes_eq-Decides a a).1 refl

pub then_both : {A B C : Type 0} → A ↔ B → B ↔ C → A ↔ C
then_both f g = (λ a. g.0 (f.0 a), λ c. f.1 (g.1 c))

module _ (references : References) where
  pub joined : (a b c : Name) → Walk references a b → Walk references b c → Walk references a c
  joined a b _ h stay = h
  joined a b _ h (on x y path step) = on x y (joined a b x h path) step

  module _ (keys : List Name) (next : Lists) (n : AreNumbered references keys next) where
    -- walks over numbers are walks over their classes
    pub walk_of_numbers : (i j : ℕ) (a b : Name) → At keys i a → At keys j b → NumberWalk next i j → Walk references a b
    walk_of_numbers i _ a b at_i at_j stay = subst (λ (x : Name). Walk references a x) (one_at keys i a b at_i at_j) stay
    walk_of_numbers i _ a b at_i at_j (on x y path step) =
        let low : x < length keys = (let l = leads_from next x y step in let e = n.whole in omega (arith, l, e)) in
        let t = there keys x low in
        on t.item b (walk_of_numbers i x a t.item at_i t.at path) (n.right x y t.item b t.at at_j step)

    pub record NumberedWalk (i : ℕ) (b : Name) : Type 0 where
      pub number : ℕ
      pub at : At keys number b
      pub walk : NumberWalk next i number

    pub numbers_of_walk : (i : ℕ) (a b : Name) → At keys i a → Walk references a b → NumberedWalk i b
    numbers_of_walk i a _ at_i stay = record { number = i; at = at_i; walk = stay }
    numbers_of_walk i a _ at_i (on x y path step) =
        let before = numbers_of_walk i a x at_i path in
        let l = n.listed (reference x y) step in
        let same = n.once before.number l.from x before.at l.is_from in
        record { number = l.to; at = l.is_to; walk = on before.number l.to before.walk (subst (λ (k : ℕ). Leads next k l.to) (sym same) l.leads) }

    pub walk_to_number : (i j : ℕ) (a b : Name) → At keys i a → At keys j b → Walk references a b → NumberWalk next i j
    walk_to_number i j a b at_i at_j walk = let w = numbers_of_walk i a b at_i walk in subst (λ (k : ℕ). NumberWalk next i k) (n.once w.number j b w.at at_j) w.walk

    -- the numbers to which walks lead from the numbers of classes are those of the classes to which walks lead from them
    pub led_by_numbers : (starts : List Name) (numbers : List ℕ) → AreNumbersOf keys starts numbers → (number : ℕ) (class : Name) → At keys number class → IsFound (next_of next) numbers number ↔ LedTo references starts class
    led_by_numbers starts numbers are number class at = (out, back)
      where
        out : IsFound (next_of next) numbers number → LedTo references starts class
        out f =
            let place = among numbers f.from f.begins in
            let low : place.place < length starts = (let inside = within numbers place.place f.from place.at in let e = are.whole in omega (arith, inside, e)) in
            let start = there starts place.place low in
            record { from = start.item; begins = contains_at starts place.place start.item start.at; walk = walk_of_numbers f.from number start.item class (are.right place.place f.from start.item place.at start.at) at f.path }

        back : LedTo references starts class → IsFound (next_of next) numbers number
        back l =
            let place = among starts l.from l.begins in
            let low : place.place < length numbers = (let inside = within starts place.place l.from place.at in let e = are.whole in omega (arith, inside, e)) in
            let start = there numbers place.place low in
            record { from = start.item; begins = contains_at numbers place.place start.item start.at; path = walk_to_number start.item number l.from class (are.right place.place start.item l.from start.at place.at) at l.walk }

    -- the components to which walks lead from the components of classes are those of the classes to which walks lead from them
    pub led_by_components : (of firsts : List ℕ) (graph : Lists) → length of ≡ length next → IsCondensed next of firsts graph → (starts : List Name) (components : List ℕ) → AreComponentsOf keys of starts components → (component : ℕ) (class : Name) → IsWithin keys of component class → IsFound (next_of graph) components component ↔ LedTo references starts class
    led_by_components of firsts graph whole condensed starts components are component class is = (out, back)
      where
        out : IsFound (next_of graph) components component → LedTo references starts class
        out f =
            let place = among components f.from f.begins in
            let low : place.place < length starts = (let inside = within components place.place f.from place.at in let e = are.whole in omega (arith, inside, e)) in
            let start = there starts place.place low in
            let first = are.right place.place f.from start.item place.at start.at in
            record { from = start.item; begins = contains_at starts place.place start.item start.at; walk = walk_of_numbers first.number is.number start.item class first.is_class is.is_class ((condensed.walks first.number is.number f.from component first.is_component is.is_component).0 f.path) }

        back : LedTo references starts class → IsFound (next_of graph) components component
        back l =
            let place = among starts l.from l.begins in
            let low : place.place < length components = (let inside = within starts place.place l.from place.at in let e = are.whole in omega (arith, inside, e)) in
            let start = there components place.place low in
            let first = are.right place.place start.item l.from start.at place.at in
            record { from = start.item; begins = contains_at components place.place start.item start.at; path = (condensed.walks first.number is.number start.item component first.is_component is.is_component).1 (walk_to_number first.number is.number l.from class first.is_class is.is_class l.walk) }

  module _ (entries : List EntryPoint) where
    listed : (first : List Name) (x : Name) → Contains [] x ⊎ Contains first x → Contains first x
    listed first x (inl none) = nothing_in x none
    listed first x (inr there) = there

    pub from_first : (names start : List Name) (x : Name) → start ≡ insert_all is_same [] names → Contains start x → Contains names x
    from_first names start x e h = listed names x (from-insert_all is_same [] names x (subst (λ l. Contains l x) e h))

    into_first : (names start : List Name) (x : Name) → start ≡ insert_all is_same [] names → Contains names x → Contains start x
    into_first names start x e h = subst (λ l. Contains l x) (sym e) (each-insert_all is_same same_name [] names x h)

    pub led_by_all : (start : List Name) → start ≡ insert_all is_same [] (map entry_class entries) → (x : Name) → LedTo references start x ↔ IsReached references entries x
    led_by_all start e x = (out, λ r. record { from = r.entry.class; begins = into_first (map entry_class entries) start r.entry.class e (into_map entry_class entries r.entry r.among); walk = r.walk })
      where
        out : LedTo references start x → IsReached references entries x
        out f = by (from_map entry_class entries f.from (from_first (map entry_class entries) start f.from e f.begins))
          where
            by : Mapped entry_class entries f.from → IsReached references entries x
            by m = record { entry = m.item; among = m.among; walk = subst (λ (c : Name). Walk references c x) (sym m.is) f.walk }

    pub led_by_one : (id : Id) (start : List Name) → start ≡ insert_all is_same [] (first_classes id entries) → (x : Name) → LedTo references start x ↔ Reaches references entries id x
    led_by_one id start e x = (out, back)
      where
        test : EntryPoint → Bool
        test entry = is_same entry.module id

        back : Reaches references entries id x → LedTo references start x
        back r = record { from = r.entry.class; begins = into_first (first_classes id entries) start r.entry.class e (into_map entry_class (filter test entries) r.entry (into_filter test entries r.entry r.among (subst (λ (m : Id). is_same m id ≡ true) (sym r.in_module) (is_same_itself id)))); walk = r.walk }

        out : LedTo references start x → Reaches references entries id x
        out f = by (from_map entry_class (filter test entries) f.from (from_first (first_classes id entries) start f.from e f.begins))
          where
            by : Mapped entry_class (filter test entries) f.from → Reaches references entries id x
            by m = let p = from_filter test entries m.item m.among in record { entry = m.item; among = p.among; in_module = same_name m.item.module id p.passes; walk = subst (λ (c : Name). Walk references c x) (sym m.is) f.walk }

-- the classes of a module's entries are among those of all
pub first_inside : (id : Id) (entries : List EntryPoint) (x : Name) → Contains (first_classes id entries) x → Contains (map entry_class entries) x
first_inside id entries x h = by (from_map entry_class (filter test entries) x h)
  where
    test : EntryPoint → Bool
    test entry = is_same entry.module id

    by : Mapped entry_class (filter test entries) x → Contains (map entry_class entries) x
    by m = subst (λ (c : Name). Contains (map entry_class entries) c) m.is (into_map entry_class entries m.item (from_filter test entries m.item m.among).among)
