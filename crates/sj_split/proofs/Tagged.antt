-- Tags that are found are the tags.
use Rattle.std.proofs.Common.{◌≡◌, ◌∙◌, ap, ℕ, Option, Some, ◌<◌, length, arith, Bool, true, false, List, [], ◌∷◌, Contains, refl, sym, subst, map, cond}
use Rattle.std.specs.Prelude.{filter}
use Rattle.std.specs.List.{AllByRecursion}
use Rattle.std.specs.List.Sorted.{IsStrictlySortedBy}
use Rattle.std.specs.Ordering.{nat_cmp}
use Rattle.std.specs.declared.cmp.Ordering.TheVariants.{Less}
use Rattle.std.specs.Cmp.Lexicographic.{slice_cmp}
use Rattle.std.proofs.lemmas.Option.{slice_get-get_or, get_or_from_slice_get}
use Rattle.number_graphs.specs.declared.finding.Components.{Components}
use Rattle.class_numbers.specs.Numbering.{IsNumbering}
use Rattle.class_numbers.specs.declared.numbers.ClassNumbers.{ClassNumbers}
use Rattle.sj_names.specs.declared.entry_points.EntryPoint.{EntryPoint}
use Rattle.worklist.proofs.Inserted.{nothing_in}
use Rattle.std.specs.List.{join_with_byte}
use Rattle.sj_split.specs.declared.homes.Home.{Home}
use Rattle.sj_split.specs.declared.homes.Home.TheVariants.{Public, Internal}
use Rattle.number_graphs.specs.Graphs.{At}
use Rattle.number_graphs.proofs.Places.{there}
use Rattle.sj_split.specs.Homes.{home_of_tags, IsHomeByTags}
use Rattle.sj_split.specs.declared.tags.Reach.{Reach}
use Rattle.sj_split.specs.Orders.{Bytes, AreIncreasing}
use Rattle.sj_split.specs.Walks.{Name, Id, References, Reaches, IsReached, AreTags}
use Rattle.sj_split.specs.Modules.{AreIds, module_of}
use Rattle.sj_split.specs.Steps.{id_of, is_marked, tags_in, AreReaches, AreHomesByTags, IsWithin}
use Rattle.sj_split.proofs.Members.{into_map, Mapped, from_map, into_filter, from_filter}

abbrev pub Below : Bytes → List Bytes → Type 0
Below first texts = AllByRecursion (λ y. slice_cmp nat_cmp first y ≡ Less) texts

below_by : {X : Type 0} (key : X → Bytes) (first : Bytes) (x : X) (kept : List X) (b : Bool) → slice_cmp nat_cmp first (key x) ≡ Less → Below first (map key kept) → Below first (map key (cond b (x ∷ kept) kept))
below_by key first x kept true here rest = (here, rest)
below_by key first x kept false here rest = rest

below_filtered : {X : Type 0} (key : X → Bytes) (test : X → Bool) (first : Bytes) (xs : List X) → Below first (map key xs) → Below first (map key (filter test xs))
below_filtered key test first [] h = h
below_filtered key test first (x ∷ xs) h = below_by key first x (filter test xs) (test x) h.0 (below_filtered key test first xs h.1)

increasing_by : {X : Type 0} (key : X → Bytes) (x : X) (kept : List X) (b : Bool) → Below (key x) (map key kept) → AreIncreasing (map key kept) → AreIncreasing (map key (cond b (x ∷ kept) kept))
unfolding IsStrictlySortedBy
increasing_by key x kept true here rest = (here, rest)
increasing_by key x kept false here rest = rest

-- what is left of items in order is in order
pub increasing_filtered : {X : Type 0} (key : X → Bytes) (test : X → Bool) (xs : List X) → AreIncreasing (map key xs) → AreIncreasing (map key (filter test xs))
unfolding IsStrictlySortedBy
increasing_filtered key test [] h = h
increasing_filtered key test (x ∷ xs) h = increasing_by key x (filter test xs) (test x) (below_filtered key test (key x) xs h.0) (increasing_filtered key test xs h.1)

pub record IsSomeHome (home : Option Home) : Type 0 where
  pub some : Home
  pub is : home ≡ Some some

module _ (references : References) (entries : List EntryPoint) where
  pub are_tags : (numbers : ClassNumbers) (components : Components) → IsNumbering references numbers → (ids : List Id) (reaches : List Reach) (component : ℕ) (class : Name) → IsWithin numbers.classes.keys components.of.items component class → component < length components.firsts.items → AreIds entries ids → AreReaches entries numbers components ids reaches → AreTags references entries class (tags_in component reaches)
  are_tags numbers components numbered ids reaches component class is inside of_entries known = record {
    increasing = increasing_filtered id_of test reaches (subst (λ l. AreIncreasing l) (sym known.ids_are) of_entries.increasing);
    exact = λ id. (λ h. out id (from_map id_of (filter test reaches) id h), λ r. back id r);
  }
    where
      test : Reach → Bool
      test reach = is_marked component reach

      low : (reach : Reach) → Contains reaches reach → component < length reach.marks.items
      low reach among = let e = (known.right reach among).whole in omega (arith, inside, e)

      out : (id : Id) → Mapped id_of (filter test reaches) id → Reaches references entries id class
      out id m = let p = from_filter test reaches m.item m.among in subst (λ (i : Id). Reaches references entries i class) m.is (((known.right m.item p.among).right references numbered component class is).0 (slice_get-get_or m.item.marks.items component false (low m.item p.among) ∙ ap Some p.passes))

      back : (id : Id) → Reaches references entries id class → Contains (map id_of (filter test reaches)) id
      back id r = by (from_map id_of reaches id (subst (λ l. Contains l id) (sym known.ids_are) ((of_entries.exact id).1 (subst (λ (i : Id). Contains (map module_of entries) i) r.in_module (into_map module_of entries r.entry r.among)))))
        where
          by : Mapped id_of reaches id → Contains (map id_of (filter test reaches)) id
          by m = subst (λ (i : Id). Contains (map id_of (filter test reaches)) i) m.is (into_map id_of (filter test reaches) m.item (into_filter test reaches m.item m.among (get_or_from_slice_get m.item.marks.items component true false (((known.right m.item m.among).right references numbered component class is).1 (subst (λ (i : Id). Reaches references entries i class) (sym m.is) r)))))

  pub has_tags : (class : Name) (tags : List Id) → AreTags references entries class tags → IsReached references entries class → 0 < length tags
  has_tags class tags are reached = some tags ((are.exact reached.entry.module).1 (record { entry = reached.entry; among = reached.among; in_module = refl; walk = reached.walk }))
    where
      some : (ids : List Id) → Contains ids reached.entry.module → 0 < length ids
      some [] h = nothing_in reached.entry.module h
      some (id ∷ ids) h = omega arith

  -- a class that some module reaches has the home of its component
  pub has_home : (class : Name) (tags : List Id) → AreTags references entries class tags → IsReached references entries class → (home : Option Home) → home ≡ home_of_tags tags → IsSomeHome home
  has_home class tags are reached home e = some tags (has_tags class tags are reached) home e
    where
      some : (ids : List Id) → 0 < length ids → (h : Option Home) → h ≡ home_of_tags ids → IsSomeHome h
      some [] none h is = absurd (omega arith)
      some (id ∷ []) _ h is = record { some = Public id; is = is }
      some (id ∷ other ∷ ids) _ h is = record { some = Internal (join_with_byte 32 (id ∷ other ∷ ids)); is = is }

  module _ (numbers : ClassNumbers) (components : Components) (numbered : IsNumbering references numbers) (ids : List Id) (reaches : List Reach) (homes : List (Option Home)) (of_entries : AreIds entries ids) (known : AreReaches entries numbers components ids reaches) (by_tags : AreHomesByTags reaches (length components.firsts.items) homes) (component : ℕ) (class : Name) (is : IsWithin numbers.classes.keys components.of.items component class) (inside : component < length components.firsts.items) where
    pub tags_are : AreTags references entries class (tags_in component reaches)
    tags_are = are_tags numbers components numbered ids reaches component class is inside of_entries known

    pub home_there : IsReached references entries class → (home : Home) × At homes component (Some home)
    home_there reached =
        let t = there homes component (let e = by_tags.whole in omega (arith, inside, e)) in
        let h = has_home class (tags_in component reaches) tags_are reached t.item (by_tags.right component t.item t.at) in
        (h.some, subst (λ (o : Option Home). At homes component o) h.is t.at)

    pub home_right : (home : Home) → At homes component (Some home) → IsHomeByTags references entries class home
    home_right home at = record { tags = tags_in component reaches; are_tags = tags_are; is_home = sym (by_tags.right component (Some home) at) }
