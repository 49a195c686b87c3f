-- Whether a walk leads from one class to another can be told, and whether a module reaches a class.
use Rattle.std.proofs.Common.{◌≡◌, List, [], ◌∷◌, ◌++◌, Contains, inl, inr, refl, sym, ap, subst, map}
use Rattle.std.specs.Prelude.{◌⊎◌}
use Rattle.std.proofs.lemmas.List.Elements.{Contains-append_left, Contains-append_right}
use Rattle.sj_graph.specs.References.{reference}
use Rattle.sj_graph.specs.declared.graphs.Reference.{Reference}
use Rattle.sj_names.specs.declared.entry_points.EntryPoint.{EntryPoint}
use Rattle.sj_split.proofs.Members.{at_first, further, cons_cases, into_map}
use Rattle.sj_split.proofs.Walked.{joined}
use Rattle.sj_split.specs.Steps.{entry_class}
use Rattle.sj_split.specs.Walks.{Name, Id, References, Walk, Reaches, IsReached, SameComponent}
use Rattle.worklist.proofs.Inserted.{nothing_in}
use Rattle.worklist.specs.Paths.{stay, on}
use Rattle.sj_split_plans.proofs.Decided.{Decided, same_or_not, Found, found_or_not}

no_step : (a b : Name) → Walk [] a b → a ≡ b
no_step a _ stay = refl
no_step a _ (on x y path step) = nothing_in (reference x y) step

-- a walk over one reference more goes without it, or to its start and on from its end
module _ (one : Reference) (rest : References) where
  abbrev Through : Name → Name → Type 0
  Through a b = Walk rest a b ⊎ (Walk rest a one.from × Walk rest one.to b)

  through_more : (a x y : Name) → Through a x → (one ≡ reference x y) ⊎ Contains rest (reference x y) → Through a y
  through_more a x y (inl path) (inl e) = inr (subst (λ (n : Name). Walk rest a n) (sym (ap (λ (r : Reference). r.from) e)) path, subst (λ (n : Name). Walk rest one.to n) (ap (λ (r : Reference). r.to) e) stay)
  through_more a x y (inl path) (inr step) = inl (on x y path step)
  through_more a x y (inr parts) (inl e) = inr (parts.0, subst (λ (n : Name). Walk rest one.to n) (ap (λ (r : Reference). r.to) e) stay)
  through_more a x y (inr parts) (inr step) = inr (parts.0, on x y parts.1 step)

  through : (a b : Name) → Walk (one ∷ rest) a b → Through a b
  through a _ stay = inl stay
  through a _ (on x y path step) = through_more a x y (through a x path) (cons_cases one (reference x y) rest step)

  without_it : (a b : Name) → Walk rest a b → Walk (one ∷ rest) a b
  without_it a _ stay = stay
  without_it a _ (on x y path step) = on x y (without_it a x path) (further one (reference x y) rest step)

  by_it : (a b : Name) → Walk rest a one.from → Walk rest one.to b → Walk (one ∷ rest) a b
  by_it a b there back = joined (one ∷ rest) a one.to b (on one.from one.to (without_it a one.from there) (at_first one rest)) (without_it one.to b back)

pub walk_or_not : (references : References) (a b : Name) → Decided (Walk references a b)
walk_or_not [] a b = go (same_or_not a b)
  where
    go : Decided (a ≡ b) → Decided (Walk [] a b)
    go (inl e) = inl (subst (λ (n : Name). Walk [] a n) e stay)
    go (inr denied) = inr (λ w. denied (no_step a b w))
walk_or_not (one ∷ rest) a b = go (walk_or_not rest a b) (walk_or_not rest a one.from) (walk_or_not rest one.to b)
  where
    go : Decided (Walk rest a b) → Decided (Walk rest a one.from) → Decided (Walk rest one.to b) → Decided (Walk (one ∷ rest) a b)
    go (inl w) there back = inl (without_it one rest a b w)
    go (inr denied) (inl there) (inl back) = inl (by_it one rest a b there back)
    go (inr denied) (inl there) (inr none) = inr (λ w. elim (through one rest a b w) [ inl u ↦ denied u | inr parts ↦ none parts.1 ])
    go (inr denied) (inr none) back = inr (λ w. elim (through one rest a b w) [ inl u ↦ denied u | inr parts ↦ none parts.0 ])

abbrev to_of : Reference → Name
to_of one = one.to

module _ (references : References) where
  -- the classes to which a walk from a class can lead
  abbrev pub near : Name → List Name
  near from = from ∷ map to_of references

  pub ends_near : (from class : Name) → Walk references from class → Contains (near from) class
  ends_near from _ stay = at_first from (map to_of references)
  ends_near from _ (on x y path step) = further from y (map to_of references) (into_map to_of references (reference x y) step)

  pub component_or_not : (a b : Name) → Decided (SameComponent references a b)
  component_or_not a b = go (walk_or_not references a b) (walk_or_not references b a)
    where
      go : Decided (Walk references a b) → Decided (Walk references b a) → Decided (SameComponent references a b)
      go (inl there) (inl back) = inl (record { there = there; back = back })
      go (inl there) (inr none) = inr (λ s. none s.back)
      go (inr none) other = inr (λ s. none s.there)

  module _ (entries : List EntryPoint) where
    -- the classes that a module can reach
    abbrev pub named : List Name
    named = map to_of references ++ map entry_class entries

    ends_named : (from class : Name) → Contains named from → Walk references from class → Contains named class
    ends_named from _ h stay = h
    ends_named from _ h (on x y path step) = Contains-append_left (map to_of references) (map entry_class entries) y (into_map to_of references (reference x y) step)

    pub reached_named : (class : Name) → IsReached references entries class → Contains named class
    reached_named class r = ends_named r.entry.class class (Contains-append_right (map to_of references) (map entry_class entries) r.entry.class (into_map entry_class entries r.entry r.among)) r.walk

    pub reached_or_not : (class : Name) → Decided (IsReached references entries class)
    reached_or_not class = go (found_or_not leads (λ e. walk_or_not references e.class class) entries)
      where
        leads : EntryPoint → Type 0
        leads e = Walk references e.class class

        go : Decided (Found leads entries) → Decided (IsReached references entries class)
        go (inl f) = inl (record { entry = f.item; among = f.among; walk = f.holds })
        go (inr none) = inr (λ r. none (record { item = r.entry; among = r.among; holds = r.walk }))

    pub reaches_or_not : (id : Id) (class : Name) → Decided (Reaches references entries id class)
    reaches_or_not id class = go (found_or_not leads (λ e. both e (same_or_not e.module id) (walk_or_not references e.class class)) entries)
      where
        leads : EntryPoint → Type 0
        leads e = (e.module ≡ id) × Walk references e.class class

        both : (e : EntryPoint) → Decided (e.module ≡ id) → Decided (Walk references e.class class) → Decided (leads e)
        both e (inl is) (inl walk) = inl (is, walk)
        both e (inl is) (inr none) = inr (λ l. none l.1)
        both e (inr denied) other = inr (λ l. denied l.0)

        go : Decided (Found leads entries) → Decided (Reaches references entries id class)
        go (inl f) = inl (record { entry = f.item; among = f.among; in_module = f.holds.0; walk = f.holds.1 })
        go (inr none) = inr (λ r. none (record { item = r.entry; among = r.among; holds = (r.in_module, r.walk) }))
