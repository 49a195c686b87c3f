-- Walks between components.
use Rattle.std.proofs.Common.{◌≡◌, ℕ, zero, suc, ◌+◌, ◌<◌, List, [], ◌∷◌, ◌++◌, Contains, refl, sym, ap, ◌∙◌, subst, length, take, get_or, arith, inl, inr}
use Rattle.std.specs.Prelude.{◌⊎◌, ◌↔◌, Vec}
use Rattle.std.specs.Global.{Global}
use Rattle.worklist.specs.Paths.{stay, on}
use Rattle.number_graphs.specs.Graphs.{At, Leads, Lists, IsGraph, Walk, AreComponents, next_of}
use Rattle.number_graphs.specs.Marks.{IsAmong}
use Rattle.number_graphs.specs.Condensed.{IsCondensed, IsComponentOf, IsConnected}
use Rattle.number_graphs.proofs.Places.{within, one_at, there, at_push, at_left, at_last, contains_at, among}
use Rattle.number_graphs.proofs.Searched.{joined_walk, step_walk}
use Rattle.number_graphs.proofs.Listed.{LeadsMore, leads_from}

-- a number below the bound leads to another, and these are their components
pub record IsEdge (next : Lists) (of : List ℕ) (bound one other : ℕ) : Type 0 where
  pub from : ℕ
  pub to : ℕ
  pub below : from < bound
  pub leads : Leads next from to
  pub is_from : At of from one
  pub is_to : At of to other

-- the components of the numbers below the bound were connected
pub record IsPartly (next : Lists) (of : List ℕ) (count bound : ℕ) (graph : Lists) : Type 0 where
  pub whole : length graph ≡ count
  pub edges : (one other : ℕ) → Leads graph one other ↔ IsEdge next of bound one other

pub partly_begins : (next : Lists) (of : List ℕ) (count : ℕ) (graph : Lists) → length graph ≡ count → ((from to : ℕ) → Leads graph from to → ⊥) → IsPartly next of count 0 graph
partly_begins next of count graph whole none = record { whole = whole; edges = λ one other. (λ h. absurd (none one other h), λ e. absurd (let low : e.from < 0 = e.below in omega arith)) }

module _ (next : Lists) (of : List ℕ) (count bound component : ℕ) (old new : Lists) (is : At of bound component) where
  pub partly_more : IsPartly next of count bound old → IsConnected of (next_of next bound) component old new → IsPartly next of count (bound + 1) new
  partly_more before more = record { whole = more.whole ∙ before.whole; edges = λ one other. (λ h. into one other ((more.leads one other).0 h), λ e. (more.leads one other).1 (from one other e)) }
    where
      into : (one other : ℕ) → Leads old one other ⊎ ((one ≡ component) × IsComponentOf of (next_of next bound) other) → IsEdge next of (bound + 1) one other
      into one other (inl h) = let e = (before.edges one other).0 h in record { from = e.from; to = e.to; below = (let low = e.below in omega (arith, low)); leads = e.leads; is_from = e.is_from; is_to = e.is_to }
      into one other (inr (same, c)) = record { from = bound; to = c.number; below = omega arith; leads = contains_at (next_of next bound) c.among.place c.number c.among.at; is_from = subst (λ (k : ℕ). At of bound k) (sym same) is; is_to = c.is }

      last : (one other : ℕ) (e : IsEdge next of (bound + 1) one other) → e.from ≡ bound → Leads old one other ⊎ ((one ≡ component) × IsComponentOf of (next_of next bound) other)
      last one other e same =
          let a = among (next_of next bound) e.to (subst (λ (k : ℕ). Leads next k e.to) same e.leads) in
          inr (one_at of bound one component (subst (λ (k : ℕ). At of k one) same e.is_from) is, record { number = e.to; among = record { place = a.place; at = a.at }; is = e.is_to })

      split : (i : ℕ) → i < bound + 1 → (i < bound) ⊎ (i ≡ bound)
      split i low = grind arith

      from : (one other : ℕ) → IsEdge next of (bound + 1) one other → Leads old one other ⊎ ((one ≡ component) × IsComponentOf of (next_of next bound) other)
      from one other e = elim (split e.from e.below) [ inl low ↦ inl ((before.edges one other).1 (record { from = e.from; to = e.to; below = low; leads = e.leads; is_from = e.is_from; is_to = e.is_to })) | inr same ↦ last one other e same ]

module _ (next : Lists) (of firsts : List ℕ) (graph : Lists) (bound : ℕ) (c : AreComponents next of firsts) (inside : IsGraph next) (p : IsPartly next of (length firsts) bound graph) (whole : bound ≡ length next) where
  -- a walk between components is one between their numbers
  down : (one a b other : ℕ) → At of a one → At of b other → Walk graph one other → Walk next a b
  down one a b _ is_a is_b stay = ((c.same a b one one is_a is_b).0 refl).there
  down one a b _ is_a is_b (on middle other path step) =
      let e = (p.edges middle other).0 step in
      joined_walk next a e.to b (step_walk next a e.from e.to (down one a e.from middle is_a e.is_from path) e.leads) ((c.same e.to b other other e.is_to is_b).0 refl).there

  up : (a b one other : ℕ) → At of a one → At of b other → Walk next a b → Walk graph one other
  up a _ one other is_a is_b stay = subst (λ (k : ℕ). Walk graph one k) (one_at of a one other is_a is_b) stay
  up a _ one other is_a is_b (on middle b path step) =
      let low : middle < length next = leads_from next middle b step in
      let t = there of middle (let e = c.whole in omega (arith, low, e)) in
      on t.item other (up a middle one t.item is_a t.at path) ((p.edges t.item other).1 (record { from = middle; to = b; below = (let e = whole in omega (arith, low, e)); leads = step; is_from = t.at; is_to = is_b }))

  pub condensed_is : IsCondensed next of firsts graph
  condensed_is = record {
    whole = p.whole;
    graph = λ one other leads. (let e = (p.edges one other).0 leads in let low = c.counted e.to other e.is_to in let w = p.whole in omega (arith, low, w));
    walks = λ a b one other is_a is_b. (down one a b other is_a is_b, up a b one other is_a is_b);
  }

pub connected_begins : (of : List ℕ) (component : ℕ) (numbers : List ℕ) (graph : Lists) → numbers ≡ [] → IsConnected of numbers component graph graph
connected_begins of component numbers graph none = record { whole = refl; leads = λ from to. (λ h. inl h, λ s. back from to s) }
  where
    back : (from to : ℕ) → Leads graph from to ⊎ ((from ≡ component) × IsComponentOf of numbers to) → Leads graph from to
    back from to (inl h) = h
    back from to (inr (e, k)) = let wrong : At {X = ℕ} [] k.among.place k.number = subst (λ (l : List ℕ). At l k.among.place k.number) none k.among.at in cc

pub connected_more : (of : List ℕ) (component : ℕ) (numbers more : List ℕ) (number one : ℕ) (first old new : Lists) → more ≡ numbers ++ number ∷ [] → At of number one → IsConnected of numbers component first old → LeadsMore component one old new → IsConnected of more component first new
connected_more of component numbers more number one first old new longer is before m = record { whole = m.whole ∙ before.whole; leads = λ from to. (λ h. into from to (m.cases from to h), λ s. back from to s) }
  where
    wider : (to : ℕ) → IsComponentOf of numbers to → IsComponentOf of more to
    wider to k = record { number = k.number; among = record { place = k.among.place; at = subst (λ (l : List ℕ). At l k.among.place k.number) (sym longer) (at_left numbers (number ∷ []) k.among.place k.number k.among.at) }; is = k.is }

    into : (from to : ℕ) → Leads old from to ⊎ ((from ≡ component) × (to ≡ one)) → Leads first from to ⊎ ((from ≡ component) × IsComponentOf of more to)
    into from to (inl h) = elim ((before.leads from to).0 h) [ inl early ↦ inl early | inr s ↦ inr (s.0, wider to s.1) ]
    into from to (inr (e, f)) = inr (e, record { number = number; among = record { place = length numbers; at = subst (λ (l : List ℕ). At l (length numbers) number) (sym longer) (at_last numbers number) }; is = subst (λ (k : ℕ). At of number k) (sym f) is })

    back : (from to : ℕ) → Leads first from to ⊎ ((from ≡ component) × IsComponentOf of more to) → Leads new from to
    back from to (inl h) = m.kept from to ((before.leads from to).1 (inl h))
    back from to (inr (e, k)) = elim (at_push numbers number k.among.place k.number (subst (λ (l : List ℕ). At l k.among.place k.number) longer k.among.at)) [
      | inl early ↦ m.kept from to ((before.leads from to).1 (inr (e, record { number = k.number; among = record { place = k.among.place; at = early }; is = k.is })))
      | inr now ↦ (let same : to ≡ one = one_at of number to one (subst (λ (n : ℕ). At of n to) now.1 k.is) is in subst (λ (n : ℕ). Leads new from n) (sym same) (subst (λ (n : ℕ). Leads new n one) (sym e) m.leads))
    ]
