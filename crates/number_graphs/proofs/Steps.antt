-- Steps of a search.
use Rattle.std.proofs.Common.{◌≡◌, ℕ, ◌+◌, ◌-◌, ◌<◌, ◌≤◌, List, [], ◌∷◌, ◌++◌, refl, sym, ap, ◌∙◌, subst, length, take, arith, inl, inr}
use Rattle.std.specs.Prelude.{◌⊎◌}
use Rattle.std.proofs.Math.ListN.{set}
use Rattle.std.proofs.lemmas.List.{length-take}
use Rattle.number_graphs.specs.declared.paths.Found.{Found}
use Rattle.number_graphs.specs.declared.paths.Found.TheVariants.{Not, OnPath, Within}
use Rattle.number_graphs.specs.declared.paths.Group.{Group}
use Rattle.number_graphs.specs.declared.paths.Search.{Search}
use Rattle.number_graphs.specs.Graphs.{At, Lists, next_of, Walk, IsGraph}
use Rattle.number_graphs.specs.Searching.{IsSearch, IsRight, IsLast, IsEntered, IsLeft, IsNearer, IsKnownNumber, JoinedGroups, open_things, unknown, group_at}
use Rattle.number_graphs.proofs.Places.{within, one_at, There, there, at_left, at_last, at_push, at_set, from_set_other}
use Rattle.number_graphs.proofs.Groups.{one_fewer}
use Rattle.number_graphs.proofs.Finished.{none_on_path}
use Rattle.number_graphs.proofs.Searched.{same_or_not, last_greatest, reaches, discarded, joined, entered, left, le_cases}

-- the parts of a search that a number was put into
module _ (next : Lists) (found : List Found) (members before pending : List ℕ) (groups : List Group) (firsts : List ℕ) (w : ℕ) (s : IsSearch next found members before groups firsts) (unknown_yet : At found w Not) (split : (place x : ℕ) → At before place x → At pending place x ⊎ (x ≡ w)) (kept : (place x : ℕ) → At pending place x → At before place x) (reach : (place a : ℕ) → At members place a → Walk next a w) (low : (k : ℕ) (g : Group) → At groups k g → g.pending ≤ length pending) where
  pub entered_right : (old new : Search) → old.found.items ≡ found → old.members.items ≡ members → old.pending.items ≡ pending → old.groups.items ≡ groups → old.firsts.items ≡ firsts → IsEntered next w old new → IsRight next new
  entered_right old new f m p g r e =
      subst (λ (x : List Found). IsSearch next x new.members.items new.pending.items new.groups.items new.firsts.items) (sym (e.found ∙ ap (λ (x : List Found). set x w (OnPath (length old.members.items))) f ∙ ap (λ (x : List ℕ). set found w (OnPath (length x))) m))
      (subst (λ (x : List ℕ). IsSearch next (set found w (OnPath (length members))) x new.pending.items new.groups.items new.firsts.items) (sym (e.members ∙ ap (λ (x : List ℕ). x ++ w ∷ []) m))
      (subst (λ (x : List ℕ). IsSearch next (set found w (OnPath (length members))) (members ++ w ∷ []) x new.groups.items new.firsts.items) (sym (e.pending ∙ ap (λ (x : List ℕ). x ++ next_of next w) p))
      (subst (λ (x : List Group). IsSearch next (set found w (OnPath (length members))) (members ++ w ∷ []) (pending ++ next_of next w) x new.firsts.items) (sym (e.groups ∙ ap (λ (x : List Group). x ++ group_at (length old.members.items) (length old.pending.items) ∷ []) g ∙ ap (λ (x : List ℕ). groups ++ group_at (length x) (length old.pending.items) ∷ []) m ∙ ap (λ (x : List ℕ). groups ++ group_at (length members) (length x) ∷ []) p))
      (subst (λ (x : List ℕ). IsSearch next (set found w (OnPath (length members))) (members ++ w ∷ []) (pending ++ next_of next w) (groups ++ group_at (length members) (length pending) ∷ []) x) (sym (e.firsts ∙ r))
      (entered next found members before pending groups firsts w s unknown_yet split kept reach low)))))

pub entered_nearer : (next : Lists) (w most : ℕ) (old new : Search) → At old.found.items w Not → IsEntered next w old new → IsNearer most old new
entered_nearer next w most old new at e = record {
  still_known = λ number is. elim (same_or_not number w) [ inl here ↦ wrong number is here | inr ne ↦ from_set_other old.found.items w (OnPath (length old.members.items)) number Not ne (subst (λ (l : List Found). At l number Not) e.found is) ];
  no_more = (let r = less in omega (arith, r));
  nearer = inl (let r = less in omega (arith, r));
}
  where
    less : unknown new.found.items + 1 ≡ unknown old.found.items
    less = ap (λ (l : List Found). unknown l + 1) e.found ∙ one_fewer old.found.items w (length old.members.items) at

    wrong : (number : ℕ) → At new.found.items number Not → number ≡ w → At old.found.items number Not
    wrong number is here = let there : At (set old.found.items w (OnPath (length old.members.items))) w Not = subst (λ (n : ℕ). At (set old.found.items w (OnPath (length old.members.items))) n Not) here (subst (λ (l : List Found). At l number Not) e.found is) in let same : Not ≡ OnPath (length old.members.items) = one_at (set old.found.items w (OnPath (length old.members.items))) w Not (OnPath (length old.members.items)) there (at_set old.found.items w (OnPath (length old.members.items)) (within old.found.items w Not at)) in cc

module _ (next : Lists) (search : Search) (number : ℕ) (group : Group) (s : IsSearch next search.found.items search.members.items (search.pending.items ++ number ∷ []) search.groups.items search.firsts.items) (last : IsLast search.groups.items group) (of_group : group.pending ≤ length search.pending.items) where
  abbrev top : ℕ
  top = length search.groups.items - 1

  is_top : top + 1 ≡ length search.groups.items
  is_top = let inside = within search.groups.items top group last in omega (arith, inside)

  -- the number is one of the graph
  pub is_number : IsGraph next → number < length next
  is_number graph = let r = s.asked (length search.pending.items) number (at_last search.pending.items number) in graph r.by number r.leads

  pub look_entered : (new : Search) → At search.found.items number Not → IsEntered next number search new → IsRight next new
  look_entered new at e = entered_right next search.found.items search.members.items (search.pending.items ++ number ∷ []) search.pending.items search.groups.items search.firsts.items number s at split (λ place x there. at_left search.pending.items (number ∷ []) place x there) (reaches next search.found.items search.members.items (search.pending.items ++ number ∷ []) search.groups.items search.firsts.items s top group last is_top (length search.pending.items) number (at_last search.pending.items number) of_group) low search new refl refl refl refl refl e
    where
      split : (place x : ℕ) → At (search.pending.items ++ number ∷ []) place x → At search.pending.items place x ⊎ (x ≡ number)
      split place x there = elim (at_push search.pending.items number place x there) [ inl old ↦ inl old | inr new ↦ inr new.1 ]

      low : (k : ℕ) (g : Group) → At search.groups.items k g → g.pending ≤ length search.pending.items
      low k g there = let r = (last_greatest next search.found.items search.members.items (search.pending.items ++ number ∷ []) search.groups.items search.firsts.items s top group last is_top k g there).1 in omega (arith, r, of_group)

  pub look_joined : (place : ℕ) (groups : List Group) → At search.found.items number (OnPath place) → JoinedGroups place search.groups.items groups → IsSearch next search.found.items search.members.items search.pending.items groups search.firsts.items
  look_joined place groups at j = joined next search.found.items search.members.items search.pending.items search.groups.items groups search.firsts.items number top place group s last is_top of_group at j

  pub look_discarded : (component : ℕ) → At search.found.items number (Within component) → IsRight next search
  look_discarded component at = discarded next search.found.items search.members.items search.pending.items search.groups.items search.firsts.items number top component group s last is_top of_group at

-- the last group is left
module _ (next : Lists) (old new : Search) (group : Group) (s : IsRight next old) (last : IsLast old.groups.items group) (none : length old.pending.items ≤ group.pending) (l : IsLeft group old new) where
  inside : length old.groups.items - 1 < length old.groups.items
  inside = within old.groups.items (length old.groups.items - 1) group last

  pub left_right : IsRight next new
  left_right =
      subst (λ (x : List ℕ). IsSearch next new.found.items x new.pending.items new.groups.items new.firsts.items) (sym l.members)
      (subst (λ (x : List ℕ). IsSearch next new.found.items (take group.members old.members.items) x new.groups.items new.firsts.items) (sym l.pending)
      (subst (λ (x : List Group). IsSearch next new.found.items (take group.members old.members.items) old.pending.items x new.firsts.items) (sym l.groups)
      (subst (λ (x : List ℕ). IsSearch next new.found.items (take group.members old.members.items) old.pending.items (take (length old.groups.items - 1) old.groups.items) x) (sym l.firsts)
      (left next old.found.items new.found.items old.members.items old.pending.items old.groups.items old.firsts.items (length old.groups.items - 1) group l.first s last (let i = inside in omega (arith, i)) none l.found l.is_first))))

  was : (number : ℕ) → At new.found.items number Not → At old.found.items number Not
  was number at = by t.item t.at
    where
      t : There old.found.items number
      t = let low = within new.found.items number Not at in let e = l.found.same_length in there old.found.items number (omega (arith, low, e))

      placed : (place : ℕ) → At old.found.items number (OnPath place) → (group.members ≤ place) ⊎ (place < group.members) → At old.found.items number Not
      placed place is (inl past) = let wrong : Not ≡ Within (length old.firsts.items) = one_at new.found.items number Not (Within (length old.firsts.items)) at (l.found.inside number place is past (within old.members.items place number ((s.on_path place number).0 is))) in cc
      placed place is (inr early) = let wrong : Not ≡ OnPath place = one_at new.found.items number Not (OnPath place) at (l.found.before number place is early) in cc

      by : (x : Found) → At old.found.items number x → At old.found.items number Not
      by Not is = is
      by (OnPath place) is = placed place is (le_cases group.members place)
      by (Within component) is = let wrong : Not ≡ Within component = one_at new.found.items number Not (Within component) at (l.found.within number component is) in cc

  pub left_nearer : IsNearer (open_things old - 1) old new
  left_nearer = record {
    still_known = was;
    no_more = l.found.fewer;
    nearer = inr (let i = inside in let p : length new.pending.items ≡ length old.pending.items = ap (λ (x : List ℕ). length x) l.pending in let g : length new.groups.items ≡ length (take (length old.groups.items - 1) old.groups.items) = ap (λ (x : List Group). length x) l.groups in omega (arith, i, p, g, length-take (length old.groups.items - 1) old.groups.items));
  }

-- a first number is put on an empty path
pub first_entered : (next : Lists) (number : ℕ) (old new : Search) → IsRight next old → old.groups.items ≡ [] → At old.found.items number Not → IsEntered next number old new → IsRight next new
first_entered next number old new s none at e = entered_right next old.found.items old.members.items old.pending.items old.pending.items old.groups.items old.firsts.items number s at (λ place x there. inl there) (λ place x there. there) (λ place a there. none_on_path next old.found.items old.members.items old.pending.items old.groups.items old.firsts.items s none place a there) (λ k g there. (s.begins k g there).1) old new refl refl refl refl refl e

pub entered_known : (next : Lists) (number : ℕ) (old new : Search) → At old.found.items number Not → IsEntered next number old new → IsKnownNumber new number
entered_known next number old new at e there = let place : ℕ = length old.members.items in let same : Not ≡ OnPath place = one_at (set old.found.items number (OnPath place)) number Not (OnPath place) (subst (λ (l : List Found). At l number Not) e.found there) (at_set old.found.items number (OnPath place) (within old.found.items number Not at)) in cc
