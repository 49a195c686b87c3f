-- Groups that are joined, and numbers that are marked.
use Rattle.std.proofs.Common.{◌≡◌, ℕ, zero, suc, ◌+◌, ◌-◌, ◌<◌, ◌≤◌, List, [], ◌∷◌, ◌++◌, refl, sym, ap, ◌∙◌, subst, length, take, drop, get_or, arith, inl, inr}
use Rattle.std.specs.Prelude.{◌⊎◌, ◌↔◌, ◌≢◌, Vec}
use Rattle.std.specs.Global.{Global}
use Rattle.number_graphs.specs.Graphs.{At, Lists, next_of}
use Rattle.std.proofs.Math.ListN.{set}
use Rattle.std.proofs.lemmas.List.{length-set, length-drop}
use Rattle.number_graphs.specs.declared.paths.Found.{Found}
use Rattle.number_graphs.specs.declared.paths.Found.TheVariants.{Not, OnPath, Within}
use Rattle.number_graphs.specs.declared.paths.Group.{Group}
use Rattle.number_graphs.specs.Searching.{JoinedGroups, AreMarked, IsLast, unknown}
use Rattle.number_graphs.proofs.Places.{within, one_at, at_take, into_take, at_set, at_set_other, at_drop, into_drop, all_behind, whole_written, at_read}
use Rattle.number_graphs.proofs.Searched.{same_or_not}

-- groups from whose end some were taken that begin behind the place
pub record Joining (place : ℕ) (old new : List Group) : Type 0 where
  pub kept : (k : ℕ) (group : Group) → At new k group → At old k group
  pub taken : (k : ℕ) (group : Group) → At old k group → At new k group ⊎ (place < group.members)

pub joining_begins : (place : ℕ) (groups : List Group) → Joining place groups groups
joining_begins place groups = record { kept = λ k group at. at; taken = λ k group at. inl at }

pub joining_more : (place : ℕ) (old groups new : List Group) (last : Group) → Joining place old groups → At groups (length groups - 1) last → place < last.members → new ≡ take (length groups - 1) groups → Joining place old new
joining_more place old groups new last j at past e = subst (λ (l : List Group). Joining place old l) (sym e) (record {
  kept = λ k group there. j.kept k group (at_take (length groups - 1) groups k group there).0;
  taken = λ k group there. elim (j.taken k group there) [ inl still ↦ by k group still (same_or_not k (length groups - 1)) | inr behind ↦ inr behind ];
})
  where
    by : (k : ℕ) (group : Group) → At groups k group → (k ≡ length groups - 1) ⊎ (k ≢ length groups - 1) → At (take (length groups - 1) groups) k group ⊎ (place < group.members)
    by k group still (inl is) = let same : last ≡ group = one_at groups k last group (subst (λ (n : ℕ). At groups n last) (sym is) at) still in inr (subst (λ (g : Group). place < g.members) same past)
    by k group still (inr ne) = let inside = within groups k group still in inl (into_take (length groups - 1) groups k group still (omega (arith, inside, ne)))

pub joining_ends : (place : ℕ) (old groups : List Group) → Joining place old groups → ((k : ℕ) (group : Group) → At groups k group → k + 1 ≡ length groups → group.members ≤ place) → JoinedGroups place old groups
joining_ends place old groups j last = record { kept = j.kept; taken = j.taken; last = last }

pub fewer_unknown : (found : List Found) (number : ℕ) (x : Found) → x ≢ Not → unknown (set found number x) ≤ unknown found
fewer_unknown [] number x ne = omega arith
fewer_unknown (Not ∷ found) zero Not ne = absurd (ne refl)
fewer_unknown (Not ∷ found) zero (OnPath place) ne = omega arith
fewer_unknown (Not ∷ found) zero (Within component) ne = omega arith
fewer_unknown (OnPath old ∷ found) zero Not ne = absurd (ne refl)
fewer_unknown (OnPath old ∷ found) zero (OnPath place) ne = omega arith
fewer_unknown (OnPath old ∷ found) zero (Within component) ne = omega arith
fewer_unknown (Within old ∷ found) zero Not ne = absurd (ne refl)
fewer_unknown (Within old ∷ found) zero (OnPath place) ne = omega arith
fewer_unknown (Within old ∷ found) zero (Within component) ne = omega arith
fewer_unknown (Not ∷ found) (suc number) x ne = let r = fewer_unknown found number x ne in omega (arith, r)
fewer_unknown (OnPath place ∷ found) (suc number) x ne = fewer_unknown found number x ne
fewer_unknown (Within component ∷ found) (suc number) x ne = fewer_unknown found number x ne

pub one_fewer : (found : List Found) (number place : ℕ) → At found number Not → unknown (set found number (OnPath place)) + 1 ≡ unknown found
one_fewer [] number place at = cc
one_fewer (Not ∷ found) zero place at = omega arith
one_fewer (OnPath old ∷ found) zero place at = cc
one_fewer (Within old ∷ found) zero place at = cc
one_fewer (Not ∷ found) (suc number) place at = let r = one_fewer found number place at in omega (arith, r)
one_fewer (OnPath old ∷ found) (suc number) place at = one_fewer found number place at
one_fewer (Within old ∷ found) (suc number) place at = one_fewer found number place at

pub marking_begins : (component from end : ℕ) (found : List Found) → end ≡ from → AreMarked component from end found found
marking_begins component from end found e = record {
  same_length = refl;
  fewer = omega arith;
  inside = λ number place at low high. absurd (omega (arith, e, low, high));
  before = λ number place at low. at;
  behind = λ number place at high. at;
  within = λ number other at. at;
  not_yet = λ number at. at;
}

pub marking_more : (component from end next : ℕ) (old found : List Found) (member : ℕ) → AreMarked component from end old found → At old member (OnPath end) → ((number : ℕ) → At old number (OnPath end) → number ≡ member) → from ≤ end → next ≡ end + 1 → AreMarked component from next old (set found member (Within component))
marking_more component from end next old found member m at_member only past e = record {
  same_length = length-set found member (Within component) ∙ m.same_length;
  fewer = (let r = fewer_unknown found member (Within component) (λ n. cc) in let s = m.fewer in omega (arith, r, s));
  inside = λ number place at low high. elim (same_or_not number member) [ inl is ↦ subst (λ (n : ℕ). At (set found member (Within component)) n (Within component)) (sym is) here | inr ne ↦ other number (Within component) ne (m.inside number place at low (elim (same_or_not place end) [ inl there ↦ absurd (ne (only number (subst (λ (n : ℕ). At old number (OnPath n)) there at))) | inr apart ↦ omega (arith, high, e, apart) ])) ];
  before = λ number place at low. other number (OnPath place) (λ is. (let there = placed number place at is in absurd (omega (arith, there, low, past)))) (m.before number place at low);
  behind = λ number place at high. other number (OnPath place) (λ is. (let there = placed number place at is in absurd (omega (arith, there, high, e)))) (m.behind number place at (omega (arith, high, e)));
  within = λ number place at. other number (Within place) (λ is. (let same : Within place ≡ OnPath end = one_at old member (Within place) (OnPath end) (subst (λ (n : ℕ). At old n (Within place)) is at) at_member in cc)) (m.within number place at);
  not_yet = λ number at. other number Not (λ is. (let same : Not ≡ OnPath end = one_at old member Not (OnPath end) (subst (λ (n : ℕ). At old n Not) is at) at_member in cc)) (m.not_yet number at);
}
  where
    here : At (set found member (Within component)) member (Within component)
    here = at_set found member (Within component) (within found member (OnPath end) (m.behind member end at_member (omega arith)))

    other : (number : ℕ) (x : Found) → number ≢ member → At found number x → At (set found member (Within component)) number x
    other number x ne at = at_set_other found member (Within component) number x ne at

    placed : (number place : ℕ) → At old number (OnPath place) → number ≡ member → place ≡ end
    placed number place at is = let same : OnPath place ≡ OnPath end = one_at old member (OnPath place) (OnPath end) (subst (λ (n : ℕ). At old n (OnPath place)) is at) at_member in cc

-- the list that is read
pub next_read : (next : Lists) (number : ℕ) (list : Vec ℕ Global) → list ≡ get_or next number list → number < length next → list.items ≡ next_of next number
next_read [] number list is low = absurd (omega arith)
next_read (first ∷ next) zero list is low = ap (λ (v : Vec ℕ Global). v.items) is
next_read (first ∷ next) (suc number) list is low = next_read next number list is (omega (arith, low))

-- the members of the last group were marked
pub marked_last : (component length_firsts from whole : ℕ) (old read new : List Found) (members listed : List ℕ) → component ≡ length_firsts → length new ≡ whole → from < length members → read ≡ old → listed ≡ members → ((place number : ℕ) → At old number (OnPath place) ↔ At members place number) → (((place number : ℕ) → At read number (OnPath (from + place)) ↔ At (take (length listed - from) (drop from listed)) place number) → AreMarked component from (from + length (take (length listed - from) (drop from listed))) read new) → AreMarked length_firsts from (length members) old (take whole (new ++ drop (length new) old))
marked_last component length_firsts from whole old read new members listed e same low is_read is_listed placed marked =
    subst (λ (l : List Found). AreMarked length_firsts from (length members) old l) (sym (whole_written whole old new same))
    (subst (λ (n : ℕ). AreMarked n from (length members) old new) e
    (subst (λ (n : ℕ). AreMarked component from n old new) until
    (subst (λ (l : List Found). AreMarked component from (from + length (take (length listed - from) (drop from listed))) l new) is_read (marked there))))
  where
    rest : take (length listed - from) (drop from listed) ≡ drop from members
    rest = all_behind from listed ∙ ap (λ (l : List ℕ). drop from l) is_listed

    until : from + length (take (length listed - from) (drop from listed)) ≡ length members
    until = let r = ap (λ (l : List ℕ). length l) rest in omega (arith, r, length-drop from members, low)

    there : (place number : ℕ) → At read number (OnPath (from + place)) ↔ At (take (length listed - from) (drop from listed)) place number
    there place number = (
      λ at. subst (λ (l : List ℕ). At l place number) (sym rest) (into_drop from members place number ((placed (from + place) number).0 (subst (λ (l : List Found). At l number (OnPath (from + place))) is_read at))),
      λ at. subst (λ (l : List Found). At l number (OnPath (from + place))) (sym is_read) ((placed (from + place) number).1 (at_drop from members place number (subst (λ (l : List ℕ). At l place number) rest at))),
    )

pub read_last : (groups : List Group) (n : ℕ) (group : Group) → n ≡ length groups → 0 < length groups → group ≡ get_or groups (n - 1) group → IsLast groups group
read_last groups n group e some is = at_read groups (length groups - 1) group (omega (arith, some)) (is ∙ ap (λ k. get_or groups (k - 1) group) e)
