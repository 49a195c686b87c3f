-- What a search has found in the end.
use Rattle.std.proofs.Common.{◌≡◌, ℕ, ◌≤◌, List, [], ◌∷◌, ◌++◌, sym, ◌∙◌, subst, length, arith, inl, inr}
use Rattle.worklist.specs.Paths.{stay, on}
use Rattle.number_graphs.specs.declared.paths.Found.{Found}
use Rattle.number_graphs.specs.declared.paths.Found.TheVariants.{Not, OnPath, Within}
use Rattle.number_graphs.specs.declared.paths.Group.{Group}
use Rattle.number_graphs.specs.declared.paths.Search.{Search}
use Rattle.number_graphs.specs.Graphs.{At, Lists, Walk, AreComponents}
use Rattle.number_graphs.specs.Searching.{IsSearch, IsRight, IsSettled, IsKnownNumber, IsWithin, AreRead}
use Rattle.number_graphs.proofs.Places.{within, one_at, there, at_push}

-- with no group no number is on the path
pub none_on_path : {A : Type 0} (next : Lists) (found : List Found) (members pending : List ℕ) (groups : List Group) (firsts : List ℕ) → IsSearch next found members pending groups firsts → groups ≡ [] → (place number : ℕ) → At members place number → A
none_on_path next found members pending groups firsts s none place number at = let h = s.heads place number at in let wrong : At {X = Group} [] h.index h.group = subst (λ (l : List Group). At l h.index h.group) none h.among in cc

pub all_within : (next : Lists) (search : Search) → IsRight next search → search.groups.items ≡ [] → ((number : ℕ) → IsKnownNumber search number) → (number : ℕ) (x : Found) → At search.found.items number x → IsWithin x
all_within next search s none known number Not at = known number at
all_within next search s none known number (OnPath place) at = none_on_path next search.found.items search.members.items search.pending.items search.groups.items search.firsts.items s none place number ((s.on_path place number).0 at)
all_within next search s none known number (Within component) at = tt

module _ (next : Lists) (found : List Found) (members pending : List ℕ) (groups : List Group) (firsts : List ℕ) (s : IsSearch next found members pending groups firsts) where
  one_component : (a one other : ℕ) → At found a (Within one) → At found a (Within other) → one ≡ other
  one_component a one other x y = let e : Within one ≡ Within other = one_at found a (Within one) (Within other) x y in cc

  -- a walk leads to no later component
  descends : (a b one : ℕ) → At found a (Within one) → Walk next a b → IsSettled found one b
  descends a _ one at stay = record { component = one; early = omega arith; is = at }
  descends a _ one at (on x y path step) = let r = descends a x one at path in let t = s.settled x y r.component r.is step in record { component = t.component; early = (let p = r.early in let q = t.early in omega (arith, p, q)); is = t.is }

  lower : (a b one other : ℕ) → At found a (Within one) → At found b (Within other) → Walk next a b → other ≤ one
  lower a b one other x y walk = let r = descends a b one x walk in let e = one_component b r.component other r.is y in let p = r.early in omega (arith, e, p)

  module _ (of : List ℕ) (r : AreRead found of) where
    pub components_are : AreComponents next of firsts
    components_are = record {
      whole = r.whole ∙ s.whole;
      same = λ a b one other x y. (
        λ e. record { there = s.together a b one (r.right a one x) (subst (λ (n : ℕ). At found b (Within n)) (sym e) (r.right b other y)); back = s.together b a one (subst (λ (n : ℕ). At found b (Within n)) (sym e) (r.right b other y)) (r.right a one x) },
        λ t. (let p = lower a b one other (r.right a one x) (r.right b other y) t.there in let q = lower b a other one (r.right b other y) (r.right a one x) t.back in omega (arith, p, q)),
      );
      in_order = λ a b one other leads x y. (let t = s.settled a b one (r.right a one x) leads in let e = one_component b t.component other t.is (r.right b other y) in let p = t.early in omega (arith, e, p));
      counted = λ a one x. s.numbered a one (r.right a one x);
      firsts_are = λ one a at. read a one (s.firsts_are one a at);
    }
      where
        read : (a one : ℕ) → At found a (Within one) → At of a one
        read a one is = let low = within found a (Within one) is in let e = r.whole in let t = there of a (omega (arith, low, e)) in subst (λ (n : ℕ). At of a n) (one_component a t.item one (r.right a t.item t.at) is) t.at

-- one component more was read
pub read_more : (found : List Found) (of more : List ℕ) (index component : ℕ) → length of ≡ index → ((number one : ℕ) → At of number one → At found number (Within one)) → At found index (Within component) → more ≡ of ++ component ∷ [] → (number one : ℕ) → At more number one → At found number (Within one)
read_more found of more index component long right is e number one at = elim (at_push of component number one (subst (λ (l : List ℕ). At l number one) e at)) [ inl old ↦ right number one old | inr new ↦ subst (λ (n : ℕ). At found n (Within one)) (sym (new.0 ∙ long)) (subst (λ (n : ℕ). At found index (Within n)) (sym new.1) is) ]

pub none_known : (found : List Found) → found ≡ [] → (number : ℕ) (x : Found) → At found number x → x ≡ Not
none_known found e number x at = let wrong : At {X = Found} [] number x = subst (λ (l : List Found). At l number x) e at in cc

pub still_unknown : (found more : List Found) → ((number : ℕ) (x : Found) → At found number x → x ≡ Not) → more ≡ found ++ Not ∷ [] → (number : ℕ) (x : Found) → At more number x → x ≡ Not
still_unknown found more none e number x at = elim (at_push found Not number x (subst (λ (l : List Found). At l number x) e at)) [ inl old ↦ none number x old | inr new ↦ new.1 ]
