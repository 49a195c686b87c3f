-- What holds in a search for components.
use Rattle.std.specs.Prelude.{◌≡◌, ◌↔◌, ◌⊎◌, ℕ, ◌-◌, ◌+◌, ◌<◌, ◌≤◌, List, [], ◌∷◌, ◌++◌, length, take, ⊤}
use Rattle.std.proofs.Math.ListN.{set}
use Rattle.number_graphs.specs.Graphs.{At, Lists, next_of, Leads, Walk}
use Rattle.number_graphs.specs.declared.paths.Found.{Found}
use Rattle.number_graphs.specs.declared.paths.Found.TheVariants.{Not, OnPath, Within}
use Rattle.number_graphs.specs.declared.paths.Group.{Group}
use Rattle.number_graphs.specs.declared.paths.Search.{Search}

-- how many numbers nothing is known of
abbrev pub unknown : List Found → ℕ
unknown [] = 0
unknown (Not ∷ others) = 1 + unknown others
unknown (OnPath place ∷ others) = unknown others
unknown (Within component ∷ others) = unknown others

-- the number that the members of a group lead back to is the first member of the group
pub record Head (next : Lists) (members : List ℕ) (groups : List Group) (place number : ℕ) : Type 0 where
  pub index : ℕ
  pub group : Group
  pub among : At groups index group
  pub below : group.members ≤ place
  pub first : ℕ
  pub is_first : At members group.members first
  pub back : Walk next number first
  pub greatest : (k : ℕ) (other : Group) → At groups k other → other.members ≤ place → other.members ≤ group.members

-- what a member of the group or of a later one leads to
pub data IsKnown (found : List Found) (members pending : List ℕ) (group : Group) (number : ℕ) : Type 0 where
  settled : (component : ℕ) → At found number (Within component) → IsKnown found members pending group number
  ahead : (place : ℕ) → group.members ≤ place → At members place number → IsKnown found members pending group number
  asked : (place : ℕ) → group.pending ≤ place → At pending place number → IsKnown found members pending group number

-- a pending reference comes from a member of the group to which it belongs
pub record Asked (next : Lists) (members : List ℕ) (groups : List Group) (place number : ℕ) : Type 0 where
  pub by_place : ℕ
  pub by : ℕ
  pub at : At members by_place by
  pub leads : Leads next by number
  pub below : (k : ℕ) (group : Group) → At groups k group → group.pending ≤ place → group.members ≤ by_place
  pub above : (k : ℕ) (group : Group) → At groups k group → place < group.pending → by_place < group.members

-- the number is in this component or in an earlier one
pub record IsSettled (found : List Found) (latest number : ℕ) : Type 0 where
  pub component : ℕ
  pub early : component ≤ latest
  pub is : At found number (Within component)

pub record IsSearch (next : Lists) (found : List Found) (members pending : List ℕ) (groups : List Group) (firsts : List ℕ) : Type 0 where
  pub whole : length found ≡ length next
  pub on_path : (place number : ℕ) → At found number (OnPath place) ↔ At members place number
  pub forward : (i j a b : ℕ) → i ≤ j → At members i a → At members j b → Walk next a b
  pub heads : (place number : ℕ) → At members place number → Head next members groups place number
  pub known : (k : ℕ) (group : Group) (place a b : ℕ) → At groups k group → group.members ≤ place → At members place a → Leads next a b → IsKnown found members pending group b
  pub asked : (place number : ℕ) → At pending place number → Asked next members groups place number
  pub begins : (k : ℕ) (group : Group) → At groups k group → (group.members < length members) × (group.pending ≤ length pending)
  pub in_order : (j k : ℕ) (one other : Group) → j < k → At groups j one → At groups k other → (one.members < other.members) × (one.pending ≤ other.pending)
  pub settled : (a b component : ℕ) → At found a (Within component) → Leads next a b → IsSettled found component b
  pub together : (a b component : ℕ) → At found a (Within component) → At found b (Within component) → Walk next a b
  pub firsts_are : (component number : ℕ) → At firsts component number → At found number (Within component)
  pub numbered : (number component : ℕ) → At found number (Within component) → component < length firsts

-- the search is right so far
abbrev pub IsRight : Lists → Search → Type 0
IsRight next search = IsSearch next search.found.items search.members.items search.pending.items search.groups.items search.firsts.items

abbrev pub group_at : ℕ → ℕ → Group
group_at members pending = record { members = members; pending = pending }

-- a number was put at the end of the path, as a group of its own
pub record IsEntered (next : Lists) (number : ℕ) (old new : Search) : Type 0 where
  pub found : new.found.items ≡ set old.found.items number (OnPath (length old.members.items))
  pub members : new.members.items ≡ old.members.items ++ number ∷ []
  pub pending : new.pending.items ≡ old.pending.items ++ next_of next number
  pub groups : new.groups.items ≡ old.groups.items ++ group_at (length old.members.items) (length old.pending.items) ∷ []
  pub firsts : new.firsts.items ≡ old.firsts.items

-- groups from whose end those were taken that begin behind the place
pub record JoinedGroups (place : ℕ) (old new : List Group) : Type 0 where
  pub kept : (k : ℕ) (group : Group) → At new k group → At old k group
  pub taken : (k : ℕ) (group : Group) → At old k group → At new k group ⊎ (place < group.members)
  pub last : (k : ℕ) (group : Group) → At new k group → k + 1 ≡ length new → group.members ≤ place

-- the places from here to there on the path are of the component now
pub record AreMarked (component from end : ℕ) (old new : List Found) : Type 0 where
  pub same_length : length new ≡ length old
  pub fewer : unknown new ≤ unknown old
  pub inside : (number place : ℕ) → At old number (OnPath place) → from ≤ place → place < end → At new number (Within component)
  pub before : (number place : ℕ) → At old number (OnPath place) → place < from → At new number (OnPath place)
  pub behind : (number place : ℕ) → At old number (OnPath place) → end ≤ place → At new number (OnPath place)
  pub within : (number other : ℕ) → At old number (Within other) → At new number (Within other)
  pub not_yet : (number : ℕ) → At old number Not → At new number Not

-- the last group became a component
pub record IsLeft (group : Group) (old new : Search) : Type 0 where
  pub found : AreMarked (length old.firsts.items) group.members (length old.members.items) old.found.items new.found.items
  pub members : new.members.items ≡ take group.members old.members.items
  pub pending : new.pending.items ≡ old.pending.items
  pub groups : new.groups.items ≡ take (length old.groups.items - 1) old.groups.items
  pub first : ℕ
  pub is_first : At old.members.items group.members first
  pub firsts : new.firsts.items ≡ old.firsts.items ++ first ∷ []

-- the last of the groups
abbrev pub IsLast : List Group → Group → Type 0
IsLast groups group = At groups (length groups - 1) group

-- how much is pending, and how many groups there are
abbrev pub open_things : Search → ℕ
open_things search = length search.pending.items + length search.groups.items

-- nothing is forgotten of a number
abbrev pub StaysKnown : Search → Search → Type 0
StaysKnown old new = (number : ℕ) → At new.found.items number Not → At old.found.items number Not

-- nothing is forgotten of a number, and something is known of one more, or no more is open than this
pub record IsNearer (open_at_most : ℕ) (old new : Search) : Type 0 where
  pub still_known : StaysKnown old new
  pub no_more : unknown new.found.items ≤ unknown old.found.items
  pub nearer : (unknown new.found.items < unknown old.found.items) ⊎ (open_things new ≤ open_at_most)

-- something is known of the number
abbrev pub IsKnownNumber : Search → ℕ → Type 0
IsKnownNumber search number = At search.found.items number Not → ⊥

abbrev pub IsWithin : Found → Type 0
IsWithin Not = ⊥
IsWithin (OnPath place) = ⊥
IsWithin (Within component) = ⊤

-- the components that are known of numbers
pub record AreRead (found : List Found) (of : List ℕ) : Type 0 where
  pub whole : length of ≡ length found
  pub right : (number component : ℕ) → At of number component → At found number (Within component)
