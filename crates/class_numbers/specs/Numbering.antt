-- Classes by their numbers.
pub use Rattle.sj_names.specs.WellKnown.{is_same_text as is_same}
use Rattle.std.specs.Prelude.{◌≡◌, ℕ, List, length, Contains}
use Rattle.sj_names.specs.declared.entry_points.EntryPoint.{EntryPoint}
use Rattle.sj_graph.specs.declared.graphs.Reference.{Reference}
use Rattle.sj_graph.specs.References.{reference}
use Rattle.number_graphs.specs.Graphs.{At, Leads, IsGraph, Lists}
use Rattle.class_numbers.specs.declared.numbers.ClassNumbers.{ClassNumbers}

abbrev pub Name : Type 0
Name = List ℕ

abbrev pub class_of : EntryPoint → Name
class_of entry = entry.class

-- what has a number keeps it
abbrev pub Keeps : List Name → List Name → Type 0
Keeps old new = (number : ℕ) (class : Name) → At old number class → At new number class

-- the numbers of the two classes of a reference, of which the first leads to the second
pub record IsListed (classes : List Name) (next : Lists) (one : Reference) : Type 0 where
  pub from : ℕ
  pub to : ℕ
  pub is_from : At classes from one.from
  pub is_to : At classes to one.to
  pub leads : Leads next from to

-- each class has one number, and a number leads to another exactly where there is a reference between their classes
pub record AreNumbered (references : List Reference) (classes : List Name) (next : Lists) : Type 0 where
  pub whole : length next ≡ length classes
  pub once : (i j : ℕ) (class : Name) → At classes i class → At classes j class → i ≡ j
  pub graph : IsGraph next
  pub right : (i j : ℕ) (a b : Name) → At classes i a → At classes j b → Leads next i j → Contains references (reference a b)
  pub listed : (one : Reference) → Contains references one → IsListed classes next one

abbrev pub IsNumbering : List Reference → ClassNumbers → Type 0
IsNumbering references numbers = AreNumbered references numbers.classes.keys numbers.next.items
