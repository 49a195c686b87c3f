-- The tables that a world keeps of a class.
use Rattle.std.specs.Prelude.{◌≡◌, ◌↔◌, ℕ, ◌+◌, List, Some, Contains, slice_get, Option}
use Rattle.std.specs.Ordering.{nat_cmp}
use Rattle.std.specs.Cmp.Lexicographic.{slice_cmp}
use Rattle.std.specs.List.{IsDistinct}
use Rattle.std.specs.List.Sorted.{IsSorted}
use Rattle.std.specs.Prelude.{true, false, MatchOption, if◌then◌else◌}
use Rattle.std.specs.Ordering.{is_eq}
use Rattle.std.specs.BTreeMap.{BTreeMap, get}
use Rattle.sj_world.specs.declared.lines.Line.{Line}
use Rattle.sj_world.specs.declared.lines.Tables.{Tables}
use Rattle.sj_world.specs.Known.{Name, Classes, is_same, is_known, hijacked}
use Rattle.sj_world.specs.Refusals.{IsInOrder, HasNoCycle}
use Rattle.sj_world.specs.Ancestors.{IsAncestor, IsNext}

-- the ancestors of a class in the order of their bytes, each once
pub record AreAncestors (w : Classes) (name : Name) (names : List Name) : Type 0 where
  pub sorted : IsSorted (slice_cmp nat_cmp) names
  pub once : IsDistinct is_same names
  pub exact : (other : Name) → Contains names other ↔ IsAncestor w name other

-- the classes on the chain of a class from itself upward, each once
pub record AreChain (w : Classes) (name : Name) (names : List Name) : Type 0 where
  pub begins : slice_get names 0 ≡ Some name
  pub linked : (i : ℕ) (a b : Name) → slice_get names i ≡ Some a → slice_get names (i + 1) ≡ Some b → IsNext w a b
  pub closed : (a b : Name) → Contains names a → IsNext w a b → Contains names b
  pub once : IsDistinct is_same names

-- what is kept of one class
pub record IsLine (w : Classes) (name : Name) (line : Line) : Type 0 where
  pub ancestors : AreAncestors w name line.ancestors
  pub chain : AreChain w name line.chain

-- the line that is kept under a name
abbrev pub line_at : BTreeMap Name Line → Name → Option Line
line_at lines name = get (slice_cmp nat_cmp) lines name

-- each known class has its line, and nothing else has one
pub record AreLines (w : Classes) (lines : BTreeMap Name Line) : Type 0 where
  pub right : (name : Name) → MatchOption (line_at lines name) (is_known w name ≡ false) (λ line. (is_known w name ≡ true) × IsLine w name line)

-- lines to which that of one class was added
pub record IsAdded (w : Classes) (name : Name) (before after : BTreeMap Name Line) : Type 0 where
  pub line : Line
  pub is_line : IsLine w name line
  pub gets : (other : Name) → line_at after other ≡ (if is_eq (slice_cmp nat_cmp name other) then Some line else line_at before other)

-- the tables of classes
pub record AreTables (w : Classes) (tables : Tables) : Type 0 where
  pub lines_right : AreLines w tables.lines
  pub hijacked_right : tables.hijacked ≡ hijacked

-- classes in order, none above itself, with their tables
pub record IsBuilt (w : Classes) (tables : Tables) : Type 0 where
  pub in_order : IsInOrder w
  pub no_cycle : HasNoCycle w
  pub right : AreTables w tables
