-- The order of classes and of functions in a module.
use Rattle.std.specs.Prelude.{◌≡◌, ◌↔◌, ◌<◌, true, List, [], ◌∷◌, Contains, is_some, length}
use Rattle.agree_programs.specs.Templates.{member_name}
use Rattle.agree_programs.specs.EmittedMethods.{EmittedMethod}
use Rattle.sj_split.specs.Orders.{IsBefore}
use Rattle.sj_world.specs.Known.{Name, Classes, class_of}
use Rattle.sj_world.specs.Tables.{AreAncestors}

-- one class stands before another: it has fewer ancestors, or as many and a name that is less
pub data StandsBefore (w : Classes) (a b : Name) : Type 0 where
  by_ancestors : (above below : List Name) → AreAncestors w a above → AreAncestors w b below → length above < length below → StandsBefore w a b
  by_name : (above below : List Name) → AreAncestors w a above → AreAncestors w b below → length above ≡ length below → IsBefore a b → StandsBefore w a b

-- each stands before those behind it
abbrev pub AreInOrder : {A : Type 0} → (A → A → Type 0) → List A → Type 0
AreInOrder Before [] = Unit {0}
AreInOrder {A} Before (x ∷ xs) = ((y : A) → Contains xs y → Before x y) × AreInOrder Before xs

-- the classes of a world in the order of a module
pub record AreClasses (w : Classes) (names : List Name) : Type 0 where
  pub exact : (c : Name) → Contains names c ↔ (is_some (class_of w c) ≡ true)
  pub in_order : AreInOrder (StandsBefore w) names

abbrev pub HasLesserName : EmittedMethod → EmittedMethod → Type 0
HasLesserName a b = IsBefore (member_name a.member) (member_name b.member)

-- those of these methods that are of a class, in the order of the names of their functions
pub record AreMethodsOf (all : List EmittedMethod) (c : Name) (fs : List EmittedMethod) : Type 0 where
  pub exact : (e : EmittedMethod) → Contains fs e ↔ (Contains all e × (e.member.class ≡ c))
  pub in_order : AreInOrder HasLesserName fs
