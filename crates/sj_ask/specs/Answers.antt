-- The answer to a question.
use Rattle.std.specs.Prelude.{◌≡◌, ◌↔◌, ◌≤◌, Bool, true, IsTrue, List, Option, Some, None, Contains}
use Rattle.sj_names.specs.declared.method_names.Member.{Member}
use Rattle.sj_names.specs.declared.method_names.MethodName.{MethodName}
use Rattle.sj_names.specs.declared.method_names.Namespace.TheVariants.{Public}
use Rattle.sj_trees.specs.declared.classes.FieldDef.{FieldDef}
use Rattle.sj_trees.specs.declared.classes.MethodDef.{MethodDef}
use Rattle.sj_trees.specs.Term.{Term}
use Rattle.sj_world.specs.Known.{Name, Classes, is_hijacked}
use Rattle.sj_world.specs.Ancestors.{IsAncestor}
use Rattle.sj_world.specs.Facts.{IsMadeBelow}
use Rattle.sj_world.specs.Subtypes as subtypes
use Rattle.sj_world.specs.Resolution as resolution
use Rattle.sj_world.specs.declared.facts.Fact.{Fact}
use Rattle.sj_world.specs.declared.facts.Fact.TheVariants as fact
use Rattle.sj_ask.specs.declared.questions.Question.{Question}
use Rattle.sj_ask.specs.declared.questions.Question.TheVariants as question
use Rattle.sj_ask.specs.declared.questions.Answer.{Answer}
use Rattle.sj_ask.specs.declared.questions.Answer.TheVariants as answer
use Rattle.sj_ask.specs.Stands.{Stand}
use Rattle.sj_world.specs.Members.{IsFieldOf, HasNoField, IsMethodOf}
use Rattle.sj_ask.specs.Sizes.{size}
use Rattle.tree_sameness.specs.Apart.{field_apart, method_apart}

abbrev pub public_member : Name → MethodName → Member
public_member owner m = record { class = owner; namespace = Public; method = m }

-- the member of the body that a call runs, if it runs one
abbrev pub target_member : MethodName → resolution.Answer → Option Member
target_member m (resolution.target d owner) = Some (public_member owner m)
target_member m resolution.abstract = None
target_member m resolution.missing = None

-- what a call of m on an instance of C runs; none where m is abstract or missing there
pub record IsTarget (w : Classes) (c : Name) (m : MethodName) (found : Option Member) : Type 0 where
  pub run : resolution.Answer
  pub resolves : resolution.Resolves w c m run
  pub is_member : found ≡ target_member m run

-- each of these classes resolves to the member
pub record EachRuns (w : Classes) (classes : List Name) (m : MethodName) (k : Member) : Type 0 where
  pub each : (d : Name) → Contains classes d → IsTarget w d m (Some k)

-- all made subtypes of C resolve to the member
pub record RunAll (w : Classes) (facts : List Fact) (c : Name) (m : MethodName) (k : Member) : Type 0 where
  pub all : (d : Name) → IsMadeBelow w facts c d → IsTarget w d m (Some k)

-- the member to which all made subtypes of C resolve, of which there is one or more
pub record IsOnlyTarget (w : Classes) (facts : List Fact) (c : Name) (m : MethodName) (k : Member) : Type 0 where
  pub some : Name
  pub is_some : IsMadeBelow w facts c some
  pub run_all : RunAll w facts c m k

pub record HasNoOnlyTarget (w : Classes) (facts : List Fact) (c : Name) (m : MethodName) : Type 0 where
  pub none : (k : Member) → IsOnlyTarget w facts c m k → ⊥

-- a hijacked class is a subtype of C
pub record IsAboveHijacked (w : Classes) (c : Name) : Type 0 where
  pub below : Name
  pub hijacked : is_hijacked below ≡ true
  pub way : IsAncestor w below c

-- a method with a body of at most 16 trees
pub record HasSmallBody (d : MethodDef) : Type 0 where
  pub body : Term
  pub has_body : d.body ≡ Some body
  pub small : size body ≤ 16

-- a body that is needed, of at most 16 trees, and not that of the member that is worked on
pub record IsSmallBody (s : Stand) (k : Member) (d : MethodDef) : Type 0 where
  pub needed : Contains s.facts (fact.Body k)
  pub other : k ≡ s.member → ⊥
  pub definition : IsMethodOf s.classes k d
  pub small : HasSmallBody d

pub record HasNoSmallBody (s : Stand) (k : Member) : Type 0 where
  pub none : (d : MethodDef) → IsSmallBody s k d → ⊥

-- the field, apart from its position
pub record IsSameField (w : Classes) (c name : Name) (mark : Bool) (f : FieldDef) : Type 0 where
  pub field : FieldDef
  pub is_field : IsFieldOf w c name mark field
  pub same : field_apart f ≡ field_apart field

-- the small body, apart from positions
pub record IsSameBody (s : Stand) (k : Member) (d : MethodDef) : Type 0 where
  pub method : MethodDef
  pub is_small : IsSmallBody s k method
  pub same : method_apart d ≡ method_apart method

abbrev pub IsFieldAnswer : Classes → Name → Name → Bool → Option FieldDef → Type 0
IsFieldAnswer w c name mark None = HasNoField w c name mark
IsFieldAnswer w c name mark (Some f) = IsSameField w c name mark f

abbrev pub IsSingleAnswer : Classes → List Fact → Name → MethodName → Option Member → Type 0
IsSingleAnswer w facts c m None = HasNoOnlyTarget w facts c m
IsSingleAnswer w facts c m (Some k) = IsOnlyTarget w facts c m k

abbrev pub IsBodyAnswer : Stand → Member → Option MethodDef → Type 0
IsBodyAnswer s k None = HasNoSmallBody s k
IsBodyAnswer s k (Some d) = IsSameBody s k d

-- an answer of yes or no, by whether this is so
abbrev pub SaysWhether : Type 0 → Answer → Type 0
SaysWhether P (answer.Yes r) = IsTrue r ↔ P
SaysWhether P _ = ⊥

-- an answer that gives a field or none, a member or none, a method or none, and the right one
abbrev pub GivesField : (Option FieldDef → Type 0) → Answer → Type 0
GivesField Right (answer.Field found) = Right found
GivesField Right _ = ⊥

abbrev pub GivesMember : (Option Member → Type 0) → Answer → Type 0
GivesMember Right (answer.Member found) = Right found
GivesMember Right _ = ⊥

abbrev pub GivesBody : (Option MethodDef → Type 0) → Answer → Type 0
GivesBody Right (answer.Body found) = Right found
GivesBody Right _ = ⊥

-- the answer to a question, apart from positions
abbrev pub IsAnswer : Stand → Question → Answer → Type 0
IsAnswer s (question.IsSub a b) = SaysWhether (subtypes.IsSub s.classes a b)
IsAnswer s (question.Field c name mark) = GivesField (IsFieldAnswer s.classes c name mark)
IsAnswer s (question.Resolve c m) = GivesMember (IsTarget s.classes c m)
IsAnswer s (question.Single c m) = GivesMember (IsSingleAnswer s.classes s.facts c m)
IsAnswer s (question.HasHijacked c) = SaysWhether (IsAboveHijacked s.classes c)
IsAnswer s (question.Body k) = GivesBody (IsBodyAnswer s k)
