-- A call on an object runs the emitted function of its target.
use Rattle.std.specs.Prelude.{◌≡◌, ◌↔◌, ◌≢◌, ℕ, suc, true, List, [], ◌∷◌, length, slice_get, Contains, Option, Some, None, map}
use Rattle.js_tree.specs.Terms.{Name, Statements, constructor_of}
use Rattle.sj_names.specs.declared.method_names.MethodName.{MethodName}
use Rattle.sj_names.specs.MethodNames.{IsMethodName}
use Rattle.entry_search.specs.Laws.{AreSpelled}
use Rattle.entry_search.specs.Fact.{Fact}
use Rattle.entry_search.specs.MethodEntry.{MethodEntry}
use Rattle.entry_search.specs.Known.{Classes}
use Rattle.entry_search.specs.Entries.{AreEntries, IsLive, IsWanted}
use Rattle.entry_search.specs.Dispatch.{IsReachedTarget}
use Rattle.entry_search.specs.Search.{IsChainTo}
use Rattle.js_mean.specs.Classes.{members_of, method_code}
use Rattle.js_mean.specs.Objects.{method_on, Callee, callee}
use Rattle.js_mean.specs.Proper.{are_distinct}
use Rattle.js_mean.specs.States.{Value, object, ClassLink, plain, Scope, State, Program, Evaluation}
use Rattle.outcomes.specs.Outcome.{wrong}
use Rattle.js_mean.specs.Meaning.{Low, below, code_of, code_call, call_with_this}
use Rattle.class_code.specs.Bridges.{bridge, IsTopFunction}
use Rattle.entry_search.specs.Words.{class_name, entry_name, public_function, parameters_of}
use Rattle.entry_search.specs.Pieces.{entry_member}

-- the class of this name stands in the program: a constructor, and a member for each of its entries
pub record Stands (p : Program) (link_of : Name → ClassLink) (entries : List MethodEntry) (c : Name) : Type 0 where
  pub own : List MethodEntry
  pub exact : (e : MethodEntry) → Contains own e ↔ (Contains entries e × (e.class ≡ c))
  pub start : Statements
  pub members_are : members_of p (link_of c) ≡ Some (constructor_of [] start ∷ map entry_member own)
  pub named : (link_of c).name ≡ class_name c

pub data AllStand (p : Program) (link_of : Name → ClassLink) (entries : List MethodEntry) : List Name → Type 0 where
  stand_none : AllStand p link_of entries []
  stand_more : (c : Name) (cs : List Name) → Stands p link_of entries c → AllStand p link_of entries cs → AllStand p link_of entries (c ∷ cs)

-- what a world, its facts and its entries are, as classes stand in a program
pub record Placed (w : Classes) (facts : List Fact) (entries : List MethodEntry) (p : Program) (link_of : Name → ClassLink) (c : Name) (chain : List Name) : Type 0 where
  pub are : AreEntries w facts entries
  pub spelled : AreSpelled entries
  pub is_chain : IsChainTo w c chain
  pub stand : AllStand p link_of entries chain

-- a call of m on an instance of C is asked for: it is no reflective one, and its target is reached
pub record IsCallable (w : Classes) (facts : List Fact) (c : Name) (m : MethodName) (owner : Name) : Type 0 where
  pub spelled : IsMethodName m
  pub direct : m.result ≢ None
  pub live : IsLive w facts c
  pub wanted : IsWanted w facts c m
  pub target : IsReachedTarget w facts c m owner

-- property lookup finds the bridge to the function of the target
pub record FindsBridge (p : Program) (link_of : Name → ClassLink) (chain : List Name) (m : MethodName) (owner : Name) : Type 0 where
  pub at : Name
  pub above : List ClassLink
  pub lookup : method_on p (map link_of chain) (entry_name m) ≡ Some (Value.method (link_of at ∷ above) (entry_name m))
  pub code : method_code p (link_of at) (entry_name m) ≡ Some (bridge (public_function owner m) (parameters_of m))
  pub named : (link_of at).name ≡ class_name at

abbrev pub LookupFindsBridge : Type 0
LookupFindsBridge = (w : Classes) (facts : List Fact) (entries : List MethodEntry) (p : Program) (link_of : Name → ClassLink) (c : Name) (chain : List Name) (m : MethodName) (owner : Name) → Placed w facts entries p link_of c chain → IsCallable w facts c m owner → FindsBridge p link_of chain m owner

-- an object of the class of this chain, that has no property of its own of this name
pub record IsObjectOf (p : Program) (link_of : Name → ClassLink) (chain : List Name) (x : Name) (a : ℕ) (s : State) : Type 0 where
  pub own : Name → Option Value
  pub stored : slice_get s.heap a ≡ Some (plain (map link_of chain) own)
  pub free : own x ≡ None

-- a call of what a property of a value gives, with the value as `this`; where there is none to ask for it is wrong (12.3.6.1)
abbrev pub call_found : Program → Low → Value → Option Callee → List Value → Evaluation
call_found p low this None vs sc s = wrong
call_found p low this (Some c) vs sc s = call_with_this p low this c vs sc s

-- the emitted call `x.m_m(..)` on it, within one unit more, runs the emitted function of the target that the world's resolution gives
abbrev pub ObjectsRunTargets : Type 0
ObjectsRunTargets = (w : Classes) (facts : List Fact) (entries : List MethodEntry) (p : Program) (link_of : Name → ClassLink) (c : Name) (chain : List Name) (m : MethodName) (owner g : Name) (n a : ℕ) (vs : List Value) (sc : Scope) (s : State) →
    Placed w facts entries p link_of c chain → IsCallable w facts c m owner → IsObjectOf p link_of chain (entry_name m) a s →
    are_distinct (parameters_of m) ≡ true → length (parameters_of m) ≡ length vs → ((d : Name) → IsTopFunction p (link_of d).file (public_function owner m) g s) →
    call_found p (below p (suc n)) (object a) (callee p s (object a) (entry_name m)) vs sc s ≡ code_call (below p n) g (code_of p g (public_function owner m)) (object a ∷ vs) s
