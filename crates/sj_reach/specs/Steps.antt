-- What is concluded of each fact, alone and together with those that were gone through before it.
use Rattle.std.specs.Prelude.{◌≡◌, ◌⊎◌, Bool, true, false, List, Option, Some, None, Contains}
use Rattle.sj_names.specs.declared.entry_points.EntryPoint.{EntryPoint}
use Rattle.sj_names.specs.declared.method_names.Member.{Member}
use Rattle.sj_names.specs.declared.method_names.MethodName.{MethodName}
use Rattle.sj_names.specs.WellKnown.{hijacked}
use Rattle.sj_trees.specs.declared.classes.ClassDef.{ClassDef}
use Rattle.sj_trees.specs.declared.classes.ClassKind.{ClassKind}
use Rattle.sj_trees.specs.declared.classes.ClassKind.TheVariants.{Class, ModuleClass, Interface}
use Rattle.sj_trees.specs.declared.classes.MethodDef.{MethodDef}
use Rattle.sj_world.specs.Members.{IsMethodOf}
use Rattle.sj_infos.specs.Infos.{asked_by}
use Rattle.sj_infos.specs.declared.infos.Info.{Info}
use Rattle.sj_infos.specs.declared.infos.Info.TheVariants as info
use Rattle.sj_world.specs.Ancestors.{IsAncestor}
use Rattle.sj_world.specs.Calls.{IsProxyTarget}
use Rattle.sj_world.specs.Known.{Name, Classes, class_of, is_hijacked, object}
use Rattle.sj_world.specs.Resolution.{Answer, Resolves, target, abstract, missing}
use Rattle.sj_world.specs.declared.facts.Fact.{Fact}
use Rattle.sj_world.specs.declared.facts.Fact.TheVariants as fact
use Rattle.class_lists.specs.Lists.{items_at}
use Rattle.class_lists.specs.declared.lists.Lists.{Lists}
use Rattle.sj_reach_spec.specs.Rules.{entry_member, plain_constructor, message_constructor, public_member, constructor_member}
use Rattle.sj_reach_spec.specs.Refusals.{missing_class, missing_method, missing_field, wrong_kind, abstract_target, IsOtherKind, IsUndefined, IsAbstract, LacksField, IsPresent}
use Rattle.proxy_targets.specs.Proxies.{IsTargetName}
use Rattle.sj_reach.specs.declared.seen.Seen.{Seen}
use Rattle.sj_reach.specs.Conclusions.{Conclusion, follows, tells, Just, Among}

-- nothing is concluded
abbrev pub Nothing : Conclusion → Type 0
Nothing x = ⊥

module _ (w : Classes) where
  -- the class is to be of this kind
  abbrev pub OfKind : ClassKind → Name → Conclusion → Type 0
  OfKind kind c x = IsOtherKind w kind c × Just (tells (wrong_kind c)) x

  -- the class is needed, and is to be of this kind
  abbrev pub OfClass : ClassKind → Name → Conclusion → Type 0
  OfClass kind c x = Just (follows (fact.Needed c)) x ⊎ OfKind kind c x

  abbrev pub OfSuperclass : Option Name → Conclusion → Type 0
  OfSuperclass None = Nothing
  OfSuperclass (Some c) = OfClass Class c

  -- what a class writes above it
  abbrev pub OfParents : ClassDef → Conclusion → Type 0
  OfParents class x = OfSuperclass class.superclass x ⊎ Among class.interfaces (OfClass Interface) x

  abbrev pub OfNeededIn : Option ClassDef → Name → Conclusion → Type 0
  OfNeededIn None c = Just (tells (missing_class c))
  OfNeededIn (Some class) c = OfParents class

  -- the class is needed
  abbrev pub OfNeeded : Name → Conclusion → Type 0
  OfNeeded c = OfNeededIn (class_of w c) c

  abbrev pub OfHijackedIn : Option ClassDef → Conclusion → Type 0
  OfHijackedIn None = Nothing
  OfHijackedIn (Some class) = OfParents class

  -- the hijacked class is there in every world
  abbrev pub OfHijacked : Name → Conclusion → Type 0
  OfHijacked c = OfHijackedIn (class_of w c)

  -- the member is to have a body
  abbrev pub OfMember : Member → Conclusion → Type 0
  OfMember k x = (IsUndefined w k × Just (tells (missing_method k)) x) ⊎ (IsAbstract w k × Just (tells (abstract_target k)) x)

  -- the member is asked for
  abbrev pub OfAsked : Member → Conclusion → Type 0
  OfAsked k x = OfMember k x ⊎ Just (follows (fact.Body k)) x

  -- it is concluded of what the call resolves to
  pub record Answered (c : Name) (m : MethodName) (Q : Answer → Conclusion → Type 0) (x : Conclusion) : Type 0 where
    pub answer : Answer
    pub resolves : Resolves w c m answer
    pub concluded : Q answer x

  abbrev pub if_missing : Name → MethodName → Conclusion → Type 0
  if_missing c m x = IsPresent w c × Just (tells (missing_method (public_member c m))) x

  -- the method that a public name resolves to
  abbrev pub at_resolved : Name → MethodName → Answer → Conclusion → Type 0
  at_resolved c m (target d owner) x = Just (follows (fact.Body (public_member owner m))) x
  at_resolved c m abstract x = IsPresent w c × Just (tells (abstract_target (public_member c m))) x
  at_resolved c m missing x = if_missing c m x

  abbrev pub OfResolved : Name → MethodName → Conclusion → Type 0
  OfResolved c m = Answered c m (at_resolved c m)

  abbrev pub at_receiver : Name → MethodName → Answer → Conclusion → Type 0
  at_receiver c m (target d owner) x = ⊥
  at_receiver c m abstract x = ⊥
  at_receiver c m missing x = if_missing c m x

  -- a call on a receiver of this class
  abbrev pub OfReceiver : Bool → Name → MethodName → Conclusion → Type 0
  OfReceiver true c m x = OfResolved c m x
  OfReceiver false c m x = Answered c m (at_receiver c m) x ⊎ Just (follows (fact.Called c m)) x

  abbrev pub at_dispatch : Name → MethodName → Answer → Conclusion → Type 0
  at_dispatch c m (target d owner) x = Just (follows (fact.Body (public_member owner m))) x
  at_dispatch c m abstract x = Just (tells (abstract_target (public_member c m))) x
  at_dispatch c m missing x = Just (tells (abstract_target (public_member c m))) x

  -- the method is called on instances of this class
  abbrev pub OfDispatch : MethodName → Name → Conclusion → Type 0
  OfDispatch m c = Answered c m (at_dispatch c m)

  pub record OfTargets (Q : MethodName → Conclusion → Type 0) (c : Name) (p : MethodName) (x : Conclusion) : Type 0 where
    pub name : MethodName
    pub is_target : IsTargetName w c p name
    pub concluded : Q name x

  -- a reflective call on instances of a class that is made
  abbrev pub OfProxy : MethodName → Name → Conclusion → Type 0
  OfProxy p c = OfTargets (λ m. Just (follows (fact.Called c m))) c p

  abbrev pub at_hijacked : Name → MethodName → Answer → Conclusion → Type 0
  at_hijacked c m (target d owner) x = Just (follows (fact.Body (public_member owner m))) x
  at_hijacked c m abstract x = Just (tells (abstract_target (public_member c m))) x
  at_hijacked c m missing x = ⊥

  -- a reflective call on instances of a hijacked class
  abbrev pub OfHijackedProxy : MethodName → Name → Conclusion → Type 0
  OfHijackedProxy p c = OfTargets (λ m. Answered c m (at_hijacked c m)) c p

  abbrev pub OfReflective : MethodName → Conclusion → Type 0
  OfReflective p = Among hijacked (OfHijackedProxy p)

  -- instances of the class are made, which is to be of this kind
  abbrev pub OfMaking : ClassKind → Name → Conclusion → Type 0
  OfMaking kind c x = OfClass kind c x ⊎ Just (follows (fact.Made c)) x

  abbrev pub OfField : Name → Name → Bool → Conclusion → Type 0
  OfField c f s x = (Just (follows (fact.Needed c)) x ⊎ Just (follows (fact.NeededField c f s)) x) ⊎ (LacksField w c f s × Just (tells (missing_field c f)) x)

  -- a body asks for this
  abbrev pub OfInfo : Info → Conclusion → Type 0
  OfInfo (info.New c m) x = OfMaking Class c x ⊎ OfAsked (constructor_member c m) x
  OfInfo (info.Load c) x = (OfMaking ModuleClass c x ⊎ Just (follows (fact.CellUsed c)) x) ⊎ OfAsked (plain_constructor c) x
  OfInfo (info.Field c f s) x = OfField c f s x
  OfInfo (info.Static k) x = Just (follows (fact.Needed k.class)) x ⊎ OfAsked k x
  OfInfo (info.Resolved c m) x = Just (follows (fact.Needed c)) x ⊎ OfResolved c m x
  OfInfo (info.Called c m) x = Just (follows (fact.Needed c)) x ⊎ OfReceiver (is_hijacked c) c m x
  OfInfo (info.Reflective p) x = OfReflective p x
  OfInfo (info.Class c) x = Just (follows (fact.Needed c)) x
  OfInfo info.ArrayForm x = Just (follows (fact.Made object)) x
  OfInfo (info.Throws c) x = OfMaking Class c x ⊎ OfAsked (message_constructor c) x

  -- the entry point names a class and a method of it
  abbrev pub OfEntry : EntryPoint → Conclusion → Type 0
  OfEntry e x = Just (follows (fact.Needed e.class)) x ⊎ OfAsked (entry_member e) x

  -- what stands at the start
  abbrev pub OfStart : List EntryPoint → Conclusion → Type 0
  OfStart entries x = (Just (follows (fact.Needed object)) x ⊎ Among entries OfEntry x) ⊎ Among hijacked OfHijacked x

  -- the class is below this one, and the method is called on its instances
  abbrev pub OfBelow : MethodName → Name → Name → Conclusion → Type 0
  OfBelow m d c x = IsAncestor w c d × OfDispatch m c x

  -- the class has been made: of what is called on its ancestors
  pub record OfAncestors (called : Lists MethodName) (c : Name) (x : Conclusion) : Type 0 where
    pub above : Name
    pub is_ancestor : IsAncestor w c above
    pub concluded : Among (items_at called above) (λ m. OfDispatch m c) x

  module _ (seen : Seen) where
    -- the class is made: of what is called on its ancestors, and of reflective calls
    abbrev pub OfMade : Name → Conclusion → Type 0
    OfMade c x = OfAncestors seen.called c x ⊎ Among seen.reflective.keys (λ p. OfProxy p c) x

    -- the method is called: on the classes that are made below, and on the hijacked ones
    abbrev pub OfCalled : Name → MethodName → Conclusion → Type 0
    OfCalled d m x = Among (items_at seen.below d) (OfDispatch m) x ⊎ Among hijacked (OfBelow m d) x

    -- a reflective call that wasn't seen before
    pub record IfNew (p : MethodName) (x : Conclusion) : Type 0 where
      pub new : Contains seen.reflective.keys p → ⊥
      pub concluded : Among seen.made.items (OfProxy p) x ⊎ OfReflective p x

    -- a body asks for this, some classes being made
    abbrev pub OfSeenInfo : Info → Conclusion → Type 0
    OfSeenInfo (info.Reflective p) x = IfNew p x
    OfSeenInfo i x = OfInfo i x

    -- the body of the member is needed
    pub record OfBody (k : Member) (x : Conclusion) : Type 0 where
      pub definition : MethodDef
      pub defined : IsMethodOf w k definition
      pub concluded : Among (asked_by definition) OfSeenInfo x

    -- what is concluded of a fact
    abbrev pub OfFact : Fact → Conclusion → Type 0
    OfFact (fact.Needed c) = OfNeeded c
    OfFact (fact.Made c) = OfMade c
    OfFact (fact.CellUsed c) = Nothing
    OfFact (fact.NeededField c f s) = Nothing
    OfFact (fact.Body k) = OfBody k
    OfFact (fact.Called d m) = OfCalled d m
