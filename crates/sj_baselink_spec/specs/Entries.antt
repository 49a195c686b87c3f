-- The method entries of a linked folder: the names by which instances of a class are called, and the body that each stands for.
use Rattle.std.specs.Prelude.{◌≡◌, ◌↔◌, ℕ, ◌<◌, false, List, Some, Contains, slice_get}
use Rattle.std.specs.Cmp.Lexicographic.{slice_cmp}
use Rattle.std.specs.Ordering.{nat_cmp, is_lt, ordering_then}
use Rattle.std.specs.declared.cmp.Ordering.{Ordering}
use Rattle.sj_names.specs.MethodNames.{spelled_method}
use Rattle.sj_names.specs.declared.method_names.Member.{Member}
use Rattle.sj_names.specs.declared.method_names.MethodName.{MethodName}
use Rattle.sj_trees.specs.declared.classes.MethodDef.{MethodDef}
use Rattle.proxy_targets.specs.Ancestors.{IsAncestor, IsNext, IsOnChain}
use Rattle.proxy_targets.specs.Known.{Name, Classes}
use Rattle.proxy_targets.specs.Linked.{Linked}
use Rattle.proxy_targets.specs.Members.{IsMethodOf}
use Rattle.proxy_targets.specs.Resolution.{Resolves, target}
use Rattle.proxy_targets.specs.Fact.{Fact}
use Rattle.proxy_targets.specs.FactVariants.{Made, Body, Called}
use Rattle.proxy_targets.specs.MethodEntry.{MethodEntry}
use Rattle.sj_reach_spec.specs.Forms.{forms_by}
use Rattle.sj_reach_spec.specs.BodyFormVariants.{Reflective}
use Rattle.proxy_targets.specs.Proxies.{IsTargetName}
use Rattle.sj_reach_spec.specs.Rules.{public_member}

-- a call of m on an instance of C runs the body of this owner
pub record IsTarget (w : Classes) (c : Name) (m : MethodName) (owner : Name) : Type 0 where
  pub body : MethodDef
  pub resolves : Resolves w c m (target body owner)

module _ (w : Classes) (facts : List Fact) where
  -- the class is made, or is a superclass of a made class
  pub record IsLive (c : Name) : Type 0 where
    pub made : Name
    pub is_made : Contains facts (Made made)
    pub on_chain : IsOnChain w made c

  -- m is called on a class of which this one is a subtype
  pub record IsWanted (c : Name) (m : MethodName) : Type 0 where
    pub receiver : Name
    pub called : Contains facts (Called receiver m)
    pub below : IsAncestor w c receiver

  -- m is wanted at the superclass too, and has the same target there
  pub record IsInherited (c : Name) (m : MethodName) (owner : Name) : Type 0 where
    pub superclass : Name
    pub is_next : IsNext w c superclass
    pub wanted : IsWanted superclass m
    pub is_target : IsTarget w superclass m owner

  -- the class has an entry for m, which stands for the body of this owner
  pub record IsDirect (c : Name) (m : MethodName) (owner : Name) : Type 0 where
    pub live : IsLive c
    pub wanted : IsWanted c m
    pub is_target : IsTarget w c m owner
    pub reached : Contains facts (Body (public_member owner m))
    pub not_inherited : IsInherited c m owner → ⊥

  -- a body that is needed calls by this reflective name
  pub record IsReflective (p : MethodName) : Type 0 where
    pub member : Member
    pub needed : Contains facts (Body member)
    pub definition : MethodDef
    pub defined : IsMethodOf w member definition
    pub calls : Contains (forms_by definition) (Reflective p)

  -- a made class has an entry for the reflective name, which stands for its own method of the name of the proxy target
  pub record IsProxy (c : Name) (p t : MethodName) : Type 0 where
    pub is_made : Contains facts (Made c)
    pub reflective : IsReflective p
    pub is_target : IsTargetName w c p t

  pub data IsMethodEntry : MethodEntry → Type 0 where
    direct : (c owner : Name) (m : MethodName) → IsDirect c m owner → IsMethodEntry (record { class = c; name = m; target = public_member owner m })
    proxy : (c : Name) (p t : MethodName) → IsProxy c p t → IsMethodEntry (record { class = c; name = p; target = public_member c t })

-- by the class, and then by the spelling of the name, in the order of their bytes
abbrev pub entry_cmp : MethodEntry → MethodEntry → Ordering
entry_cmp a b = ordering_then (slice_cmp nat_cmp a.class b.class) (slice_cmp nat_cmp (spelled_method a.name) (spelled_method b.name))

-- exactly the method entries, each once, in order
pub record AreEntries (w : Classes) (facts : List Fact) (entries : List MethodEntry) : Type 0 where
  pub exact : (e : MethodEntry) → Contains entries e ↔ IsMethodEntry w facts e
  pub once : (i j : ℕ) (e : MethodEntry) → slice_get entries i ≡ Some e → slice_get entries j ≡ Some e → i ≡ j
  pub in_order : (i j : ℕ) (a b : MethodEntry) → i < j → slice_get entries i ≡ Some a → slice_get entries j ≡ Some b → is_lt (entry_cmp b a) ≡ false

-- the world with these facts and its method entries
pub record IsLinked (w : Classes) (facts : List Fact) (l : Linked) : Type 0 where
  pub world : l.world ≡ w
  pub facts_are : l.facts ≡ facts
  pub entries : AreEntries w facts l.entries
