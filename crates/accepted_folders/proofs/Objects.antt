-- The world of an accepted folder keeps the rules on superclasses and on hijacked classes, and what stands above needed and hijacked classes as an interface
-- is one.
use Rattle.std.proofs.Common.{◌≡◌, Bool, true, false, List, [], Option, Some, None, refl, sym, subst, ⊎_elim, if◌then◌else◌, Contains}
use Rattle.std.specs.Prelude.{codes, ◌||◌}
use Rattle.agree_classes.proofs.Lists.{nothing_in, in_front_or_behind, from_filter}
use Rattle.agree_classes.specs.Worlds.{WritesInterfaces}
use Rattle.folder_judging_spec.proofs.Derivations.{closed}
use Rattle.folder_judging_spec.specs.Reachable.{Reachable, Unresolved}
use Rattle.folder_judging_spec.specs.Refusals.{Refusal, wrong_kind, HasNeededParents, needed, hijacked, no_interface_above}
use Rattle.folder_judging_spec.specs.Rules.{the_object, above, above_hijacked}
use Rattle.agree_classes.proofs.Classes.{keeps-superclass, keeps-hijacked}
use Rattle.sj_local.specs.ClassRules.{is_interface}
use Rattle.sj_names.proofs.Same.{impossible}
use Rattle.sj_names.specs.declared.entry_points.EntryPoint.{EntryPoint}
use Rattle.sj_trees.specs.declared.classes.ClassDef.{ClassDef}
use Rattle.sj_trees.specs.declared.classes.ClassKind.{ClassKind}
use Rattle.sj_trees.specs.declared.classes.ClassKind.TheVariants.{Interface}
use Rattle.sj_world.specs.Ancestors.{directly_above, above_in, listed, written, written_in, IsParent}
use Rattle.sj_world.specs.Known.{Name, Classes, class_of, is_known, is_hijacked, is_same, stands_as, object, integer}
use Rattle.sj_world.specs.Paths.{Path, stay, on}
use Rattle.sj_world.specs.declared.facts.Fact.TheVariants.{Needed}
use Rattle.accepted_folders.specs.Objects.{AcceptedWorldsAreKept, AcceptedWorldsWriteInterfaces}
use Rattle.accepted_folders.proofs.Worlds.{judged}

pub kept : AcceptedWorldsAreKept
kept entries files w a = record {
  superclass = λ c i. keeps-superclass c (judged entries files w a c i).unbroken;
  hijacked = λ c i. keeps-hijacked c (judged entries files w a c i).unbroken;
}

no_interface : (k : ClassKind) → is_interface k ≡ false → k ≡ Interface → ⊥
no_interface Interface h e = impossible (sym h)
no_interface ClassKind.Class h e = absurd (cc)
no_interface ClassKind.ModuleClass h e = absurd (cc)
no_interface ClassKind.HijackedClass h e = absurd (cc)

module _ (w : Classes) (entries : List EntryPoint) (resolved : (r : Refusal) → Unresolved w entries r → ⊥) where
  abbrev Parents : Name → Type 0
  Parents c = HasNeededParents w entries (Reachable w entries) c

  -- an integer is hijacked, and so is what it stands for
  standing : (c : Name) → Parents c → Parents (stands_as c)
  standing c p = go (is_same c (codes "java.lang.Byte") || is_same c (codes "java.lang.Short"))
    where
      go : (b : Bool) → Parents (if b then integer else c)
      go true = hijacked refl
      go false = p

  -- what is written above a class whose parents are needed is needed
  one_above : (c d : Name) → Parents c → Contains (directly_above w c) d → Parents d
  one_above c d p i = by_class (class_of w c) refl i
    where
      at_object : (d : Name) → (b : Bool) → Contains (listed (if b then Some object else None)) d → Parents d
      at_object d false j = nothing_in d j
      at_object d true j = ⊎_elim (λ e. subst Parents e (needed (closed w entries (Needed object) the_object))) (λ j. nothing_in d j) (in_front_or_behind object [] d j)

      written_there : Parents c → Contains (above_in (class_of w c) c) d → (k : ClassDef) → class_of w c ≡ Some k → Contains (written k) d → Parents d
      written_there (needed r) all k e j = needed (closed w entries (Needed d) (above c d r (subst (λ o. Contains (written_in o) d) (sym e) j)))
      written_there (hijacked h) all k e j = needed (closed w entries (Needed d) (above_hijacked c d h (subst (λ o. Contains (written_in o) d) (sym e) j)))

      by_class : (o : Option ClassDef) → class_of w c ≡ o → Contains (above_in o c) d → Parents d
      by_class None e j = at_object d (is_hijacked c) j
      by_class (Some k) e j = written_there p i k e j

  parent : (c d : Name) → Parents c → IsParent w c d → Parents d
  parent c d p i = one_above (stands_as c) d (standing c p) (from_filter (is_known w) (directly_above w (stands_as c)) d i)

  path : (c d : Name) → Parents c → Path (IsParent w) c d → Parents d
  path c _ p stay = p
  path c _ p (on b d rest i) = parent b d (path c b p rest) i

  pub interfaces : (c : Name) → Parents c → WritesInterfaces w c
  interfaces c p b way class found i face among is = go (is_interface face.kind) refl
    where
      go : (k : Bool) → is_interface face.kind ≡ k → is_interface face.kind ≡ true
      go true e = e
      go false e = absurd (resolved (wrong_kind i) (no_interface_above (stands_as b) i class (standing b (path c b p way)) found among (record { class = face; is_class = is; other = no_interface face.kind e })))

pub write_interfaces : AcceptedWorldsWriteInterfaces
write_interfaces entries files w a c p = interfaces w entries a.resolved c p
