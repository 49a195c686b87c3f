-- Classes of an accepted folder that are live: they are there, aren't hijacked, and what they extend is live.
use Rattle.std.proofs.Common.{◌≡◌, false, List, Option, Some, ap, ◌∙◌}
use Rattle.std.specs.List.{Contains}
use Rattle.object_helpers.proofs.Objects as objects
use Rattle.object_helpers.specs.Accepted.{IsAccepted}
use Rattle.object_helpers.proofs.Chains.{stands_itself}
use Rattle.object_helpers.specs.Worlds.{AreClassesKept}
use Rattle.object_helpers.specs.Entries.{IsLive}
use Rattle.object_helpers.proofs.Made as made
use Rattle.object_helpers.specs.Reachable.{Reachable}
use Rattle.sj_names.specs.declared.entry_points.EntryPoint.{EntryPoint}
use Rattle.sj_names.specs.declared.folders.SourceFile.{SourceFile}
use Rattle.sj_trees.specs.declared.classes.ClassDef.{ClassDef}
use Rattle.sj_world.specs.Ancestors.{superclass_in, next_on_chain, IsNext}
use Rattle.sj_world.specs.Known.{Name, Classes, class_of, is_hijacked}
use Rattle.sj_world.specs.Paths.{on}
use Rattle.sj_world.specs.declared.facts.Fact.{Fact}

-- behind a class that isn't hijacked stands the one that it extends
pub next_is : (w : Classes) (c : Name) (k : ClassDef) → class_of w c ≡ Some k → is_hijacked c ≡ false → next_on_chain w c ≡ k.superclass
next_is w c k found free = ap (λ (n : Name). superclass_in (class_of w n) n) (stands_itself c free) ∙ ap (λ (o : Option ClassDef). superclass_in o c) found

pub live_next : (w : Classes) (facts : List Fact) (c d : Name) → IsLive w facts c → IsNext w c d → IsLive w facts d
live_next w facts c d h step = record { made = h.made; is_made = h.is_made; on_chain = on c d h.on_chain step }

module _ (entries : List EntryPoint) (files : List SourceFile) (w : Classes) (a : IsAccepted entries files w) where
  pub classes_kept : AreClassesKept w
  classes_kept = objects.kept entries files w a

  pub live_free : (facts : List Fact) → ((f : Fact) → Contains facts f → Reachable w entries f) → (c : Name) → IsLive w facts c → is_hijacked c ≡ false
  live_free facts reached c h = (made.live_free w entries a.resolved classes_kept facts reached c h).0

  pub live_there : (facts : List Fact) → ((f : Fact) → Contains facts f → Reachable w entries f) → (c : Name) → IsLive w facts c → (k : ClassDef) × (class_of w c ≡ Some k)
  live_there facts reached c h = made.live_there w entries a.resolved classes_kept facts reached c h
