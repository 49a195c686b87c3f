-- What the written pieces of a world use is written.
use Rattle.std.specs.Prelude.{◌↔◌, List, Contains}
use Rattle.object_folders.specs.Entries.{IsLive}
use Rattle.sj_emit_help_spec.specs.Helpers.{helper_name}
use Rattle.sj_emit_help_spec.specs.Words.{helper}
use Rattle.sj_emit_help_spec.specs.declared.kinds.Helper.{Helper}
use Rattle.js_tree.specs.declared.items.Binding.{Binding}
use Rattle.object_folders.specs.Reachable.{Reachable}
use Rattle.sj_names.specs.declared.entry_points.EntryPoint.{EntryPoint}
use Rattle.object_folders.specs.EmittedMethods.{EmittedMethod}
use Rattle.sj_world.specs.Known.{Name, Classes}
use Rattle.sj_world.specs.declared.facts.Fact.{Fact}
use Rattle.object_folders.specs.Pieces.{piece_of_member}

-- the pieces of these classes are written, in a world with these facts, methods, live classes and helpers: what the methods of the classes use is of one of them, and each
-- helper that they use is there
pub record AreWrittenWith (w : Classes) (entries : List EntryPoint) (facts : List Fact) (all : List EmittedMethod) (live : List Name) (helpers : List Helper) (written : List Name) : Type 0 where
  pub are_facts : (f : Fact) → Contains facts f ↔ Reachable w entries f
  pub are_live : (c : Name) → Contains live c ↔ IsLive w facts c
  pub owned : (e : EmittedMethod) → Contains all e → Contains written e.member.class → (b : Binding) → Contains (piece_of_member w e).uses b → Contains written b.owner
  pub helped : (e : EmittedMethod) → Contains all e → Contains written e.member.class → (h : Helper) → Contains (piece_of_member w e).uses (helper (helper_name h)) → Contains helpers h
