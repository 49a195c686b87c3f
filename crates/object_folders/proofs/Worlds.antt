-- The world of an accepted folder has what the laws on objects ask.
use Rattle.linked_entries.proofs.Plain.{plain_world}
use Rattle.linked_entries.proofs.Topped.{topped}
use Rattle.linked_entries.proofs.Running.{targets_run}
use Rattle.std.proofs.Common.{◌≡◌, ◌&&◌, Bool, true, List, None, sym, subst, Contains}
use Rattle.std.proofs.lemmas.Bool.{and_parts}
use Rattle.std.specs.List.{list_any}
use Rattle.linked_entries.proofs.Objects as objects
use Rattle.linked_entries.proofs.Worlds.{judged}
use Rattle.linked_entries.specs.Accepted.{IsAccepted}
use Rattle.linked_entries.specs.Bodies.{AreBodies}
use Rattle.linked_entries.specs.Rules.{RightMember}
use Rattle.linked_entries.specs.Worlds.{AreClassesKept}
use Rattle.linked_entries.specs.Built.{has_static, is_static}
use Rattle.sj_emit_help_spec.specs.declared.kinds.Helper.{Helper}
use Rattle.linked_entries.proofs.Statics.{static_is}
use Rattle.linked_entries.proofs.Facts.{made_known}
use Rattle.linked_entries.specs.Used.{used_of, is_among, makes, is_received, is_constructor_without_value, has_static_in, needs_static, is_loaded}
use Rattle.object_folders.proofs.Fields.{field_there, type_there, static_there, static_type_there}
use Rattle.object_folders.proofs.Made.{live_free}
use Rattle.object_folders.proofs.Methods.{right_member}
use Rattle.object_folders.proofs.Throwing.{exceptions, division, cast_throws, sizes, reads, writes, stores, module_made}
use Rattle.object_folders.specs.Laws.{AcceptedFoldersCarryObjects, AcceptedFoldersLinkRightMembers}
use Rattle.object_folders.specs.Running.{CanRun}
use Rattle.linked_entries.specs.Refusals.{hijacked}
use Rattle.sj_local.specs.Broken.{FirstBroken}
use Rattle.sj_names.specs.declared.entry_points.EntryPoint.{EntryPoint}
use Rattle.sj_names.specs.declared.folders.SourceFile.{SourceFile}
use Rattle.sj_names.specs.declared.method_names.Member.{Member}
use Rattle.linked_entries.specs.EmittedMethods.{EmittedMethod}
use Rattle.linked_entries.proofs.Same.{has_function-is}
use Rattle.linked_entries.specs.Linked.{has_function}
use Rattle.sj_trees.specs.declared.classes.ClassDef.{ClassDef}
use Rattle.sj_trees.specs.declared.types.IrType.{IrType}
use Rattle.sj_world.proofs.OnCycles.{among}
use Rattle.sj_world.specs.Paths.{stay}
use Rattle.sj_world.specs.Known.{Name, Classes, class_of}
use Rattle.sj_world.specs.declared.facts.Fact.{Fact}

-- a member that is written and has a method keeps the rules, of whatever members it is asked
pub member_right : (entries : List EntryPoint) (files : List SourceFile) (w : Classes) (facts : List Fact) (all : List EmittedMethod) (live : List Name) (helpers : List Helper) (written : List Name) → IsAccepted entries files w → AreBodies w entries all → CanRun w entries facts all live helpers written → (test : Member → Bool) (m : Member) → (test m && (is_among written m.class && has_function all m)) ≡ true → RightMember w w (used_of w facts all live helpers written) m
member_right entries files w facts all live helpers written a bodies run test m h =
    let p = and_parts (test m) (is_among written m.class && has_function all m) h in
    let q = and_parts (is_among written m.class) (has_function all m) p.1 in
    let f = has_function-is all m q.1 in
    let is_written : Contains written f.method.member.class = subst (λ (k : Member). Contains written k.class) (sym f.is) ((among written m.class).0 q.0) in
    right_member entries files w a all bodies (used_of w facts all live helpers written) m f (run.are_built f.method f.listed is_written)

pub link_right : AcceptedFoldersLinkRightMembers
link_right entries files w facts all live helpers written a bodies run = member_right entries files w facts all live helpers written a bodies run (λ m. is_static m.namespace)

pub carry : AcceptedFoldersCarryObjects
carry entries files w facts all live helpers written a bodies run = record {
  kept = kept;
  acyclic = a.world.no_cycle;
  received = member_right entries files w facts all live helpers written a bodies run is_received;
  targets = λ m h. targets_run w (topped w (plain_world w kept.superclass kept.hijacked)) m;
  looked = run.looked;
  on_arrays = run.on_arrays;
  reflected = run.reflected;
  built = member_right entries files w facts all live helpers written a bodies run is_constructor_without_value;
  made = λ c h. let p = and_parts (is_among written c) (list_any (makes c) facts) h in live_free w entries a.resolved kept facts run.reached c (record { made = c; is_made = made_known facts c p.1; on_chain = stay });
  primitives = λ h is. objects.write_interfaces entries files w a h (hijacked is);
  fields = field_there w unbroken;
  one_type = type_there w unbroken;
  statics = λ c f t h. static_there w unbroken c f t (static_known c f t h);
  one_static = λ c f s t h k. static_type_there w unbroken c f s t (static_known c f s h) (static_known c f t k);
  exceptions = exceptions w entries facts all live helpers written run;
  divisions = division w entries facts all live helpers written run;
  casts = cast_throws w entries facts all live helpers written run;
  arrays = λ h. h;
  sizes = sizes w entries facts all live helpers written run;
  reads = reads w entries facts all live helpers written run;
  writes = writes w entries facts all live helpers written run;
  stores = stores w entries facts all live helpers written run;
  modules = λ c h. let q = and_parts (is_among written c) (is_loaded all c) h in module_made w facts all live helpers written c ((among written c).0 q.0) (run.loads c q.1);
}
  where
    static_known : (c f : Name) (t : IrType) → has_static (used_of w facts all live helpers written) c f t ≡ true → has_static_in (class_of w c) f t ≡ true
    static_known c f t h = (and_parts (list_any (needs_static c f) facts) (has_static_in (class_of w c) f t) (and_parts (is_among written c) (list_any (needs_static c f) facts && has_static_in (class_of w c) f t) (static_is w facts all live helpers written c f t h)).1).1

    kept : AreClassesKept w
    kept = objects.kept entries files w a

    unbroken : (c : ClassDef) → Contains w c → FirstBroken c None
    unbroken c i = (judged entries files w a c i).unbroken
