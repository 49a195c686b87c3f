-- The files that an accepted folder is linked to agree with its classes.
use Rattle.std.proofs.Common.{◌≡◌, ◌↔◌, ◌++◌, ◌⊎◌, true, List, ◌∷◌, Some, inl, inr, refl, sym, ap, subst, ◌∙◌, Contains, map}
use Rattle.std.specs.Prelude.{filter}
use Rattle.std.proofs.lemmas.Bool.{and_from}
use Rattle.std.proofs.lemmas.List.Elements.{Contains-push, Contains-push_cases}
use Rattle.declared_modules.proofs.Declared.{declares}
use Rattle.declared_modules.proofs.ClosedPiecesUses.{uses_are_declared}
use Rattle.declared_modules.proofs.Once.{files_run_last}
use Rattle.declared_modules.proofs.DeclaredFilesWhole.{files_agree}
use Rattle.declared_modules.specs.Declared.{Spread, all_items, Declared, IsPublic, IsLawful}
use Rattle.declared_modules.specs.Placed.{RunsLast, placed}
use Rattle.declared_modules.proofs.Whole.{modules_declare}
use Rattle.declared_modules.specs.Spread.{spread_of, AllStand, DeclaresConstants}
use Rattle.declared_modules.proofs.Assembled.{laws_of}
use Rattle.declared_modules.proofs.Derivations.{closed as closed_under}
use Rattle.declared_modules.proofs.Judged.{judged_plain}
use Rattle.declared_modules.proofs.Worlds.{carry, link_right}
use Rattle.declared_modules.proofs.AcceptedFoldersWorlds.{judged}
use Rattle.declared_modules.specs.Accepted.{IsAccepted}
use Rattle.declared_modules.specs.Bodies.{AreBodies}
use Rattle.declared_modules.specs.Built.{Usable}
use Rattle.declared_modules.specs.Closed.{IsClosed}
use Rattle.declared_modules.specs.EmittedMethods.{EmittedMethod}
use Rattle.declared_modules.specs.Emitted.{initializer_member}
use Rattle.declared_modules.specs.Pieces.{AreLinkedPieces}
use Rattle.declared_modules.specs.Reachable.{Reachable}
use Rattle.declared_modules.specs.Rules.{entry_member, of_entry, asked_body}
use Rattle.declared_modules.specs.Running.{CanRun}
use Rattle.ir_mean.specs.Shows.{initializers}
use Rattle.js_mean.specs.Files.{running_order}
use Rattle.js_mean.specs.Shows.{File}
use Rattle.js_mean.specs.States.{Program}
use Rattle.js_tree.specs.Terms.{Name, Item, Piece}
use Rattle.js_tree.specs.declared.items.Binding.{Binding}
use Rattle.declared_modules.proofs.Links as links
use Rattle.declared_modules.specs.Link.{ArePieces}
use Rattle.declared_modules.proofs.FromLinked.{linked_pieces_are_proper}
use Rattle.declared_modules.proofs.Reached.{reached_files_are_good}
use Rattle.declared_modules.proofs.Read.{files_are_read}
use Rattle.declared_modules.proofs.Running.{imports_run_first}
use Rattle.declared_modules.proofs.ModuleFilesWhole.{plans_are_whole}
use Rattle.declared_modules.specs.Files.{program_of, AreFilesOf, AreProper, AreWhole}
use Rattle.module_names.specs.Names.{sha1_digest}
use Rattle.sj_emit_module_spec.proofs.Chosen.{is_it}
use Rattle.sj_emit_module_spec.proofs.Lines.{files_are_those_of_plans}
use Rattle.sj_emit_module_spec.specs.Calls.{called, call_item_of}
use Rattle.sj_emit_module_spec.specs.Laws.{AreClosed, IsDeclared, IsIn, IsSource, Uses, by_call}
use Rattle.sj_emit_module_spec.specs.Modules.{file_with, is_owned_in, item_of}
use Rattle.declared_modules.proofs.Among.{among_all}
use Rattle.declared_modules.proofs.InFiles.{used_there}
use Rattle.declared_modules.specs.Used.{uses_in}
use Rattle.sj_split_laws.proofs.Digests.{digests_have_one_length}
use Rattle.sj_split_laws.proofs.Names.{ids_are_not_internal}
use Rattle.sj_split_laws.specs.Laws.{KeepsNamesApart}
use Rattle.declared_modules.proofs.Declares.{modules_declare_in_order, modules_declare_constants, item_at}
use Rattle.declared_modules.proofs.Items.{modules_have_their_items}
use Rattle.declared_modules.proofs.There.{public_modules_are_there}
use Rattle.declared_modules.specs.RunningModulesLaws.{IsThere}
use Rattle.sj_agree.specs.Agrees.{Agrees}
use Rattle.sj_graph.specs.References.{IsGraph}
use Rattle.sj_graph.specs.declared.graphs.Graph.{Graph}
use Rattle.declared_modules.specs.Entries.{AreEntries as AreMethodEntries}
use Rattle.sj_names.specs.EntryPoints.{AreEntries}
use Rattle.sj_names.specs.declared.entry_points.EntryPoint.{EntryPoint}
use Rattle.sj_names.specs.declared.folders.SourceFile.{SourceFile}
use Rattle.sj_split.proofs.Members.{into_map, into_filter}
use Rattle.sj_split.specs.Modules.{IsPlan, file, module_of}
use Rattle.sj_split.specs.Walks.{Id}
use Rattle.sj_split.specs.declared.plans.PlannedModule.{PlannedModule}
use Rattle.sj_split.specs.declared.plans.Style.{Style}
use Rattle.sj_world.specs.Known.{Classes}
use Rattle.sj_world.specs.Linked.{Linked}
use Rattle.sj_world.specs.declared.facts.Fact.{Fact}
use Rattle.sj_world.specs.declared.facts.Fact.TheVariants.{Body}
use Rattle.linked_modules.proofs.Closed.{files_closed}
use Rattle.linked_modules.proofs.Running.{written_in, RunsIn, from_written, use_written, written_closed, item_in_front, item_in_last}
use Rattle.linked_modules.specs.Laws.{LinkedModulesAgree}

one_file : (f g : Name) → Some f ≡ Some g → f ≡ g
one_file f g e = cc

module _ (entries : List EntryPoint) (files : List SourceFile) (l : Linked) (all : List EmittedMethod) (ps : List Piece) (a : IsAccepted entries files l.world) (bodies : AreBodies l.world entries all) (exact : (f : Fact) → Contains l.facts f ↔ Reachable l.world entries f) (p : AreLinkedPieces l all ps) (methods : AreMethodEntries l.world l.facts l.entries)
    (uses : (q : Piece) → Contains ps q → (b : Binding) → Contains q.uses b → IsDeclared ps b) (graph : Graph) (style : Style) (modules : List PlannedModule) (valid : AreEntries entries) (is_graph : IsGraph ps graph) (is : IsPlan sha1_digest graph entries style modules) (id : Id) (entered : Contains (map module_of entries) id) where
  abbrev w : Classes
  w = l.world

  keep : KeepsNamesApart sha1_digest entries
  keep = record { one_length = digests_have_one_length; none_internal = ids_are_not_internal entries valid }

  -- the functions of entries are declared, and so is all that files use
  entry_declared : (e : EntryPoint) → Contains entries e → IsDeclared ps (called e)
  entry_declared e i = (declares entries files l all ps a bodies exact p).functions (entry_member e) (closed_under w entries (Body (entry_member e)) (asked_body (entry_member e) (of_entry e i)))

  closed : AreClosed modules ps
  closed = files_closed sha1_digest graph entries style modules ps is uses entry_declared

  whole : AreWhole modules ps
  whole = plans_are_whole sha1_digest graph entries style modules ps is_graph is closed

  -- the public module, and the files that run with its own
  there : IsThere entries modules id
  there = public_modules_are_there sha1_digest graph entries style modules is id entered

  abbrev program : Program
  program = program_of modules ps

  abbrev last : Name
  last = file there.planned

  abbrev order : List Name
  order = running_order program last

  runs_last : RunsLast program last
  runs_last = files_run_last program last

  last_runs : Contains order last
  last_runs = subst (λ (fs : List Name). Contains fs last) (sym runs_last.order) (Contains-push runs_last.front last)

  abbrev own_items : List Item
  own_items = map item_of (filter (is_owned_in (file_with modules) last) ps)

  -- the classes that stand in those files
  abbrev written : List Name
  written = written_in modules order

  stands : (class : Name) (f : Name) → (file_with modules class ≡ Some f) ↔ IsIn modules class f
  stands = files_are_those_of_plans sha1_digest graph entries style modules is

  first : (before behind : List Name) (f g : Name) → order ≡ before ++ f ∷ behind → IsSource modules ps f g → Contains before g
  first = imports_run_first sha1_digest graph entries style modules ps valid keep is_graph is there.planned there.among

  owned : IsClosed ps written
  owned = written_closed modules ps order stands whole first

  abbrev its_live : List Name
  its_live = links.its_live entries files l all ps a bodies exact p methods written owned

  abbrev has : Usable
  has = links.has entries files l all ps a bodies exact p methods written owned

  run : CanRun w entries l.facts all its_live p.helpers written
  run = links.run entries files l all ps a bodies exact p methods written owned

  proper : AreProper modules ps
  proper = linked_pieces_are_proper l all ps modules (links.named entries files l all ps a bodies exact p methods written owned) (links.once entries files l all ps a bodies exact p methods written owned) p closed

  abbrev z : Spread
  z = spread_of modules ps w has runs_last.front last own_items

  -- the pieces of those classes are among the items that run
  all_stand : AllStand modules ps written z
  all_stand q f i h is_in = go (Contains-push_cases runs_last.front last f (subst (λ (fs : List Name). Contains fs f) runs_last.order f_runs))
    where
      f_runs : Contains order f
      f_runs = let r : RunsIn modules order q.owner = from_written modules ps order stands whole first q.owner h in subst (Contains order) (one_file r.its_file f (sym r.is ∙ is_in)) r.runs

      in_last : file_with modules q.owner ≡ Some last → Contains (all_items z) (placed last q.item)
      in_last e = item_in_last program runs_last.front last own_items q.item (into_map item_of (filter (is_owned_in (file_with modules) last) ps) q (into_filter (is_owned_in (file_with modules) last) ps q i (is_it last (file_with modules q.owner) e)))

      go : Contains runs_last.front f ⊎ (last ≡ f) → Contains (all_items z) (placed f q.item)
      go (inl j) = item_in_front program runs_last.front last own_items f q.item j (item_at sha1_digest graph entries style modules files l all ps a (λ g. (exact g).0) p (links.extends entries files l all ps a bodies exact p methods written owned) valid keep is_graph is closed q f i is_in)
      go (inr e) = subst (λ (g : Name). Contains (all_items z) (placed g q.item)) e (in_last (is_in ∙ ap Some (sym e)))

  -- the objects of those files are constants of classes
  marks : DeclaresConstants z
  marks g x qs i = modules_declare_constants sha1_digest graph entries style modules files l all ps a (λ f. (exact f).0) p (links.extends entries files l all ps a bodies exact p methods written owned) valid keep is_graph is closed there.planned there.among runs_last.front runs_last.order g x qs i

  declared : Declared z
  declared = modules_declare entries files l all its_live written modules ps runs_last.front last own_items a bodies p methods (links.lives entries files l all ps a bodies exact p methods written owned) run owned (links.extends entries files l all ps a bodies exact p methods written owned) proper.together whole all_stand marks

  lawful : IsLawful z has
  lawful = record {
    among = λ f. among_all has (uses_in modules ps f);
    objects = laws_of w has (carry entries files w l.facts all its_live p.helpers written a bodies run);
    linked = link_right entries files w l.facts all its_live p.helpers written a bodies run;
  }

  -- the file calls its initializers
  calls : (e : EntryPoint) → Contains (initializers entries id) e → Uses modules ps last (called e)
  calls e i = by_call there.planned e there.among refl (subst (λ (es : List EntryPoint). Contains es e) (sym there.calls) i)

  initializer_linked : (e : EntryPoint) → Contains (initializers entries id) e → (z.has last).linked (initializer_member e) ≡ true
  initializer_linked e i =
      and_from (has.linked (initializer_member e)) (uses_in modules ps last (called e))
      (links.starts entries files l all ps a bodies exact p methods written owned e (links.initializers_among id entries e i) (use_written modules ps order stands whole first last (called e) last_runs (calls e i)))
      ((used_there modules ps last (called e)).1 (calls e i))

  public : IsPublic z id (initializers entries id)
  public = record {
    last = there.its_file;
    order = runs_last.order;
    good = reached_files_are_good modules ps proper there.planned there.among;
    items = modules_have_their_items sha1_digest graph entries style modules ps keep is there.planned there.among ∙ ap (λ (es : List EntryPoint). own_items ++ map call_item_of es) there.calls;
    declares = modules_declare_in_order sha1_digest graph entries style modules files l all ps a (λ f. (exact f).0) p (links.extends entries files l all ps a bodies exact p methods written owned) valid keep is_graph is closed there.planned there.among runs_last.front runs_last.order;
    linked = initializer_linked;
  }

  pub files_show : (link_files : List File) → AreFilesOf modules ps modules link_files → Agrees w entries link_files id
  files_show link_files are = record {
    program = program;
    read = files_are_read modules ps link_files are;
    agree = files_agree z has entries id (judged_plain w (judged entries files w a)) public declared lawful;
  }

-- what is shown of the classes that these pieces are of
abbrev Agreed : List EntryPoint → List SourceFile → Id → List File → List EmittedMethod → List Fact → Classes → Type 0
Agreed entries files id link_files all facts w = IsAccepted entries files w → AreBodies w entries all → ((f : Fact) → Contains facts f ↔ Reachable w entries f) → Agrees w entries link_files id

pub linked_modules_agree : LinkedModulesAgree
linked_modules_agree entries files w style id link_files a valid link entered = subst (Agreed entries files id link_files pieces.all pieces.facts) pieces.is_linked.world at_linked a pieces.bodies pieces.are_facts
  where
    pieces : ArePieces w entries link.pieces
    pieces = link.are_pieces

    l : Linked
    l = pieces.linked

    its_methods : AreMethodEntries l.world l.facts l.entries
    its_methods = subst (λ (fs : List Fact). AreMethodEntries l.world fs l.entries) (sym pieces.is_linked.facts_are) (subst (λ (x : Classes). AreMethodEntries x pieces.facts l.entries) (sym pieces.is_linked.world) pieces.is_linked.entries)

    at_linked : Agreed entries files id link_files pieces.all pieces.facts l.world
    at_linked accepted bodies facts = files_show entries files l pieces.all link.pieces accepted bodies (subst (λ (fs : List Fact). (f : Fact) → Contains fs f ↔ Reachable l.world entries f) (sym pieces.is_linked.facts_are) facts) pieces.are its_methods (uses_are_declared entries files w link.pieces a pieces) link.graph style link.plan valid link.is_graph link.is_plan id entered link_files link.files_are
