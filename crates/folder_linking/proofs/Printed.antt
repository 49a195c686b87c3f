-- The modules of a plan keep the rules of printing, and their files are those that a folder is linked to.
use Rattle.std.proofs.Common.{◌≡◌, ◌+◌, ℕ, List, [], ◌∷◌, ◌++◌, Some, sym, ap, subst, ◌∙◌, map, take, slice_get, Contains}
use Rattle.std.specs.List.{All}
use Rattle.std.proofs.lemmas.List.{map-append}
use Rattle.std.proofs.lemmas.List.Elements.{All-nil, All-cons, All-contains}
use Rattle.js_mean.specs.Shows.{File}
use Rattle.js_tree.specs.Rules.{IsName, IsItem, IsPiece, IsModule}
use Rattle.js_tree.specs.Spelling.{Spells}
use Rattle.js_tree.specs.Terms.{Module, Piece}
use Rattle.linked_modules.proofs.Blocks.{method_there}
use Rattle.linked_modules.proofs.Calls.{entry}
use Rattle.linked_modules.proofs.Members.{defined}
use Rattle.world_pieces.proofs.Same.{has_function-is}
use Rattle.agree_soundness.specs.EmittedMethods.{EmittedMethod}
use Rattle.agree_soundness.specs.Emitted.{initializer_member}
use Rattle.world_pieces.specs.Pieces.{piece_of_member}
use Rattle.linked_modules.proofs.Entries.{initializer_of}
use Rattle.linked_modules.specs.Files.{IsFileOf, AreFilesOf}
use Rattle.module_names.specs.Names.{sha1_digest}
use Rattle.sj_emit_module_spec.specs.Calls.{call_item_of}
use Rattle.sj_emit_module_spec.specs.Laws.{ModulesKeepRules, PlansNameFiles}
use Rattle.sj_emit_module_spec.specs.Modules.{IsModuleOf}
use Rattle.sj_emit_expr_spec.specs.Templates.{member_name}
use Rattle.sj_graph.specs.References.{IsGraph}
use Rattle.sj_graph.specs.declared.graphs.Graph.{Graph}
use Rattle.sj_names.specs.EntryPoints.{AreEntries}
use Rattle.sj_names.specs.declared.entry_points.EntryPoint.{EntryPoint}
use Rattle.sj_names.specs.declared.method_names.Member.{Member}
use Rattle.sj_split.proofs.Members.{at_first, further}
use Rattle.sj_split.specs.Modules.{IsPlan, file}
use Rattle.sj_split.specs.declared.plans.PlannedModule.{PlannedModule}
use Rattle.sj_split.specs.declared.plans.Style.{Style}
use Rattle.sj_world.proofs.Searches.{contains_at}
use Rattle.sj_world.specs.Known.{Classes, class_of}
use Rattle.folder_linking.proofs.Taken.{more_taken}
use Rattle.folder_linking.specs.Linking.{ArePrintable, IsLinkByEntries}
use Rattle.folder_linking.specs.Modules.{IsFileAt, KeepRules, as_file}
use Rattle.folder_linking.specs.declared.files.ModuleFile.{ModuleFile}

module _ (modules : List PlannedModule) (ps : List Piece) where
  -- the module with a number keeps the rules
  pub module_kept : (which : ℕ) (m : Module) → KeepRules modules ps → IsModuleOf modules which ps m → IsModule m
  module_kept which m keep of = subst IsModule (sym of.is) (keep of.planned (contains_at modules which of.planned of.stands))

  -- its text is in the file with its name
  pub file_at : (which : ℕ) (m : Module) (planned : PlannedModule) (f : ModuleFile) → slice_get modules which ≡ Some planned → IsModuleOf modules which ps m → f.name ≡ file planned → Spells m f.bytes → IsFileAt modules which ps f
  file_at which m planned f stands of named spelled = record {
    planned = of.planned;
    stands = of.stands;
    is = record { named = named ∙ ap file same; spelled = subst (λ (n : Module). Spells n f.bytes) of.is spelled };
  }
    where
      same : planned ≡ of.planned
      same = let e : Some planned ≡ Some of.planned = sym stands ∙ of.stands in cc

  -- one module and its file behind others
  more_files : (ms : List PlannedModule) (fs : List File) (m : PlannedModule) (f : File) → AreFilesOf modules ps ms fs → IsFileOf modules ps m f → AreFilesOf modules ps (ms ++ m ∷ []) (fs ++ f ∷ [])
  more_files [] [] m f are is = (is, tt)
  more_files [] (g ∷ fs) m f are is = absurd are
  more_files (n ∷ ms) [] m f are is = absurd are
  more_files (n ∷ ms) (g ∷ fs) m f are is = (are.0, more_files ms fs m f are.1 is)

  -- the same of the first modules and their files
  pub first_files : (which : ℕ) (old new : List ModuleFile) (f : ModuleFile) → new ≡ old ++ f ∷ [] → AreFilesOf modules ps (take which modules) (map as_file old) → IsFileAt modules which ps f → AreFilesOf modules ps (take (which + 1) modules) (map as_file new)
  first_files which old new f made are at =
      subst (AreFilesOf modules ps (take (which + 1) modules)) (sym (ap (map as_file) made ∙ map-append as_file old (f ∷ [])))
      (subst (λ (ms : List PlannedModule). AreFilesOf modules ps ms (map as_file old ++ as_file f ∷ [])) (sym (more_taken modules which at.planned at.stands)) (more_files (take which modules) (map as_file old) at.planned (as_file f) are at.is))

module _ (w : Classes) (entries : List EntryPoint) (pieces : List Piece) (printable : ArePrintable w entries pieces) where
  pub link_is : (style : Style) (graph : Graph) (plan : List PlannedModule) (files : List File) → AreEntries entries → IsGraph pieces graph → IsPlan sha1_digest graph entries style plan → AreFilesOf plan pieces plan files → IsLinkByEntries w entries style files
  link_is style graph plan files valid is_graph is_plan are = record {
    link = record { pieces = pieces; are_pieces = printable.are; graph = graph; is_graph = is_graph; plan = plan; is_plan = is_plan; files_are = are };
    valid = valid;
  }

  abbrev all : List EmittedMethod
  all = printable.are.all

  -- the function of each method of a class stands among the pieces, so its name keeps the rule of names
  named : (e : EmittedMethod) → Contains all e → IsName (member_name e.member)
  named e i =
      let d = defined w e.member e.definition (printable.are.bodies.found e i).found in
      let known = subst (λ (u : Classes). class_of u e.member.class ≡ Some d.class) (sym printable.are.is_linked.world) d.is_class in
      (All-contains IsPiece pieces (piece_of_member printable.are.linked.world e) printable.rules (method_there printable.are.linked all pieces printable.are.are e i d.class known)).0

  call_kept : (e : EntryPoint) → Contains entries e → IsItem (call_item_of e)
  call_kept e i = let f = has_function-is all (initializer_member e) (entry w entries all printable.are.bodies e i) in (subst (λ (m : Member). IsName (member_name m)) f.is (named f.method f.listed), tt)

  calls_kept : (es : List EntryPoint) → ((e : EntryPoint) → Contains es e → Contains entries e) → All IsItem (map call_item_of es)
  calls_kept [] each = All-nil IsItem
  calls_kept (e ∷ es) each = All-cons IsItem (call_item_of e) (map call_item_of es) (call_kept e (each e (at_first e es))) (calls_kept es (λ d i. each d (further e d es i)))

  pub rules_kept : ModulesKeepRules → PlansNameFiles → (style : Style) (graph : Graph) (plan : List PlannedModule) → AreEntries entries → IsPlan sha1_digest graph entries style plan → KeepRules plan pieces
  rules_kept keep_rules name_files style graph plan valid is planned among =
      keep_rules plan planned pieces among printable.rules
      (λ m h. calls_kept m.initializers (λ e i. (initializer_of sha1_digest graph entries style plan is m e h i).among))
      (name_files graph entries style plan valid is)
