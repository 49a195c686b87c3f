-- No file imports from that of a module with initializers.
use Rattle.std.proofs.Common.{◌≡◌, List, [], ◌∷◌, Some, Contains, refl, sym, ap, subst, ◌∙◌, map}
use Rattle.std.specs.Prelude.{codes}
use Rattle.std.specs.List.{IsDistinct}
use Rattle.std.proofs.lemmas.List.{append_cancel_right}
use Rattle.std.proofs.lemmas.List.Elements.{Contains-append_left}
use Rattle.js_tree.specs.Terms.{Piece}
use Rattle.js_tree.specs.declared.items.Binding.{Binding}
use Rattle.module_files.proofs.Circles.{one_named}
use Rattle.module_files.proofs.Entries.{OfPublic, initializer_of, at_public, one_tag, none_beside_calls}
use Rattle.module_names.specs.Names.{Key, Digest}
use Rattle.sj_emit_module_spec.proofs.Lines.{in_module}
use Rattle.sj_emit_module_spec.specs.Laws.{IsIn, Uses, by_piece, by_call}
use Rattle.sj_emit_module_spec.specs.Modules.{file_with}
use Rattle.sj_split_laws.proofs.Names.{names_differ}
use Rattle.sj_split_laws.proofs.Placing.{modules_are_tags, placed_classes_are_reached}
use Rattle.sj_split_laws.specs.Laws.{name_of}
use Rattle.sj_graph.specs.References.{IsGraph, object, reference, reference_by}
use Rattle.sj_graph.specs.declared.graphs.Graph.{Graph}
use Rattle.sj_names.specs.EntryPoints.{AreEntries}
use Rattle.sj_names.specs.declared.entry_points.EntryPoint.{EntryPoint}
use Rattle.sj_split.proofs.Members.{at_first, into_map}
use Rattle.sj_split.specs.Homes.{IsHome}
use Rattle.sj_split.specs.Modules.{IsPlan, public_module, file}
use Rattle.sj_split.specs.Orders.{Bytes, is_same}
use Rattle.sj_split.specs.Walks.{Name, Id, Refers, Reaches, IsReached}
use Rattle.sj_split.specs.declared.homes.Home.TheVariants.{Public}
use Rattle.sj_split.specs.declared.plans.PlannedModule.{PlannedModule}
use Rattle.sj_split.specs.declared.plans.Style.TheVariants.{Fewest, Smallest}
use Rattle.worklist.specs.Paths.{stay, on}
use Rattle.running_modules.specs.Laws.{ReachedFilesOnlyDeclare}

without : (es : List EntryPoint) → ((e : EntryPoint) → Contains es e → ⊥) → es ≡ []
without [] none = refl
without (e ∷ es) none = absurd (none e (at_first e es))

-- the class stands in this module, whose file that is
pub inside : (modules : List PlannedModule) (class : Name) (m : PlannedModule) → IsDistinct is_same (map name_of modules) → Contains modules m → file_with modules class ≡ Some (file m) → Contains m.classes class
inside modules class m apart h stands =
    let i = in_module modules class (file m) stands in
    let same : i.planned ≡ m = one_named modules i.planned m apart i.among h (append_cancel_right i.planned.name m.name (codes ".js") i.named) in
    subst (λ (n : PlannedModule). Contains n.classes class) same i.inside

-- in fewest style what uses a binding of the file of an initializer stands in this file
module _ (digest_of : Key → Digest) (graph : Graph) (entries : List EntryPoint) (modules : List PlannedModule) (ps : List Piece) (valid : AreEntries entries) (is_graph : IsGraph ps graph) (is : IsPlan digest_of graph entries Fewest modules) (m : PlannedModule) (e : EntryPoint) (h : Contains modules m) (i : Contains m.initializers e) where
  o : OfPublic digest_of graph entries Fewest modules is m e
  o = initializer_of digest_of graph entries Fewest modules is m e h i

  -- only its own public module reaches a class of the module
  reached_alone : (c : Name) → Contains m.classes c → (id : Id) → Reaches graph.references entries id c → id ≡ o.id
  reached_alone c j id r =
      let home : IsHome graph.references entries Fewest c (Public o.id) = at_public digest_of graph entries Fewest modules is m e o c j in
      one_tag home.tags o.id id home.is_home ((home.are_tags.exact id).1 r)

  referring : (a c : Name) (f : Bytes) → Refers graph.references a c → Contains m.classes c → file_with modules a ≡ Some f → f ≡ file m
  referring a c f refers j stands =
      let k : IsIn modules a f = in_module modules a f stands in
      let same : k.planned ≡ m = (modules_are_tags digest_of graph entries modules valid is a c k.planned m k.among h k.inside j).1 (λ id. (step id, λ r. subst (λ (x : Id). Reaches graph.references entries x a) (reached_alone c j first.entry.module (step first.entry.module there) ∙ sym (reached_alone c j id r)) there)) in
      sym k.named ∙ ap file same
    where
      step : (id : Id) → Reaches graph.references entries id a → Reaches graph.references entries id c
      step id r = record { entry = r.entry; among = r.among; in_module = r.in_module; walk = on a c r.walk refers }

      first : IsReached graph.references entries a
      first = let k = in_module modules a f stands in placed_classes_are_reached digest_of graph entries Fewest modules is a (record { planned = k.planned; among = k.among; inside = k.inside })

      there : Reaches graph.references entries first.entry.module a
      there = record { entry = first.entry; among = first.among; in_module = refl; walk = first.walk }

  using : (f : Bytes) (b : Binding) → Uses modules ps f b → Contains m.classes b.owner → f ≡ file m
  using f _ (by_piece p b k stands u) j = referring p.owner b.owner f ((is_graph.references (reference p.owner b.owner)).1 (record { piece = p; among = k; refers = Contains-append_left (map (reference_by p.owner) p.uses) (reference p.owner object ∷ []) (reference p.owner b.owner) (into_map (reference_by p.owner) p.uses b u) })) j stands
  using f _ (by_call n d k named l) j =
      let q = initializer_of digest_of graph entries Fewest modules is n d k l in
      let same : q.id ≡ o.id = reached_alone d.class j q.id (record { entry = d; among = q.among; in_module = q.in_module; walk = stay }) in
      sym named ∙ ap file q.is_public_module ∙ ap (λ (id : Id). file (public_module entries is.homes id)) same ∙ sym (ap file o.is_public_module)

pub reached_files_only_declare : ReachedFilesOnlyDeclare
reached_files_only_declare digest_of graph entries Fewest modules ps valid keep is_graph is f g source m h named = without m.initializers (λ e i. source.other (using digest_of graph entries modules ps valid is_graph is m e h i f source.uses.binding source.uses.used (inside modules source.uses.binding.owner m (names_differ digest_of graph entries Fewest modules keep is) h (source.uses.bound ∙ ap Some (sym named))) ∙ named))
reached_files_only_declare digest_of graph entries Smallest modules ps valid keep is_graph is f g source m h named = without m.initializers (λ e i. none_beside_calls digest_of graph entries modules is m e source.uses.binding.owner h i (inside modules source.uses.binding.owner m (names_differ digest_of graph entries Smallest modules keep is) h (source.uses.bound ∙ ap Some (sym named))))
