-- Files that declare what their code uses, and calls in the last, show what the classes show.
use Rattle.std.proofs.Common.{◌≡◌, ℕ, List, [], ◌∷◌, ◌++◌, map, sym, ap, ◌∙◌, subst}
use Rattle.std.specs.List.{list_all}
use Rattle.agree_body_rules.proofs.InWorld.{in_world}
use Rattle.agree_soundness.proofs.Modules.{never_wrong}
use Rattle.agree_body_forms.specs.Built.{Usable}
use Rattle.ir_mean.specs.Shows as ir_showing
use Rattle.js_mean.specs.Files.{running_order, is_good_file}
use Rattle.js_mean.specs.Proper.{are_distinct}
use Rattle.js_mean.specs.Shows as js_showing
use Rattle.js_tree.specs.Terms.{Item}
use Rattle.outcomes.proofs.Simulation.{agree-from_sim}
use Rattle.outcomes.specs.Agreement.{Direction, Enough, Sim, Agree}
use Rattle.file_declarations.proofs.Names.{emitted_names_differ}
use Rattle.file_declarations.proofs.ObjectLevels as levels
use Rattle.file_declarations.proofs.Whole.{InitializersAgreeAt}
use Rattle.sj_names.specs.declared.entry_points.EntryPoint.{EntryPoint}
use Rattle.file_declarations.specs.Settings.{a_function, NamesDiffer}
use Rattle.file_declarations.specs.AgreePlainTreesWorlds.{no_values}
use Rattle.agree_soundness.specs.Emitted.{initializer_member, call_item_of}
use Rattle.sj_world.specs.Laws.{IsPlain}
use Rattle.declared_files.specs.Declared.{Spread, Declared, IsPublic, IsLawful}
use Rattle.declared_files.specs.Placed.{RunInOrder, DeclaredAt}
use Rattle.declared_files.proofs.Calls.{order_shows, files_alike}
use Rattle.declared_files.proofs.Once.{files_run_last}
use Rattle.declared_files.proofs.Place.{room, place, reaches, has_objects, begun, same_begins}
use Rattle.declared_files.proofs.Tops.{declarations_of_files_hold}

module _ (z : Spread) (all : Usable) (entries : List EntryPoint) (id : List ℕ) (plain : IsPlain z.classes) (public : IsPublic z id (ir_showing.initializers entries id)) (can : Declared z) (laws : IsLawful z all) where
  abbrev es : List EntryPoint
  es = ir_showing.initializers entries id

  abbrev calls : List Item
  calls = map call_item_of es

  names : NamesDiffer (place z)
  names = emitted_names_differ z.classes z.classes z.program z.home z.has (room z)

  runs : RunInOrder z.program z.front z.last z.declared calls
  runs = record { good = ap (list_all (is_good_file z.program)) (sym public.order) ∙ public.good; once = ap are_distinct (sym public.order) ∙ (files_run_last z.program z.last).once; items = public.items }

  tops : DeclaredAt z.program z.front z.last z.declared
  tops = declarations_of_files_hold z.program z.front z.last z.declared calls runs public.declares

  agree : InitializersAgreeAt (place z) z.last (reaches z calls runs can z.last)
  agree e l y s u same = levels.calls_agree (place z) plain (in_world z.classes plain) names (has_objects z calls runs can all laws) z.last (initializer_member e) l y [] [] ir_showing.outside s u no_values same

  order_is : running_order z.program (js_showing.file_of id) ≡ z.front ++ z.last ∷ []
  order_is = ap (running_order z.program) (sym public.last) ∙ public.order

  alike : (d : Direction) (n k : ℕ) → Enough (room z) 0 d n k → Sim d ◌≡◌ (ir_showing.ir_shows z.classes entries id n) (js_showing.js_shows z.program id k)
  alike d n k h = subst (λ fs. Sim d ◌≡◌ (ir_showing.ir_shows z.classes entries id n) (order_shows (place z) z.last (reaches z calls runs can z.last) agree z.front z.declared es runs.good runs.items tops.front tops.end tops.runs tops.runs_last k fs)) (sym order_is) (files_alike (place z) z.last (reaches z calls runs can z.last) agree z.front z.declared es runs.good runs.items tops.front tops.end tops.runs tops.runs_last (begun z calls runs can tops.end tops.hold tops.made) (same_begins z calls runs can tops.end tops.hold tops.made) public.linked d n k h)

  pub files_agree : Agree (ir_showing.ir_shows z.classes entries id) (js_showing.js_shows z.program id)
  files_agree = agree-from_sim (room z) (ir_showing.ir_shows z.classes entries id) (js_showing.js_shows z.program id) alike (never_wrong z.classes z.classes plain all laws.objects laws.linked entries id (λ e c. (laws.among z.last).tops (a_function (initializer_member e)) (public.linked e c)))
