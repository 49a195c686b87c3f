-- The last of files that run in order calls initializers: what it shows is what these show.
use Rattle.std.proofs.Common.{◌≡◌, ℕ, List, [], ◌∷◌, ◌++◌, map, true, sym, ap, ◌∙◌, subst, Contains, Some, if◌then◌else◌}
use Rattle.std.specs.List.{list_all}
use Rattle.file_tops.proofs.Run.{declarations_run, files_declare}
use Rattle.file_tops.specs.Tops.{after_items, after_files}
use Rattle.ir_mean.specs.Shows as ir_showing
use Rattle.ir_mean.specs.World as ir_world
use Rattle.js_mean.specs.Files as files
use Rattle.js_mean.specs.Meaning as js_meaning
use Rattle.js_mean.specs.Shows as js_showing
use Rattle.js_mean.specs.States as js
use Rattle.js_tree.specs.Terms.{Name, Item}
use Rattle.outcomes.specs.Agreement.{Direction, Enough, Sim}
use Rattle.outcomes.specs.Outcome.{Out, wrong, then_do}
use Rattle.outcomes.specs.Shown.{Shown}
use Rattle.file_declarations.proofs.Whole.{InitializersAgreeAt, calls_at, ended, calls_alike}
use Rattle.sj_names.specs.declared.entry_points.EntryPoint.{EntryPoint}
use Rattle.file_declarations.specs.Settings.{Place, SameState, Reaches}
use Rattle.file_declarations.specs.AgreePlainTreesWorlds.{World}
use Rattle.agree_soundness.specs.Emitted.{initializer_member, call_item_of}

-- what files show that run in this order and are good, where the declarations come to a state that stands for the opening, and the last calls these initializers
module _ (p : Place) (f : Name) (reaches : Reaches p f) (agree : InitializersAgreeAt p f reaches) (fs : List Name) (is : List Item) (es : List EntryPoint) (good : list_all (files.is_good_file p.program) (fs ++ f ∷ []) ≡ true) (items : files.items_in (files.module_among p.program f) ≡ is ++ map call_item_of es) (front end : js.State) (runs : after_files p.program fs (js_meaning.opening p.program) ≡ Some front) (runs_last : after_items p.program f is front ≡ Some end) where
  abbrev pub order_shows : ℕ → List Name → Shown
  order_shows k names = if list_all (files.is_good_file p.program) names then then_do (js_meaning.run_files p.program k names (js_meaning.opening p.program)) (js_showing.ending p.program) else wrong

  abbrev last_runs : ℕ → List Item → Out js.ExpressionEnd
  last_runs k items = then_do (js_meaning.run_items p.program k f items front) (js.with_value (λ v. js_meaning.run_files p.program k []))

  order_is : (k : ℕ) → order_shows k (fs ++ f ∷ []) ≡ ended p f reaches k (calls_at p f reaches es k end)
  order_is k =
      ap (λ b. if b then then_do (js_meaning.run_files p.program k (fs ++ f ∷ []) (js_meaning.opening p.program)) (js_showing.ending p.program) else wrong) good
      ∙ ap (λ o. then_do o (js_showing.ending p.program)) (files_declare p.program k fs (f ∷ []) (js_meaning.opening p.program) front runs)
      ∙ ap (λ items. then_do (last_runs k items) (js_showing.ending p.program)) items
      ∙ ap (ended p f reaches k) (declarations_run p.program k f is (map call_item_of es) front end runs_last)

  pub files_alike : (y : World) → SameState p y (ir_world.opening p.classes) end → ((e : EntryPoint) → Contains es e → (p.has f).linked (initializer_member e) ≡ true) → (d : Direction) (n k : ℕ) → Enough p.room 0 d n k → Sim d ◌≡◌ (ir_showing.all_show p.classes n es (ir_world.opening p.classes)) (order_shows k (fs ++ f ∷ []))
  files_alike y same all d n k h = subst (λ o. Sim d ◌≡◌ (ir_showing.all_show p.classes n es (ir_world.opening p.classes)) o) (sym (order_is k)) (calls_alike p f reaches agree d n k h es all y (ir_world.opening p.classes) end same)
