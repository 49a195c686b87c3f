-- The files that a file reaches by imports are files of the plan.
use Rattle.std.proofs.Common.{◌≡◌, ℕ, zero, suc, Bool, true, false, List, [], ◌∷◌, Contains, inl, inr, refl, subst, length}
use Rattle.std.proofs.lemmas.List.Elements.{Contains-push_cases}
use Rattle.js_mean.specs.Files.{Visited, enter, finish, visit, visit_all, imports_in, module_among, is_good_file, running_order}
use Rattle.js_mean.specs.Proper.{is_among}
use Rattle.js_mean.specs.States.{Program}
use Rattle.js_tree.specs.Terms.{Name, Piece}
use Rattle.js_tree.specs.declared.items.JsImport.{JsImport}
use Rattle.sj_emit_module_spec.proofs.Lines.{imports_are, in_module}
use Rattle.sj_emit_module_spec.specs.Laws.{HasFile, IsSource, source_of}
use Rattle.sj_split.proofs.Members.{at_first, further, into_map}
use Rattle.sj_split.specs.Modules.{file}
use Rattle.sj_split.specs.Orders.{Bytes}
use Rattle.sj_split.specs.declared.plans.PlannedModule.{PlannedModule}
use Rattle.worklist.proofs.Inserted.{nothing_in}
use Rattle.module_files.proofs.Found.{program, lines_of, found, imports_found}
use Rattle.module_files.proofs.Good.{all_pass, files_are_good}
use Rattle.module_files.specs.Laws.{ReachedFilesAreGood}

-- what holds of a file and of whatever a file of it imports holds of all that is finished
module _ (p : Program) (Holds : Name → Type 0) (line_holds : (f : Name) → Holds f → (line : JsImport) → Contains (imports_in (module_among p f)) line → Holds line.file) where
  abbrev AllHold : Visited → Type 0
  AllHold v = (f : Name) → Contains v.finished f → Holds f

  visit_each : (one : Name → Visited → Visited) → ((f : Name) (v : Visited) → Holds f → AllHold v → AllHold (one f v)) → (lines : List JsImport) → ((line : JsImport) → Contains lines line → Holds line.file) → (v : Visited) → AllHold v → AllHold (visit_all one lines v)
  visit_each one keeps [] each v hold = hold
  visit_each one keeps (l ∷ ls) each v hold = visit_each one keeps ls (λ line i. each line (further l line ls i)) (one l.file v) (keeps l.file v (each l (at_first l ls)) hold)

  visit_keeps : (k : ℕ) (f : Name) (v : Visited) → Holds f → AllHold v → AllHold (visit p k f v)
  visit_keeps zero f v h hold = hold
  visit_keeps (suc k) f v h hold = go (is_among v.entered f) (visit_each (visit p k) (visit_keeps k) (imports_in (module_among p f)) (line_holds f h) (enter f v) hold)
    where
      inner : Visited
      inner = visit_all (visit p k) (imports_in (module_among p f)) (enter f v)

      last : AllHold inner → AllHold (finish f inner)
      last rest g i = elim (Contains-push_cases inner.finished f g i) [ inl j ↦ rest g j | inr e ↦ subst Holds e h ]

      go : (b : Bool) → AllHold inner → AllHold (elim b [ true ↦ v | false ↦ finish f inner ])
      go true rest = hold
      go false rest = last rest

  pub all_reached : (f : Name) → Holds f → (g : Name) → Contains (running_order p f) g → Holds g
  all_reached f h = visit_keeps (suc (length p)) f (record { entered = []; finished = [] }) h (λ g j. nothing_in g j)

module _ (modules : List PlannedModule) (ps : List Piece) where
  pub line_source : (f : Bytes) → HasFile modules f → (line : JsImport) → Contains (imports_in (module_among (program modules ps) f)) line → IsSource modules ps f line.file
  line_source f h line i =
      let j = subst (λ (ls : List JsImport). Contains ls line) (imports_found modules ps f (found modules ps h.planned f h.among h.named)) i in
      ((imports_are modules ps f).sources.exact line.file).0 (into_map source_of (lines_of modules ps f) line j)

  pub source_file : (f g : Bytes) → IsSource modules ps f g → HasFile modules g
  source_file f g s = let there = in_module modules s.uses.binding.owner g s.uses.bound in record { planned = there.planned; among = there.among; named = there.named }

pub reached_files_are_good : ReachedFilesAreGood
reached_files_are_good modules ps are m h = all_pass (is_good_file (program modules ps)) (running_order (program modules ps) (file m)) (λ f i.
    let k = all_reached (program modules ps) (HasFile modules) (λ g has line j. source_file modules ps g line.file (line_source modules ps g has line j)) (file m) (record { planned = m; among = h; named = refl }) f i in
    subst (λ (g : Bytes). is_good_file (program modules ps) g ≡ true) k.named (files_are_good modules ps are k.planned k.among))
