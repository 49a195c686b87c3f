-- How the files of a program stand to each other: what a name at the top of a file stands for, and in which order modules run.
-- Sections are those of ECMA-262, 11th edition (2020).
use Rattle.std.specs.Prelude.{ℕ, zero, suc, Bool, true, false, List, [], ◌∷◌, ◌++◌, ◌&&◌, length, Option, Some, None, is_some, if◌then◌else◌}
use Rattle.std.specs.List.{list_all}
use Rattle.js_tree.specs.Names.{is_same_text}
use Rattle.js_tree.specs.Terms.{Name, Item, Module}
use Rattle.js_tree.specs.declared.items.JsImport.{JsImport}
use Rattle.js_mean.specs.States.{Program}
use Rattle.js_mean.specs.Proper.{is_among, imported_names, is_proper_module}

abbrev pub module_among : Program → Name → Option Module
module_among [] f = None
module_among (x ∷ xs) f = if is_same_text f x.file then x.content else module_among xs f

abbrev pub imports_in : Option Module → List JsImport
imports_in None = []
imports_in (Some m) = m.imports

abbrev pub items_in : Option Module → List Item
items_in None = []
items_in (Some m) = m.items

abbrev pub exports_in : Option Module → List Name
exports_in None = []
exports_in (Some m) = m.exports

-- the file from which a name is imported by these lines
abbrev pub imported_from : List JsImport → Name → Option Name
imported_from [] x = None
imported_from (i ∷ is) x = if is_among i.names x then Some i.file else imported_from is x

-- the file whose own binding a name at the top of this file is: this file, or where the name is imported, what it is in the file that
-- exports it (15.2.1.17.3). There is none where it isn't exported, or leads in a circle: a way longer than there are files is one.
abbrev pub origin : Program → ℕ → Name → Name → Option Name
origin p zero f x = None
origin p (suc k) f x = elim (imported_from (imports_in (module_among p f)) x) [ None ↦ Some f | Some g ↦ if is_among (exports_in (module_among p g)) x then origin p k g x else None ]

abbrev pub owner : Program → Name → Name → Option Name
owner p f x = origin p (suc (length p)) f x

-- the files that have been entered, and those whose imports are all done, in this order
pub record Visited : Type 0 where
  pub entered : List Name
  pub finished : List Name

abbrev pub enter : Name → Visited → Visited
enter f v = record { entered = f ∷ v.entered; finished = v.finished }

abbrev pub finish : Name → Visited → Visited
finish f v = record { entered = v.entered; finished = v.finished ++ f ∷ [] }

abbrev pub visit_all : (Name → Visited → Visited) → List JsImport → Visited → Visited
visit_all visit [] v = v
visit_all visit (i ∷ is) v = visit_all visit is (visit i.file v)

-- a file behind the files that it imports, each once (15.2.1.16.2.1); no way through files that aren't entered yet is longer than there
-- are files and one that isn't there
abbrev pub visit : Program → ℕ → Name → Visited → Visited
visit p zero f v = v
visit p (suc k) f v = elim (is_among v.entered f) [ true ↦ v | false ↦ finish f (visit_all (visit p k) (imports_in (module_among p f)) (enter f v)) ]

-- the files that this file reaches by imports, and itself at the end, in the order in which they run
abbrev pub running_order : Program → Name → List Name
running_order p f = (visit p (suc (length p)) f (record { entered = []; finished = [] })).finished

-- the file spells a module that is proper, and each name that it imports is found (15.2.1.17.4)
abbrev pub is_good_module : Program → Name → Option Module → Bool
is_good_module p f None = false
is_good_module p f (Some m) = is_proper_module m && list_all (λ x. is_some (owner p f x)) (imported_names m.imports)

abbrev pub is_good_file : Program → Name → Bool
is_good_file p f = is_good_module p f (module_among p f)
