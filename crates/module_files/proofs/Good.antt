-- Each file of a plan is good.
use Rattle.std.proofs.Common.{◌≡◌, ◌++◌, Bool, true, false, List, [], ◌∷◌, Some, Contains, inl, inr, refl, sym, ap, subst, ◌∙◌, map, cond}
use Rattle.std.specs.Prelude.{◌⊎◌, filter, is_some}
use Rattle.std.specs.List.{list_all}
use Rattle.std.proofs.lemmas.List.Elements.{Contains-append_right, Contains-append_cases}
use Rattle.js_mean.specs.Files.{is_good_module, owner}
use Rattle.js_mean.specs.Proper.{is_among, are_distinct, is_proper_item, item_names, imported_names, is_proper_module}
use Rattle.js_tree.specs.Terms.{Name, Item, Piece}
use Rattle.js_tree.specs.declared.items.JsImport.{JsImport}
use Rattle.sj_emit_module_spec.proofs.Chosen.{this_is, is_it}
use Rattle.sj_emit_module_spec.proofs.Lines.{imports_are, exports_are, exports_are_declared}
use Rattle.sj_emit_module_spec.specs.Calls.{call_item_of}
use Rattle.sj_emit_module_spec.specs.Laws.{AreImportLines, IsUse, source_of}
use Rattle.sj_emit_module_spec.specs.Modules.{file_with, is_owned_in, item_of, module_of}
use Rattle.proper_pieces.proofs.Apart.{AreApart, Differ, both, order_joined, told_apart}
use Rattle.sj_names.specs.declared.entry_points.EntryPoint.{EntryPoint}
use Rattle.sj_split.proofs.Least.{not_before_itself}
use Rattle.sj_split.proofs.Members.{at_first, further, into_map, from_map, into_filter, from_filter}
use Rattle.sj_split.proofs.Unique.{below_each, first_of_increasing, rest_of_increasing}
use Rattle.sj_split.specs.Modules.{file}
use Rattle.sj_split.specs.Orders.{Bytes, IsBefore, AreIncreasing}
use Rattle.sj_split.specs.declared.plans.PlannedModule.{PlannedModule}
use Rattle.worklist.proofs.Inserted.{nothing_in}
use Rattle.module_files.proofs.Found.{among_is, first_differs, rest_own, program, lines_of, exports_of, found, one_source, not_from_elsewhere, use_owned}
use Rattle.module_files.specs.Files.{piece_name, HaveOwnNames, DeclaresItself, StandTogether, AreProper}
use Rattle.module_files.specs.Laws.{FilesAreGood}

pub all_pass : {X : Type 0} (test : X → Bool) (xs : List X) → ((x : X) → Contains xs x → test x ≡ true) → list_all test xs ≡ true
all_pass test [] each = refl
all_pass test (x ∷ xs) each = both (test x) (list_all test xs) (each x (at_first x xs)) (all_pass test xs (λ y h. each y (further x y xs h)))

-- names in order are apart
increasing_apart : (xs : List Bytes) → AreIncreasing xs → AreApart xs
increasing_apart [] inc = tt
increasing_apart (x ∷ xs) inc = (λ y i e. not_before_itself y (subst (λ (z : Bytes). IsBefore z y) e (below_each x xs y (first_of_increasing x xs inc) i)), increasing_apart xs (rest_of_increasing x xs inc))

-- a line that has an imported name
record Imported (lines : List JsImport) (x : Name) : Type 0 where
  line : JsImport
  among : Contains lines line
  named : Contains line.names x

from_imported : (lines : List JsImport) (x : Name) → Contains (imported_names lines) x → Imported lines x
from_imported [] x h = nothing_in x h
from_imported (l ∷ ls) x h = go (Contains-append_cases l.names (imported_names ls) x h) (from_imported ls x)
  where
    go : Contains l.names x ⊎ Contains (imported_names ls) x → (Contains (imported_names ls) x → Imported ls x) → Imported (l ∷ ls) x
    go (inl i) rest = record { line = l; among = at_first l ls; named = i }
    go (inr i) rest = let r = rest i in record { line = r.line; among = further l r.line ls r.among; named = r.named }

-- the names of pieces of which some are left out
owned_apart : (test : Piece → Bool) (ps : List Piece) → HaveOwnNames ps → AreApart (map piece_name (filter test ps))
owned_apart test [] own = tt
owned_apart test (p ∷ ps) own = go (test p) (owned_apart test ps (rest_own p ps own))
  where
    differs : (y : Name) → Contains (map piece_name (filter test ps)) y → Differ p.name y
    differs y i e = let m = from_map piece_name (filter test ps) y i in first_differs p ps own m.item (from_filter test ps m.item m.among).among (e ∙ sym m.is)

    go : (b : Bool) → AreApart (map piece_name (filter test ps)) → AreApart (map piece_name (cond b (p ∷ filter test ps) (filter test ps)))
    go true rest = (differs, rest)
    go false rest = rest

calls_named : (es : List EntryPoint) → item_names (map call_item_of es) ≡ []
calls_named [] = refl
calls_named (e ∷ es) = calls_named es

calls_proper : (es : List EntryPoint) → list_all is_proper_item (map call_item_of es) ≡ true
calls_proper [] = refl
calls_proper (e ∷ es) = calls_proper es

items_named : (ps : List Piece) (es : List EntryPoint) → ((p : Piece) → Contains ps p → DeclaresItself p) → item_names (map item_of ps ++ map call_item_of es) ≡ map piece_name ps
items_named [] es h = calls_named es
items_named (p ∷ ps) es h = h p (at_first p ps) (map item_of ps ++ map call_item_of es) ∙ ap (λ (ns : List Name). p.name ∷ ns) (items_named ps es (λ q i. h q (further p q ps i)))

items_proper : (ps : List Piece) (es : List EntryPoint) → ((p : Piece) → Contains ps p → is_proper_item p.item ≡ true) → list_all is_proper_item (map item_of ps ++ map call_item_of es) ≡ true
items_proper [] es h = calls_proper es
items_proper (p ∷ ps) es h = both (is_proper_item p.item) (list_all is_proper_item (map item_of ps ++ map call_item_of es)) (h p (at_first p ps)) (items_proper ps es (λ q i. h q (further p q ps i)))

module _ (modules : List PlannedModule) (ps : List Piece) (are : AreProper modules ps) where
  together : StandTogether modules ps
  together = are.together

  lines_are : (f : Bytes) → AreImportLines modules ps f (lines_of modules ps f)
  lines_are f = imports_are modules ps f

  use_in : (f : Bytes) (line : JsImport) (x : Name) → Contains (lines_of modules ps f) line → Contains line.names x → IsUse modules ps f line.file x
  use_in f line x h i = (((lines_are f).names line h).exact x).0 i

  lines_apart : (f : Bytes) (ls : List JsImport) → AreIncreasing (map source_of ls) → ((line : JsImport) → Contains ls line → Contains (lines_of modules ps f) line) → AreApart (imported_names ls)
  lines_apart f [] inc each = tt
  lines_apart f (l ∷ ls) inc each = order_joined Differ l.names (imported_names ls) (increasing_apart l.names ((lines_are f).names l (each l (at_first l ls))).in_order) (lines_apart f ls (rest_of_increasing l.file (map source_of ls) inc) (λ line h. each line (further l line ls h))) differs
    where
      differs : (x y : Name) → Contains l.names x → Contains (imported_names ls) y → Differ x y
      differs x y i j e =
          let m = from_imported ls y j in
          let same : l.file ≡ m.line.file = one_source modules ps together f l.file m.line.file x (use_in f l x (each l (at_first l ls)) i) (use_in f m.line x (each m.line (further l m.line ls m.among)) (subst (Contains m.line.names) (sym e) m.named)) in
          not_before_itself m.line.file (subst (λ (g : Bytes). IsBefore g m.line.file) same (below_each l.file (map source_of ls) m.line.file (first_of_increasing l.file (map source_of ls) inc) (into_map source_of ls m.line m.among)))

  module _ (planned : PlannedModule) where
    abbrev f : Bytes
    f = file planned

    abbrev owned : List Piece
    owned = filter (is_owned_in (file_with modules) f) ps

    abbrev items : List Item
    items = map item_of owned ++ map call_item_of planned.initializers

    names_are : item_names items ≡ map piece_name owned
    names_are = items_named owned planned.initializers (λ p h. are.declare p (from_filter (is_owned_in (file_with modules) f) ps p h).among)

    crossing : (x y : Name) → Contains (imported_names (lines_of modules ps f)) x → Contains (map piece_name owned) y → Differ x y
    crossing x y i j e =
        let l = from_imported (lines_of modules ps f) x i in
        let m = from_map piece_name owned y j in
        let c = from_filter (is_owned_in (file_with modules) f) ps m.item m.among in
        not_from_elsewhere modules ps together m.item f c.among (this_is f (file_with modules m.item.owner) c.passes) l.line l.among (subst (Contains l.line.names) (e ∙ sym m.is) l.named)

    tops_apart : are_distinct (imported_names (lines_of modules ps f) ++ item_names items) ≡ true
    tops_apart = ap (λ (ns : List Name). are_distinct (imported_names (lines_of modules ps f) ++ ns)) names_are ∙ told_apart (imported_names (lines_of modules ps f) ++ map piece_name owned) (order_joined Differ (imported_names (lines_of modules ps f)) (map piece_name owned) (lines_apart f (lines_of modules ps f) (lines_are f).sources.in_order (λ line h. h)) (owned_apart (is_owned_in (file_with modules) f) ps together.names) crossing)

    exports_apart : are_distinct (exports_of modules ps f) ≡ true
    exports_apart = told_apart (exports_of modules ps f) (increasing_apart (exports_of modules ps f) (exports_are modules ps f).in_order)

    exports_declared : list_all (is_among (imported_names (lines_of modules ps f) ++ item_names items)) (exports_of modules ps f) ≡ true
    exports_declared = all_pass (is_among (imported_names (lines_of modules ps f) ++ item_names items)) (exports_of modules ps f) (λ x h.
        let d = exports_are_declared modules planned ps x together.closed h in
        among_is (imported_names (lines_of modules ps f) ++ item_names items) x (Contains-append_right (imported_names (lines_of modules ps f)) (item_names items) x (subst (λ (ns : List Name). Contains ns x) (sym names_are) (named x d.piece d.among d.stands d.named))))
      where
        named : (x : Name) (p : Piece) → Contains ps p → file_with modules p.owner ≡ Some f → p.name ≡ x → Contains (map piece_name owned) x
        named x p h stands e = subst (Contains (map piece_name owned)) e (into_map piece_name owned p (into_filter (is_owned_in (file_with modules) f) ps p h (is_it f (file_with modules p.owner) stands)))

    all_proper : list_all is_proper_item items ≡ true
    all_proper = items_proper owned planned.initializers (λ p h. are.proper p (from_filter (is_owned_in (file_with modules) f) ps p h).among)

    found_all : list_all (λ x. is_some (owner (program modules ps) f x)) (imported_names (lines_of modules ps f)) ≡ true
    found_all = all_pass (λ x. is_some (owner (program modules ps) f x)) (imported_names (lines_of modules ps f)) (λ x h. let l = from_imported (lines_of modules ps f) x h in ap is_some (use_owned modules ps together f l.line.file x (use_in f l.line x l.among l.named)))

    good_module : is_good_module (program modules ps) f (Some (module_of modules planned ps)) ≡ true
    good_module = both (is_proper_module (module_of modules planned ps)) (list_all (λ x. is_some (owner (program modules ps) f x)) (imported_names (lines_of modules ps f))) (both _ _ (both _ _ (both _ _ tops_apart exports_apart) exports_declared) all_proper) found_all

pub files_are_good : FilesAreGood
files_are_good modules ps are m h =
    let n = found modules ps m (file m) h refl in
    ap (is_good_module (program modules ps) (file m)) n.is ∙ subst (λ (g : Bytes). is_good_module (program modules ps) g (Some (module_of modules n.planned ps)) ≡ true) n.named (good_module modules ps are n.planned)
